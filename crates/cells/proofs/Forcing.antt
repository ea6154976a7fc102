-- Every number below another, and forcing: the computed tests say what they should, more pins force what fewer do, and all of them force. Assumes nothing.
use Rattle.std.proofs.Common.{◌≡◌, ℕ, zero, suc, ◌^◌, ◌<◌, Bool, true, false, ◌&&◌, ◌⊎◌, List, length, get_or, Decides, sym, refl, ap, ◌∙◌, subst, inl, inr, ⊎_elim, true≢false, arith}
use mathlib.Core.Bool.{beq, false≢true}
use native.Mathlib.Nat.{zero-add}
use Rattle.std.proofs.lemmas.Bool.{and_from, and_parts, cases_lt, false_from_ne_true}
use Rattle.std.proofs.lemmas.List.FromFn.{length-range_with_len, get_or-range_with_len}
use Rattle.std.specs.Bool.{MatchBool}
use Rattle.std.specs.List.{range_with_len, AllWithin, HoldsAt}
use Rattle.cells.specs.Tables.{bit, Agrees, Forces, every_below, implies, agrees, forces}
use Rattle.cells.proofs.Rows.{same_bits}

pub same_true : (a b : Bool) → beq a b ≡ true → a ≡ b
same_true true true e = refl
same_true true false e = absurd (false≢true e)
same_true false true e = absurd (false≢true e)
same_true false false e = refl

pub true_same : (a b : Bool) → a ≡ b → beq a b ≡ true
true_same true true e = refl
true_same true false e = absurd (true≢false e)
true_same false true e = absurd (false≢true e)
true_same false false e = refl

implies_from : (a b : Bool) → (a ≡ true → b ≡ true) → implies a b ≡ true
implies_from true b f = f refl
implies_from false b f = refl

pub implies_to : (a b : Bool) → implies a b ≡ true → a ≡ true → b ≡ true
implies_to true b p q = p
implies_to false b p q = absurd (false≢true q)

pub last_or_below : (i n : ℕ) → i < suc n → (i ≡ n) ⊎ (i < n)
last_or_below i n h = ⊎_elim (λ l. inr l) (λ g. inl (omega arith)) (cases_lt i n)

pub every_from : (n : ℕ) (test : ℕ → Bool) → ((i : ℕ) → i < n → test i ≡ true) → every_below n test ≡ true
every_from zero test f = refl
every_from (suc n) test f =
    and_from (test n) (every_below n test) (f n (omega arith)) (every_from n test (λ i h. f i (omega arith)))

pub every_to : (n : ℕ) (test : ℕ → Bool) → every_below n test ≡ true → (i : ℕ) → i < n → test i ≡ true
every_to zero test e i h = absurd (omega arith)
every_to (suc n) test e i h =
    ⊎_elim
    (λ same. subst (λ (k : ℕ). test k ≡ true) (sym same) (and_parts (test n) (every_below n test) e).0)
    (λ less. every_to n test (and_parts (test n) (every_below n test) e).1 i less)
    (last_or_below i n h)

pub every_same : (n : ℕ) (one other : ℕ → Bool) → ((i : ℕ) → i < n → one i ≡ other i) → every_below n one ≡ every_below n other
every_same zero one other same = refl
every_same (suc n) one other same =
    ap (λ (b : Bool). b && every_below n one) (same n (omega arith)) ∙ ap (λ (b : Bool). other n && b) (every_same n one other (λ i h. same i (omega arith)))

-- a walk over the numbers below another, which stops at the first that fails the test
pub every_walked : (n : ℕ) (test : ℕ → Bool) (all : Bool)
    → MatchBool all (AllWithin (λ i. test i ≡ true) (range_with_len 0 n) 0 (length (range_with_len 0 n))) ((k : ℕ) × (k < length (range_with_len 0 n)) × HoldsAt (λ i. test i ≡ false) (range_with_len 0 n) k)
    → all ≡ every_below n test
every_walked n test true walked =
    sym (every_from n test (λ i h.
    let there : get_or (range_with_len 0 n) i 0 ≡ i = get_or-range_with_len 0 n i 0 h ∙ zero-add i in
    ap test (sym there) ∙ walked i 0 (omega arith) (omega (arith, length-range_with_len 0 n))))
every_walked n test false walked =
    let k : ℕ = walked.0 in
    let h : k < n = omega (arith, walked.1, length-range_with_len 0 n) in
    let there : get_or (range_with_len 0 n) k 0 ≡ k = get_or-range_with_len 0 n k 0 h ∙ zero-add k in
    sym (false_from_ne_true (every_below n test) (λ e. true≢false (sym (every_to n test e k h) ∙ ap test (sym there) ∙ walked.2 0)))

-- the same over a list of numbers, of which the test of each place is known
pub every_walked_list : (xs : List ℕ) (n : ℕ) (passes test : ℕ → Bool) (all : Bool) → length xs ≡ n → ((i : ℕ) → i < n → passes (get_or xs i 0) ≡ test i)
    → MatchBool all (AllWithin (λ x. passes x ≡ true) xs 0 (length xs)) ((k : ℕ) × (k < length xs) × HoldsAt (λ x. passes x ≡ false) xs k)
    → all ≡ every_below n test
every_walked_list xs n passes test true len same walked =
    sym (every_from n test (λ i h. sym (same i h) ∙ walked i 0 (omega arith) (omega (arith, len))))
every_walked_list xs n passes test false len same walked =
    let h : walked.0 < n = omega (arith, walked.1, len) in
    sym (false_from_ne_true (every_below n test) (λ e. true≢false (sym (every_to n test e walked.0 h) ∙ sym (same walked.0 h) ∙ walked.2 0)))

agrees_to : (some : ℕ → Bool) (count row other : ℕ) → agrees some count row other ≡ true → Agrees some count row other
agrees_to some count row other e pin h s =
    same_true (bit other pin) (bit row pin) (implies_to (some pin) _ (every_to count _ e pin h) s)

agrees_from : (some : ℕ → Bool) (count row other : ℕ) → Agrees some count row other → agrees some count row other ≡ true
agrees_from some count row other f =
    every_from count _ (λ pin h. implies_from (some pin) _ (λ s. true_same (bit other pin) (bit row pin) (f pin h s)))

pub forces_to : (some : ℕ → Bool) (table count row : ℕ) → forces some table count row ≡ true → Forces some table count row
forces_to some table count row e other h a =
    same_true (bit table other) (bit table row) (implies_to (agrees some count row other) _ (every_to (2 ^ count) _ e other h) (agrees_from some count row other a))

pub forces_from : (some : ℕ → Bool) (table count row : ℕ) → Forces some table count row → forces some table count row ≡ true
forces_from some table count row f =
    every_from (2 ^ count) _ (λ other h. implies_from (agrees some count row other) _ (λ a. true_same (bit table other) (bit table row) (f other h (agrees_to some count row other a))))

pub forces_decides : (all : Bool) (some : ℕ → Bool) (table count row : ℕ) → all ≡ forces some table count row → Decides all (Forces some table count row)
forces_decides all some table count row is = (λ e. forces_to some table count row (sym is ∙ e), λ f. is ∙ forces_from some table count row f)

-- more pins force what fewer do
pub forces_more : (some more : ℕ → Bool) (table count row : ℕ) → ((pin : ℕ) → pin < count → some pin ≡ true → more pin ≡ true) → Forces some table count row → Forces more table count row
forces_more some more table count row within f other h a = f other h (λ pin p s. a pin p (within pin p s))

-- all pins force
pub forces_all : (some : ℕ → Bool) (table count row : ℕ) → row < 2 ^ count → ((pin : ℕ) → pin < count → some pin ≡ true) → Forces some table count row
forces_all some table count row below all other h a =
    ap (bit table) (same_bits count other row h below (λ pin p. a pin p (all pin p)))

equal_tests : (a b : Bool) → (a ≡ true → b ≡ true) → (b ≡ true → a ≡ true) → a ≡ b
equal_tests true b f g = sym (f refl)
equal_tests false true f g = g refl
equal_tests false false f g = refl

-- only what is said of the pins below the count matters
pub forces_same : (some other : ℕ → Bool) (table count row : ℕ) → ((pin : ℕ) → pin < count → some pin ≡ other pin) → forces some table count row ≡ forces other table count row
forces_same some other table count row same =
    equal_tests (forces some table count row) (forces other table count row)
    (λ e. forces_from other table count row (forces_more some other table count row (λ pin p s. sym (same pin p) ∙ s) (forces_to some table count row e)))
    (λ e. forces_from some table count row (forces_more other some table count row (λ pin p s. same pin p ∙ s) (forces_to other table count row e)))

-- what decides forcing is the computed test
pub forces_is : (enough : Bool) (some : ℕ → Bool) (table count row : ℕ) → Decides enough (Forces some table count row) → enough ≡ forces some table count row
forces_is enough some table count row decides =
    equal_tests enough (forces some table count row) (λ e. forces_from some table count row (decides.0 e)) (λ e. decides.1 (forces_to some table count row e))
