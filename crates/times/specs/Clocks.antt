-- The laws of ticks with stages; those of ticks need no help. Assumes nothing.
use Rattle.std.specs.Prelude.{◌≡◌, ℕ, ◌≤◌, Bool, true, false, cond, ◌&&◌, ltb, ◌⊎◌, ◌==◌, nat_le, nat_lt, refl}
use Rattle.std.proofs.Common.{true≢false, inl, inr, ⊎_elim, sym, ◌∙◌, arith}
use Rattle.std.proofs.lemmas.Bool.{leb-true, le-leb, ltb-true, lt-ltb, eqb-true, eq-eqb, or_cases, or_left, or_right, and_from, and_parts, cases_lt}
use Rattle.times.specs.declared.staged.Staged.{Staged}
use Rattle.times.specs.Kind.{Laws, LongerLater}
use Rattle.times.specs.Kinds.{staged_order, sooner, later, staged_sum, staged_kind, greatest_staged}

-- a at or before b, by numbers
abbrev Le : Staged → Staged → Type 0
Le a b = (a.ticks ≤ b.ticks) × (b.ticks ≤ a.ticks → a.stages ≤ b.stages)

order_to : (a b : Staged) → staged_order a b ≡ true → Le a b
order_to a b e =
    ⊎_elim
    (λ (l : ltb a.ticks b.ticks ≡ true). let less = ltb-true a.ticks b.ticks l in (omega arith, λ h. absurd (omega arith)))
    (λ (r : (a.ticks == b.ticks && nat_le a.stages b.stages) ≡ true).
    let p = and_parts (a.ticks == b.ticks) (nat_le a.stages b.stages) r in
    let same = eqb-true a.ticks b.ticks p.0 in
    (omega arith, λ h. leb-true a.stages b.stages p.1))
    (or_cases (nat_lt a.ticks b.ticks) (a.ticks == b.ticks && nat_le a.stages b.stages) e)

order_from : (a b : Staged) → Le a b → staged_order a b ≡ true
order_from a b h =
    ⊎_elim
    (λ l. or_left _ _ (lt-ltb a.ticks b.ticks l))
    (λ g. or_right _ _ (and_from _ _ (eq-eqb a.ticks b.ticks (omega arith)) (le-leb a.stages b.stages (h.1 g))))
    (cases_lt a.ticks b.ticks)

total : (a b : Staged) → (staged_order a b ≡ true) ⊎ (staged_order b a ≡ true)
total a b =
    ⊎_elim
    (λ l. inl (order_from a b (omega arith, λ h. absurd (omega arith))))
    (λ g. ⊎_elim
    (λ l. inr (order_from b a (omega arith, λ h. absurd (omega arith))))
    (λ e. ⊎_elim (λ s. inl (order_from a b (e, λ h. omega arith))) (λ s. inr (order_from b a (g, λ h. s))) (cases_lt a.stages b.stages))
    (cases_lt b.ticks a.ticks))
    (cases_lt a.ticks b.ticks)

transitive : (a b c : Staged) → staged_order a b ≡ true → staged_order b c ≡ true → staged_order a c ≡ true
transitive a b c p q =
    let l = order_to a b p in
    let r = order_to b c q in
    order_from a c (omega arith, λ h. omega (arith, l.1 (omega arith), r.1 (omega arith)))

antisymmetric : (a b : Staged) → staged_order a b ≡ true → staged_order b a ≡ true → a ≡ b
antisymmetric a b p q =
    let l = order_to a b p in
    let r = order_to b a q in
    let t : a.ticks ≡ b.ticks = omega arith in
    let s : a.stages ≡ b.stages = omega (arith, l.1 r.0, r.1 l.0) in
    λ i. record { ticks = t i; stages = s i }

itself : (a : Staged) → staged_order a a ≡ true
itself a = ⊎_elim (λ e. e) (λ e. e) (total a a)

other_way : (a b : Staged) → staged_order a b ≡ false → staged_order b a ≡ true
other_way a b e = ⊎_elim (λ p. absurd (true≢false (sym p ∙ e))) (λ p. p) (total a b)

later_left : (a b : Staged) (v : Bool) → staged_order a b ≡ v → staged_order a (cond v b a) ≡ true
later_left a b true e = e
later_left a b false e = itself a

later_right : (a b : Staged) (v : Bool) → staged_order a b ≡ v → staged_order b (cond v b a) ≡ true
later_right a b true e = itself b
later_right a b false e = other_way a b e

later_least : (a b c : Staged) (v : Bool) → staged_order a c ≡ true → staged_order b c ≡ true → staged_order (cond v b a) c ≡ true
later_least a b c true p q = q
later_least a b c false p q = p

sooner_left : (a b : Staged) (v : Bool) → staged_order a b ≡ v → staged_order (cond v a b) a ≡ true
sooner_left a b true e = itself a
sooner_left a b false e = other_way a b e

sooner_right : (a b : Staged) (v : Bool) → staged_order a b ≡ v → staged_order (cond v a b) b ≡ true
sooner_right a b true e = e
sooner_right a b false e = itself b

sooner_greatest : (a b c : Staged) (v : Bool) → staged_order c a ≡ true → staged_order c b ≡ true → staged_order c (cond v a b) ≡ true
sooner_greatest a b c true p q = p
sooner_greatest a b c false p q = q

-- what comes later before the delay and in the sum comes no sooner after
passes : (a b : Staged) (x y : ℕ) → staged_order a b ≡ true → staged_order (staged_sum a x) (staged_sum b y) ≡ true
    → staged_order (later a (sooner (staged_sum a x) greatest_staged)) (later b (sooner (staged_sum b y) greatest_staged)) ≡ true
passes a b x y p q =
    let g = greatest_staged in
    let s = staged_sum a x in
    let t = staged_sum b y in
    let capped : staged_order (sooner s g) (sooner t g) ≡ true
    = sooner_greatest t g (sooner s g) (staged_order t g) (transitive (sooner s g) s t (sooner_left s g (staged_order s g) refl) q) (sooner_right s g (staged_order s g) refl) in
    later_least a (sooner s g) (later b (sooner t g)) (staged_order a (sooner s g))
    (transitive a b (later b (sooner t g)) p (later_left b (sooner t g) (staged_order b (sooner t g)) refl))
    (transitive (sooner s g) (sooner t g) (later b (sooner t g)) capped (later_right b (sooner t g) (staged_order b (sooner t g)) refl))

pub staged_laws : Laws staged_kind
staged_laws = record {
  total = total;
  antisymmetric = antisymmetric;
  transitive = transitive;
  same_delay = λ a b delay p. let h = order_to a b p in passes a b delay delay p (order_from (staged_sum a delay) (staged_sum b delay) (omega arith, λ k. omega (arith, h.1 (omega arith))));
  no_earlier = λ a delay. later_left a (sooner (staged_sum a delay) greatest_staged) (staged_order a (sooner (staged_sum a delay) greatest_staged)) refl;
}

pub staged_longer : LongerLater staged_kind
staged_longer a short long h = passes a a short long (itself a) (order_from (staged_sum a short) (staged_sum a long) (omega arith, λ k. omega arith))
