-- The search shows the first vector that passes, or that there is none; and how many looks it takes. Assumes nothing.
use Rattle.std.proofs.Common.{◌≡◌, ℕ, zero, suc, ◌+◌, ◌*◌, ◌^◌, ◌≤◌, Bool, true, false, length, Some, None, Option, refl, ap, ◌∙◌, inl, inr, ⊎_elim, add-one, arith}
use Rattle.std.proofs.lemmas.Bool.{both_ways}
use Rattle.search.specs.Search.{Vector, Setting, Agrees, Shows, Outcome, Test, undecided, decide, vector, last_look, zero_then_one, look, search_from, first_vector, Searched, SearchStands}
use Rattle.search.proofs.Settings.{agrees_length, decide_length, whole_vector, vector_agrees, agrees_one, decide_undecided, agrees_decide, agrees_either, zero_precedes_one}

-- a cut setting has no vector that passes
module _ (inputs : ℕ) (Passes : Vector → Type 0) (cut : Setting → Bool) (test : Test inputs Passes cut) where
  cut_none : (s : Setting) → length s ≡ inputs → cut s ≡ true → (v : Vector) → Agrees v s → Passes v → ⊥
  cut_none s n c v a l = both_ways (cut s) (test.sound v s n a l) c

  last_shows : (s : Setting) → length s ≡ inputs → undecided s ≡ 0 → (c : Bool) → cut s ≡ c → Shows Passes s (last_look c s).found
  unfolding last_look
  last_shows s n h true e = cut_none s n e
  last_shows s n h false e =
      record {
        agrees = vector_agrees s;
        holds = test.exact (vector s) (agrees_length (vector s) s (vector_agrees s) ∙ n) (ap cut (whole_vector s h) ∙ e);
        no_earlier = λ v a l. inl (agrees_one v s h a);
      }

  both_shows : (s : Setting) (k : ℕ) → undecided s ≡ suc k → (f : Option Vector) (n : ℕ) (one : Outcome) → Shows Passes (decide false s) f → Shows Passes (decide true s) one.found → Shows Passes s (zero_then_one f n one).found
  unfolding zero_then_one
  both_shows s k h (Some w) n one z o =
      record {
        agrees = agrees_decide false w s z.agrees;
        holds = z.holds;
        no_earlier = λ v a l. ⊎_elim (λ a0. z.no_earlier v a0 l) (λ a1. inr (zero_precedes_one w v s k h z.agrees a1)) (agrees_either v s k h a);
      }
  both_shows s k h None n one z o = from_one one.found o
    where
      from_one : (f : Option Vector) → Shows Passes (decide true s) f → Shows Passes s f
      from_one (Some w) p =
          record {
            agrees = agrees_decide true w s p.agrees;
            holds = p.holds;
            no_earlier = λ v a l. ⊎_elim (λ a0. absurd (z v a0 l)) (λ a1. p.no_earlier v a1 l) (agrees_either v s k h a);
          }
      from_one None p = λ v a l. ⊎_elim (λ a0. z v a0 l) (λ a1. p v a1 l) (agrees_either v s k h a)

  look_shows : (s : Setting) → length s ≡ inputs → (k : ℕ) → undecided s ≡ suc k → (c : Bool) → cut s ≡ c → (zer one : Outcome) → Shows Passes (decide false s) zer.found → Shows Passes (decide true s) one.found → Shows Passes s (look c zer one).found
  unfolding look
  look_shows s n k h true e zer one z o = cut_none s n e
  look_shows s n k h false e zer one z o = both_shows s k h zer.found (1 + zer.looks) one z o

  search_shows : (k : ℕ) (s : Setting) → length s ≡ inputs → undecided s ≡ k → Shows Passes s (search_from cut k s).found
  unfolding search_from
  search_shows zero s n h = last_shows s n h (cut s) refl
  search_shows (suc k) s n h =
      look_shows s n k h (cut s) refl (search_from cut k (decide false s)) (search_from cut k (decide true s))
      (search_shows k (decide false s) (decide_length false s ∙ n) (decide_undecided false s k h))
      (search_shows k (decide true s) (decide_length true s ∙ n) (decide_undecided true s k h))

  pub first_vector_shows : (ties : Setting) → length ties ≡ inputs → Shows Passes ties (first_vector cut ties).found
  first_vector_shows ties n = search_shows (undecided ties) ties n refl

-- looks
look_some : (c : Bool) (zer one : Outcome) → 1 ≤ (look c zer one).looks
unfolding look zero_then_one
look_some true zer one = omega arith
look_some false zer one = after zer.found
  where
    after : (f : Option Vector) → 1 ≤ (zero_then_one f (1 + zer.looks) one).looks
    after (Some w) = omega arith
    after None = omega arith

look_few : (m : ℕ) (c : Bool) (zer one : Outcome) → 1 + zer.looks ≤ m → 1 + one.looks ≤ m → 1 + (look c zer one).looks ≤ 2 * m
unfolding look zero_then_one
look_few m true zer one z o = omega arith
look_few m false zer one z o = after zer.found
  where
    after : (f : Option Vector) → 1 + (zero_then_one f (1 + zer.looks) one).looks ≤ 2 * m
    after (Some w) = omega arith
    after None = omega arith

last_looks : (c : Bool) (s : Setting) → (last_look c s).looks ≡ 1
unfolding last_look
last_looks true s = refl
last_looks false s = refl

pub some_looks : (cut : Setting → Bool) (k : ℕ) (s : Setting) → 1 ≤ (search_from cut k s).looks
unfolding search_from
some_looks cut zero s = omega (arith, last_looks (cut s) s)
some_looks cut (suc k) s = look_some (cut s) (search_from cut k (decide false s)) (search_from cut k (decide true s))

pub few_looks : (cut : Setting → Bool) (k : ℕ) (s : Setting) → 1 + (search_from cut k s).looks ≤ 2 ^ suc k
unfolding search_from
few_looks cut zero s = omega (arith, last_looks (cut s) s)
few_looks cut (suc k) s =
    let z = few_looks cut k (decide false s) in
    let o = few_looks cut k (decide true s) in
    let b = look_few (2 ^ suc k) (cut s) (search_from cut k (decide false s)) (search_from cut k (decide true s)) z o in
    omega (arith, b)

none_from : (Passes : Vector → Type 0) (s : Setting) (f : Option Vector) → Shows Passes s f → ((v : Vector) → Agrees v s → Passes v → ⊥) → f ≡ None
none_from Passes s None p h = refl
none_from Passes s (Some w) p h = absurd (h w p.agrees p.holds)

pub searched : (Passes : Vector → Type 0) (cut : Setting → Bool) (ties : Setting) → Test (length ties) Passes cut → Searched Passes ties (first_vector cut ties)
searched Passes cut ties test =
    let p = first_vector_shows (length ties) Passes cut test ties refl in
    record {
      shows = p;
      nothing_if_none = none_from Passes ties (first_vector cut ties).found p;
      one_look = some_looks cut (undecided ties) ties;
      few_looks = let f = few_looks cut (undecided ties) ties in rw add-one (omega (arith, f));
    }

pub search_stands : SearchStands
search_stands passes = searched (λ v. passes v ≡ true)
