-- The search one look at a time comes to what the search by continuations comes to. Assumes nothing.
use Rattle.std.proofs.Common.{◌≡◌, ℕ, zero, suc, ◌+◌, ◌-◌, ◌<◌, ◌≤◌, Bool, true, false, [], ◌∷◌, ◌++◌, length, take, drop, Some, None, Option, sym, refl, ap, ◌∙◌, subst, ⊎_elim, arith}
use Rattle.std.proofs.lemmas.Bool.{cases_lt}
use Rattle.search.specs.Search.{Vector, Setting, Outcome, undecided, decide, vector, last_look, zero_then_one, look, search_from, first_vector}
use Rattle.search.specs.Turns.{after_input, raise, next_setting, Progress, go_on, look_at, turn, turns, Looking, TurnsStand, Over}
use Rattle.search.specs.Turns.Progress.{looking, finished}
use Rattle.search.proofs.Settings.{decide_undecided}

pub over_self : (ties : Setting) → Over ties ties
over_self [] = tt
over_self (Some t ∷ ties) = (refl, over_self ties)
over_self (None ∷ ties) = refl

pub end_self : (ties : Setting) → next_setting ties ties ≡ None
end_self [] = refl
end_self (Some t ∷ ties) = ap (after_input (Some t)) (end_self ties)
end_self (None ∷ ties) = refl

pub decide_over : (b : Bool) (ties s : Setting) → Over ties s → Over ties (decide b s)
decide_over b [] [] h = h
decide_over b [] (o ∷ s) h = absurd h
decide_over b (t ∷ ties) [] h = absurd h
decide_over b (Some t ∷ ties) (Some x ∷ s) h = (h.0, decide_over b ties s h.1)
decide_over b (Some t ∷ ties) (None ∷ s) h = let q = h.0 in let z : ◌≡◌ {A = ℕ} 0 1 = cc in absurd (omega arith)
decide_over b (None ∷ ties) (Some x ∷ s) h = decide_over b ties s h
decide_over b (None ∷ ties) (None ∷ s) h = subst (Over ties) (sym h) (over_self ties)

-- after the continuations with 0 come those with 1
zero_next_one : (ties s : Setting) (k : ℕ) → Over ties s → undecided s ≡ suc k → next_setting ties (decide false s) ≡ Some (decide true s)
zero_next_one [] [] k h u = absurd (omega arith)
zero_next_one [] (o ∷ s) k h u = absurd h
zero_next_one (t ∷ ties) [] k h u = absurd h
zero_next_one (Some t ∷ ties) (Some x ∷ s) k h u = ap (after_input (Some x)) (zero_next_one ties s k h.1 u)
zero_next_one (Some t ∷ ties) (None ∷ s) k h u = let q = h.0 in let z : ◌≡◌ {A = ℕ} 0 1 = cc in absurd (omega arith)
zero_next_one (None ∷ ties) (Some x ∷ s) k h u = ap (raise x ties) (zero_next_one ties s k h u)
zero_next_one (None ∷ ties) (None ∷ s) k h u =
    ap (raise false ties) (ap (next_setting ties) h ∙ end_self ties) ∙ ap (λ x. Some (Some true ∷ x)) (sym h)

-- and after those what comes after the setting
one_next : (ties s : Setting) (k : ℕ) → Over ties s → undecided s ≡ suc k → next_setting ties (decide true s) ≡ next_setting ties s
one_next [] [] k h u = absurd (omega arith)
one_next [] (o ∷ s) k h u = absurd h
one_next (t ∷ ties) [] k h u = absurd h
one_next (Some t ∷ ties) (Some x ∷ s) k h u = ap (after_input (Some x)) (one_next ties s k h.1 u)
one_next (Some t ∷ ties) (None ∷ s) k h u = let q = h.0 in let z : ◌≡◌ {A = ℕ} 0 1 = cc in absurd (omega arith)
one_next (None ∷ ties) (Some x ∷ s) k h u = ap (raise x ties) (one_next ties s k h u)
one_next (None ∷ ties) (None ∷ s) k h u = ap (raise true ties) (ap (next_setting ties) h ∙ end_self ties)

module _ (cut : Setting → Bool) (ties : Setting) where
  -- where a search leaves off: with its vector, or at what comes next
  abbrev Leaves : Option Vector → Option Setting → Progress
  Leaves (Some w) after = finished (Some w)
  Leaves None after = go_on after

  -- n turns from p come to q, and all before the last are still looking
  record Takes (n : ℕ) (p q : Progress) : Type 0 where
    comes : turns cut ties n p ≡ q
    not_before : (m : ℕ) → m < n → Looking ties (turns cut ties m p)

  turns_add : (m n : ℕ) (p : Progress) → turns cut ties (m + n) p ≡ turns cut ties n (turns cut ties m p)
  turns_add zero n p = let e : zero + n ≡ n = omega arith in ap (λ x. turns cut ties x p) e
  turns_add (suc m) n p =
      let e : suc m + n ≡ suc (m + n) = omega arith in
      ap (λ x. turns cut ties x p) e ∙ turns_add m n (turn cut ties p)

  takes_one : (s : Setting) (q : Progress) → Over ties s → turn cut ties (looking s) ≡ q → Takes 1 (looking s) q
  takes_one s q over e = record { comes = e; not_before = early }
    where
      early : (m : ℕ) → m < 1 → Looking ties (turns cut ties m (looking s))
      early zero h = over
      early (suc m) h = absurd (omega arith)

  takes_add : (m n : ℕ) (p q r : Progress) → Takes m p q → Takes n q r → Takes (m + n) p r
  takes_add m n p q r a b =
      record {
        comes = turns_add m n p ∙ ap (turns cut ties n) a.comes ∙ b.comes;
        not_before = λ i h. ⊎_elim (a.not_before i) (λ le. later i le h) (cases_lt i m);
      }
    where
      later : (i : ℕ) → m ≤ i → i < m + n → Looking ties (turns cut ties i p)
      later i le h =
          let e : m + (i - m) ≡ i = omega arith in
          let t : turns cut ties i p ≡ turns cut ties (i - m) q = ap (λ x. turns cut ties x p) (sym e) ∙ turns_add m (i - m) p ∙ ap (turns cut ties (i - m)) a.comes in
          subst (Looking ties) (sym t) (b.not_before (i - m) (omega arith))

  last_takes : (s : Setting) → Over ties s → undecided s ≡ 0 → (c : Bool) → cut s ≡ c → Takes (last_look c s).looks (looking s) (Leaves (last_look c s).found (next_setting ties s))
  unfolding last_look
  last_takes s over u true e = takes_one s (go_on (next_setting ties s)) over (ap (λ c. look_at ties s c (undecided s)) e)
  last_takes s over u false e = takes_one s (finished (Some (vector s))) over (ap (λ c. look_at ties s c (undecided s)) e ∙ ap (look_at ties s false) u)

  both_takes : (s : Setting) (k : ℕ) → Over ties s → undecided s ≡ suc k → cut s ≡ false → (f : Option Vector) (n : ℕ) (one : Outcome) → Takes n (looking (decide false s)) (Leaves f (next_setting ties (decide false s))) → Takes one.looks (looking (decide true s)) (Leaves one.found (next_setting ties (decide true s))) → Takes (zero_then_one f (1 + n) one).looks (looking s) (Leaves (zero_then_one f (1 + n) one).found (next_setting ties s))
  unfolding zero_then_one
  both_takes s k over u e (Some w) n one z o = takes_add 1 n (looking s) (looking (decide false s)) (finished (Some w)) (takes_one s (looking (decide false s)) over (ap (λ c. look_at ties s c (undecided s)) e ∙ ap (look_at ties s false) u)) z
  both_takes s k over u e None n one z o =
      takes_add (1 + n) one.looks (looking s) (looking (decide true s)) (Leaves one.found (next_setting ties s))
      (takes_add 1 n (looking s) (looking (decide false s)) (looking (decide true s)) (takes_one s (looking (decide false s)) over (ap (λ c. look_at ties s c (undecided s)) e ∙ ap (look_at ties s false) u))
      (subst (λ x. Takes n (looking (decide false s)) (go_on x)) (zero_next_one ties s k over u) z))
      (subst (λ x. Takes one.looks (looking (decide true s)) (Leaves one.found x)) (one_next ties s k over u) o)

  look_takes : (s : Setting) (k : ℕ) → Over ties s → undecided s ≡ suc k → (c : Bool) → cut s ≡ c → (zer one : Outcome) → Takes zer.looks (looking (decide false s)) (Leaves zer.found (next_setting ties (decide false s))) → Takes one.looks (looking (decide true s)) (Leaves one.found (next_setting ties (decide true s))) → Takes (look c zer one).looks (looking s) (Leaves (look c zer one).found (next_setting ties s))
  unfolding look
  look_takes s k over u true e zer one z o = takes_one s (go_on (next_setting ties s)) over (ap (λ c. look_at ties s c (undecided s)) e)
  look_takes s k over u false e zer one z o = both_takes s k over u e zer.found zer.looks one z o

  search_takes : (k : ℕ) (s : Setting) → Over ties s → undecided s ≡ k → Takes (search_from cut k s).looks (looking s) (Leaves (search_from cut k s).found (next_setting ties s))
  unfolding search_from
  search_takes zero s over u = last_takes s over u (cut s) refl
  search_takes (suc k) s over u =
      look_takes s k over u (cut s) refl (search_from cut k (decide false s)) (search_from cut k (decide true s))
      (search_takes k (decide false s) (decide_over false ties s over) (decide_undecided false s k u))
      (search_takes k (decide true s) (decide_over true ties s over) (decide_undecided true s k u))

  ends_so : (f : Option Vector) → Leaves f (next_setting ties ties) ≡ finished f
  ends_so (Some w) = refl
  ends_so None = ap go_on (end_self ties)

pub turns_stand : TurnsStand
turns_stand cut ties =
    let t = search_takes cut ties (undecided ties) ties (over_self ties) refl in
    record { finishes = t.comes ∙ ends_so cut ties (first_vector cut ties).found; not_before = t.not_before }

-- a loop that has come to a setting by so many looks
module _ (cut : Setting → Bool) (ties s : Setting) (n : ℕ) (so_far : turns cut ties n (looking ties) ≡ looking s) where
  pub one_more : (q : Progress) → turn cut ties (looking s) ≡ q → turns cut ties (n + 1) (looking ties) ≡ q
  one_more q h = turns_add cut ties n 1 (looking ties) ∙ ap (turn cut ties) so_far ∙ h

  pub still_looking : n < (first_vector cut ties).looks
  still_looking = ⊎_elim (λ h. h) (λ h. absurd (past h)) (cases_lt n (first_vector cut ties).looks)
    where
      finished_stays : (m : ℕ) (f : Option Vector) → turns cut ties m (finished f) ≡ finished f
      finished_stays zero f = refl
      finished_stays (suc m) f = finished_stays m f

      past : (first_vector cut ties).looks ≤ n → ⊥
      past h =
          let m = (first_vector cut ties).looks in
          let split : m + (n - m) ≡ n = omega arith in
          let done : turns cut ties n (looking ties) ≡ finished (first_vector cut ties).found = ap (λ x. turns cut ties x (looking ties)) (sym split) ∙ turns_add cut ties m (n - m) (looking ties) ∙ ap (turns cut ties (n - m)) (turns_stand cut ties).finishes ∙ finished_stays (n - m) (first_vector cut ties).found in
          let z : ◌≡◌ {A = ℕ} 0 1 = cc in absurd (omega arith)

  -- the setting is one of the search
  pub over_so_far : Over ties s
  over_so_far = subst (Looking ties) so_far ((turns_stand cut ties).not_before n still_looking)

  -- where this look is the last, the search has as many and finds the same
  pub exact_end : (f : Option Vector) → turn cut ties (looking s) ≡ finished f → ((first_vector cut ties).looks ≡ n + 1) × ((first_vector cut ties).found ≡ f)
  exact_end f h =
      let m = (first_vector cut ties).looks in
      let at : turns cut ties (n + 1) (looking ties) ≡ finished f = one_more (finished f) h in
      let low = still_looking in
      let high : m ≡ n + 1 = ⊎_elim (λ lt. absurd (subst (Looking ties) at ((turns_stand cut ties).not_before (n + 1) lt))) (λ le. omega arith) (cases_lt (n + 1) m) in
      let same : finished (first_vector cut ties).found ≡ finished f = sym (turns_stand cut ties).finishes ∙ ap (λ x. turns cut ties x (looking ties)) high ∙ at in
      (high, cc)

  pub turn_cut : cut s ≡ true → turn cut ties (looking s) ≡ go_on (next_setting ties s)
  turn_cut e = ap (λ c. look_at ties s c (undecided s)) e

  pub turn_open : (k : ℕ) → cut s ≡ false → undecided s ≡ k → turn cut ties (looking s) ≡ look_at ties s false k
  turn_open k e u = ap (λ c. look_at ties s c (undecided s)) e ∙ ap (look_at ties s false) u

-- What comes next is settled at the last input that can be raised.
pub next_from : (ties s : Setting) (j : ℕ) (x : Setting) → Over ties s → next_setting (drop j ties) (drop j s) ≡ Some x → next_setting ties s ≡ Some (take j s ++ x)
next_from ties s zero x h e = e
next_from [] s (suc j) x h e = let z : ◌≡◌ {A = ℕ} 0 1 = cc in absurd (omega arith)
next_from (t ∷ ties) [] (suc j) x h e = absurd h
next_from (Some t ∷ ties) (o ∷ s) (suc j) x h e = ap (after_input o) (next_from ties s j x h.1 e)
next_from (None ∷ ties) (None ∷ s) (suc j) x h e =
    let q : next_setting (drop j ties) (drop j s) ≡ None = ap (λ y. next_setting (drop j ties) (drop j y)) h ∙ end_self (drop j ties) in
    let z : ◌≡◌ {A = ℕ} 0 1 = cc in absurd (omega arith)
next_from (None ∷ ties) (Some b ∷ s) (suc j) x h e = ap (raise b ties) (next_from ties s j x h e)

pub over_length : (ties s : Setting) → Over ties s → length s ≡ length ties
over_length [] [] h = refl
over_length [] (o ∷ s) h = absurd h
over_length (t ∷ ties) [] h = absurd h
over_length (Some t ∷ ties) (o ∷ s) h = ap suc (over_length ties s h.1)
over_length (None ∷ ties) (Some b ∷ s) h = ap suc (over_length ties s h)
over_length (None ∷ ties) (None ∷ s) h = ap (λ x. suc (length x)) h
