-- The first by an order: it is one of the candidates, at or before each of them, and there is one where there is a candidate. Assumes nothing.
use Rattle.std.proofs.Common.{◌≡◌, ℕ, zero, suc, ◌<◌, Bool, true, false, cond, ◌⊎◌, Some, None, Option, unwrap_or, sym, refl, ap, ◌∙◌, subst, inl, inr, ⊎_elim, true≢false, arith}
use mathlib.Core.Bool.{false≢true}
use Rattle.cells.specs.Firsts.{FirstPassing, first, first_among, only_if}
use Rattle.cells.proofs.Forcing.{last_or_below}

pub only_if_true : {A : Type 0} (test : Bool) (a : A) → test ≡ true → only_if test a ≡ Some a
only_if_true true a e = refl
only_if_true false a e = absurd (false≢true e)

pub only_if_some : {A : Type 0} (test : Bool) (a b : A) → only_if test a ≡ Some b → (test ≡ true) × (a ≡ b)
only_if_some true a b e = (refl, cc)
only_if_some false a b e = let z : ◌≡◌ {A = ℕ} 0 1 = cc in absurd (omega arith)

some_inj : {A : Type 0} {a b : A} → Some a ≡ Some b → a ≡ b
some_inj {A} {a} {b} e = ap (λ o. unwrap_or o a) e

module _ {A : Type 0} (order : A → A → Bool) where
  first_either : (a b : Option A) (x : A) → first order a b ≡ Some x → (a ≡ Some x) ⊎ (b ≡ Some x)
  first_either None b x e = inr e
  first_either (Some a) None x e = inl e
  first_either (Some a) (Some b) x e = go (order a b) e
    where
      go : (v : Bool) → Some (cond v a b) ≡ Some x → (Some a ≡ Some x) ⊎ (Some b ≡ Some x)
      go true e = inl e
      go false e = inr e

  -- the first of the candidates is one of them
  pub first_in : (candidate : ℕ → Option A) (n : ℕ) (x : A) → first_among order candidate n ≡ Some x → (i : ℕ) × (i < n) × (candidate i ≡ Some x)
  first_in candidate zero x e = let z : ◌≡◌ {A = ℕ} 0 1 = cc in absurd (omega arith)
  first_in candidate (suc n) x e =
      ⊎_elim
      (λ here. (n, omega arith, here))
      (λ below. let r = first_in candidate n x below in (r.0, omega (arith, r.1), r.2))
      (first_either (candidate n) (first_among order candidate n) x e)

  -- only the candidates below the count matter
  pub first_same : (n : ℕ) (one other : ℕ → Option A) → ((i : ℕ) → i < n → one i ≡ other i) → first_among order one n ≡ first_among order other n
  first_same zero one other same = refl
  first_same (suc n) one other same =
      ap (λ (o : Option A). first order o (first_among order one n)) (same n (omega arith)) ∙ ap (λ (o : Option A). first order (other n) o) (first_same n one other (λ i h. same i (omega arith)))

  -- with no candidate there is no first
  pub first_none : (candidate : ℕ → Option A) (n : ℕ) → ((i : ℕ) → i < n → candidate i ≡ None) → first_among order candidate n ≡ None
  first_none candidate zero none = refl
  first_none candidate (suc n) none =
      ap (λ o. first order o (first_among order candidate n)) (none n (omega arith)) ∙ first_none candidate n (λ i h. none i (omega arith))

  module _ (total : (a b : A) → (order a b ≡ true) ⊎ (order b a ≡ true)) (transitive : (a b c : A) → order a b ≡ true → order b c ≡ true → order a c ≡ true) where
    itself : (a : A) → order a a ≡ true
    itself a = ⊎_elim (λ e. e) (λ e. e) (total a a)

    -- the chosen one of two is at or before both
    chosen_left : (a b : A) (v : Bool) → order a b ≡ v → order (cond v a b) a ≡ true
    chosen_left a b true e = itself a
    chosen_left a b false e = ⊎_elim (λ p. absurd (true≢false (sym p ∙ e))) (λ p. p) (total a b)

    chosen_right : (a b : A) (v : Bool) → order a b ≡ v → order (cond v a b) b ≡ true
    chosen_right a b true e = e
    chosen_right a b false e = itself b

    first_left : (a : A) (o : Option A) → (x : A) × (first order (Some a) o ≡ Some x) × (order x a ≡ true)
    first_left a None = (a, refl, itself a)
    first_left a (Some b) = (cond (order a b) a b, refl, chosen_left a b (order a b) refl)

    first_right : (o : Option A) (b : A) → (x : A) × (first order o (Some b) ≡ Some x) × (order x b ≡ true)
    first_right None b = (b, refl, itself b)
    first_right (Some a) b = (cond (order a b) a b, refl, chosen_right a b (order a b) refl)

    -- there is a first where there is a candidate, and it is at or before that
    pub first_least : (candidate : ℕ → Option A) (n i : ℕ) (y : A) → i < n → candidate i ≡ Some y → (x : A) × (first_among order candidate n ≡ Some x) × (order x y ≡ true)
    first_least candidate zero i y h e = absurd (omega arith)
    first_least candidate (suc n) i y h e =
        ⊎_elim
        (λ same.
        let r = first_left y (first_among order candidate n) in
        (r.0, ap (λ o. first order o (first_among order candidate n)) (ap candidate (sym same) ∙ e) ∙ r.1, r.2))
        (λ less.
        let s = first_least candidate n i y less e in
        let r = first_right (candidate n) s.0 in
        (r.0, ap (λ o. first order (candidate n) o) s.1 ∙ r.1, transitive r.0 s.0 y r.2 s.2))
        (last_or_below i n h)

    -- of the numbered things that pass a test there is a first
    pub first_passing : (thing : ℕ → A) (test : ℕ → Bool) (n i : ℕ) → i < n → test i ≡ true
        → (x : A) × (first_among order (λ k. only_if (test k) (thing k)) n ≡ Some x) × FirstPassing order test thing n x
    first_passing thing test n i h passes =
        let candidate : ℕ → Option A = λ k. only_if (test k) (thing k) in
        let l = first_least candidate n i (thing i) h (only_if_true (test i) (thing i) passes) in
        let c = first_in candidate n l.0 l.1 in
        let o = only_if_some (test c.0) (thing c.0) l.0 c.2 in (
          l.0,
          l.1,
          record {
            number = c.0;
            present = c.1;
            passes = o.0;
            is = o.1;
            least = λ k hk pk.
                let m = first_least candidate n k (thing k) hk (only_if_true (test k) (thing k) pk) in
                subst (λ x. order x (thing k) ≡ true) (some_inj (sym m.1 ∙ l.1)) m.2;
          },
        )
