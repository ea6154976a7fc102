-- A fold over the numbers below another keeps what each turn keeps. Assumes nothing.
use Rattle.std.proofs.Common.{◌≡◌, ℕ, ◌+◌, ◌-◌, ◌<◌, ◌≤◌, List, [], ◌∷◌, Option, refl, sym, ap, ◌∙◌, subst, arith}
use denote.Param.Members.{Mut}
use Rattle.std.specs.declared.ops.Range.{Range}
use Rattle.std.specs.Fn.{Called, Takes}
use Rattle.std.specs.Iterator.{Yields, FoldTurn, FoldsItems, CallableInFold}
use Rattle.std.specs.Option.{MatchOption}
use Rattle.std.specs.List.{FoldsTo}

-- the calls of a range of numbers
abbrev pub nat_range_steps : Range ℕ → Option ℕ → Range ℕ → Type 0
nat_range_steps s r t = (t.end ≡ s.end) × MatchOption r ((s.end - s.start ≡ 0) × (t.start ≡ s.start)) (λ x. (0 < s.end - s.start) × (x ≡ s.start) × (t.start ≡ s.start + 1))

module _ {F B : Type 0} (g : Mut F (B × (ℕ × Unit {0})) B) (f : F) (n : ℕ) (Inv : ℕ → B → Type 0)
    (turn : (i : ℕ) (b r : B) (q : F) → i < n → Inv i b → Called g f (b, (i, tt)) r q → (q ≡ f) × Inv (i + 1) r) where
  along : (xs : List ℕ) (s t : Range ℕ) (p q : F × B) → s.end ≡ n → s.start ≤ n → p.0 ≡ f → Inv s.start p.1 → Yields nat_range_steps s xs t → FoldsTo {P = F × B} (FoldTurn g) p xs q
      → (t.end ≡ n) × (t.start ≤ n) × (q.0 ≡ f) × Inv t.start q.1
  along [] s t p q e l a inv y c =
      subst (λ (w : Range ℕ). (w.end ≡ n) × (w.start ≤ n) × (q.0 ≡ f) × Inv w.start q.1) y (subst (λ (w : F × B). (s.end ≡ n) × (s.start ≤ n) × (w.0 ≡ f) × Inv s.start w.1) c (e, l, a, inv))
  along (x ∷ xs) s t p q e l a inv y c =
      let here : x < n = omega (arith, e, y.1.1.0, y.1.1.1) in
      let m = turn x p.1 c.0.1 c.0.0 here (subst (λ (k : ℕ). Inv k p.1) (sym y.1.1.1) inv) (subst (λ w. Called g w (p.1, (x, tt)) c.0.1 c.0.0) a c.1) in
      let next : x + 1 ≡ y.0.start = omega (arith, y.1.1.1, y.1.1.2) in
      along xs y.0 t c.0 q (y.1.0 ∙ e) (omega (arith, here, next)) m.0 (subst (λ (k : ℕ). Inv k c.0.1) next m.1) y.2 c.2

  module _ (s : Range ℕ) (init : B) (is : s ≡ record { start = 0; end = n }) (first : Inv 0 init) where
    starts : (s.end ≡ n) × (s.start ≡ 0)
    starts = (ap (λ (w : Range ℕ). w.end) is, ap (λ (w : Range ℕ). w.start) is)

    pub folded : (r : B) → FoldsItems nat_range_steps g s f init r → Inv n r
    folded r d =
        let w = along d.0 s d.2.1.0 (f, init) (d.1, r) starts.0 (omega (arith, starts.1)) refl (subst (λ (k : ℕ). Inv k init) (sym starts.1) first) d.2.1.1 d.3 in
        subst (λ (k : ℕ). Inv k r) (omega (arith, w.0, w.1, d.2.1.2.1.0)) w.3

    pub serves_fold : ((i : ℕ) (b : B) → i < n → Inv i b → Takes g f (b, (i, tt))) → CallableInFold nat_range_steps g s f init
    serves_fold asks = record {
      at = λ xs t q x u y c e.
          let w = along xs s t (f, init) q starts.0 (omega (arith, starts.1)) refl (subst (λ (k : ℕ). Inv k init) (sym starts.1) first) y c in
          subst (λ k. Takes g k (q.1, (x, tt))) (sym w.2) (asks x q.1 (omega (arith, w.0, e.1.0, e.1.1)) (subst (λ (k : ℕ). Inv k q.1) (sym e.1.1) w.3));
    }
