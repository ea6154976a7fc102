-- The branch and bound comes to the first vector that reaches the greatest settle time. Assumes nothing.
use Rattle.std.proofs.Common.{◌≡◌, ℕ, zero, suc, Bool, true, false, ◌⊎◌, [], ◌∷◌, length, Some, None, Option, sym, refl, ap, ◌∙◌, subst, inl, inr, ⊎_elim, arith}
use Rattle.std.proofs.lemmas.Bool.{both_ways, cases_Bool, cond_both, not-true, not-false}
use Rattle.search.specs.Search.{Vector, Setting, Agrees, Precedes, undecided, decide, vector}
use Rattle.search.specs.Worst.{Order, Worst, Reached, best_of, best_time, promising, Bounding, worst_from, worst_vector, WorstStands}
use Rattle.search.proofs.Settings.{agrees_length, decide_length, whole_vector, vector_agrees, agrees_one, decide_undecided, agrees_decide, agrees_either, zero_precedes_one}

pub precedes_asym : (v w : Vector) → Precedes v w → Precedes w v → ⊥
precedes_asym [] w p q = p
precedes_asym (x ∷ v) [] p q = p
precedes_asym (false ∷ v) (true ∷ w) p q = q
precedes_asym (true ∷ v) (false ∷ w) p q = p
precedes_asym (false ∷ v) (false ∷ w) p q = precedes_asym v w p q
precedes_asym (true ∷ v) (true ∷ w) p q = precedes_asym v w p q

pub precedes_other : (v w : Vector) → v ≡ w → Precedes v w → ⊥
precedes_other v w e p = let q : Precedes w w = subst (λ x. Precedes x w) e p in precedes_asym w w q q

module _ {T : Type 0} (at_or_before : T → T → Bool) (settles : Vector → T) where
  -- the worst of the vectors seen
  record BestAt (Seen : Vector → Type 0) (r : Reached T) : Type 0 where
    seen : Seen r.at
    reached : settles r.at ≡ r.time
    none_later : (v : Vector) → Seen v → at_or_before (settles v) r.time ≡ true
    earlier_sooner : (v : Vector) → Seen v → Precedes v r.at → at_or_before r.time (settles v) ≡ false

  abbrev Best : (Vector → Type 0) → Option (Reached T) → Type 0
  Best Seen None = (v : Vector) → Seen v → ⊥
  Best Seen (Some r) = BestAt Seen r

  best_same : (P Q : Vector → Type 0) → ((v : Vector) → P v → Q v) → ((v : Vector) → Q v → P v) → (b : Option (Reached T)) → Best P b → Best Q b
  best_same P Q f g None h = λ v q. h v (g v q)
  best_same P Q f g (Some r) h =
      record {
        seen = f r.at h.seen;
        reached = h.reached;
        none_later = λ v q. h.none_later v (g v q);
        earlier_sooner = λ v q. h.earlier_sooner v (g v q);
      }

  module _ (order : Order at_or_before) (inputs : ℕ) (latest : Setting → Option T) (law : Bounding inputs at_or_before settles latest) where
    -- a setting all of whose vectors come after those seen
    abbrev After : (Vector → Type 0) → Setting → Type 0
    After Seen s = (u v : Vector) → Seen u → Agrees v s → Precedes u v

    abbrev More : (Vector → Type 0) → Setting → Vector → Type 0
    More Seen s v = Seen v ⊎ Agrees v s

    -- a setting that is not promising adds nothing
    passed_over : (Seen : Vector → Type 0) (s : Setting) → length s ≡ inputs → After Seen s → (b : Option (Reached T)) → Best Seen b → (l : Option T) → latest s ≡ l → promising at_or_before l (best_time b) ≡ false → Best (More Seen s) b
    passed_over Seen s n after None h None e p =
        λ v. ⊎_elim (h v) (λ a. let k = law.sound v s n a in let z : ◌≡◌ {A = ℕ} 0 1 = cc k.1 in absurd (omega arith))
    passed_over Seen s n after None h (Some t) e p = let z : ◌≡◌ {A = ℕ} 0 1 = cc in absurd (omega arith)
    passed_over Seen s n after (Some r) h None e p =
        record {
          seen = inl h.seen;
          reached = h.reached;
          none_later = λ v. ⊎_elim (h.none_later v) (λ a. let k = law.sound v s n a in let z : ◌≡◌ {A = ℕ} 0 1 = cc k.1 in absurd (omega arith));
          earlier_sooner = λ v m q. ⊎_elim (λ x. h.earlier_sooner v x q) (λ a. absurd (precedes_asym v r.at q (after r.at v h.seen a))) m;
        }
    passed_over Seen s n after (Some r) h (Some t) e p =
        record {
          seen = inl h.seen;
          reached = h.reached;
          none_later = λ v. ⊎_elim (h.none_later v) (λ a. later v a);
          earlier_sooner = λ v m q. ⊎_elim (λ x. h.earlier_sooner v x q) (λ a. absurd (precedes_asym v r.at q (after r.at v h.seen a))) m;
        }
      where
        later : (v : Vector) → Agrees v s → at_or_before (settles v) r.time ≡ true
        later v a =
            let k = law.sound v s n a in
            let same : k.0 ≡ t = cc k.1 in
            order.transitive (settles v) t r.time (subst (λ x. at_or_before (settles v) x ≡ true) same k.2) (not-false (at_or_before t r.time) p)

    -- a promising vector is the new worst
    reaches : (Seen : Vector → Type 0) (s : Setting) → length s ≡ inputs → undecided s ≡ 0 → After Seen s → (b : Option (Reached T)) → Best Seen b → (l : Option T) → latest s ≡ l → promising at_or_before l (best_time b) ≡ true → Best (More Seen s) (best_of l (vector s))
    reaches Seen s n u after b h None e p = let z : ◌≡◌ {A = ℕ} 0 1 = cc in absurd (omega arith)
    reaches Seen s n u after b h (Some t) e p =
        record {
          seen = inr (vector_agrees s);
          reached = time_is;
          none_later = λ v. ⊎_elim (λ x. (sooner b h p v x).0) (λ a. subst (λ x. at_or_before x t ≡ true) (sym (own v a)) (reflexive t));
          earlier_sooner = λ v m q. ⊎_elim (λ x. (sooner b h p v x).1) (λ a. absurd (precedes_other v (vector s) (agrees_one v s u a) q)) m;
        }
      where
        reflexive : (x : T) → at_or_before x x ≡ true
        reflexive x = ⊎_elim (λ y. y) (λ y. y) (order.total x x)

        time_is : settles (vector s) ≡ t
        time_is =
            let x = law.exact (vector s) (agrees_length (vector s) s (vector_agrees s) ∙ n) in
            let y = ap latest (whole_vector s u) in
            cc

        own : (v : Vector) → Agrees v s → settles v ≡ t
        own v a = ap settles (agrees_one v s u a) ∙ time_is

        sooner : (b : Option (Reached T)) → Best Seen b → promising at_or_before (Some t) (best_time b) ≡ true → (v : Vector) → Seen v → (at_or_before (settles v) t ≡ true) × (at_or_before t (settles v) ≡ false)
        sooner None h p v x = absurd (h v x)
        sooner (Some r) h p v x = (order.transitive (settles v) r.time t (h.none_later v x) up, down)
          where
            strict : at_or_before t r.time ≡ false
            strict = not-true (at_or_before t r.time) p

            up : at_or_before r.time t ≡ true
            up = ⊎_elim (λ y. y) (λ y. absurd (both_ways (at_or_before t r.time) strict y)) (order.total r.time t)

            down : at_or_before t (settles v) ≡ false
            down = ⊎_elim (λ y. absurd (both_ways (at_or_before t r.time) strict (order.transitive t (settles v) r.time y (h.none_later v x)))) (λ y. y) (cases_Bool (at_or_before t (settles v)))

    goes_on : (k : ℕ) (Seen : Vector → Type 0) (s : Setting) → length s ≡ inputs → undecided s ≡ k → After Seen s → (b : Option (Reached T)) → Best Seen b → Best (More Seen s) (worst_from at_or_before latest k s b)
    unfolding worst_from
    goes_on zero Seen s n u after b h =
        cond_both (promising at_or_before (latest s) (best_time b)) (best_of (latest s) (vector s)) b (Best (More Seen s))
        (reaches Seen s n u after b h (latest s) refl)
        (passed_over Seen s n after b h (latest s) refl)
    goes_on (suc k) Seen s n u after b h =
        cond_both (promising at_or_before (latest s) (best_time b)) (worst_from at_or_before latest k (decide true s) (worst_from at_or_before latest k (decide false s) b)) b (Best (More Seen s))
        (λ _.
        let b0 = worst_from at_or_before latest k (decide false s) b in
        let h0 = goes_on k Seen (decide false s) (decide_length false s ∙ n) (decide_undecided false s k u) (λ x v p a. after x v p (agrees_decide false v s a)) b h in
        let h1 = goes_on k (More Seen (decide false s)) (decide true s) (decide_length true s ∙ n) (decide_undecided true s k u)
        (λ x v p a. ⊎_elim (λ q. after x v q (agrees_decide true v s a)) (λ a0. zero_precedes_one x v s k u a0 a) p) b0 h0 in
        best_same (More (More Seen (decide false s)) (decide true s)) (More Seen s)
        (λ v. ⊎_elim (⊎_elim inl (λ a. inr (agrees_decide false v s a))) (λ a. inr (agrees_decide true v s a)))
        (λ v. ⊎_elim (λ x. inl (inl x)) (λ a. ⊎_elim (λ a0. inl (inr a0)) inr (agrees_either v s k u a)))
        (worst_from at_or_before latest k (decide true s) b0) h1)
        (passed_over Seen s n after b h (latest s) refl)

    shown : (ties : Setting) (b : Option (Reached T)) → Best (More (λ _. ⊥) ties) b → (r : Reached T) × (b ≡ Some r) × Worst at_or_before settles ties r.at r.time
    shown ties None h = absurd (h (vector ties) (inr (vector_agrees ties)))
    shown ties (Some r) h = (
      r,
      refl,
      record {
        agrees = ⊎_elim (λ x. absurd x) (λ a. a) h.seen;
        reached = h.reached;
        none_later = λ v a. h.none_later v (inr a);
        earlier_sooner = λ v a. h.earlier_sooner v (inr a);
      },
    )

pub worst_stands : (T : Type 0) → WorstStands T
unfolding worst_vector
worst_stands T at_or_before settles latest ties order law =
    shown at_or_before settles order (length ties) latest law ties (worst_vector at_or_before latest ties)
    (goes_on at_or_before settles order (length ties) latest law (undecided ties) (λ _. ⊥) ties refl refl (λ u v x a. absurd x) None (λ v x. x))
