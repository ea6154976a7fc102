-- Moving on from a setting, from its last input down. Assumes nothing.
use Rattle.std.proofs.Common.{◌≡◌, ℕ, zero, suc, ◌+◌, ◌<◌, Bool, true, false, [], ◌∷◌, ◌++◌, length, get_or, take, drop, set, is_some, Some, None, Option, sym, refl, ap, ◌∙◌, subst, append_assoc, arith}
use Rattle.std.proofs.lemmas.List.{take_more, drop_more, get_or_at, set_at, length-take-le}
use Rattle.std.proofs.lemmas.Bool.{true≢false, false≢true}
use Rattle.search.specs.Search.{Setting}
use Rattle.search.specs.Turns.{Over, next_setting, after_input, raise}
use Rattle.search.proofs.Turning.{over_self, over_length, next_from}

over_tied : (ties s : Setting) (j : ℕ) (d : Option Bool) → Over ties s → is_some (get_or ties j d) ≡ true → j < length ties → get_or s j d ≡ get_or ties j d
over_tied [] s j d h e l = absurd (omega arith)
over_tied (t ∷ ties) [] j d h e l = absurd h
over_tied (Some t ∷ ties) (o ∷ s) zero d h e l = h.0
over_tied (Some t ∷ ties) (o ∷ s) (suc j) d h e l = over_tied ties s j d h.1 e (omega arith)
over_tied (None ∷ ties) (o ∷ s) zero d h e l = absurd (false≢true e)
over_tied (None ∷ ties) (Some b ∷ s) (suc j) d h e l = over_tied ties s j d h e (omega arith)
over_tied (None ∷ ties) (None ∷ s) (suc j) d h e l = ap (λ x. get_or x j d) h

-- One turn at the input j, where the inputs from i, the next one, on are at their end.
module _ (ties s cur : Setting) (i j : ℕ) (d : Option Bool) (over : Over ties s) (down : i ≡ j + 1) (within : j < length s) (was : cur ≡ take i s ++ drop i ties) (done : next_setting (drop i ties) (drop i s) ≡ None) where
  is_mixed : cur ≡ take j s ++ (get_or s j d ∷ drop (j + 1) ties)
  is_mixed =
      was ∙ ap (λ n. take n s ++ drop n ties) down ∙ ap (λ x. x ++ drop (j + 1) ties) (take_more s j d within)
      ∙ append_assoc (take j s) (get_or s j d ∷ []) (drop (j + 1) ties)

  front : length (take j s) ≡ j
  front = length-take-le j s (omega arith)

  pub is_read : get_or cur j d ≡ get_or s j d
  is_read = ap (λ x. get_or x j d) is_mixed ∙ get_or_at (take j s) (get_or s j d) (drop (j + 1) ties) d j front

  is_set : (y : Option Bool) → set cur j y ≡ take j s ++ (y ∷ drop (j + 1) ties)
  is_set y = ap (λ x. set x j y) is_mixed ∙ set_at (take j s) (get_or s j d) (drop (j + 1) ties) y j front

  in_ties : j < length ties
  in_ties = let long = over_length ties s over in omega arith

  ties_here : drop j ties ≡ get_or ties j d ∷ drop (j + 1) ties
  ties_here = drop_more ties j d in_ties

  done_past : next_setting (drop (j + 1) ties) (drop (j + 1) s) ≡ None
  done_past = subst (λ n. next_setting (drop n ties) (drop n s) ≡ None) down done

  next_here : (t o : Option Bool) → get_or ties j d ≡ t → get_or s j d ≡ o → next_setting (drop j ties) (drop j s) ≡ next_setting (t ∷ drop (j + 1) ties) (o ∷ drop (j + 1) s)
  next_here t o e f =
      ap (λ x. next_setting x (drop j s)) (ties_here ∙ ap (λ x. x ∷ drop (j + 1) ties) e) ∙ ap (next_setting (t ∷ drop (j + 1) ties)) (drop_more s j d within ∙ ap (λ x. x ∷ drop (j + 1) s) f)

  -- put together again with the tie's value at j
  with_tie : (y : Option Bool) → y ≡ get_or ties j d → take j s ++ (y ∷ drop (j + 1) ties) ≡ take j s ++ drop j ties
  with_tie y e = ap (λ x. take j s ++ x) (ap (λ x. x ∷ drop (j + 1) ties) e ∙ sym ties_here)

  pub after_tied : is_some (get_or ties j d) ≡ true → (cur ≡ take j s ++ drop j ties) × (next_setting (drop j ties) (drop j s) ≡ None)
  after_tied e = (is_mixed ∙ with_tie (get_or s j d) (over_tied ties s j d over e in_ties), go (get_or ties j d) refl e)
    where
      go : (t : Option Bool) → get_or ties j d ≡ t → is_some t ≡ true → next_setting (drop j ties) (drop j s) ≡ None
      go None q h = absurd (false≢true h)
      go (Some t) q h = next_here (Some t) (get_or s j d) q refl ∙ ap (after_input (get_or s j d)) done_past

  untied : is_some (get_or ties j d) ≡ false → get_or ties j d ≡ None
  untied = go (get_or ties j d)
    where
      go : (t : Option Bool) → is_some t ≡ false → t ≡ None
      go None h = refl
      go (Some t) h = absurd (true≢false h)

  pub after_open : is_some (get_or ties j d) ≡ false → get_or cur j d ≡ None → (cur ≡ take j s ++ drop j ties) × (next_setting (drop j ties) (drop j s) ≡ None)
  after_open e f =
      let o : get_or s j d ≡ None = sym is_read ∙ f in
      (is_mixed ∙ with_tie (get_or s j d) (o ∙ sym (untied e)), next_here None None (untied e) o)

  pub after_one : is_some (get_or ties j d) ≡ false → get_or cur j d ≡ Some true → (set cur j None ≡ take j s ++ drop j ties) × (next_setting (drop j ties) (drop j s) ≡ None)
  after_one e f =
      let o : get_or s j d ≡ Some true = sym is_read ∙ f in
      (is_set None ∙ with_tie None (sym (untied e)), next_here None (Some true) (untied e) o ∙ ap (raise true (drop (j + 1) ties)) done_past)

  pub after_zero : is_some (get_or ties j d) ≡ false → get_or cur j d ≡ Some false → next_setting ties s ≡ Some (set cur j (Some true))
  after_zero e f =
      let o : get_or s j d ≡ Some false = sym is_read ∙ f in
      next_from ties s j (Some true ∷ drop (j + 1) ties) over (next_here None (Some false) (untied e) o ∙ ap (raise false (drop (j + 1) ties)) done_past) ∙ ap Some (sym (is_set (Some true)))

-- before the first turn
pub starts : (ties s : Setting) → Over ties s → (s ≡ take (length s) s ++ drop (length s) ties) × (next_setting (drop (length s) ties) (drop (length s) s) ≡ None)
starts [] [] h = (refl, refl)
starts [] (o ∷ s) h = absurd h
starts (t ∷ ties) [] h = absurd h
starts (Some t ∷ ties) (o ∷ s) h = let r = starts ties s h.1 in (ap (λ x. o ∷ x) r.0, r.1)
starts (None ∷ ties) (Some b ∷ s) h = let r = starts ties s h in (ap (λ x. Some b ∷ x) r.0, r.1)
starts (None ∷ ties) (None ∷ s) h = let r = starts ties s (subst (Over ties) (sym h) (over_self ties)) in (ap (λ x. None ∷ x) r.0, r.1)
