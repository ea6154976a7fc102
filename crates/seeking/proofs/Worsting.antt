-- The steps of the search for the worst. Assumes nothing.
use Rattle.std.proofs.Common.{◌≡◌, ℕ, zero, suc, Bool, true, false, Some, None, Option, sym, refl, ap, ◌∙◌, arith}
use Rattle.std.proofs.lemmas.Bool.{cond-true, cond-false}
use Rattle.search.specs.Search.{Vector, Setting, undecided, decide, vector}
use Rattle.search.specs.Worst.{best_of, best_time, promising, worst_from}
use Rattle.search.proofs.Walks.{fewer}

module _ {Time : Type 0} (order : Time → Time → Bool) (latest : Setting → Option Time) where
  time_back : (best : Option Time) (at : Vector) → best_time (best_of best at) ≡ best
  time_back None at = refl
  time_back (Some best) at = refl

  module _ (s : Setting) (late best : Option Time) (at : Vector) (is : late ≡ latest s) where
    promise : (b : Bool) → promising order late best ≡ b → promising order (latest s) (best_time (best_of best at)) ≡ b
    promise b e = ap (λ l. promising order l (best_time (best_of best at))) (sym is) ∙ ap (promising order late) (time_back best at) ∙ e

    -- a setting that is not promising leaves the worst so far
    pub passed_over : (k : ℕ) → promising order late best ≡ false → best_of best at ≡ worst_from order latest k s (best_of best at)
    unfolding worst_from
    passed_over zero e = sym (cond-false (promising order (latest s) (best_time (best_of best at))) _ _ (promise false e))
    passed_over (suc k) e = sym (cond-false (promising order (latest s) (best_time (best_of best at))) _ _ (promise false e))

    -- a promising vector is the new worst
    pub reached_here : (k : ℕ) → k ≡ 0 → promising order late best ≡ true → best_of late (vector s) ≡ worst_from order latest k s (best_of best at)
    unfolding worst_from
    reached_here (suc k) z e = absurd (omega arith)
    reached_here zero z e =
        ap (λ l. best_of l (vector s)) is ∙ sym (cond-true (promising order (latest s) (best_time (best_of best at))) _ _ (promise true e))

    -- a promising setting is continued with 0 and then with 1
    pub both_ways_on : (k : ℕ) → undecided s ≡ suc k → promising order late best ≡ true → (zero_time one_time : Option Time) (at_zero at_one : Vector) (s_zero s_one : Setting)
        → s_zero ≡ decide false s → s_one ≡ decide true s
        → best_of zero_time at_zero ≡ worst_from order latest (undecided s_zero) s_zero (best_of best at)
        → best_of one_time at_one ≡ worst_from order latest (undecided s_one) s_one (best_of zero_time at_zero)
        → best_of one_time at_one ≡ worst_from order latest (undecided s) s (best_of best at)
    unfolding worst_from
    both_ways_on k u e zero_time one_time at_zero at_one s_zero s_one ez eo hz ho =
        let uz : undecided s_zero ≡ k = fewer s s_zero false k u ez in
        let uo : undecided s_one ≡ k = fewer s s_one true k u eo in
        let after_zero : best_of zero_time at_zero ≡ worst_from order latest k (decide false s) (best_of best at)
        = hz ∙ ap (λ n. worst_from order latest n s_zero (best_of best at)) uz ∙ ap (λ x. worst_from order latest k x (best_of best at)) ez in
        let after_one : best_of one_time at_one ≡ worst_from order latest k (decide true s) (worst_from order latest k (decide false s) (best_of best at))
        = ho ∙ ap (λ n. worst_from order latest n s_one (best_of zero_time at_zero)) uo ∙ ap (λ x. worst_from order latest k x (best_of zero_time at_zero)) eo ∙ ap (worst_from order latest k (decide true s)) after_zero in
        after_one ∙ sym (ap (λ n. worst_from order latest n s (best_of best at)) u ∙ cond-true (promising order (latest s) (best_time (best_of best at))) _ _ (promise true e))
