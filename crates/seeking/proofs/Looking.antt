-- The ends and turns of the search's loop, and the latest times read. Assumes nothing.
use Rattle.std.proofs.Common.{◌≡◌, ℕ, suc, ◌+◌, ◌-◌, ◌^◌, ◌<◌, ◌≤◌, Bool, true, false, List, length, is_some, Some, None, Option, unwrap_or, sym, refl, ap, ◌∙◌, arith}
use Rattle.std.proofs.lemmas.Nat.{pow_below}
use Rattle.std.proofs.lemmas.Bool.{true≢false, false≢true}
use Rattle.lines.specs.declared.line.Line.{Line}
use Rattle.lines.specs.Limits.{max_inputs}
use Rattle.lines.specs.Lines.{Lawful, inputs}
use Rattle.times.specs.Kind.{Kind, Laws}
use Rattle.settling.specs.Settle.{in_vector, tied_by}
use Rattle.settling.specs.Latest.{in_setting}
use Rattle.settling.proofs.Bounds.{latest_exact, uncut_is_found}
use Rattle.search.specs.Search.{Setting, whole, vector, undecided, decide, first_vector}
use Rattle.search.specs.Turns.{next_setting, turns, go_on}
use Rattle.search.specs.Turns.Progress.{looking}
use Rattle.search.specs.Walk.{left_at}
use Rattle.search.proofs.Settings.{whole_vector, vector_agrees, agrees_length}
use Rattle.search.proofs.Searching.{few_looks}
use Rattle.search.proofs.Turning.{one_more, still_looking, over_so_far, over_length, exact_end, turn_cut, turn_open}
use Rattle.seeking.specs.declared.aim.Target.{Target}
use Rattle.seeking.specs.Seeking.{settle_time, latest_time, cuts, seek_search}
use Rattle.seeking.specs.Outcomes.{time_found, LookedFor}
use Rattle.seeking.proofs.Instance.{deciding}

-- the test by which the search for a target cuts settings
abbrev pub cut_for : {Time : Type 0} → Kind Time → Target → Bool → Time → Setting → Bool
cut_for kind target value bound = cuts kind target.network.lines.now target.network.ties.now target.line value bound

-- what a move to the next setting answered and left
pub at_end : (ties after : Setting) (o : Option Setting) (r : Bool) → r ≡ is_some o → r ≡ false → after ≡ unwrap_or o ties → (o ≡ None) × (after ≡ ties)
at_end ties after None r e f a = (refl, a)
at_end ties after (Some s) r e f a = absurd (true≢false (sym e ∙ f))

pub gone_on : (ties after : Setting) (o : Option Setting) (r : Bool) → r ≡ is_some o → r ≡ true → after ≡ unwrap_or o ties → o ≡ Some after
gone_on ties after None r e f a = absurd (false≢true (sym e ∙ f))
gone_on ties after (Some s) r e f a = ap (λ x. Some x) (sym a)

-- turns of a loop that has come to a setting by so many looks
module _ (cut : Setting → Bool) (ties s : Setting) (n : ℕ) (so_far : turns cut ties n (looking ties) ≡ looking s) where
  pub counts : undecided ties ≤ max_inputs → n + 1 < 2 ^ 26
  counts h =
      let a = still_looking cut ties s n so_far in
      let b = few_looks cut (undecided ties) ties in
      let c = pow_below (suc (undecided ties)) 26 (omega arith) in
      omega (arith, a, b, c)

  pub less : (first_vector cut ties).looks - (n + 1) < (first_vector cut ties).looks - n
  less = let a = still_looking cut ties s n so_far in omega arith

  pub again_cut : (after : Setting) → cut s ≡ true → next_setting ties s ≡ Some after → turns cut ties (n + 1) (looking ties) ≡ looking after
  again_cut after e q = one_more cut ties s n so_far (looking after) (turn_cut cut ties s n so_far e ∙ ap go_on q)

  pub again_open : (after : Setting) (k : ℕ) → cut s ≡ false → undecided s ≡ suc k → after ≡ decide false s → turns cut ties (n + 1) (looking ties) ≡ looking after
  again_open after k e u a = one_more cut ties s n so_far (looking after) (turn_open cut ties s n so_far (suc k) e u ∙ ap looking (sym a))

module _ {Time : Type 0} (kind : Kind Time) (laws : Laws kind) (lines : List Line) (lawful : Lawful lines) (line : ℕ) (present : line < length lines) (value : Bool) (bound : Time) (ties : Setting) (count : length ties ≡ inputs lines) where
  abbrev test : Setting → Bool
  test = cuts kind lines ties line value bound

  -- at a setting that decides everything and is not cut, the latest time is the settle time
  time_at_end : (s : Setting) → length s ≡ inputs lines → undecided s ≡ 0 → test s ≡ false → latest_time kind lines ties line value s ≡ Some (settle_time kind lines ties line (vector s))
  time_at_end s n u e =
      let w = vector s in
      let is : whole w ≡ s = whole_vector s u in
      let long : length w ≡ inputs lines = agrees_length w s (vector_agrees s) ∙ n in
      let uncut : test (whole w) ≡ false = ap test is ∙ e in
      let found = uncut_is_found kind laws (tied_by ties) lines (in_setting (whole w)) (in_vector w) bound value lawful (deciding lines w long) line present uncut in
      let exact = latest_exact kind laws (tied_by ties) lines (in_setting (whole w)) (in_vector w) lawful (deciding lines w long) line present in
      ap (latest_time kind lines ties line value) (sym is) ∙ ap (λ b. latest_time kind lines ties line b (whole w)) (sym found.0) ∙ exact.0

  module _ (s : Setting) (n : ℕ) (so_far : turns test ties n (looking ties) ≡ looking s) where
    pub found_at_end : (late : Option Time) → late ≡ latest_time kind lines ties line value s → test s ≡ false → undecided s ≡ 0 → LookedFor kind lines ties line (seek_search kind lines ties line value bound) s late (n + 1)
    found_at_end late l e u =
        let done = exact_end test ties s n so_far (Some (vector s)) (turn_open test ties s n so_far 0 e u) in
        let over = over_so_far test ties s n so_far in
        record {
          found_is = l ∙ time_at_end s (over_length ties s over ∙ count) u e ∙ ap (time_found kind lines ties line) (sym done.1);
          setting_is = sym (whole_vector s u) ∙ ap (λ x. left_at x ties) (sym done.1);
          looks_are = sym done.0;
        }

    pub nothing_at_end : (after : Setting) → test s ≡ true → next_setting ties s ≡ None → after ≡ ties → LookedFor kind lines ties line (seek_search kind lines ties line value bound) after None (n + 1)
    nothing_at_end after e q a =
        let done = exact_end test ties s n so_far None (turn_cut test ties s n so_far e ∙ ap go_on q) in
        record {
          found_is = ap (time_found kind lines ties line) (sym done.1);
          setting_is = a ∙ ap (λ x. left_at x ties) (sym done.1);
          looks_are = sym done.0;
        }
