-- The searches over the real final values, settle times and latest times. Assumes nothing.
use Rattle.std.proofs.Common.{◌≡◌, ℕ, zero, suc, ◌<◌, Bool, true, false, cond, not, List, [], ◌∷◌, length, Some, None, Option, sym, refl, ap, ◌∙◌, subst, ⊎_elim, arith}
use Rattle.std.proofs.lemmas.Bool.{both_ways, false_from_ne_true}
use Rattle.lines.specs.declared.line.Line.{Line}
use Rattle.lines.specs.Lines.{Lawful, inputs}
use Rattle.times.specs.Kind.{Kind, Laws, NoLater}
use Rattle.cells.specs.Firsts.{first, at_or_after}
use Rattle.cells.proofs.Forcing.{true_same}
use Rattle.cells.proofs.DecidingLaws.{never_later}
use Rattle.settling.specs.Settle.{in_vector, tied_by}
use Rattle.settling.specs.Latest.{in_setting, allowed, AgreesWith, DecidesAll}
use Rattle.settling.proofs.Bounds.{latest_bounds, latest_exact, cut_hides_none, uncut_is_found}
use Rattle.search.specs.Search.{Vector, Setting, Agrees, whole, Test}
use Rattle.search.specs.Worst.{Order, Bounding}
use Rattle.search.proofs.Searching.{searched}
use Rattle.search.proofs.Worsts.{worst_stands}
use Rattle.seeking.specs.Seeking.{final_value, settle_time, Late, latest_time, cuts, latest_of_both}
use Rattle.seeking.specs.Stands.{SeekStands, WorstStands}

agrees_with : (v : Vector) (s : Setting) → Agrees v s → (input : ℕ) → input < length s → allowed (in_setting s input) (in_vector v input) ≡ true
agrees_with [] [] a input h = absurd (omega arith)
agrees_with [] (o ∷ s) a input h = absurd a
agrees_with (x ∷ v) [] a input h = absurd a
agrees_with (x ∷ v) (None ∷ s) a zero h = refl
agrees_with (x ∷ v) (Some y ∷ s) a zero h = true_same y x (sym a.0)
agrees_with (x ∷ v) (None ∷ s) a (suc input) h = agrees_with v s a input (omega arith)
agrees_with (x ∷ v) (Some y ∷ s) a (suc input) h = agrees_with v s a.1 input (omega arith)

decides_all : (v : Vector) (input : ℕ) → input < length v → in_setting (whole v) input ≡ Some (in_vector v input)
decides_all [] input h = absurd (omega arith)
decides_all (x ∷ v) zero h = refl
decides_all (x ∷ v) (suc input) h = decides_all v input (omega arith)

-- a vector that agrees with a setting, and the setting that decides everything as the vector has it
pub agreeing : (lines : List Line) (v : Vector) (s : Setting) → length s ≡ inputs lines → Agrees v s → AgreesWith (inputs lines) (in_setting s) (in_vector v)
agreeing lines v s n a input h = agrees_with v s a input (omega arith)

pub deciding : (lines : List Line) (v : Vector) → length v ≡ inputs lines → DecidesAll (inputs lines) (in_setting (whole v)) (in_vector v)
deciding lines v n input h = decides_all v input (omega arith)

module _ {Time : Type 0} (kind : Kind Time) (laws : Laws kind) where
  order : Order kind.at_or_before
  order = record { total = laws.total; transitive = laws.transitive }

  -- the later of two is no earlier than each
  later_left : (t : Time) (o : Option Time) → (u : Time) × (first (at_or_after kind) (Some t) o ≡ Some u) × NoLater kind t u
  later_left t None = (t, refl, never_later kind laws t)
  later_left t (Some b) = (cond (kind.at_or_before b t) t b, refl, go (kind.at_or_before b t) refl)
    where
      go : (x : Bool) → kind.at_or_before b t ≡ x → NoLater kind t (cond x t b)
      go true e = never_later kind laws t
      go false e = ⊎_elim (λ h. h) (λ h. absurd (both_ways (kind.at_or_before b t) e h)) (laws.total t b)

  later_right : (o : Option Time) (t : Time) → (u : Time) × (first (at_or_after kind) o (Some t) ≡ Some u) × NoLater kind t u
  later_right None t = (t, refl, never_later kind laws t)
  later_right (Some a) t = (cond (kind.at_or_before t a) a t, refl, go (kind.at_or_before t a) refl)
    where
      go : (x : Bool) → kind.at_or_before t a ≡ x → NoLater kind t (cond x a t)
      go true e = e
      go false e = never_later kind laws t

  module _ (lines : List Line) (lawful : Lawful lines) (ties : Setting) (line : ℕ) (present : line < length lines) where
    seek_test : (value : Bool) (bound : Time) → Test (inputs lines) (Late kind lines ties line value bound) (cuts kind lines ties line value bound)
    seek_test value bound =
        record {
          sound = λ v s n a late.
              false_from_ne_true (cuts kind lines ties line value bound s)
              (λ is_cut. cut_hides_none kind laws (tied_by ties) lines (in_setting s) (in_vector v) bound lawful (agreeing lines v s n a) line present
              (ap (λ x. cuts kind lines ties line x bound s) late.final_is ∙ is_cut) late.not_before);
          exact = λ v n uncut.
              let found = uncut_is_found kind laws (tied_by ties) lines (in_setting (whole v)) (in_vector v) bound value lawful (deciding lines v n) line present uncut in
              record { final_is = found.0; not_before = found.1 };
        }

    -- the latest time at the final value bounds the settle time, and so does the later of the two
    bounded : (v : Vector) (s : Setting) (value : Bool) → ((t : Time) × (latest_time kind lines ties line value s ≡ Some t) × NoLater kind (settle_time kind lines ties line v) t)
        → (t : Time) × (latest_of_both kind lines ties line s ≡ Some t) × NoLater kind (settle_time kind lines ties line v) t
    bounded v s false k =
        let one : Option Time = latest_time kind lines ties line true s in
        let r = later_left k.0 one in
        (r.0, ap (λ x. first (at_or_after kind) x one) k.1 ∙ r.1, laws.transitive _ k.0 r.0 k.2 r.2)
    bounded v s true k =
        let zero' : Option Time = latest_time kind lines ties line false s in
        let r = later_right zero' k.0 in
        (r.0, ap (first (at_or_after kind) zero') k.1 ∙ r.1, laws.transitive _ k.0 r.0 k.2 r.2)

    own : (v : Vector) (value : Bool) (t : Time) → (latest_time kind lines ties line value (whole v) ≡ Some t) × (latest_time kind lines ties line (not value) (whole v) ≡ None) → latest_of_both kind lines ties line (whole v) ≡ Some t
    own v false t e = ap (λ x. first (at_or_after kind) x (latest_time kind lines ties line true (whole v))) e.0 ∙ ap (first (at_or_after kind) (Some t)) e.1
    own v true t e = ap (λ x. first (at_or_after kind) x (latest_time kind lines ties line true (whole v))) e.1 ∙ e.0

    both_bound : Bounding (inputs lines) kind.at_or_before (settle_time kind lines ties line) (latest_of_both kind lines ties line)
    both_bound =
        record {
          sound = λ v s n a. bounded v s (final_value kind lines ties line v) (latest_bounds kind laws (tied_by ties) lines (in_setting s) (in_vector v) lawful (agreeing lines v s n a) line present);
          exact = λ v n. own v (final_value kind lines ties line v) (settle_time kind lines ties line v) (latest_exact kind laws (tied_by ties) lines (in_setting (whole v)) (in_vector v) lawful (deciding lines v n) line present);
        }

  pub seek_stands : SeekStands kind
  seek_stands lines ties line value bound lawful n present =
      searched (Late kind lines ties line value bound) (cuts kind lines ties line value bound) ties
      (subst (λ k. Test k (Late kind lines ties line value bound) (cuts kind lines ties line value bound)) (sym n) (seek_test lines lawful ties line present value bound))

  pub worst_of_lines : WorstStands kind
  worst_of_lines lines ties line lawful n present =
      worst_stands Time kind.at_or_before (settle_time kind lines ties line) (latest_of_both kind lines ties line) ties order
      (subst (λ k. Bounding k kind.at_or_before (settle_time kind lines ties line) (latest_of_both kind lines ties line)) (sym n) (both_bound lines lawful ties line present))
