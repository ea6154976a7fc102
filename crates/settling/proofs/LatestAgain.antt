-- Latest times brought from one setting to another, line by line. Assumes nothing.
use Rattle.std.proofs.Common.{◌≡◌, ℕ, ◌+◌, ◌<◌, ◌≤◌, Bool, true, false, not, ◌≢◌, List, length, get_or, set, take, Decides, Option, sym, ◌∙◌, subst, ⊎_elim, arith, length-set, get_or-set_other, get_or-set_same}
use mathlib.Core.Bool.{false≢true}
use Rattle.std.proofs.lemmas.List.{get_or_read, get_or-take, length-take-le}
use Rattle.std.proofs.lemmas.Bool.{cases_eq, not-true, not-false}
use Rattle.lines.specs.declared.line.Driver.{Driver}
use Rattle.lines.specs.declared.line.Driver.TheVariants.{Input, Output}
use Rattle.lines.specs.declared.line.Line.{Line}
use Rattle.lines.specs.Limits.{max_lines}
use Rattle.lines.specs.Lines.{no_line, line_at, feeder, inputs, LawfulDriver, Lawful}
use Rattle.lines.proofs.Lawfuls.{lawful_at}
use Rattle.times.specs.Kind.{Kind, Laws}
use Rattle.cells.proofs.Forcing.{every_to}
use Rattle.settling.specs.declared.latest.Latest.{Latest}
use Rattle.settling.specs.Latest.{no_latest, latest_line, latest_driver, latest, stays}
use Rattle.settling.proofs.LatestRules.{latest_output_same, latest_driver_same, driver_latest}

-- the lines below the number have their times under the new setting, the others below `upto` those under the old one; a
-- line that is not marked has the same times under both
pub record SoFar {Time : Type 0} (kind : Kind Time) (tied : ℕ → Bool) (lines : List Line) (new old : ℕ → Option Bool) (upto number : ℕ) (work : List (Latest Time)) (changed : List Bool) : Type 0 where
  pub below : (k : ℕ) → k < number → latest_line work k ≡ latest_line (latest kind tied lines new) k
  pub above : (k : ℕ) → number ≤ k → k < upto → latest_line work k ≡ latest_line (latest kind tied lines old) k
  pub kept : (k : ℕ) → k < number → get_or changed k false ≡ false → latest_line (latest kind tied lines new) k ≡ latest_line (latest kind tied lines old) k
  pub size : length changed ≡ max_lines

pub so_far_of : {Time : Type 0} (kind : Kind Time) (tied : ℕ → Bool) (lines : List Line) (new old : ℕ → Option Bool) (upto number : ℕ) (work work' : List (Latest Time)) (changed changed' : List Bool)
    → work' ≡ work → changed' ≡ changed → SoFar kind tied lines new old upto number work changed → SoFar kind tied lines new old upto number work' changed'
so_far_of {Time} kind tied lines new old upto number work work' changed changed' same same_marks so_far =
    subst (λ (w : List (Latest Time)). SoFar kind tied lines new old upto number w changed') (sym same)
    (subst (λ (m : List Bool). SoFar kind tied lines new old upto number work m) (sym same_marks) so_far)

-- a line among the first lines, and that it is lawful
pub front_at : (lines : List Line) (upto number : ℕ) → number < upto → get_or (take upto lines) number no_line ≡ line_at lines number
front_at lines upto number h = get_or-take upto lines number no_line h

pub front_lawful : (lines : List Line) (upto number : ℕ) → Lawful lines → upto ≤ length lines → number < length (take upto lines) → LawfulDriver (inputs lines) number (get_or (take upto lines) number no_line).driver
front_lawful lines upto number lawful few h =
    let long = length-take-le upto lines few in
    subst (λ (l : Line). LawfulDriver (inputs lines) number l.driver) (sym (front_at lines upto number (omega arith))) (lawful_at lines number no_line lawful (omega arith)).in_order

-- what holds of each number below, and of the number, holds of each number up to it
one_more : (P : ℕ → Type 0) (n : ℕ) → ((k : ℕ) → k < n → P k) → P n → (k : ℕ) → k < n + 1 → P k
one_more P n below here k h = ⊎_elim (λ same. subst P (sym same) here) (λ other. below k (omega arith)) (cases_eq k n)

module _ {Time : Type 0} (kind : Kind Time) (laws : Laws kind) (tied : ℕ → Bool) (lines : List Line) (lawful : Lawful lines) (new old : ℕ → Option Bool) (upto number : ℕ) (few : upto ≤ length lines) (h : number < upto) (work : List (Latest Time)) (changed : List Bool) (so_far : SoFar kind tied lines new old upto number work changed) where
  abbrev line : Line
  line = line_at lines number

  abbrev at_new : ℕ → Latest Time
  at_new = latest_line (latest kind tied lines new)

  abbrev at_old : ℕ → Latest Time
  at_old = latest_line (latest kind tied lines old)

  lawful_here : LawfulDriver (inputs lines) number line.driver
  lawful_here = (lawful_at lines number no_line lawful (omega arith)).in_order

  -- where no line at a pin has changed, the cell's line has the same times
  same_driver : (driver : Driver) → LawfulDriver (inputs lines) number driver → stays changed driver ≡ true
      → latest_driver kind tied new number at_new line driver ≡ latest_driver kind tied old number at_old line driver
  same_driver Input ok e = absurd (false≢true e)
  same_driver (Output cell) ok e =
      latest_output_same kind laws at_new at_old line cell number ok.1 (λ pin p. so_far.kept (feeder cell pin) (ok.1.lower pin p) (not-true _ (every_to cell.count _ e pin p)))

  pub line_stays : stays changed line.driver ≡ true → SoFar kind tied lines new old upto (number + 1) work changed
  line_stays e =
      let same : at_new number ≡ at_old number
      = driver_latest kind laws tied lines new lawful number (omega arith) ∙ same_driver line.driver lawful_here e ∙ sym (driver_latest kind laws tied lines old lawful number (omega arith)) in
      record {
        below = one_more (λ k. latest_line work k ≡ at_new k) number so_far.below (so_far.above number (omega arith) h ∙ sym same);
        above = λ k a u. so_far.above k (omega arith) u;
        kept = one_more (λ k. get_or changed k false ≡ false → at_new k ≡ at_old k) number so_far.kept (λ _. same);
        size = so_far.size;
      }

  pub line_again : number < length work → number < max_lines → (before times : Latest Time) (same : Bool) → before ≡ get_or work number before
      → times ≡ latest_driver kind tied new number (latest_line work) line line.driver → Decides same (before ≡ times)
      → SoFar kind tied lines new old upto (number + 1) (set work number times) (set changed number (not same))
  line_again room place before times same reads told decides =
      let size = so_far.size in
      let here : times ≡ at_new number
      = told ∙ latest_driver_same kind laws tied new (inputs lines) number _ _ so_far.below line line.driver lawful_here ∙ sym (driver_latest kind laws tied lines new lawful number (omega arith)) in
      let was : before ≡ at_old number = get_or_read work number before room reads no_latest ∙ so_far.above number (omega arith) h in
      let other : (k : ℕ) → k ≢ number → latest_line (set work number times) k ≡ latest_line work k = λ k ne. get_or-set_other work number k times no_latest ne in
      record {
        below = one_more (λ k. latest_line (set work number times) k ≡ at_new k) number
            (λ k b. let ne : k ≢ number = omega arith in other k ne ∙ so_far.below k b)
            (get_or-set_same work number times no_latest room ∙ here);
        above = λ k a u. let ne : k ≢ number = omega arith in other k ne ∙ so_far.above k (omega arith) u;
        kept = one_more (λ k. get_or (set changed number (not same)) k false ≡ false → at_new k ≡ at_old k) number
            (λ k b e. let ne : k ≢ number = omega arith in so_far.kept k b (sym (get_or-set_other changed number k (not same) false ne) ∙ e))
            (λ e. sym here ∙ sym (decides.0 (not-false same (sym (get_or-set_same changed number (not same) false (omega arith)) ∙ e))) ∙ was);
        size = length-set changed number (not same) ∙ size;
      }
