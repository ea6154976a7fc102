-- The buffer of latest times: a row's times, one line more, and when all lines are worked out. Assumes nothing.
use Rattle.std.proofs.Common.{◌≡◌, ℕ, ◌+◌, ◌^◌, ◌<◌, ◌≤◌, Bool, true, false, List, ◌++◌, length, drop, set, true≢false, is_some, Some, Option, unwrap_or, sym, ap, ◌∙◌, subst, add-one, arith}
use mathlib.Core.Bool.{beq}
use Rattle.std.proofs.lemmas.List.{get_or_default}
use Rattle.std.proofs.lemmas.Bool.{and_from, false_from_ne_true}
use Rattle.lines.specs.declared.line.Cell.{Cell}
use Rattle.lines.specs.declared.line.Line.{Line}
use Rattle.lines.specs.Lines.{no_line, line_at, inputs, delay_at, LawfulCell, Lawful}
use Rattle.lines.proofs.Lawfuls.{lawful_at}
use Rattle.times.specs.Kind.{Kind, Laws}
use Rattle.cells.specs.Tables.{bit, every_below}
use Rattle.cells.specs.Deciding.{decide}
use Rattle.cells.specs.declared.pins.Pins.{Pins}
use Rattle.cells.specs.Pins.{at_pin, with_pin}
use Rattle.cells.proofs.PinSlots.{pins_more}
use Rattle.cells.proofs.Forcing.{every_to}
use Rattle.cells.proofs.DecidingLaws.{decide_same}
use Rattle.cells.proofs.FirstLaws.{only_if_true}
use Rattle.settling.specs.declared.latest.Latest.{Latest}
use Rattle.settling.specs.Latest.{latest_pin, LatestTimes, no_latest, latest_line, possible, latest_row, latest_by_row, latest_driver, latest}
use Rattle.settling.proofs.Buffers.{written, written_at, written_more, written_all}
use Rattle.settling.proofs.LatestRules.{latest_driver_same, latest_length, driver_latest, latest_follows}

-- a pin without a latest time: not each has one
pub pin_without : (n pin : ℕ) (test : ℕ → Bool) → pin < n → test pin ≡ false → false ≡ every_below n test
pin_without n pin test h none = sym (false_from_ne_true (every_below n test) (λ e. true≢false (sym (every_to n test e pin h) ∙ none)))

-- one pin more in the loop that collects a row's times
pub row_times_more : {Time : Type 0} (start : Time) (late : ℕ → Option Time) (pin : ℕ) (time : Time) (at next : Pins Time)
    → pin < 4 → Some time ≡ late pin → next ≡ with_pin at pin time
    → (every_below pin (λ k. is_some (late k)) ≡ true) × ((k : ℕ) → k < pin → at_pin at k ≡ unwrap_or (late k) start)
    → (every_below (pin + 1) (λ k. is_some (late k)) ≡ true) × ((k : ℕ) → k < pin + 1 → at_pin next k ≡ unwrap_or (late k) start)
row_times_more {Time} start late pin time at next few is put sofar = (
  ap (λ (n : ℕ). every_below n (λ k. is_some (late k))) (add-one pin) ∙ and_from _ _ (ap is_some (sym is)) sofar.0,
  subst (λ (t : Pins Time). (k : ℕ) → k < pin + 1 → at_pin t k ≡ unwrap_or (late k) start) (sym put)
      (pins_more at (λ k. unwrap_or (late k) start) pin time few (ap (λ (o : Option Time). unwrap_or o start) is) sofar.1),
)

module _ {Time : Type 0} (kind : Kind Time) (laws : Laws kind) where
  -- what the code works out for a row with the output, whose pins have latest times, is what the row gives
  pub row_works_out : (late : ℕ → Latest Time) (line : Line) (cell : Cell) (value : Bool) (row number : ℕ) (output : Bool) (times : ℕ → Time) (decided at : Time)
      → LawfulCell number cell → row < 2 ^ cell.count → every_below cell.count (λ pin. is_some (latest_pin late cell row pin)) ≡ true
      → ((pin : ℕ) → pin < cell.count → times pin ≡ unwrap_or (latest_pin late cell row pin) kind.start)
      → output ≡ bit cell.table row → beq output value ≡ true
      → decided ≡ decide kind cell.table cell.count row times → at ≡ kind.after decided (delay_at line value)
      → Some at ≡ latest_by_row kind late line cell value row
  row_works_out late line cell value row number output times decided at lawful below every pins bits same decides delays =
      let can : possible late cell value row ≡ true
      = and_from _ _ (ap (λ (b : Bool). beq b value) (sym bits) ∙ same) every in
      let when : at ≡ kind.after (latest_row kind late cell row) (delay_at line value)
      = delays ∙ ap (λ (t : Time). kind.after t (delay_at line value)) (decides ∙ decide_same kind laws cell.table cell.count row times _ below lawful.some_pins pins) in
      ap (λ (t : Time). Some t) when ∙ sym (only_if_true (possible late cell value row) (kind.after (latest_row kind late cell row) (delay_at line value)) can)

  module _ (tied : ℕ → Bool) (lines : List Line) (setting : ℕ → Option Bool) (lawful : Lawful lines) (number : ℕ) (work old : List (Latest Time)) (is : work ≡ written number (latest kind tied lines setting) old) where
    abbrev everything : List (Latest Time)
    everything = latest kind tied lines setting

    so_far : number ≤ length lines → (below : ℕ) → below < number → latest_line work below ≡ latest_line everything below
    so_far h below b =
        let long = latest_length kind laws tied lines setting in
        ap (λ (l : List (Latest Time)). latest_line l below) is ∙ written_at number everything old below no_latest (omega arith) b

    -- one line more
    pub latest_more : number < length lines → number < length old
        → (result : Latest Time) → result ≡ latest_driver kind tied setting number (latest_line work) (line_at lines number) (line_at lines number).driver
        → set work number result ≡ written (number + 1) everything old
    latest_more h room result told =
        let line : Line = line_at lines number in
        let long = latest_length kind laws tied lines setting in
        let inside : number < length everything = omega arith in
        let same : result ≡ latest_line everything number
        = told ∙ latest_driver_same kind laws tied setting (inputs lines) number _ _ (so_far (omega arith)) line line.driver (lawful_at lines number no_line lawful h).in_order ∙ sym (driver_latest kind laws tied lines setting lawful number h) in
        ap (λ (l : List (Latest Time)). set l number result) is ∙ written_more number everything old result inside room (same ∙ get_or_default everything number no_latest result inside)

    pub latest_all : number ≡ length lines → (work ≡ everything ++ drop (length lines) old) × LatestTimes kind tied lines setting (latest_line work)
    latest_all done = (
      is ∙ ap (λ (n : ℕ). written n everything old) done ∙ written_all (length lines) everything old (latest_length kind laws tied lines setting),
      latest_follows kind laws tied lines setting lawful (latest_line work) (λ below b. so_far (omega arith) below (omega arith)),
    )
