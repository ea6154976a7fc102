-- Every line's latest times follow their rules, and the rules give them. Assumes nothing.
use Rattle.std.proofs.Common.{◌≡◌, ℕ, ◌^◌, ◌<◌, Bool, true, false, ◌&&◌, List, [], length, take, is_some, Some, None, Option, unwrap_or, sym, refl, ap, ◌∙◌, subst, arith}
use mathlib.Core.Bool.{beq, false≢true}
use Rattle.std.proofs.lemmas.List.{get_or-take, length-take-le}
use Rattle.std.proofs.lemmas.Bool.{and_from, and_parts}
use Rattle.lines.specs.declared.line.Cell.{Cell}
use Rattle.lines.specs.declared.line.Driver.{Driver}
use Rattle.lines.specs.declared.line.Driver.TheVariants.{Input, Output}
use Rattle.lines.specs.declared.line.Line.{Line}
use Rattle.lines.specs.Lines.{no_line, line_at, feeder, inputs, delay_at, LawfulCell, LawfulDriver, Lawful}
use Rattle.lines.proofs.Lawfuls.{lawful_at}
use Rattle.times.specs.Kind.{Kind, NoLater, Laws}
use Rattle.cells.specs.Tables.{bit}
use Rattle.cells.specs.Firsts.{only_if, at_or_after}
use Rattle.cells.proofs.Forcing.{same_true, true_same, every_from, every_to, every_same}
use Rattle.cells.proofs.FirstLaws.{only_if_true, only_if_some, first_in, first_same, first_least}
use Rattle.cells.proofs.DecidingLaws.{after_total, after_transitive, decide_decided, decided_unique, decide_same}
use Rattle.settling.specs.declared.latest.Latest.{Latest}
use Rattle.settling.specs.Settle.{input_time, worked_out}
use Rattle.settling.specs.Latest.{latest_at, InputLatest, latest_pin, RowGives, OutputLatest, LatestRule, LatestTimes, no_latest, latest_line, latest_input, possible, latest_row, latest_by_row, latest_output, both_values, latest_driver, latest_step, latest, RulesGiveLatest}
use Rattle.settling.proofs.WorkedOut.{line_by_line, worked_out_at, worked_out_length}

some_none : {A : Type 0} (a : A) → Some a ≡ None → ⊥
some_none a e = let z : ◌≡◌ {A = ℕ} 0 1 = cc in absurd (omega arith)

-- what there is, is Some of its value
filled : {A : Type 0} (o : Option A) (d : A) → is_some o ≡ true → o ≡ Some (unwrap_or o d)
filled None d e = absurd (false≢true e)
filled (Some a) d e = refl

module _ {Time : Type 0} (kind : Kind Time) (laws : Laws kind) where
  -- Worked out

  -- what a row gives depends only on the latest times of the pins
  by_row_same : (late late' : ℕ → Latest Time) (line : Line) (cell : Cell) (value : Bool) (row number : ℕ) → LawfulCell number cell → row < 2 ^ cell.count
      → ((pin : ℕ) → pin < cell.count → late (feeder cell pin) ≡ late' (feeder cell pin))
      → latest_by_row kind late line cell value row ≡ latest_by_row kind late' line cell value row
  by_row_same late late' line cell value row number lawful below same =
      let pins : (pin : ℕ) → pin < cell.count → latest_pin late cell row pin ≡ latest_pin late' cell row pin
      = λ pin p. ap (λ (l : Latest Time). latest_at l (bit row pin)) (same pin p) in
      let can : possible late cell value row ≡ possible late' cell value row
      = ap (λ (b : Bool). beq (bit cell.table row) value && b) (every_same cell.count _ _ (λ pin p. ap is_some (pins pin p))) in
      let decided : latest_row kind late cell row ≡ latest_row kind late' cell row
      = decide_same kind laws cell.table cell.count row _ _ below lawful.some_pins (λ pin p. ap (λ (o : Option Time). unwrap_or o kind.start) (pins pin p)) in
      ap (λ (b : Bool). only_if b (kind.after (latest_row kind late cell row) (delay_at line value))) can
      ∙ ap (λ (t : Time). only_if (possible late' cell value row) (kind.after t (delay_at line value))) decided

  -- the latest times of a cell's line depend only on those of the lines at its pins
  pub latest_output_same : (late late' : ℕ → Latest Time) (line : Line) (cell : Cell) (number : ℕ) → LawfulCell number cell
      → ((pin : ℕ) → pin < cell.count → late (feeder cell pin) ≡ late' (feeder cell pin))
      → both_values (latest_output kind late line cell) ≡ both_values (latest_output kind late' line cell)
  latest_output_same late late' line cell number lawful same =
      let at : (value : Bool) → latest_output kind late line cell value ≡ latest_output kind late' line cell value
      = λ value. first_same (at_or_after kind) (2 ^ cell.count) _ _ (λ row h. by_row_same late late' line cell value row number lawful h same) in
      λ i. record { zero = at false i; one = at true i }

  -- the latest times of a line depend only on those of the lines below it
  pub latest_driver_same : (tied : ℕ → Bool) (setting : ℕ → Option Bool) (count number : ℕ) (late late' : ℕ → Latest Time) → ((below : ℕ) → below < number → late below ≡ late' below)
      → (line : Line) (driver : Driver) → LawfulDriver count number driver → latest_driver kind tied setting number late line driver ≡ latest_driver kind tied setting number late' line driver
  latest_driver_same tied setting count number late late' same line Input lawful = refl
  latest_driver_same tied setting count number late late' same line (Output cell) lawful =
      latest_output_same late late' line cell number lawful.1 (λ pin p. same (feeder cell pin) (lawful.1.lower pin p))

  pub latest_length : (tied : ℕ → Bool) (lines : List Line) (setting : ℕ → Option Bool) → length (latest kind tied lines setting) ≡ length lines
  unfolding latest
  latest_length tied lines setting = omega (arith, worked_out_length (latest_step kind tied setting) [] lines)

  -- each line's latest times are as its driver has them, from those of all lines
  pub driver_latest : (tied : ℕ → Bool) (lines : List Line) (setting : ℕ → Option Bool) → Lawful lines → (number : ℕ) → number < length lines
      → latest_line (latest kind tied lines setting) number ≡ latest_driver kind tied setting number (latest_line (latest kind tied lines setting)) (line_at lines number) (line_at lines number).driver
  unfolding latest
  driver_latest tied lines setting lawful number h =
      let all : List (Latest Time) = worked_out (latest_step kind tied setting) [] lines in
      let line : Line = line_at lines number in
      let long : length all ≡ length lines = latest_length tied lines setting in
      let size : length (take number all) ≡ number = length-take-le number all (omega arith) in
      worked_out_at (latest_step kind tied setting) lines number no_latest no_line h
      ∙ ap (λ (n : ℕ). latest_driver kind tied setting n (latest_line (take number all)) line line.driver) size
      ∙ latest_driver_same tied setting (inputs lines) number _ _ (λ below b. get_or-take number all below no_latest b) line line.driver (lawful_at lines number no_line lawful h).in_order

  -- The rules

  latest_both : (at : Bool → Option Time) (value : Bool) → latest_at (both_values at) value ≡ at value
  latest_both at true = refl
  latest_both at false = refl

  input_rule : (tied : Bool) (line : Line) (decided : Option Bool) (value : Bool) (late : Option Time) → late ≡ latest_input kind tied line decided value → InputLatest kind tied line decided value late
  input_rule tied line None value late is = is
  input_rule tied line (Some decided) value late is = (
    λ same. is ∙ only_if_true (beq decided value) (input_time kind tied line value) (true_same decided value same),
    λ other. is ∙ none (beq decided value) (λ e. other (same_true decided value e)),
  )
    where
      none : (test : Bool) → (test ≡ true → ⊥) → only_if test (input_time kind tied line value) ≡ None
      none true no_way = absurd (no_way refl)
      none false no_way = refl

  module _ (late : ℕ → Latest Time) (line : Line) (cell : Cell) (number : ℕ) (lawful : LawfulCell number cell) (value : Bool) where
    gives_from : (row : ℕ) (time : Time) → row < 2 ^ cell.count → latest_by_row kind late line cell value row ≡ Some time → RowGives kind late line cell value row time
    gives_from row time below e =
        let o = only_if_some (possible late cell value row) (kind.after (latest_row kind late cell row) (delay_at line value)) time e in
        let parts = and_parts (beq (bit cell.table row) value) _ o.0 in
        record {
          present = below;
          output_is = same_true (bit cell.table row) value parts.0;
          pin_times = λ pin. unwrap_or (latest_pin late cell row pin) kind.start;
          pins_have = λ pin p. filled (latest_pin late cell row pin) kind.start (every_to cell.count _ parts.1 pin p);
          from = latest_row kind late cell row;
          decided = decide_decided kind laws cell.table cell.count row _ below lawful.some_pins;
          time_is = sym o.1;
        }

    gives_to : (row : ℕ) (time : Time) → RowGives kind late line cell value row time → latest_by_row kind late line cell value row ≡ Some time
    gives_to row time g =
        let have : (pin : ℕ) → pin < cell.count → unwrap_or (latest_pin late cell row pin) kind.start ≡ g.pin_times pin = λ pin p. ap (λ (o : Option Time). unwrap_or o kind.start) (g.pins_have pin p) in
        let can : possible late cell value row ≡ true
        = and_from _ _ (true_same (bit cell.table row) value g.output_is) (every_from cell.count _ (λ pin p. ap is_some (g.pins_have pin p))) in
        let from : latest_row kind late cell row ≡ g.from
        = decide_same kind laws cell.table cell.count row _ g.pin_times g.present lawful.some_pins have
        ∙ decided_unique kind laws cell.table cell.count row g.pin_times _ g.from (decide_decided kind laws cell.table cell.count row g.pin_times g.present lawful.some_pins) g.decided in
        only_if_true (possible late cell value row) (kind.after (latest_row kind late cell row) (delay_at line value)) can
        ∙ ap (λ (t : Time). Some t) (ap (λ (t : Time). kind.after t (delay_at line value)) from ∙ sym g.time_is)

    -- where a row gives a time, the greatest that a row gives is no earlier
    greatest_after : (row : ℕ) (time : Time) → RowGives kind late line cell value row time → (greatest : Time) × (latest_output kind late line cell value ≡ Some greatest) × NoLater kind time greatest
    greatest_after row time g = first_least (at_or_after kind) (after_total kind laws) (after_transitive kind laws) (latest_by_row kind late line cell value) (2 ^ cell.count) row time g.present (gives_to row time g)

    output_rule : (o : Option Time) → latest_output kind late line cell value ≡ o → OutputLatest kind late line cell value o
    output_rule None e = λ row time g. let f = greatest_after row time g in some_none f.0 (sym f.1 ∙ e)
    output_rule (Some greatest) e = (
      (let i = first_in (at_or_after kind) (latest_by_row kind late line cell value) (2 ^ cell.count) greatest e in (i.0, gives_from i.0 greatest i.1 i.2)),
      λ row time g.
          let f = greatest_after row time g in
          let same : f.0 ≡ greatest = ap (λ (o : Option Time). unwrap_or o greatest) (sym f.1 ∙ e) in
          subst (λ (t : Time). NoLater kind time t) same f.2,
    )

  latest_rule_from : (tied : ℕ → Bool) (setting : ℕ → Option Bool) (count : ℕ) (late : ℕ → Latest Time) (number : ℕ) (line : Line) (driver : Driver) → LawfulDriver count number driver
      → late number ≡ latest_driver kind tied setting number late line driver → (value : Bool) → LatestRule kind tied setting late number line driver value
  latest_rule_from tied setting count late number line Input lawful is value =
      input_rule (tied number) line (setting number) value _ (ap (λ (l : Latest Time). latest_at l value) is ∙ latest_both (latest_input kind (tied number) line (setting number)) value)
  latest_rule_from tied setting count late number line (Output cell) lawful is value =
      output_rule late line cell number lawful.1 value _ (sym (ap (λ (l : Latest Time). latest_at l value) is ∙ latest_both (latest_output kind late line cell) value))

  -- all that agrees with what is worked out follows the rules
  pub latest_follows : (tied : ℕ → Bool) (lines : List Line) (setting : ℕ → Option Bool) → Lawful lines → (late : ℕ → Latest Time)
      → ((number : ℕ) → number < length lines → late number ≡ latest_line (latest kind tied lines setting) number) → LatestTimes kind tied lines setting late
  latest_follows tied lines setting lawful late same number h =
      let line : Line = line_at lines number in
      let ok : LawfulDriver (inputs lines) number line.driver = (lawful_at lines number no_line lawful h).in_order in
      latest_rule_from tied setting (inputs lines) late number line line.driver ok
      (same number h ∙ driver_latest tied lines setting lawful number h ∙ latest_driver_same tied setting (inputs lines) number _ _ (λ below b. sym (same below (omega arith))) line line.driver ok)

  -- The rules give one latest time

  input_once : (tied : Bool) (line : Line) (decided : Option Bool) (value : Bool) (a b : Option Time) → InputLatest kind tied line decided value a → InputLatest kind tied line decided value b → a ≡ b
  input_once tied line None value a b x y = x ∙ sym y
  input_once tied line (Some decided) value a b x y = go (beq decided value) refl
    where
      go : (test : Bool) → beq decided value ≡ test → a ≡ b
      go true e = let same = same_true decided value e in x.0 same ∙ sym (y.0 same)
      go false e =
          let other : decided ≡ value → ⊥ = λ same. false≢true (sym e ∙ true_same decided value same) in
          x.1 other ∙ sym (y.1 other)

  module _ (one other : ℕ → Latest Time) (line : Line) (cell : Cell) (value : Bool) where
    gives_same : ((pin : ℕ) → pin < cell.count → one (feeder cell pin) ≡ other (feeder cell pin)) → (row : ℕ) (time : Time) → RowGives kind one line cell value row time → RowGives kind other line cell value row time
    gives_same same row time g =
        record {
          present = g.present;
          output_is = g.output_is;
          pin_times = g.pin_times;
          pins_have = λ pin p. ap (λ (l : Latest Time). latest_at l (bit row pin)) (sym (same pin p)) ∙ g.pins_have pin p;
          from = g.from;
          decided = g.decided;
          time_is = g.time_is;
        }

  output_once : (one other : ℕ → Latest Time) (line : Line) (cell : Cell) (value : Bool) → ((pin : ℕ) → pin < cell.count → one (feeder cell pin) ≡ other (feeder cell pin))
      → (a b : Option Time) → OutputLatest kind one line cell value a → OutputLatest kind other line cell value b → a ≡ b
  output_once one other line cell value same None None x y = refl
  output_once one other line cell value same (Some a) None x y = absurd (y x.0.0 a (gives_same one other line cell value same x.0.0 a x.0.1))
  output_once one other line cell value same None (Some b) x y = absurd (x y.0.0 b (gives_same other one line cell value (λ pin p. sym (same pin p)) y.0.0 b y.0.1))
  output_once one other line cell value same (Some a) (Some b) x y =
      ap (λ (t : Time). Some t) (laws.antisymmetric a b
      (y.1 x.0.0 a (gives_same one other line cell value same x.0.0 a x.0.1))
      (x.1 y.0.0 b (gives_same other one line cell value (λ pin p. sym (same pin p)) y.0.0 b y.0.1)))

  rule_once : (tied : ℕ → Bool) (setting : ℕ → Option Bool) (count number : ℕ) (one other : ℕ → Latest Time) → ((below : ℕ) → below < number → one below ≡ other below)
      → (line : Line) (driver : Driver) → LawfulDriver count number driver → (value : Bool)
      → LatestRule kind tied setting one number line driver value → LatestRule kind tied setting other number line driver value → latest_at (one number) value ≡ latest_at (other number) value
  rule_once tied setting count number one other same line Input lawful value x y = input_once (tied number) line (setting number) value _ _ x y
  rule_once tied setting count number one other same line (Output cell) lawful value x y = output_once one other line cell value (λ pin p. same (feeder cell pin) (lawful.1.lower pin p)) _ _ x y

  pub rules_give_latest : RulesGiveLatest kind
  rules_give_latest tied lines setting lawful = (
    latest_follows tied lines setting lawful _ (λ number h. refl),
    λ late rules.
        let made : ℕ → Latest Time = latest_line (latest kind tied lines setting) in
        line_by_line (λ number. number < length lines → late number ≡ made number)
        (λ number below h.
        let line : Line = line_at lines number in
        let at : (value : Bool) → latest_at (late number) value ≡ latest_at (made number) value
        = λ value. rule_once tied setting (inputs lines) number late made (λ lower b. below lower b (omega arith)) line line.driver (lawful_at lines number no_line lawful h).in_order value
        (rules number h value) (latest_follows tied lines setting lawful made (λ n m. refl) number h value) in
        λ i. record { zero = at false i; one = at true i }),
  )
