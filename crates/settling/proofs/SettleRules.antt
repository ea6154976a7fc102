-- Every line of what is settled follows its rule, the rules settle a line in one way, and shorter delays settle it no later. Assumes nothing.
use Rattle.std.proofs.Common.{◌≡◌, ℕ, ◌<◌, Bool, List, [], length, take, sym, refl, ap, ◌∙◌, subst, arith}
use Rattle.std.proofs.lemmas.List.{get_or-take, length-take-le}
use Rattle.lines.specs.declared.line.Cell.{Cell}
use Rattle.lines.specs.declared.line.Driver.{Driver}
use Rattle.lines.specs.declared.line.Driver.TheVariants.{Input, Output}
use Rattle.lines.specs.declared.line.Line.{Line}
use Rattle.lines.specs.Lines.{no_line, line_at, feeder, inputs, delay_at, LawfulDriver, Lawful}
use Rattle.lines.proofs.Lawfuls.{lawful_at}
use Rattle.times.specs.Kind.{Kind, NoLater, Laws, LongerLater}
use Rattle.cells.specs.Tables.{bit, row}
use Rattle.cells.specs.Deciding.{Decided, decide}
use Rattle.cells.proofs.Rows.{row_below, bit_row, row_of_bits}
use Rattle.cells.proofs.DecidingLaws.{never_later, decide_decided, decide_same, decided_earlier}
use Rattle.settling.specs.declared.settle.Settled.{Settled}
use Rattle.settling.specs.Settle.{input_time, pin_row, values_of, times_of, LineRule, Settles, worked_out, nothing_settled, settled_line, settle_cell, settle_driver, settle_line, settled, RulesGiveSettled, ShorterSettlesNoLater}
use Rattle.settling.proofs.WorkedOut.{line_by_line, worked_out_at, worked_out_length}

-- only the values of the pins below the count matter to the row number
pub row_same : (count : ℕ) (one other : ℕ → Bool) → ((pin : ℕ) → pin < count → one pin ≡ other pin) → row count one ≡ row count other
row_same count one other same = row_of_bits count (row count one) other (row_below count one) (λ pin p. bit_row count one pin p ∙ same pin p)

module _ {Time : Type 0} (kind : Kind Time) (laws : Laws kind) where
  -- how a line settles depends only on the lines below it
  pub driver_same : (tied vector : ℕ → Bool) (count number : ℕ) (one other : ℕ → Settled Time) → ((below : ℕ) → below < number → one below ≡ other below)
      → (line : Line) (driver : Driver) → LawfulDriver count number driver
      → settle_driver kind tied vector number one line driver ≡ settle_driver kind tied vector number other line driver
  driver_same tied vector count number one other same line Input lawful = refl
  driver_same tied vector count number one other same line (Output cell) lawful =
      let at : (pin : ℕ) → pin < cell.count → one (feeder cell pin) ≡ other (feeder cell pin) = λ pin p. same (feeder cell pin) (lawful.1.lower pin p) in
      let rows : pin_row (values_of one) cell ≡ pin_row (values_of other) cell = row_same cell.count _ _ (λ pin p. ap (λ (s : Settled Time). s.value) (at pin p)) in
      let decided : decide kind cell.table cell.count (pin_row (values_of one) cell) (λ pin. times_of one (feeder cell pin)) ≡ decide kind cell.table cell.count (pin_row (values_of one) cell) (λ pin. times_of other (feeder cell pin))
      = decide_same kind laws cell.table cell.count _ _ _ (row_below cell.count _) lawful.1.some_pins (λ pin p. ap (λ (s : Settled Time). s.time) (at pin p)) in
      (λ i. record { value = bit cell.table (pin_row (values_of one) cell); time = kind.after (decided i) (delay_at line (bit cell.table (pin_row (values_of one) cell))) })
      ∙ ap (λ (r : ℕ). settle_cell kind line cell r (λ pin. times_of other (feeder cell pin))) rows

  pub settled_length : (tied : ℕ → Bool) (lines : List Line) (vector : ℕ → Bool) → length (settled kind tied lines vector) ≡ length lines
  unfolding settled
  settled_length tied lines vector = omega (arith, worked_out_length (settle_line kind tied vector) [] lines)

  -- each line settles as its driver has it, from how all lines settle
  pub settled_driver : (tied : ℕ → Bool) (lines : List Line) (vector : ℕ → Bool) → Lawful lines → (number : ℕ) → number < length lines
      → settled_line kind (settled kind tied lines vector) number
      ≡ settle_driver kind tied vector number (settled_line kind (settled kind tied lines vector)) (line_at lines number) (line_at lines number).driver
  unfolding settled
  settled_driver tied lines vector lawful number h =
      let all : List (Settled Time) = worked_out (settle_line kind tied vector) [] lines in
      let line : Line = line_at lines number in
      let long : length all ≡ length lines = settled_length tied lines vector in
      let size : length (take number all) ≡ number = length-take-le number all (omega arith) in
      worked_out_at (settle_line kind tied vector) lines number (nothing_settled kind) no_line h
      ∙ ap (λ (n : ℕ). settle_driver kind tied vector n (settled_line kind (take number all)) line line.driver) size
      ∙ driver_same tied vector (inputs lines) number _ _ (λ below b. get_or-take number all below (nothing_settled kind) b) line line.driver (lawful_at lines number no_line lawful h).in_order

  -- a line that settles as its driver has it follows its rule
  rule_from : (tied vector : ℕ → Bool) (count : ℕ) (all : ℕ → Settled Time) (number : ℕ) (line : Line) (driver : Driver) → LawfulDriver count number driver
      → all number ≡ settle_driver kind tied vector number all line driver → LineRule kind tied vector all number line driver
  rule_from tied vector count all number line Input lawful is =
      let v = ap (λ (s : Settled Time). s.value) is in
      record { value_is = v; time_is = ap (λ (s : Settled Time). s.time) is ∙ ap (input_time kind (tied number) line) (sym v) }
  rule_from tied vector count all number line (Output cell) lawful is =
      let v = ap (λ (s : Settled Time). s.value) is in
      let r : ℕ = pin_row (values_of all) cell in
      let from : Time = decide kind cell.table cell.count r (λ pin. times_of all (feeder cell pin)) in
      record {
        value_is = v;
        from = from;
        decided = decide_decided kind laws cell.table cell.count r (λ pin. times_of all (feeder cell pin)) (row_below cell.count _) lawful.1.some_pins;
        time_is = ap (λ (s : Settled Time). s.time) is ∙ ap (λ (u : Bool). kind.after from (delay_at line u)) (sym v);
      }

  -- all that agrees with what is settled follows the rules
  pub follows : (tied : ℕ → Bool) (lines : List Line) (vector : ℕ → Bool) → Lawful lines → (all : ℕ → Settled Time)
      → ((number : ℕ) → number < length lines → all number ≡ settled_line kind (settled kind tied lines vector) number) → Settles kind tied lines vector all
  follows tied lines vector lawful all same number h =
      let line : Line = line_at lines number in
      let ok : LawfulDriver (inputs lines) number line.driver = (lawful_at lines number no_line lawful h).in_order in
      rule_from tied vector (inputs lines) all number line line.driver ok
      (same number h ∙ settled_driver tied lines vector lawful number h ∙ driver_same tied vector (inputs lines) number _ _ (λ below b. sym (same below (omega arith))) line line.driver ok)

  -- Delays no greater

  abbrev NoLaterLine : Settled Time → Settled Time → Type 0
  NoLaterLine early late = (early.value ≡ late.value) × NoLater kind early.time late.time

  -- where a delay no greater ends no later
  abbrev EndsNoLater : Line → Line → Type 0
  EndsNoLater short long = (from : Time) (value : Bool) → NoLater kind (kind.after from (delay_at short value)) (kind.after from (delay_at long value))

  module _ (tied vector : ℕ → Bool) (number : ℕ) (early late : ℕ → Settled Time) (short long : Line) (ends : EndsNoLater short long) where
    delay_later : (v w : Bool) (a b : Time) → v ≡ w → NoLater kind a b → NoLater kind (kind.after a (delay_at short v)) (kind.after b (delay_at long w))
    delay_later v w a b same earlier =
        subst (λ (u : Bool). NoLater kind (kind.after a (delay_at short v)) (kind.after b (delay_at long u))) same
        (laws.transitive _ _ _ (laws.same_delay a b (delay_at short v) earlier) (ends b v))

    settles_earlier : (driver : Driver) → ((cell : Cell) (pin : ℕ) → driver ≡ Output cell → pin < cell.count → NoLaterLine (early (feeder cell pin)) (late (feeder cell pin)))
        → LineRule kind tied vector early number short driver → LineRule kind tied vector late number long driver → NoLaterLine (early number) (late number)
    settles_earlier Input pins e l =
        let same : (early number).value ≡ (late number).value = e.value_is ∙ sym l.value_is in
        (same, subst (λ (t : Time). NoLater kind t (late number).time) (sym e.time_is) (subst (λ (t : Time). NoLater kind (input_time kind (tied number) short (early number).value) t) (sym l.time_is) (delay_later _ _ kind.start kind.start same (never_later kind laws kind.start))))
    settles_earlier (Output cell) pins e l =
        let at : (pin : ℕ) → pin < cell.count → NoLaterLine (early (feeder cell pin)) (late (feeder cell pin)) = λ pin p. pins cell pin refl p in
        let rows : pin_row (values_of early) cell ≡ pin_row (values_of late) cell = row_same cell.count _ _ (λ pin p. (at pin p).0) in
        let same : (early number).value ≡ (late number).value = e.value_is ∙ ap (bit cell.table) rows ∙ sym l.value_is in
        let sooner : NoLater kind e.from l.from
        = decided_earlier kind laws cell.table cell.count (pin_row (values_of late) cell) _ _ e.from l.from (λ pin p. (at pin p).1)
        (subst (λ (r : ℕ). Decided kind cell.table cell.count r (λ pin. times_of early (feeder cell pin)) e.from) rows e.decided) l.decided in
        (same, subst (λ (t : Time). NoLater kind t (late number).time) (sym e.time_is) (subst (λ (t : Time). NoLater kind (kind.after e.from (delay_at short (early number).value)) t) (sym l.time_is) (delay_later _ _ e.from l.from same sooner)))

  pub all_earlier : (tied vector : ℕ → Bool) (short long : List Line) → Lawful long → length short ≡ length long
      → ((number : ℕ) → number < length long → ((line_at short number).driver ≡ (line_at long number).driver) × EndsNoLater (line_at short number) (line_at long number))
      → (early late : ℕ → Settled Time) → Settles kind tied short vector early → Settles kind tied long vector late → (number : ℕ) → number < length long → NoLaterLine (early number) (late number)
  all_earlier tied vector short long lawful as_many shorter early late e l =
      line_by_line (λ number. number < length long → NoLaterLine (early number) (late number))
      (λ number below h.
      let ok : LawfulDriver (inputs long) number (line_at long number).driver = (lawful_at long number no_line lawful h).in_order in
      settles_earlier tied vector number early late (line_at short number) (line_at long number) (shorter number h).1 (line_at long number).driver
      (λ cell pin is p. let lower : feeder cell pin < number = (subst (LawfulDriver (inputs long) number) is ok).1.lower pin p in below (feeder cell pin) lower (omega arith))
      (subst (LineRule kind tied vector early number (line_at short number)) (shorter number h).0 (e number (omega arith))) (l number h))

  pub shorter_settles_no_later : LongerLater kind → ShorterSettlesNoLater kind
  shorter_settles_no_later longer tied short long vector lawful_short lawful_long shorter line h =
      all_earlier tied vector short long lawful_long shorter.as_many
      (λ number n. ((shorter.each number n).same_driver, λ from value. longer from _ _ ((shorter.each number n).no_greater value)))
      _ _ (follows tied short vector lawful_short _ (λ number n. refl)) (follows tied long vector lawful_long _ (λ number n. refl)) line h

  -- of two ways to settle by the rules, each settles every line no later than the other
  pub rules_give_settled : RulesGiveSettled kind
  rules_give_settled tied lines vector lawful = (
    follows tied lines vector lawful _ (λ number h. refl),
    λ all rules number h.
        let itself : (n : ℕ) → n < length lines → ((line_at lines n).driver ≡ (line_at lines n).driver) × EndsNoLater (line_at lines n) (line_at lines n) = λ n m. (refl, λ from value. never_later kind laws _) in
        let made = follows tied lines vector lawful (settled_line kind (settled kind tied lines vector)) (λ n m. refl) in
        let one = all_earlier tied vector lines lines lawful refl itself all _ rules made number h in
        let other = all_earlier tied vector lines lines lawful refl itself _ all made rules number h in
        λ i. record { value = one.0 i; time = laws.antisymmetric _ _ one.1 other.1 i },
  )
