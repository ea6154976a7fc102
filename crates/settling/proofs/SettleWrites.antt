-- The buffers of values and times, one line more and when all lines are settled. Assumes nothing.
use Rattle.std.proofs.Common.{◌≡◌, ℕ, ◌+◌, ◌^◌, ◌<◌, ◌≤◌, Bool, false, List, ◌++◌, map, length, get_or, drop, set, sym, ap, ◌∙◌, subst, arith}
use lib.ListN.{length-map}
use Rattle.std.proofs.lemmas.List.{get_or-map}
use Rattle.lines.specs.declared.line.Cell.{Cell}
use Rattle.lines.specs.declared.line.Driver.TheVariants.{Output}
use Rattle.lines.specs.declared.line.Line.{Line}
use Rattle.lines.specs.Lines.{no_line, line_at, feeder, inputs, delay_at, LawfulCell, LawfulDriver, Lawful}
use Rattle.lines.proofs.Lawfuls.{lawful_at}
use Rattle.times.specs.Kind.{Kind, Laws}
use Rattle.cells.specs.Tables.{bit}
use Rattle.cells.specs.Deciding.{decide}
use Rattle.cells.proofs.Rows.{row_below}
use Rattle.cells.proofs.DecidingLaws.{decide_same}
use Rattle.settling.specs.declared.settle.Settled.{Settled}
use Rattle.settling.specs.Settle.{pin_row, values_of, times_of, Settles, nothing_settled, settled_line, settle_cell, settle_driver, settled, as_settled, settled_value, settled_time}
use Rattle.settling.proofs.Buffers.{written, written_at, written_more, written_all}
use Rattle.settling.proofs.SettleRules.{driver_same, settled_length, settled_driver, follows}

-- what the code works out for a cell is how its driver has it
pub cell_settles : {Time : Type 0} (kind : Kind Time) → Laws kind → (tied vector : ℕ → Bool) (count number : ℕ) (all : ℕ → Settled Time) (line : Line) (cell : Cell) → line.driver ≡ Output cell → LawfulDriver count number line.driver → (rowed : ℕ) (times : ℕ → Time) (value : Bool) (from at : Time)
    → rowed ≡ pin_row (values_of all) cell → ((pin : ℕ) → pin < cell.count → times pin ≡ times_of all (feeder cell pin))
    → value ≡ bit cell.table rowed → from ≡ decide kind cell.table cell.count rowed times → at ≡ kind.after from (delay_at line value)
    → ◌≡◌ {A = Settled Time} (record { value = value; time = at }) (settle_driver kind tied vector number all line line.driver)
cell_settles {Time} kind laws tied vector count number all line cell is lawful rowed times value from at rows pins bits decides delays =
    let below : rowed < 2 ^ cell.count = subst (λ (r : ℕ). r < 2 ^ cell.count) (sym rows) (row_below cell.count _) in
    let ok : LawfulCell number cell = (subst (LawfulDriver count number) is lawful).1 in
    let d : from ≡ decide kind cell.table cell.count rowed (λ pin. times_of all (feeder cell pin)) = decides ∙ decide_same kind laws cell.table cell.count rowed times _ below ok.some_pins pins in
    let t : at ≡ kind.after (decide kind cell.table cell.count rowed (λ pin. times_of all (feeder cell pin))) (delay_at line (bit cell.table rowed))
    = delays ∙ ap (λ (u : Bool). kind.after from (delay_at line u)) bits ∙ ap (λ (x : Time). kind.after x (delay_at line (bit cell.table rowed))) d in
    let made : ◌≡◌ {A = Settled Time} (record { value = value; time = at }) (settle_cell kind line cell rowed (λ pin. times_of all (feeder cell pin))) = λ i. record { value = bits i; time = t i } in
    made ∙ ap (λ (r : ℕ). settle_cell kind line cell r (λ pin. times_of all (feeder cell pin))) rows
    ∙ ap (settle_driver kind tied vector number all line) (sym is)

module _ {Time : Type 0} (kind : Kind Time) (laws : Laws kind) (tied : ℕ → Bool) (lines : List Line) (vector : ℕ → Bool) where
  abbrev everything : List (Settled Time)
  everything = settled kind tied lines vector

  -- as many as there are lines, of each field
  mapped : {X : Type 0} (field : Settled Time → X) → length (map field everything) ≡ length lines
  mapped field = length-map everything field ∙ settled_length kind laws tied lines vector

  -- what has been written so far of a field of each line
  field_at : {X : Type 0} (field : Settled Time → X) (number : ℕ) (buffer old : List X) → number ≤ length lines → buffer ≡ written number (map field everything) old
      → (d : X) (below : ℕ) → below < number → get_or buffer below d ≡ field (settled_line kind everything below)
  field_at {X} field number buffer old h is d below b =
      let long = settled_length kind laws tied lines vector in
      let all = mapped field in
      ap (λ (l : List X). get_or l below d) is ∙ written_at number (map field everything) old below d (omega arith) b ∙ get_or-map field everything below (nothing_settled kind) d (omega arith)

  -- one more of a field
  field_more : {X : Type 0} (field : Settled Time → X) (number : ℕ) (buffer old : List X) (x : X) → number < length lines → number < length old → buffer ≡ written number (map field everything) old
      → x ≡ field (settled_line kind everything number) → set buffer number x ≡ written (number + 1) (map field everything) old
  field_more {X} field number buffer old x h o is same =
      let long = settled_length kind laws tied lines vector in
      let all = mapped field in
      ap (λ (l : List X). set l number x) is
      ∙ written_more number (map field everything) old x (omega arith) o (same ∙ sym (get_or-map field everything number (nothing_settled kind) x (omega arith)))

  module _ (number : ℕ) (values old_values : List Bool) (times old_times : List Time) (is_v : values ≡ written number (map settled_value everything) old_values) (is_t : times ≡ written number (map settled_time everything) old_times) where
    so_far : number ≤ length lines → (below : ℕ) → below < number → as_settled kind values times below ≡ settled_line kind everything below
    so_far h below b = λ i. record { value = field_at settled_value number values old_values h is_v false below b i; time = field_at settled_time number times old_times h is_t kind.start below b i }

    pub settles_more : Lawful lines → number < length lines → number < length old_values → number < length old_times
        → (result : Settled Time) → result ≡ settle_driver kind tied vector number (as_settled kind values times) (line_at lines number) (line_at lines number).driver
        → (set values number result.value ≡ written (number + 1) (map settled_value everything) old_values) × (set times number result.time ≡ written (number + 1) (map settled_time everything) old_times)
    settles_more lawful h room_v room_t result told =
        let line : Line = line_at lines number in
        let same : result ≡ settled_line kind everything number
        = told ∙ driver_same kind laws tied vector (inputs lines) number _ _ (so_far (omega arith)) line line.driver (lawful_at lines number no_line lawful h).in_order
        ∙ sym (settled_driver kind laws tied lines vector lawful number h) in (
          field_more settled_value number values old_values result.value h room_v is_v (ap settled_value same),
          field_more settled_time number times old_times result.time h room_t is_t (ap settled_time same),
        )

    pub settles_all : Lawful lines → number ≡ length lines
        → (values ≡ map settled_value everything ++ drop (length lines) old_values) × (times ≡ map settled_time everything ++ drop (length lines) old_times) × Settles kind tied lines vector (as_settled kind values times)
    settles_all lawful done = (
      is_v ∙ ap (λ (n : ℕ). written n (map settled_value everything) old_values) done ∙ written_all (length lines) (map settled_value everything) old_values (mapped settled_value),
      is_t ∙ ap (λ (n : ℕ). written n (map settled_time everything) old_times) done ∙ written_all (length lines) (map settled_time everything) old_times (mapped settled_time),
      follows kind laws tied lines vector lawful (as_settled kind values times) (λ below b. so_far (omega arith) below (omega arith)),
    )
