-- The tables of the plain family: each is that of the gate that the word names, and its bits are that gate's outputs. Assumes nothing.
use Rattle.std.proofs.Common.{◌≡◌, ℕ, ◌^◌, ◌≤◌, Bool, true, false, cond, ◌&&◌, leb, List, Some, None, Option, sym, refl, ap, ◌∙◌, arith}
use Rattle.std.proofs.lemmas.Bool.{leb-true, le-leb, and_from, cond-true}
use Rattle.cells.specs.Tables.{bit}
use Rattle.cells.proofs.Rows.{bit_row}
use Rattle.gates.specs.declared.gate.Gate.{Gate}
use Rattle.gates.specs.Gates.{output, fewest, most, outputs, gate_table, gate_named, table_of, plain_tables}
use Rattle.gates.specs.Rules.{PlainTable, PlainOutputs, PlainAssigns}

pub record GateTable (gate : Gate) (pins table : ℕ) : Type 0 where
  pub enough : fewest gate ≤ pins
  pub few : pins ≤ most gate
  pub is : outputs gate pins ≡ table

gate_has : (gate : Gate) (pins table : ℕ) → gate_table gate pins ≡ Some table → GateTable gate pins table
gate_has gate pins table e = by (leb (fewest gate) pins) (leb pins (most gate)) refl refl e
  where
    by : (a b : Bool) → leb (fewest gate) pins ≡ a → leb pins (most gate) ≡ b → cond (a && b) (Some (outputs gate pins)) None ≡ Some table → GateTable gate pins table
    by true true low high h = record { enough = leb-true (fewest gate) pins low; few = leb-true pins (most gate) high; is = cc }
    by true false low high h = let z : ◌≡◌ {A = ℕ} 0 1 = cc in absurd (omega arith)
    by false b low high h = let z : ◌≡◌ {A = ℕ} 0 1 = cc in absurd (omega arith)

pub plain_has : (word : List ℕ) (pins table : ℕ) (gate : Gate) → plain_tables word pins ≡ Some table → gate_named word ≡ Some gate → GateTable gate pins table
plain_has word pins table gate e named = gate_has gate pins table (ap (λ (o : Option Gate). table_of o pins) (sym named) ∙ e)

pub plain_outputs : PlainOutputs
plain_outputs word pins table e = by (gate_named word) refl e
  where
    by : (o : Option Gate) → gate_named word ≡ o → table_of o pins ≡ Some table → PlainTable word pins table
    by None named h = let z : ◌≡◌ {A = ℕ} 0 1 = cc in absurd (omega arith)
    by (Some gate) named h =
        let t = gate_has gate pins table h in
        record {
          gate = gate;
          named = named;
          enough = t.enough;
          few = t.few;
          outputs = λ r below. ap (λ (n : ℕ). bit n r) (sym t.is) ∙ bit_row (2 ^ pins) (output gate pins) r below;
        }

pub plain_assigns : PlainAssigns
plain_assigns word pins gate named low high = (
  outputs gate pins,
  ap (λ (o : Option Gate). table_of o pins) named
      ∙ cond-true (leb (fewest gate) pins && leb pins (most gate)) (Some (outputs gate pins)) None
      (and_from (leb (fewest gate) pins) (leb pins (most gate)) (le-leb (fewest gate) pins low) (le-leb pins (most gate) high)),
)
