-- Laws of lawful lines: there is one proof of them at most; a line by its number; one line more; another delay. Assumes nothing.
use mathlib.Core.List.{List, [], ◌∷◌, ◌++◌}
use mathlib.Core.Path.{◌≡◌, refl, sym, ap, subst, ◌∙◌}
use mathlib.Core.Logic.{∥∥₁_elim}
use Prim.Native.Nat.{ℕ, zero, suc, ◌+◌, ◌≤◌, ◌<◌}
use native.Mathlib.Bridge.{le_prop}
use native.Mathlib.Nat.{add-zero, zero-add, add-suc, suc-add, add_assoc, le_of_suc-le-suc}
use native.Mathlib.Omega.{arith}
use lib.ListN.{length, get_or}
use Rattle.lines.specs.declared.line.Cell.{Cell}
use Rattle.lines.specs.declared.line.Driver.{Driver}
use Rattle.lines.specs.declared.line.Driver.TheVariants.{Input, Output}
use Rattle.lines.specs.declared.line.Line.{Line}
use Rattle.lines.specs.Limits.{max_delay}
use Rattle.lines.specs.Lines.{input_count, inputs, LawfulCell, LawfulDriver, LawfulLine, LawfulFrom, Lawful}

-- One proof at most.

cell_one : (number : ℕ) (cell : Cell) (a b : LawfulCell number cell) → a ≡ b
cell_one number cell a b = λ i. record {
  some_pins = le_prop a.some_pins b.some_pins i;
  few_pins = le_prop a.few_pins b.few_pins i;
  table_fits = le_prop a.table_fits b.table_fits i;
  lower = λ pin h. le_prop (a.lower pin h) (b.lower pin h) i;
}

driver_one : (count number : ℕ) (driver : Driver) (a b : LawfulDriver count number driver) → a ≡ b
driver_one count number Input a b = le_prop a b
driver_one count number (Output cell) a b = λ i. (le_prop a.0 b.0 i, cell_one number cell a.1 b.1 i)

line_one : (count number : ℕ) (line : Line) (a b : LawfulLine count number line) → a ≡ b
line_one count number line a b = λ i. record { in_order = driver_one count number line.driver a.in_order b.in_order i; delay_fits = le_prop a.delay_fits b.delay_fits i }

from_one : (count number : ℕ) (lines : List Line) (a b : LawfulFrom count number lines) → a ≡ b
from_one count number [] a b = refl
from_one count number (line ∷ lines) a b = λ i. (line_one count number line a.0 b.0 i, from_one count (suc number) lines a.1 b.1 i)

-- so the lines of a struct, which keeps ∥ Lawful lines ∥₁ in a ghost field, are lawful
pub lawful_of : (lines : List Line) → ∥ Lawful lines ∥₁ → Lawful lines
lawful_of lines t = ∥∥₁_elim t (from_one (inputs lines) 0 lines) (λ x. x)

-- A line by its number.

lawful_at_from : (count from : ℕ) (lines : List Line) (i : ℕ) (e : Line) → LawfulFrom count from lines → i < length lines → LawfulLine count (from + i) (get_or lines i e)
lawful_at_from count from [] i e l h = absurd (omega arith)
lawful_at_from count from (line ∷ lines) zero e l h = subst (λ (n : ℕ). LawfulLine count n line) (sym (add-zero from)) l.0
lawful_at_from count from (line ∷ lines) (suc i) e l h =
    subst (λ (n : ℕ). LawfulLine count n (get_or lines i e)) (suc-add from i ∙ sym (add-suc from i)) (lawful_at_from count (suc from) lines i e l.1 (le_of_suc-le-suc h))

pub lawful_at : (lines : List Line) (i : ℕ) (e : Line) → Lawful lines → i < length lines → LawfulLine (inputs lines) i (get_or lines i e)
lawful_at lines i e l h = subst (λ (n : ℕ). LawfulLine (inputs lines) n (get_or lines i e)) (zero-add i) (lawful_at_from (inputs lines) 0 lines i e l h)

-- One line more.

pub inputs_push : (lines : List Line) (line : Line) → inputs (lines ++ (line ∷ [])) ≡ inputs lines + input_count line.driver
inputs_push [] line = omega arith
inputs_push (x ∷ lines) line = ap (λ n. input_count x.driver + n) (inputs_push lines line) ∙ sym (add_assoc (input_count x.driver) (inputs lines) (input_count line.driver))

input_count_few : (driver : Driver) → input_count driver ≤ 1
input_count_few Input = omega arith
input_count_few (Output cell) = omega arith

pub inputs_few : (lines : List Line) → inputs lines ≤ length lines
inputs_few [] = omega arith
inputs_few (x ∷ lines) = omega (arith, input_count_few x.driver, inputs_few lines)

from_push : (count number : ℕ) (lines : List Line) (line : Line) → LawfulFrom count number lines → LawfulLine count (number + length lines) line → LawfulFrom count number (lines ++ (line ∷ []))
from_push count number [] line l h = (subst (λ (n : ℕ). LawfulLine count n line) (add-zero number) h, tt)
from_push count number (x ∷ lines) line l h = (l.0, from_push count (suc number) lines line l.1 (subst (λ (n : ℕ). LawfulLine count n line) (add-suc number (length lines) ∙ sym (suc-add number (length lines))) h))

-- inputs only, of which there are more
from_more_inputs : (count more number : ℕ) (lines : List Line) → count ≤ more → inputs lines ≡ length lines → LawfulFrom count number lines → LawfulFrom more number lines
from_more_inputs count more number [] c e l = tt
from_more_inputs count more number (x ∷ lines) c e l =
    let one : input_count x.driver ≡ 1 = omega (arith, input_count_few x.driver, inputs_few lines) in
    let others : inputs lines ≡ length lines = omega arith in
    (record { in_order = wider x.driver one l.0.in_order; delay_fits = l.0.delay_fits }, from_more_inputs count more (suc number) lines c others l.1)
  where
    wider : (driver : Driver) → input_count driver ≡ 1 → LawfulDriver count number driver → LawfulDriver more number driver
    wider Input e h = omega arith
    wider (Output cell) e h = absurd (omega arith)

pub lawful_push_input : (lines : List Line) (delay : ℕ) → inputs lines ≡ length lines → delay ≤ max_delay → Lawful lines → Lawful (lines ++ (record { driver = Input; delay = delay } ∷ []))
lawful_push_input lines delay only fits l =
    let line : Line = record { driver = Input; delay = delay } in
    let count = inputs_push lines line in
    subst (λ n. LawfulFrom n 0 (lines ++ (line ∷ []))) (sym count)
    (from_push (inputs lines + 1) 0 lines line (from_more_inputs (inputs lines) (inputs lines + 1) 0 lines (omega arith) only l) (record { in_order = omega arith; delay_fits = fits }))

pub lawful_push_cell : (lines : List Line) (cell : Cell) (delay : ℕ) → LawfulCell (length lines) cell → delay ≤ max_delay → Lawful lines → Lawful (lines ++ (record { driver = Output cell; delay = delay } ∷ []))
lawful_push_cell lines cell delay ok fits l =
    let line : Line = record { driver = Output cell; delay = delay } in
    let count : inputs (lines ++ (line ∷ [])) ≡ inputs lines = inputs_push lines line ∙ add-zero (inputs lines) in
    subst (λ n. LawfulFrom n 0 (lines ++ (line ∷ []))) (sym count)
    (from_push (inputs lines) 0 lines line l (subst (λ (n : ℕ). LawfulLine (inputs lines) n line) (sym (zero-add (length lines))) (record { in_order = (inputs_few lines, ok); delay_fits = fits })))
