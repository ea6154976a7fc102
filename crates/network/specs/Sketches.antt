-- What a draft holds: the lines, and beside them the names that some of them have. Assumes nothing.
--     Named names name line      the line has that name
--     FirstNamed names name line it is the first that has it
--     line_named i name names    the number of that line, if there is one, where the names are numbered from i
--     with_input, with_cell      what a draft holds with one line more
use Rattle.std.specs.Prelude.{◌≡◌, ℕ, suc, ◌-◌, ◌<◌, true, cond, List, [], ◌∷◌, ◌++◌, length, replicate, Some, None, Option, slice_index_or}
use Rattle.lines.specs.Limits.{max_pins}
use Rattle.lines.specs.declared.line.Driver.TheVariants.{Input, Output}
use Rattle.lines.specs.declared.line.Line.{Line}
use Rattle.names.specs.Kept.{bytes_of}
use Rattle.names.specs.Names.{same_word}
use Rattle.names.specs.declared.name.Name.{Name}

pub record Sketch : Type 0 where
  pub lines : List Line
  pub names : List (Option (List ℕ))

abbrev pub empty : Sketch
empty = record { lines = []; names = [] }

-- the bytes of a name, where there is one
abbrev pub name_bytes : Option Name → Option (List ℕ)
name_bytes None = None
name_bytes (Some name) = Some (bytes_of name)

pub record Named (names : List (Option (List ℕ))) (name : List ℕ) (line : ℕ) : Type 0 where
  pub own : List ℕ
  pub stands : slice_index_or names line None ≡ Some own
  pub same : same_word name own ≡ true

pub record FirstNamed (names : List (Option (List ℕ))) (name : List ℕ) (line : ℕ) : Type 0 where
  pub named : Named names name line
  pub first : (lower : ℕ) → lower < line → Named names name lower → ⊥

-- no line has it
abbrev pub NoneNamed : List (Option (List ℕ)) → List ℕ → Type 0
NoneNamed names name = (line : ℕ) → Named names name line → ⊥

-- the answer to a question for a name: the first line that has it, or nothing where none has
abbrev pub FirstLine : List (Option (List ℕ)) → List ℕ → Option ℕ → Type 0
FirstLine names name None = NoneNamed names name
FirstLine names name (Some line) = FirstNamed names name line

abbrev pub line_named : ℕ → List ℕ → List (Option (List ℕ)) → Option ℕ
line_named i name [] = None
line_named i name (None ∷ names) = line_named (suc i) name names
line_named i name (Some own ∷ names) = cond (same_word name own) (Some i) (line_named (suc i) name names)

abbrev pub input_line : ℕ → Line
input_line delay = record { driver = Input; delay = delay }

-- the pins in order, and 0 in the places behind them
abbrev pub places : List ℕ → List ℕ
places pins = pins ++ replicate (max_pins - length pins) 0

abbrev pub cell_line : ℕ → ℕ → List ℕ → Line
cell_line table delay pins = record { driver = Output (record { table = table; count = length pins; pins = places pins }); delay = delay }

abbrev pub with_input : Sketch → List ℕ → ℕ → Sketch
with_input s name delay = record { lines = s.lines ++ (input_line delay ∷ []); names = s.names ++ (Some name ∷ []) }

abbrev pub with_cell : Sketch → Option (List ℕ) → ℕ → ℕ → List ℕ → Sketch
with_cell s name table delay pins = record { lines = s.lines ++ (cell_line table delay pins ∷ []); names = s.names ++ (name ∷ []) }
