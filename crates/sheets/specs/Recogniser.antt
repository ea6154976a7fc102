-- A recogniser of sheets, byte by byte. Its state is the list of what is still to be read. Assumes nothing.
use Rattle.std.specs.Prelude.{ℕ, zero, suc, Bool, true, false, cond, List, [], ◌∷◌, length, Some, None, codes, Option, ◌==◌, nat_le}
use Rattle.names.specs.Names.{letter, digit, name_byte}
use Rattle.sheets.specs.Sheet.{max_depth}

pub data Item : Type 0 where
  -- this byte
  byte : ℕ → Item
  name : Item
  -- at most so many bytes more of a name
  name_rest : ℕ → Item
  -- stars and a name, with room for so many bytes after the next
  word : ℕ → Item
  delay : Item
  -- at most so many digits more
  digits : ℕ → Item
  cell : Item
  pin : Item
  -- at most so many pins more, each after a space, and the closing bracket
  pins : ℕ → Item
  -- what stands between a form's brackets
  form : Item
  -- a form's closing bracket
  close : Item
  forms : Item

-- the bytes, and then what s asks
abbrev pub bytes_then : List ℕ → List Item → List Item
bytes_then [] s = s
bytes_then (c ∷ cs) s = byte c ∷ bytes_then cs s

-- a cell after its opening bracket
abbrev pub cell_rest : List Item → List Item
cell_rest s = word 7 ∷ byte 32 ∷ delay ∷ byte 32 ∷ pin ∷ pins 3 ∷ s

-- what is still to be read after the byte b, where b is possible
unfoldable pub step : List Item → ℕ → Option (List Item)
step [] b = None
step (byte c ∷ s) b = cond (b == c) (Some s) None
step (name ∷ s) b = cond (letter b) (Some (name_rest 7 ∷ s)) None
step (name_rest zero ∷ s) b = step s b
step (name_rest (suc k) ∷ s) b = cond (name_byte b) (Some (name_rest k ∷ s)) (step s b)
step (word zero ∷ s) b = cond (letter b) (Some (name_rest 0 ∷ s)) None
step (word (suc k) ∷ s) b = cond (letter b) (Some (name_rest (suc k) ∷ s)) (cond (b == 42) (Some (word k ∷ s)) None)
step (delay ∷ s) b = cond (b == 48) (Some s) (cond (digit b) (Some (digits 6 ∷ s)) None)
step (digits zero ∷ s) b = step s b
step (digits (suc k) ∷ s) b = cond (digit b) (Some (digits k ∷ s)) (step s b)
step (cell ∷ s) b = cond (b == 40) (Some (cell_rest s)) None
step (pin ∷ s) b = cond (letter b) (Some (name_rest 7 ∷ s)) (cond (b == 40) (Some (cell_rest s)) None)
step (pins zero ∷ s) b = cond (b == 41) (Some s) None
step (pins (suc k) ∷ s) b = cond (b == 41) (Some s) (cond (b == 32) (Some (pin ∷ pins k ∷ s)) None)
step (form ∷ s) b =
    cond (b == 105) (Some (bytes_then (codes "nput ") (name ∷ byte 32 ∷ delay ∷ s)))
    (cond (b == 108) (Some (bytes_then (codes "ine ") (name ∷ byte 32 ∷ cell ∷ s))) None)
step (close ∷ s) b = cond (b == 41) (Some s) None
step (forms ∷ s) b = cond (b == 40) (Some (form ∷ close ∷ byte 10 ∷ forms ∷ s)) None

-- the state after the bytes, if each was possible
unfoldable pub after : Option (List Item) → List ℕ → Option (List Item)
after None bs = None
after (Some s) [] = Some s
after (Some s) (b ∷ bs) = after (step s b) bs

-- The same with a limit to the depth.

-- how many brackets are open: each cell waits for its pins, and the form for its closing bracket
abbrev pub open_brackets : List Item → ℕ
open_brackets [] = 0
open_brackets (pins k ∷ s) = suc (open_brackets s)
open_brackets (byte c ∷ s) = open_brackets s
open_brackets (name ∷ s) = open_brackets s
open_brackets (name_rest k ∷ s) = open_brackets s
open_brackets (word k ∷ s) = open_brackets s
open_brackets (delay ∷ s) = open_brackets s
open_brackets (digits k ∷ s) = open_brackets s
open_brackets (cell ∷ s) = open_brackets s
open_brackets (pin ∷ s) = open_brackets s
open_brackets (form ∷ s) = open_brackets s
open_brackets (forms ∷ s) = open_brackets s
open_brackets (close ∷ s) = suc (open_brackets s)

-- nothing more has to be read
abbrev pub may_end : List Item → Bool
may_end [] = true
may_end (name_rest k ∷ s) = may_end s
may_end (digits k ∷ s) = may_end s
may_end (forms ∷ s) = may_end s
may_end (pins k ∷ s) = false
may_end (byte c ∷ s) = false
may_end (name ∷ s) = false
may_end (word k ∷ s) = false
may_end (delay ∷ s) = false
may_end (cell ∷ s) = false
may_end (pin ∷ s) = false
may_end (form ∷ s) = false
may_end (close ∷ s) = false

-- the most brackets that may be open: a form's, and those of the cells that may stand in one another
abbrev pub most_open : ℕ
most_open = suc max_depth

-- How the reading of a text ends. Where it stops, the number is that of the bytes from there to the end.
pub data Outcome : Type 0 where
  whole : Outcome
  broken : (unread : ℕ) → Outcome
  deep : (unread : ℕ) → Outcome

-- the outcome of the bytes bs at a state that was just reached
unfoldable pub outcome : ℕ → Option (List Item) → List ℕ → Outcome
outcome limit None bs = broken (suc (length bs))
outcome limit (Some s) [] = cond (nat_le (open_brackets s) limit) (cond (may_end s) whole (broken 0)) (deep 1)
outcome limit (Some s) (b ∷ bs) = cond (nat_le (open_brackets s) limit) (outcome limit (step s b) bs) (deep (suc (suc (length bs))))
