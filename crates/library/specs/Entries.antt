-- The entries of a library, which of them are bad, and what they assign. Assumes nothing.
--     is_for word pins entry         the entry is for that cell word and that number of pins
--     BadEntry entries number        no library has such an entry at that place
--     FirstBad entries number        it is the first of these
--     NoneBad entries                there are none
--     assigned entries word pins     the table of the entry for a word and a number of pins, or nothing
use Rattle.std.specs.Prelude.{◌≡◌, ℕ, ◌^◌, ◌<◌, ◌≤◌, Bool, true, false, cond, ◌&&◌, List, [], ◌∷◌, length, take, Some, None, Option, ◌==◌}
use Rattle.std.specs.List.{HoldsAt, ContainsAt as Has}
use Rattle.lines.specs.Limits.{max_pins}
use Rattle.names.specs.Kept.{bytes_of}
use Rattle.names.specs.Names.{lawful_name, same_word}
use Rattle.library.specs.declared.entry.Entry.{Entry}

abbrev pub name_of : Entry → List ℕ
name_of entry = bytes_of entry.name

abbrev pub is_for : List ℕ → ℕ → Entry → Bool
is_for word pins entry = entry.pins == pins && same_word (name_of entry) word

-- an entry that may not come after the earlier ones
pub data Bad (earlier : List Entry) (entry : Entry) : Type 0 where
  unlawful_name : lawful_name (name_of entry) ≡ false → Bad earlier entry
  no_pins : entry.pins ≡ 0 → Bad earlier entry
  too_many_pins : max_pins < entry.pins → Bad earlier entry
  bit_past_rows : 2 ^ (2 ^ entry.pins) ≤ entry.table → Bad earlier entry
  repeated : (other : Entry) → Has earlier other → is_for (name_of entry) entry.pins other ≡ true → Bad earlier entry

abbrev pub BadEntry : List Entry → ℕ → Type 0
BadEntry entries number = HoldsAt (Bad (take number entries)) entries number

pub record FirstBad (entries : List Entry) (number : ℕ) : Type 0 where
  pub within : number < length entries
  pub bad : BadEntry entries number
  pub first : (lower : ℕ) → lower < number → BadEntry entries lower → ⊥

abbrev pub NoneBad : List Entry → Type 0
NoneBad entries = (number : ℕ) → number < length entries → BadEntry entries number → ⊥

-- the first that is for them; where none is bad, there is one at most
abbrev pub assigned : List Entry → List ℕ → ℕ → Option ℕ
assigned [] word pins = None
assigned (entry ∷ entries) word pins = cond (is_for word pins entry) (Some entry.table) (assigned entries word pins)

-- some entry is for that word and that number of pins, and has that table
pub record HasTable (entries : List Entry) (word : List ℕ) (pins table : ℕ) : Type 0 where
  pub entry : Entry
  pub listed : Has entries entry
  pub for_them : is_for word pins entry ≡ true
  pub its_table : entry.table ≡ table

-- what is assigned is what the entries say, and nothing else is assigned
pub record AssignsByEntries (entries : List Entry) : Type 0 where
  pub from_entry : (word : List ℕ) (pins table : ℕ) → assigned entries word pins ≡ Some table → HasTable entries word pins table
  pub each_entry : (word : List ℕ) (pins table : ℕ) → HasTable entries word pins table → assigned entries word pins ≡ Some table
