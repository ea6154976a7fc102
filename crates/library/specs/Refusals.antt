-- The refusal of a library: its number, and when it is met. Assumes nothing.
use Rattle.std.specs.Prelude.{ℕ, List, Ok, Err, Result}
use Rattle.library.specs.declared.entry.Entry.{Entry}
use Rattle.library.specs.declared.fault.LibraryFault.{LibraryFault}
use Rattle.library.specs.Entries.{FirstBad, NoneBad}

-- the number of the refusal, beside which stands that of the entry
abbrev pub number : LibraryFault → ℕ
number fault = 15

-- the number of a refusal that entries meet, and the number of an entry
pub data EntriesWrong (entries : List Entry) : ℕ → ℕ → Type 0 where
  bad_entry : (entry : ℕ) → FirstBad entries entry → EntriesWrong entries 15 entry

-- what the check of entries answers
abbrev pub EntriesChecked : List Entry → Result (Unit {0}) LibraryFault → Type 0
EntriesChecked entries (Ok _) = NoneBad entries
EntriesChecked entries (Err fault) = EntriesWrong entries (number fault) fault.entry
