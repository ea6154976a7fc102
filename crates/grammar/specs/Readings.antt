-- What each reader of the sheet has read, or where it stopped. Assumes nothing.
--     At                 where a reader stands
--     Took xs ws a b     from a to b the reader read the bytes xs and kept the words ws
--     Ends text f o      the recogniser's outcome o over the text is the fault f
--     Stops, Fails       the reading of what is asked ends at a fault
use Rattle.std.specs.Prelude.{◌≡◌, ℕ, suc, ◌+◌, ◌-◌, ◌≤◌, Bool, true, false, ◌⊎◌, List, [], ◌∷◌, ◌++◌, length, drop, Some, codes, ◌≢◌}
use Rattle.sheets.specs.Sheet.{max_depth, Form, LawfulForm, LawfulForms, form_text, sheet_text, form_depth, sheet_depth, Name, CellWord, Delay, Pins, pin_count, pins_depth, LawfulPins, LawfulCell, pins_text, cell_text}
use Rattle.sheets.specs.Words.{SheetWord, closes, pins_words, cell_words, form_words, sheet_words}
use Rattle.sheets.specs.Recogniser.{Item, Outcome, open_brackets, outcome, most_open, bytes_then}
use Rattle.grammar.specs.declared.fault.GrammarFault.{GrammarFault}
use Rattle.grammar.specs.declared.fault.GrammarFault.TheVariants.{TooLong, Broken, TooDeep}
use Rattle.grammar.specs.declared.word.Opening.{Opening}
use Rattle.grammar.specs.Views.{opened}

-- the text, a place in it, and the words that were read before it
pub record At : Type 0 where
  pub text : List ℕ
  pub place : ℕ
  pub words : List SheetWord

-- what is not read yet
abbrev pub rest : At → List ℕ
rest a = drop a.place a.text

pub record Took (xs : List ℕ) (ws : List SheetWord) (a b : At) : Type 0 where
  pub same_text : b.text ≡ a.text
  pub on : b.place ≡ a.place + length xs
  pub read : rest a ≡ xs ++ rest b
  pub kept : b.words ≡ a.words ++ ws

-- the next byte is b, or it is not
abbrev pub NextIs : ℕ → At → Bool → Type 0
NextIs b a true = (xs : List ℕ) × (rest a ≡ b ∷ xs)
NextIs b a false = (xs : List ℕ) → rest a ≢ b ∷ xs

-- the byte after the next is b, or it is not
abbrev pub SecondIs : ℕ → At → Bool → Type 0
SecondIs b a true = (c : ℕ) × ((xs : List ℕ) × (rest a ≡ c ∷ (b ∷ xs)))
SecondIs b a false = (c : ℕ) (xs : List ℕ) → rest a ≢ c ∷ (b ∷ xs)

-- the recogniser's outcome from there, where so much is still to be read
abbrev pub out : List Item → At → Outcome
out s a = outcome most_open (Some s) (rest a)

abbrev pub Ends : List ℕ → GrammarFault → Outcome → Type 0
Ends text TooLong o = ⊥
Ends text (Broken place) o = (place ≤ length text) × (o ≡ Outcome.broken (length text - place))
Ends text (TooDeep place) o = (place ≤ length text) × (o ≡ Outcome.deep (length text - place))

-- what is asked, before what s asks, with room for so many cells in one another
abbrev pub Stops : (List Item → List Item) → ℕ → At → GrammarFault → Type 0
Stops asked room a f = (s : List Item) → open_brackets s + room ≡ most_open → Ends a.text f (out (asked s) a)

-- the same where what is asked opens no cell
abbrev pub Fails : (List Item → List Item) → At → GrammarFault → Type 0
Fails asked a f = (s : List Item) → open_brackets s ≤ most_open → Ends a.text f (out (asked s) a)

-- the next byte is not b, and the fault is there
abbrev pub NotHere : ℕ → At → GrammarFault → Type 0
NotHere b a f = (f ≡ Broken a.place) × NextIs b a false

-- a word of the kind that Is says
pub record WordRead (Is : List ℕ → Type 0) (i : Item) (make : List ℕ → ℕ → SheetWord) (a b : At) : Type 0 where
  pub bytes : List ℕ
  pub lawful : Is bytes
  pub took : Took bytes (make bytes a.place ∷ []) a b
  pub moves : (s : List Item) → open_brackets s ≤ most_open → out (i ∷ s) a ≡ out s b

-- the cell word and the delay of a cell
abbrev pub head_items : List Item → List Item
head_items s = Item.word 7 ∷ Item.byte 32 ∷ Item.delay ∷ s

pub record HeadRead (a b : At) : Type 0 where
  pub word : List ℕ
  pub digits : List ℕ
  pub lawful_word : CellWord word
  pub lawful_delay : Delay digits
  pub took : Took (word ++ (32 ∷ digits)) (SheetWord.cell_word word a.place ∷ SheetWord.delay digits (a.place + length word + 1) ∷ []) a b
  pub moves : (s : List Item) → open_brackets s ≤ most_open → out (head_items s) a ≡ out s b

pub record CellRead (room : ℕ) (a b : At) : Type 0 where
  pub word : List ℕ
  pub digits : List ℕ
  pub pins : Pins
  pub lawful : LawfulCell word digits pins
  pub shallow : suc (pins_depth pins) ≤ room
  pub took : Took (cell_text word digits pins) (cell_words a.place word digits pins) a b

-- a name, or a cell
abbrev pub PinRead : ℕ → At → At → Type 0
PinRead room a b = WordRead Name Item.pin SheetWord.name a b ⊎ CellRead room a b

-- at most so many pins, each after a space, and the closing bracket
pub record PinsRead (room most : ℕ) (a b : At) : Type 0 where
  pub pins : Pins
  pub lawful : LawfulPins pins
  pub few : pin_count pins ≤ most
  pub shallow : pins_depth pins ≤ room
  pub took : Took (pins_text pins ++ (41 ∷ [])) (pins_words a.place pins ++ (closes (a.place + length (pins_text pins)) ∷ [])) a b

-- what is asked of a form on its line, and before what s asks
abbrev pub start_items : List ℕ → List Item → List Item
start_items word s = Item.byte 40 ∷ bytes_then word (Item.name ∷ Item.byte 32 ∷ s)

abbrev pub end_items : List Item → List Item
end_items s = Item.close ∷ Item.byte 10 ∷ s

abbrev pub input_items : List Item → List Item
input_items s = start_items (codes "input ") (Item.delay ∷ end_items s)

abbrev pub line_items : List Item → List Item
line_items s = start_items (codes "line ") (Item.cell ∷ end_items s)

-- the reading of forms from there on ends at the fault
abbrev pub NoForms : At → GrammarFault → Type 0
NoForms a f = Ends a.text f (out (Item.forms ∷ []) a)

-- the opening bracket of a form, its word, its name, and the space after it
pub record StartRead (opens : Opening) (word : List ℕ) (a b : At) : Type 0 where
  pub name : List ℕ
  pub lawful : Name name
  pub took : Took (40 ∷ (word ++ (name ++ (32 ∷ [])))) (opened opens (codes "(") a.place ∷ SheetWord.name name (a.place + 1 + length word) ∷ []) a b
  pub moves : (s : List Item) → open_brackets s ≤ most_open → out (start_items word s) a ≡ out s b

-- the closing bracket of a form, and its line feed
abbrev pub EndRead : At → At → Type 0
EndRead a b = Took (41 ∷ (10 ∷ [])) (closes a.place ∷ []) a b

pub record FormRead (a b : At) : Type 0 where
  pub form : Form
  pub lawful : LawfulForm form
  pub shallow : form_depth form ≤ max_depth
  pub took : Took (form_text form ++ (10 ∷ [])) (form_words a.place form) a b

-- the forms up to a place
pub record FormsRead (a b : At) : Type 0 where
  pub forms : List Form
  pub lawful : LawfulForms forms
  pub shallow : sheet_depth forms ≤ max_depth
  pub took : Took (sheet_text forms) (sheet_words a.place forms) a b

-- all that is left is forms, and these are the words now
pub record AllRead (a : At) (words : List SheetWord) : Type 0 where
  pub forms : List Form
  pub lawful : LawfulForms forms
  pub shallow : sheet_depth forms ≤ max_depth
  pub read : rest a ≡ sheet_text forms
  pub kept : words ≡ a.words ++ sheet_words a.place forms
