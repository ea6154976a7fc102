-- The text of a sheet: its forms, how they are written, and where a text stops being one. Assumes nothing.
--     form           a line of the sheet: an input, or a line that a cell drives
--     pin            a name, or again a cell
--     Sheet text     the text is the writing of some forms, of any depth and length
--     Viable bytes   some sheet begins with the bytes
--     Broken         refusal 1: where no sheet is possible any more
--     TooDeep        refusal 7: where a ninth cell opens
use Rattle.std.specs.Prelude.{◌≡◌, ℕ, suc, pred, ◌<◌, ◌≤◌, max, Bool, true, cond, List, [], ◌∷◌, ◌++◌, length, take, codes, ◌==◌}
use Rattle.names.specs.Names.{digit, lawful_name, lawful_word}

-- Limits.

-- the most bytes of a sheet
abbrev pub max_sheet : ℕ
max_sheet = 65536

-- how many cells stand in one another at most, the outermost counted
abbrev pub max_depth : ℕ
max_depth = 8

-- the most digits of a delay
abbrev pub max_digits : ℕ
max_digits = 7

-- Names, cell words and delays, by their bytes.

abbrev pub Name : List ℕ → Type 0
Name bytes = lawful_name bytes ≡ true

abbrev pub CellWord : List ℕ → Type 0
CellWord bytes = lawful_word bytes ≡ true

abbrev pub Each : (ℕ → Bool) → List ℕ → Type 0
Each test [] = Unit {0}
Each test (b ∷ bs) = (test b ≡ true) × Each test bs

-- 1 to 7 digits; the first is 0 (byte 48) only where it stands alone
abbrev pub Delay : List ℕ → Type 0
Delay [] = ⊥
Delay (b ∷ bs) = (digit b ≡ true) × Each digit bs × (length bs < max_digits) × (b ≡ 48 → bs ≡ [])

-- The forms. A word is held by its bytes.

-- the pins of a cell in their order; a pin is a name or again a cell
pub data Pins : Type 0 where
  end : Pins
  name : (line : List ℕ) (next : Pins) → Pins
  cell : (word delay : List ℕ) (pins next : Pins) → Pins

pub data Form : Type 0 where
  input : (line delay : List ℕ) → Form
  line : (name word delay : List ℕ) (pins : Pins) → Form

abbrev pub pin_count : Pins → ℕ
pin_count end = 0
pin_count (name n ps) = suc (pin_count ps)
pin_count (cell w d qs ps) = suc (pin_count ps)

-- one to four
abbrev pub OneToFour : ℕ → Type 0
OneToFour n = (1 ≤ n) × (n ≤ 4)

abbrev pub LawfulPins : Pins → Type 0
LawfulPins end = Unit {0}
LawfulPins (name n ps) = Name n × LawfulPins ps
LawfulPins (cell w d qs ps) = (CellWord w × Delay d × OneToFour (pin_count qs) × LawfulPins qs) × LawfulPins ps

abbrev pub LawfulCell : List ℕ → List ℕ → Pins → Type 0
LawfulCell w d ps = CellWord w × Delay d × OneToFour (pin_count ps) × LawfulPins ps

abbrev pub LawfulForm : Form → Type 0
LawfulForm (input n d) = Name n × Delay d
LawfulForm (line n w d ps) = Name n × LawfulCell w d ps

abbrev pub LawfulForms : List Form → Type 0
LawfulForms [] = Unit {0}
LawfulForms (f ∷ fs) = LawfulForm f × LawfulForms fs

-- How deep cells stand, the outermost counted.

abbrev pub pins_depth : Pins → ℕ
pins_depth end = 0
pins_depth (name n ps) = pins_depth ps
pins_depth (cell w d qs ps) = max (suc (pins_depth qs)) (pins_depth ps)

abbrev pub form_depth : Form → ℕ
form_depth (input n d) = 0
form_depth (line n w d ps) = suc (pins_depth ps)

abbrev pub sheet_depth : List Form → ℕ
sheet_depth [] = 0
sheet_depth (f ∷ fs) = max (form_depth f) (sheet_depth fs)

-- How they are written: 32 is a space, 40 and 41 are the brackets, 10 is the line feed.

-- each pin after a space
abbrev pub pins_text : Pins → List ℕ
pins_text end = []
pins_text (name n ps) = 32 ∷ (n ++ pins_text ps)
pins_text (cell w d qs ps) = 32 ∷ (40 ∷ (w ++ (32 ∷ (d ++ (pins_text qs ++ (41 ∷ pins_text ps))))))

abbrev pub cell_text : List ℕ → List ℕ → Pins → List ℕ
cell_text w d ps = 40 ∷ (w ++ (32 ∷ (d ++ (pins_text ps ++ (41 ∷ [])))))

abbrev pub form_text : Form → List ℕ
form_text (input n d) = codes "(input " ++ (n ++ (32 ∷ (d ++ (41 ∷ []))))
form_text (line n w d ps) = codes "(line " ++ (n ++ (32 ∷ (cell_text w d ps ++ (41 ∷ []))))

-- each form on a line of its own
abbrev pub sheet_text : List Form → List ℕ
sheet_text [] = []
sheet_text (f ∷ fs) = form_text f ++ (10 ∷ sheet_text fs)

-- A text is a sheet, of any depth and length.
abbrev pub Sheet : List ℕ → Type 0
Sheet text = (fs : List Form) × LawfulForms fs × (sheet_text fs ≡ text)

-- Some sheet begins with these bytes.
abbrev pub Viable : List ℕ → Type 0
Viable bytes = (rest : List ℕ) × Sheet (bytes ++ rest)

-- Refusals of the text, by their number. A place is counted in bytes from 0.

-- how many brackets are open after the bytes, where n were open before
abbrev pub open_after : ℕ → List ℕ → ℕ
open_after n [] = n
open_after n (b ∷ bs) = open_after (cond (b == 40) (suc n) (cond (b == 41) (pred n) n)) bs

-- Some sheet begins with these bytes, and they leave ten brackets open: the form's, and those of one cell more than may stand in one another.
abbrev pub NineDeep : List ℕ → Type 0
NineDeep bytes = Viable bytes × (open_after 0 bytes ≡ suc (suc max_depth))

-- no byte before the place p opens a ninth cell
abbrev pub Shallow : List ℕ → ℕ → Type 0
Shallow text p = (q : ℕ) → q < p → NineDeep (take (suc q) text) → ⊥

-- 1: the bytes before p begin some sheet; with the byte at p, or with the end there, none is possible
pub record Broken (text : List ℕ) (p : ℕ) : Type 0 where
  pub within : p ≤ length text
  pub possible : Viable (take p text)
  pub byte : p < length text → Viable (take (suc p) text) → ⊥
  pub end : p ≡ length text → Sheet text → ⊥
  pub shallow : Shallow text p

-- 7: the byte at p is the first that opens a ninth cell
pub record TooDeep (text : List ℕ) (p : ℕ) : Type 0 where
  pub within : p < length text
  pub opens : NineDeep (take (suc p) text)
  pub shallow : Shallow text p
