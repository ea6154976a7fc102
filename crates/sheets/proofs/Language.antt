-- What a state of the recogniser still admits, and that each admits something. Assumes nothing.
use Rattle.std.proofs.Common.{◌≡◌, ℕ, suc, ◌≤◌, ◌⊎◌, List, [], ◌∷◌, ◌++◌, length, Some, None, codes, Option, refl, inl, inr, arith}
use Rattle.names.specs.Names.{digit, name_byte}
use Rattle.sheets.proofs.Letters.{Starred}
use Rattle.sheets.specs.Sheet.{Each, Name, Delay, Pins, Form, pin_count, LawfulPins, LawfulCell, LawfulForm, LawfulForms, pins_text, cell_text, form_text, sheet_text}
use Rattle.sheets.specs.Recogniser.{Item}

-- the bytes are those of a cell
abbrev pub IsCell : List ℕ → Type 0
IsCell xs = (w : List ℕ) × (d : List ℕ) × (ps : Pins) × LawfulCell w d ps × (cell_text w d ps ≡ xs)

-- the bytes are those of n or fewer pins, each after a space, and the closing bracket
abbrev pub IsPins : ℕ → List ℕ → Type 0
IsPins n xs = (ps : Pins) × LawfulPins ps × (pin_count ps ≤ n) × (pins_text ps ++ (41 ∷ []) ≡ xs)

abbrev pub Reads : Item → List ℕ → Type 0
Reads (Item.byte c) xs = c ∷ [] ≡ xs
Reads Item.name xs = Name xs
Reads (Item.name_rest k) xs = Each name_byte xs × (length xs ≤ k)
Reads (Item.word k) xs = Starred xs × (length xs ≤ suc k)
Reads Item.delay xs = Delay xs
Reads (Item.digits k) xs = Each digit xs × (length xs ≤ k)
Reads Item.cell xs = IsCell xs
Reads Item.pin xs = Name xs ⊎ IsCell xs
Reads (Item.pins k) xs = IsPins k xs
Reads Item.form xs = (f : Form) × LawfulForm f × (form_text f ≡ 40 ∷ (xs ++ (41 ∷ [])))
Reads Item.close xs = 41 ∷ [] ≡ xs
Reads Item.forms xs = (fs : List Form) × LawfulForms fs × (sheet_text fs ≡ xs)

-- the bytes are what the items read, one after the other
abbrev pub Lang : List Item → List ℕ → Type 0
Lang [] xs = xs ≡ []
Lang (i ∷ s) xs = (ys : List ℕ) × (zs : List ℕ) × (ys ++ zs ≡ xs) × Reads i ys × Lang s zs

abbrev pub LangO : Option (List Item) → List ℕ → Type 0
LangO None xs = ⊥
LangO (Some s) xs = Lang s xs

-- Each state admits some end.

shortest : (i : Item) → (xs : List ℕ) × Reads i xs
shortest (Item.byte c) = (c ∷ [], refl)
shortest Item.name = (codes "a", refl)
shortest (Item.name_rest k) = ([], (tt, omega arith))
shortest (Item.word k) = (codes "a", (inr (refl, tt), omega arith))
shortest Item.delay = (codes "0", (refl, tt, omega arith, λ e. refl))
shortest (Item.digits k) = ([], (tt, omega arith))
shortest Item.cell =
    (codes "(a 0 a)", (codes "a", codes "0", Pins.name (codes "a") Pins.end, (refl, (refl, tt, omega arith, λ e. refl), (omega arith, omega arith), (refl, tt)), refl))
shortest Item.pin = (codes "a", inl refl)
shortest (Item.pins k) = (codes ")", (Pins.end, tt, omega arith, refl))
shortest Item.form = (codes "input a 0", (Form.input (codes "a") (codes "0"), (refl, (refl, tt, omega arith, λ e. refl)), refl))
shortest Item.close = (41 ∷ [], refl)
shortest Item.forms = ([], ([], tt, refl))

pub some_end : (s : List Item) → (xs : List ℕ) × Lang s xs
some_end [] = ([], refl)
some_end (i ∷ s) =
    let here = shortest i in
    let rest = some_end s in
    (here.0 ++ rest.0, (here.0, rest.0, refl, here.1, rest.1))
