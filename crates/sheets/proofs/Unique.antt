-- A text has at most one reading as forms. Assumes nothing.
use Rattle.std.proofs.Common.{◌≡◌, ℕ, Bool, true, false, ◌||◌, eqb, List, [], ◌∷◌, ◌++◌, sym, refl, ap, ◌∙◌, inl, inr, append_assoc, arith, eq-eqb}
use Rattle.std.proofs.lemmas.Bool.{or_left, or_right}
use Rattle.names.specs.Names.{letter, digit, name_byte}
use Rattle.sheets.proofs.Letters.{Starred, name_parts, word_parts}
use Rattle.sheets.specs.Sheet.{Each, Name, Delay, Pins, Form, LawfulPins, LawfulCell, LawfulForm, LawfulForms, pins_text, cell_text, form_text, sheet_text}

-- a byte of a name, a cell word or a delay
abbrev word_byte : ℕ → Bool
word_byte b = name_byte b || eqb b 42

clash : (b c : ℕ) → b ≡ c → word_byte b ≡ true → word_byte c ≡ false → ⊥
clash b c e h k = let z : true ≡ false = sym h ∙ ap word_byte e ∙ k in let y : ◌≡◌ {A = ℕ} 0 1 = cc in omega arith

-- two words that end at a byte of no word
cut : (n m : List ℕ) (c d : ℕ) (xs ys : List ℕ) → Each word_byte n → Each word_byte m → word_byte c ≡ false → word_byte d ≡ false → n ++ (c ∷ xs) ≡ m ++ (d ∷ ys) → (n ≡ m) × (c ∷ xs ≡ d ∷ ys)
cut [] [] c d xs ys p q h k e = (refl, e)
cut [] (y ∷ m) c d xs ys p q h k e = let z : y ≡ c = cc in absurd (clash y c z q.0 h)
cut (x ∷ n) [] c d xs ys p q h k e = let z : x ≡ d = cc in absurd (clash x d z p.0 k)
cut (x ∷ n) (y ∷ m) c d xs ys p q h k e =
    let first : x ≡ y = cc in
    let rest : n ++ (c ∷ xs) ≡ m ++ (d ∷ ys) = cc in
    let more = cut n m c d xs ys p.1 q.1 h k rest in
    ((λ i. first i ∷ more.0 i), more.1)

weaken : (f g : ℕ → Bool) (xs : List ℕ) → ((b : ℕ) → f b ≡ true → g b ≡ true) → Each f xs → Each g xs
weaken f g [] h a = tt
weaken f g (x ∷ xs) h a = (h x a.0, weaken f g xs h a.1)

of_name : (b : ℕ) → name_byte b ≡ true → word_byte b ≡ true
of_name b e = or_left (name_byte b) (eqb b 42) e

of_letter : (b : ℕ) → letter b ≡ true → word_byte b ≡ true
of_letter b e = of_name b (or_left (letter b) (digit b) e)

of_digit : (b : ℕ) → digit b ≡ true → word_byte b ≡ true
of_digit b e = of_name b (or_right (letter b) (digit b) e)

name_bytes : (n : List ℕ) → Name n → Each word_byte n
name_bytes [] h = tt
name_bytes (b ∷ bs) named = let h = name_parts (b ∷ bs) named in (of_letter b h.0, weaken name_byte word_byte bs of_name h.1)

starred_bytes : (n : List ℕ) → Starred n → Each word_byte n
starred_bytes [] h = absurd h
starred_bytes (b ∷ bs) (inl h) = (or_right (name_byte b) (eqb b 42) (eq-eqb b 42 h.0), starred_bytes bs h.1)
starred_bytes (b ∷ bs) (inr h) = (of_letter b h.0, weaken name_byte word_byte bs of_name h.1)

delay_bytes : (n : List ℕ) → Delay n → Each word_byte n
delay_bytes [] h = absurd h
delay_bytes (b ∷ bs) h = (of_digit b h.0, weaken digit word_byte bs of_digit h.1)

-- what follows a pin begins with a byte of no word
part : (ps : Pins) (rest : List ℕ) → (c : ℕ) × (tail : List ℕ) × (pins_text ps ++ (41 ∷ rest) ≡ c ∷ tail) × (word_byte c ≡ false)
part Pins.end rest = (41, rest, refl, refl)
part (Pins.name n ps) rest = (32, (n ++ pins_text ps) ++ (41 ∷ rest), refl, refl)
part (Pins.cell w d qs ps) rest = (32, (40 ∷ (w ++ (32 ∷ (d ++ (pins_text qs ++ (41 ∷ pins_text ps)))))) ++ (41 ∷ rest), refl, refl)

-- a word before pins
cut_pins : (n m : List ℕ) (ps qs : Pins) (xs ys : List ℕ) → Each word_byte n → Each word_byte m → n ++ (pins_text ps ++ (41 ∷ xs)) ≡ m ++ (pins_text qs ++ (41 ∷ ys)) → (n ≡ m) × (pins_text ps ++ (41 ∷ xs) ≡ pins_text qs ++ (41 ∷ ys))
cut_pins n m ps qs xs ys p q e =
    let a = part ps xs in
    let b = part qs ys in
    let r = cut n m a.0 b.0 a.1 b.1 p q a.3 b.3 (ap (λ v. n ++ v) (sym a.2) ∙ e ∙ ap (λ v. m ++ v) b.2) in
    (r.0, a.2 ∙ r.1 ∙ sym b.2)

no_bracket : (n rest xs : List ℕ) → Name n → n ++ rest ≡ 40 ∷ xs → ⊥
no_bracket [] rest xs h e = absurd (name_parts [] h)
no_bracket (b ∷ bs) rest xs h e = let z : b ≡ 40 = cc in clash b 40 z (of_letter b (name_parts (b ∷ bs) h).0) refl

cell_shape : (w d : List ℕ) (qs ps : Pins) (xs : List ℕ) → (w ++ (32 ∷ (d ++ (pins_text qs ++ (41 ∷ pins_text ps))))) ++ (41 ∷ xs) ≡ w ++ (32 ∷ (d ++ (pins_text qs ++ (41 ∷ (pins_text ps ++ (41 ∷ xs))))))
cell_shape w d qs ps xs = simp append_assoc

pins_unique : (ps qs : Pins) (xs ys : List ℕ) → LawfulPins ps → LawfulPins qs → pins_text ps ++ (41 ∷ xs) ≡ pins_text qs ++ (41 ∷ ys) → (ps ≡ qs) × (xs ≡ ys)
pins_unique Pins.end Pins.end xs ys l k e = (refl, cc)
pins_unique Pins.end (Pins.name m qs) xs ys l k e = let z : ◌≡◌ {A = ℕ} 41 32 = cc in absurd (omega arith)
pins_unique Pins.end (Pins.cell w d rs qs) xs ys l k e = let z : ◌≡◌ {A = ℕ} 41 32 = cc in absurd (omega arith)
pins_unique (Pins.name n ps) Pins.end xs ys l k e = let z : ◌≡◌ {A = ℕ} 41 32 = cc in absurd (omega arith)
pins_unique (Pins.cell w d rs ps) Pins.end xs ys l k e = let z : ◌≡◌ {A = ℕ} 41 32 = cc in absurd (omega arith)
pins_unique (Pins.name n ps) (Pins.name m qs) xs ys l k e =
    let tails : (n ++ pins_text ps) ++ (41 ∷ xs) ≡ (m ++ pins_text qs) ++ (41 ∷ ys) = cc in
    let r = cut_pins n m ps qs xs ys (name_bytes n l.0) (name_bytes m k.0) (sym (append_assoc n (pins_text ps) (41 ∷ xs)) ∙ tails ∙ append_assoc m (pins_text qs) (41 ∷ ys)) in
    let more = pins_unique ps qs xs ys l.1 k.1 r.1 in
    ((λ i. Pins.name (r.0 i) (more.0 i)), more.1)
pins_unique (Pins.name n ps) (Pins.cell w d rs qs) xs ys l k e =
    let tails : (n ++ pins_text ps) ++ (41 ∷ xs) ≡ 40 ∷ ((w ++ (32 ∷ (d ++ (pins_text rs ++ (41 ∷ pins_text qs))))) ++ (41 ∷ ys)) = cc in
    absurd (no_bracket n _ _ l.0 (sym (append_assoc n (pins_text ps) (41 ∷ xs)) ∙ tails))
pins_unique (Pins.cell w d rs ps) (Pins.name m qs) xs ys l k e =
    let tails : (m ++ pins_text qs) ++ (41 ∷ ys) ≡ 40 ∷ ((w ++ (32 ∷ (d ++ (pins_text rs ++ (41 ∷ pins_text ps))))) ++ (41 ∷ xs)) = cc in
    absurd (no_bracket m _ _ k.0 (sym (append_assoc m (pins_text qs) (41 ∷ ys)) ∙ tails))
pins_unique (Pins.cell w d rs ps) (Pins.cell v f ts qs) xs ys l k e =
    let tails : (w ++ (32 ∷ (d ++ (pins_text rs ++ (41 ∷ pins_text ps))))) ++ (41 ∷ xs) ≡ (v ++ (32 ∷ (f ++ (pins_text ts ++ (41 ∷ pins_text qs))))) ++ (41 ∷ ys) = cc in
    let words = cut w v 32 32 _ _ (starred_bytes w (word_parts w l.0.0).0) (starred_bytes v (word_parts v k.0.0).0) refl refl (sym (cell_shape w d rs ps xs) ∙ tails ∙ cell_shape v f ts qs ys) in
    let after : d ++ (pins_text rs ++ (41 ∷ (pins_text ps ++ (41 ∷ xs)))) ≡ f ++ (pins_text ts ++ (41 ∷ (pins_text qs ++ (41 ∷ ys)))) = let same = words.1 in cc in
    let delays = cut_pins d f rs ts _ _ (delay_bytes d l.0.1) (delay_bytes f k.0.1) after in
    let inner = pins_unique rs ts _ _ l.0.3 k.0.3 delays.1 in
    let more = pins_unique ps qs xs ys l.1 k.1 inner.1 in
    ((λ i. Pins.cell (words.0 i) (delays.0 i) (inner.0 i) (more.0 i)), more.1)

cell_unique : (w d v f : List ℕ) (rs ts : Pins) (xs ys : List ℕ) → LawfulCell w d rs → LawfulCell v f ts → cell_text w d rs ++ xs ≡ cell_text v f ts ++ ys → (w ≡ v) × (d ≡ f) × (rs ≡ ts) × (xs ≡ ys)
cell_unique w d v f rs ts xs ys l k e =
    let shape : cell_text w d rs ++ xs ≡ 40 ∷ (w ++ (32 ∷ (d ++ (pins_text rs ++ (41 ∷ xs))))) = simp append_assoc in
    let shape_too : cell_text v f ts ++ ys ≡ 40 ∷ (v ++ (32 ∷ (f ++ (pins_text ts ++ (41 ∷ ys))))) = simp append_assoc in
    let both : 40 ∷ (w ++ (32 ∷ (d ++ (pins_text rs ++ (41 ∷ xs))))) ≡ 40 ∷ (v ++ (32 ∷ (f ++ (pins_text ts ++ (41 ∷ ys))))) = sym shape ∙ e ∙ shape_too in
    let tails : w ++ (32 ∷ (d ++ (pins_text rs ++ (41 ∷ xs)))) ≡ v ++ (32 ∷ (f ++ (pins_text ts ++ (41 ∷ ys)))) = cc in
    let words = cut w v 32 32 _ _ (starred_bytes w (word_parts w l.0).0) (starred_bytes v (word_parts v k.0).0) refl refl tails in
    let after : d ++ (pins_text rs ++ (41 ∷ xs)) ≡ f ++ (pins_text ts ++ (41 ∷ ys)) = let same = words.1 in cc in
    let delays = cut_pins d f rs ts _ _ (delay_bytes d l.1) (delay_bytes f k.1) after in
    let inner = pins_unique rs ts _ _ l.3 k.3 delays.1 in
    (words.0, delays.0, inner.0, inner.1)

form_unique : (f g : Form) (xs ys : List ℕ) → LawfulForm f → LawfulForm g → form_text f ++ (10 ∷ xs) ≡ form_text g ++ (10 ∷ ys) → (f ≡ g) × (xs ≡ ys)
form_unique (Form.input n d) (Form.line m w e ps) xs ys l k h = let z : ◌≡◌ {A = ℕ} 105 108 = cc in absurd (omega arith)
form_unique (Form.line m w e ps) (Form.input n d) xs ys l k h = let z : ◌≡◌ {A = ℕ} 105 108 = cc in absurd (omega arith)
form_unique (Form.input n d) (Form.input m f) xs ys l k h =
    let tails : (n ++ (32 ∷ (d ++ (41 ∷ [])))) ++ (10 ∷ xs) ≡ (m ++ (32 ∷ (f ++ (41 ∷ [])))) ++ (10 ∷ ys) = cc in
    let shape : (n ++ (32 ∷ (d ++ (41 ∷ [])))) ++ (10 ∷ xs) ≡ n ++ (32 ∷ (d ++ (41 ∷ (10 ∷ xs)))) = simp append_assoc in
    let shape_too : (m ++ (32 ∷ (f ++ (41 ∷ [])))) ++ (10 ∷ ys) ≡ m ++ (32 ∷ (f ++ (41 ∷ (10 ∷ ys)))) = simp append_assoc in
    let names = cut n m 32 32 _ _ (name_bytes n l.0) (name_bytes m k.0) refl refl (sym shape ∙ tails ∙ shape_too) in
    let after : d ++ (41 ∷ (10 ∷ xs)) ≡ f ++ (41 ∷ (10 ∷ ys)) = let same = names.1 in cc in
    let delays = cut d f 41 41 _ _ (delay_bytes d l.1) (delay_bytes f k.1) refl refl after in
    let last : xs ≡ ys = let same = delays.1 in cc in
    ((λ i. Form.input (names.0 i) (delays.0 i)), last)
form_unique (Form.line n w d ps) (Form.line m v f qs) xs ys l k h =
    let tails : (n ++ (32 ∷ (cell_text w d ps ++ (41 ∷ [])))) ++ (10 ∷ xs) ≡ (m ++ (32 ∷ (cell_text v f qs ++ (41 ∷ [])))) ++ (10 ∷ ys) = cc in
    let shape : (n ++ (32 ∷ (cell_text w d ps ++ (41 ∷ [])))) ++ (10 ∷ xs) ≡ n ++ (32 ∷ (cell_text w d ps ++ (41 ∷ (10 ∷ xs)))) = simp append_assoc in
    let shape_too : (m ++ (32 ∷ (cell_text v f qs ++ (41 ∷ [])))) ++ (10 ∷ ys) ≡ m ++ (32 ∷ (cell_text v f qs ++ (41 ∷ (10 ∷ ys)))) = simp append_assoc in
    let names = cut n m 32 32 _ _ (name_bytes n l.0) (name_bytes m k.0) refl refl (sym shape ∙ tails ∙ shape_too) in
    let after : cell_text w d ps ++ (41 ∷ (10 ∷ xs)) ≡ cell_text v f qs ++ (41 ∷ (10 ∷ ys)) = let same = names.1 in cc in
    let cells = cell_unique w d v f ps qs _ _ l.1 k.1 after in
    let last : xs ≡ ys = let same = cells.3 in cc in
    ((λ i. Form.line (names.0 i) (cells.0 i) (cells.1 i) (cells.2 i)), last)

not_empty : (f : Form) (xs : List ℕ) → [] ≡ form_text f ++ xs → ⊥
not_empty (Form.input n d) xs e = let z : ◌≡◌ {A = ℕ} 0 1 = cc in omega arith
not_empty (Form.line n w d ps) xs e = let z : ◌≡◌ {A = ℕ} 0 1 = cc in omega arith

-- one text, one list of forms
pub forms_unique : (fs gs : List Form) → LawfulForms fs → LawfulForms gs → sheet_text fs ≡ sheet_text gs → fs ≡ gs
forms_unique [] [] l k e = refl
forms_unique [] (g ∷ gs) l k e = absurd (not_empty g _ e)
forms_unique (f ∷ fs) [] l k e = absurd (not_empty f _ (sym e))
forms_unique (f ∷ fs) (g ∷ gs) l k e =
    let first = form_unique f g _ _ l.0 k.0 e in
    let rest = forms_unique fs gs l.1 k.1 first.1 in
    (λ i. first.0 i ∷ rest i)
