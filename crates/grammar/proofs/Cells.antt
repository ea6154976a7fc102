-- What the readers of a cell, a pin and pins come to, from what each call in them read. Assumes nothing.
use Rattle.std.proofs.Common.{◌≡◌, ℕ, zero, suc, ◌+◌, ◌-◌, ◌<◌, ◌≤◌, true, false, cond, eqb, leb, List, [], ◌∷◌, ◌++◌, length, Some, sym, refl, ap, ◌∙◌, subst, inl, inr, append_assoc, arith, length-append, length-drop}
use borrow.Author.Tests.{lt-leb}
use Rattle.sheets.specs.Sheet.{Name, CellWord, Delay, Pins, pin_count, pins_text, cell_text}
use Rattle.sheets.specs.Words.{SheetWord, opens_cell, closes, pins_place, pins_words, cell_words}
use Rattle.sheets.specs.Recogniser.{Item, Outcome, step, open_brackets, outcome, cell_rest}
use Rattle.sheets.proofs.Complete.{goes, left, cell_run}
use Rattle.names.specs.Names.{letter}
use Rattle.grammar.specs.declared.fault.GrammarFault.{GrammarFault}
use Rattle.grammar.specs.declared.fault.GrammarFault.TheVariants.{Broken, TooDeep}
use Rattle.grammar.specs.Readings.{At, rest, Took, NextIs, out, NotHere, Stops, Fails, WordRead, HeadRead, CellRead, PinRead, PinsRead}
use Rattle.grammar.proofs.Fronts.{broken_end}
use Rattle.grammar.proofs.Roads.{Road, road_on, took_then, took_as, step_on, byte_on, stuck, stuck_on, other_byte, broken_there, ends_as}

-- what may follow an item, where there is room for so many cells in one another
abbrev pub Fit : ℕ → List Item → Type 0
Fit room s = open_brackets s + room ≡ 9

-- A cell's opening bracket.

pub cell_unopened : (room : ℕ) (a : At) (f : GrammarFault) → a.place ≤ length a.text → NotHere 40 a f → Stops (λ s. Item.cell ∷ s) room a f
unfolding step
cell_unopened room a f within n s ok = stuck Item.cell 40 s a f (λ c e. left (eqb c 40) _ _ e) (omega arith) refl within n

pub cell_opened : (room : ℕ) (a b : At) (ws : List SheetWord) → Took (40 ∷ []) ws a b → Road (Fit room) (λ s. Item.cell ∷ s) a cell_rest b (40 ∷ []) ws
unfolding step
cell_opened room a b ws took = record { took = took; leads = λ s ok. step_on (Item.cell ∷ s) (cell_rest s) 40 ws a b (omega arith) refl took }

over : (s : List Item) (bs : List ℕ) → 9 < open_brackets s → outcome 9 (Some s) bs ≡ Outcome.deep (suc (length bs))
unfolding outcome
over s [] h = left (leb (open_brackets s) 9) _ _ (lt-leb (open_brackets s) 9 h)
over s (b ∷ bs) h = left (leb (open_brackets s) 9) _ _ (lt-leb (open_brackets s) 9 h)

pub cell_too_deep : (room : ℕ) (a b : At) (ws : List SheetWord) → room ≡ 0 → a.place ≤ length a.text → Took (40 ∷ []) ws a b → Stops (λ s. Item.cell ∷ s) room a (TooDeep a.place)
cell_too_deep room a b ws none within took s ok =
    let long = ap length took.read in
    (within, (cell_opened room a b ws took).leads s ok ∙ over (cell_rest s) (rest b) (omega arith) ∙ ap Outcome.deep (omega (arith, long, length-drop a.place a.text)))

-- Pins.

-- a bracket opens a pin as it opens a cell
pin_as_cell : (t : List Item) (xs : List ℕ) → open_brackets t ≤ 9 → outcome 9 (Some (Item.pin ∷ t)) (40 ∷ xs) ≡ outcome 9 (Some (Item.cell ∷ t)) (40 ∷ xs)
unfolding step
pin_as_cell t xs ok = goes 9 (Item.pin ∷ t) 40 xs ok ∙ sym (goes 9 (Item.cell ∷ t) 40 xs ok)

pub pin_no_cell : (room : ℕ) (a : At) (f : GrammarFault) → NextIs 40 a true → Stops (λ s. Item.cell ∷ s) room a f → Stops (λ s. Item.pin ∷ s) room a f
pin_no_cell room a f (xs, r) n s ok =
    ends_as a.text f _ _ (ap (outcome 9 (Some (Item.pin ∷ s))) r ∙ pin_as_cell s xs (omega arith) ∙ sym (ap (outcome 9 (Some (Item.cell ∷ s))) r)) (n s ok)

-- without a bracket a pin is a name
as_name : (t : List Item) (r : List ℕ) → open_brackets t ≤ 9 → ((c : ℕ) (xs : List ℕ) → r ≡ c ∷ xs → eqb c 40 ≡ false) → outcome 9 (Some (Item.pin ∷ t)) r ≡ outcome 9 (Some (Item.name ∷ t)) r
unfolding step
as_name t [] ok h = broken_end Item.pin t ok refl ∙ sym (broken_end Item.name t ok refl)
as_name t (c ∷ xs) ok h =
    goes 9 (Item.pin ∷ t) c xs ok ∙ ap (λ o. outcome 9 (cond (letter c) (Some (Item.name_rest 7 ∷ t)) o) xs) (left (eqb c 40) _ _ (h c xs refl)) ∙ sym (goes 9 (Item.name ∷ t) c xs ok)

pub pin_of_name : (room : ℕ) (a b : At) → NextIs 40 a false → WordRead Name Item.name SheetWord.name a b → PinRead room a b
pin_of_name room a b h n = inl (record { bytes = n.bytes; lawful = n.lawful; took = n.took; moves = λ t ok. as_name t (rest a) ok (other_byte 40 a h) ∙ n.moves t ok })

pub pin_no_name : (room : ℕ) (a : At) (f : GrammarFault) → NextIs 40 a false → Fails (λ s. Item.name ∷ s) a f → Stops (λ s. Item.pin ∷ s) room a f
pin_no_name room a f h n s ok = ends_as a.text f _ _ (as_name s (rest a) (omega arith) (other_byte 40 a h)) (n s (omega arith))

pub cell_on : (room : ℕ) (t : List Item) (m n : At) → open_brackets t + room ≡ 9 → CellRead room m n → out (Item.cell ∷ t) m ≡ out t n
cell_on room t m n ok r =
    ap (outcome 9 (Some (Item.cell ∷ t))) r.took.read ∙ cell_run (outcome 9) 9 (goes 9) r.word r.digits r.pins t (rest n) (omega (arith, r.shallow)) r.lawful

pin_on : (room : ℕ) (t : List Item) (m n : At) → open_brackets t + room ≡ 9 → PinRead room m n → out (Item.pin ∷ t) m ≡ out t n
pin_on room t m n ok (inl r) = r.moves t (omega arith)
pin_on room t m n ok (inr r) = ap (outcome 9 (Some (Item.pin ∷ t))) r.took.read ∙ pin_as_cell t _ (omega arith) ∙ sym (ap (outcome 9 (Some (Item.cell ∷ t))) r.took.read) ∙ cell_on room t m n ok r

-- a pin on the road: its bytes and words, whichever it is
pub road_pin : (inner : ℕ) {Fits : List Item → Type 0} {asked : List Item → List Item} {a m n : At} {xs : List ℕ} {ws : List SheetWord} (next : List Item → List Item) → ((s : List Item) → Fits s → open_brackets (next s) + inner ≡ 9) → Road Fits asked a (λ s. Item.pin ∷ next s) m xs ws → PinRead inner m n → (ys : List ℕ) × ((vs : List SheetWord) × Road Fits asked a next n ys vs)
road_pin inner {m = m} {n = n} {xs = xs} {ws = ws} next low road (inl r) = (_, (_, road_on next road r.took (λ s ok. pin_on inner (next s) m n (low s ok) (inl r))))
road_pin inner {m = m} {n = n} {xs = xs} {ws = ws} next low road (inr r) = (_, (_, road_on next road r.took (λ s ok. pin_on inner (next s) m n (low s ok) (inr r))))

pub pins_end : (room most : ℕ) (a b : At) → Took (41 ∷ []) (closes a.place ∷ []) a b → PinsRead room most a b
pins_end room most a b took =
    let here : a.place ≡ a.place + length (pins_text Pins.end) = omega arith in
    record { pins = Pins.end; lawful = tt; few = omega arith; shallow = omega arith; took = took_as refl (ap (λ p. closes p ∷ []) here) took }

-- a pin and more pins
pub pins_more : (room k : ℕ) (p q r u : At) → Took (32 ∷ []) [] p q → PinRead room q r → PinsRead room k r u → (all : PinsRead room (suc k) p u) × (1 ≤ pin_count all.pins)
pins_more room k p q r u space (inl h) m =
    let n = h.bytes in
    let ps = m.pins in
    let long = length-append n (pins_text ps) in
    let at_q : q.place ≡ p.place + 1 = space.on in
    let at_r : r.place ≡ p.place + 1 + length n = omega (arith, space.on, h.took.on) in
    let last : r.place + length (pins_text ps) ≡ p.place + length (pins_text (Pins.name n ps)) = omega (arith, at_r, long) in (
      record {
        pins = Pins.name n ps;
        lawful = (h.lawful, m.lawful);
        few = omega (arith, m.few);
        shallow = m.shallow;
        took = took_as (ap (λ v. 32 ∷ v) (sym (append_assoc n (pins_text ps) (41 ∷ [])))) (λ i. SheetWord.name n (at_q i) ∷ (pins_words (at_r i) ps ++ (closes (last i) ∷ []))) (took_then space (took_then h.took m.took));
      },
      omega arith,
    )
pins_more room k p q r u space (inr h) m =
    let w = h.word in
    let d = h.digits in
    let qs = h.pins in
    let ps = m.pins in
    let inner = cell_text w d qs in
    let shape : 32 ∷ (inner ++ (pins_text ps ++ (41 ∷ []))) ≡ pins_text (Pins.cell w d qs ps) ++ (41 ∷ []) = simp append_assoc in
    let at_q : q.place ≡ p.place + 1 = space.on in
    let at_r : r.place ≡ p.place + 1 + length inner = omega (arith, space.on, h.took.on) in
    let long : length (inner ++ (pins_text ps ++ (41 ∷ []))) ≡ length inner + (length (pins_text ps) + 1) = length-append inner (pins_text ps ++ (41 ∷ [])) ∙ ap (λ v. length inner + v) (length-append (pins_text ps) (41 ∷ [])) in
    let whole : length (pins_text (Pins.cell w d qs ps) ++ (41 ∷ [])) ≡ length (pins_text (Pins.cell w d qs ps)) + 1 = length-append (pins_text (Pins.cell w d qs ps)) (41 ∷ []) in
    let last : r.place + length (pins_text ps) ≡ p.place + length (pins_text (Pins.cell w d qs ps)) = omega (arith, at_r, long, whole, ap length shape) in (
      record {
        pins = Pins.cell w d qs ps;
        lawful = (h.lawful, m.lawful);
        few = omega (arith, m.few);
        shallow = omega (arith, h.shallow, m.shallow);
        took = took_as shape ((λ i. cell_words (at_q i) w d qs ++ (pins_words (at_r i) ps ++ (closes (last i) ∷ []))) ∙ sym (append_assoc (cell_words (p.place + 1) w d qs) _ _)) (took_then space (took_then h.took m.took));
      },
      omega arith,
    )

-- where no pin and no closing bracket comes
pub pins_full : (room more : ℕ) (a : At) → more ≡ 0 → a.place ≤ length a.text → NextIs 41 a false → Stops (λ s. Item.pins more ∷ s) (room + 1) a (Broken a.place)
unfolding step
pins_full room zero a e within h s ok = stuck (Item.pins 0) 41 s a (Broken a.place) (λ c e. left (eqb c 41) _ _ e) (omega arith) refl within (refl, h)
pins_full room (suc k) a e within h s ok = absurd (omega arith)

pub pins_unspaced : (room k : ℕ) (a : At) (f : GrammarFault) → a.place ≤ length a.text → NextIs 41 a false → NotHere 32 a f → Stops (λ s. Item.pins (suc k) ∷ s) (room + 1) a f
unfolding step
pins_unspaced room k a f within h n s ok =
    broken_there a f _ within n.0 (stuck_on (Item.pins (suc k)) s (rest a) (λ c xs r. left (eqb c 41) _ _ (other_byte 41 a h c xs r) ∙ left (eqb c 32) _ _ (other_byte 32 a n.1 c xs r)) (omega arith) refl)

pub pins_spaced : (room k : ℕ) (a b : At) → Took (32 ∷ []) [] a b → Road (Fit (room + 1)) (λ s. Item.pins (suc k) ∷ s) a (λ s. Item.pin ∷ Item.pins k ∷ s) b (32 ∷ []) []
unfolding step
pins_spaced room k a b took = record { took = took; leads = λ s ok. step_on (Item.pins (suc k) ∷ s) (Item.pin ∷ Item.pins k ∷ s) 32 [] a b (omega arith) refl took }

-- the cell word and the delay
pub head_read : (a b c e : At) → WordRead CellWord (Item.word 7) SheetWord.cell_word a b → Took (32 ∷ []) [] b c → WordRead Delay Item.delay SheetWord.delay c e → HeadRead a e
head_read a b c e word space digits =
    let at_c : c.place ≡ a.place + length word.bytes + 1 = omega (arith, word.took.on, space.on) in
    record {
      word = word.bytes;
      digits = digits.bytes;
      lawful_word = word.lawful;
      lawful_delay = digits.lawful;
      took = took_as refl (λ i. SheetWord.cell_word word.bytes a.place ∷ SheetWord.delay digits.bytes (at_c i) ∷ []) (took_then word.took (took_then space digits.took));
      moves = λ s ok. word.moves (Item.byte 32 ∷ Item.delay ∷ s) ok ∙ byte_on 32 (Item.delay ∷ s) [] b c ok space ∙ digits.moves s ok;
    }

-- the whole cell
pub cell_read : (room : ℕ) (a b c e : At) → Took (40 ∷ []) (opens_cell a.place ∷ []) a b → HeadRead b c → (all : PinsRead room 4 c e) → 1 ≤ pin_count all.pins → CellRead (suc room) a e
cell_read room a b c e opened head all some =
    let w = head.word in
    let d = head.digits in
    let ps = all.pins in
    let shape : 40 ∷ ((w ++ (32 ∷ d)) ++ (pins_text ps ++ (41 ∷ []))) ≡ cell_text w d ps = simp append_assoc in
    let at_b : b.place ≡ a.place + 1 = opened.on in
    let long : length (w ++ (32 ∷ d)) ≡ length w + (1 + length d) = length-append w (32 ∷ d) ∙ ap (λ v. length w + v) (omega arith) in
    let at_c : c.place ≡ pins_place a.place w d = omega (arith, opened.on, head.took.on, long) in
    let whole : length ((w ++ (32 ∷ d)) ++ (pins_text ps ++ (41 ∷ []))) ≡ length (w ++ (32 ∷ d)) + (length (pins_text ps) + 1) = length-append (w ++ (32 ∷ d)) (pins_text ps ++ (41 ∷ [])) ∙ ap (λ v. length (w ++ (32 ∷ d)) + v) (length-append (pins_text ps) (41 ∷ [])) in
    let last : c.place + length (pins_text ps) ≡ a.place + length (cell_text w d ps) - 1 = omega (arith, at_c, long, whole, ap length shape) in
    record {
      word = w;
      digits = d;
      pins = ps;
      lawful = (head.lawful_word, head.lawful_delay, (some, all.few), all.lawful);
      shallow = omega (arith, all.shallow);
      took = took_as shape (λ i. opens_cell a.place ∷ SheetWord.cell_word w (at_b i) ∷ SheetWord.delay d (at_b i + length w + 1) ∷ (pins_words (at_c i) ps ++ (closes (last i) ∷ []))) (took_then opened (took_then head.took all.took));
    }

pub cell_sized : (room : ℕ) (r : ℕ) (a b : At) → suc room ≡ r → CellRead (suc room) a b → CellRead r a b
cell_sized room r a b e c = subst (λ n. CellRead n a b) e c
