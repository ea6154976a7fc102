-- What the readers of a form and of the sheet come to. Assumes nothing.
use Rattle.std.proofs.Common.{◌≡◌, ℕ, ◌+◌, ◌-◌, ◌<◌, ◌≤◌, Bool, true, false, cond, eqb, List, [], ◌∷◌, ◌++◌, length, get_or, Some, codes, sym, refl, ap, ◌∙◌, subst, append_assoc, append-nil, arith, length-append, length-drop, eqb-true}
use Rattle.sheets.specs.Sheet.{max_sheet, max_depth, Name, Delay, Form, LawfulForm, LawfulForms, form_depth, sheet_depth, form_text, sheet_text, cell_text, Broken, TooDeep}
use Rattle.sheets.specs.Verdicts.{Judged}
use Rattle.sheets.specs.Words.{SheetWord, closes, cell_words, form_words, sheet_words}
use Rattle.sheets.specs.Recogniser.{Item, step, open_brackets, outcome, most_open, bytes_then}
use Rattle.sheets.proofs.Complete.{goes, taken, left, forms_run}
use Rattle.sheets.proofs.Verdict.{broken_verdict, deep_verdict}
use Rattle.grammar.specs.declared.fault.GrammarFault.{GrammarFault}
use Rattle.grammar.specs.declared.fault.GrammarFault.TheVariants
use Rattle.grammar.specs.declared.word.Opening.{Opening}
use Rattle.grammar.specs.declared.word.Opening.TheVariants as TheOpenings
use Rattle.grammar.specs.Views.{opened}
use Rattle.grammar.specs.Faults.{verdict}
use Rattle.grammar.specs.Readings.{At, rest, Took, SecondIs, out, Ends, Stops, WordRead, CellRead, StartRead, EndRead, input_items, line_items, end_items, NoForms, FormRead, FormsRead, AllRead}
use Rattle.grammar.proofs.Fronts.{broken_end}
use Rattle.grammar.proofs.Roads.{took_then, took_as, took_none, ends_as, byte_on, literal_on, flat}

-- A form, from what its parts read.

pub start_read : (opens : Opening) (text : List ℕ) (a b c d e : At) → Took (codes "(") (opened opens (codes "(") a.place ∷ []) a b → Took text [] b c → WordRead Name Item.name SheetWord.name c d → Took (32 ∷ []) [] d e → StartRead opens text a e
start_read opens text a b c d e bracket word name space =
    let at_c : c.place ≡ a.place + 1 + length text = omega (arith, bracket.on, word.on) in
    record {
      name = name.bytes;
      lawful = name.lawful;
      took = took_as refl (λ i. opened opens (codes "(") a.place ∷ SheetWord.name name.bytes (at_c i) ∷ []) (took_then bracket (took_then word (took_then name.took space)));
      moves = λ s ok.
          byte_on 40 (bytes_then text (Item.name ∷ Item.byte 32 ∷ s)) _ a b (omega (arith, flat text (Item.name ∷ Item.byte 32 ∷ s))) bracket
          ∙ literal_on text (Item.name ∷ Item.byte 32 ∷ s) [] b c ok word
          ∙ name.moves (Item.byte 32 ∷ s) ok
          ∙ byte_on 32 s [] d e ok space;
    }

-- the closing bracket is the last byte of a form
closed : (form : Form) {xs : List ℕ} {ws : List SheetWord} (a c d : At) → xs ≡ form_text form ++ (10 ∷ []) → Took xs ws a d → EndRead c d → c.place ≡ a.place + length (form_text form) - 1
closed form a c d shape took ended = omega (arith, took.on, ended.on, ap length shape, length-append (form_text form) (10 ∷ []))

pub input_read : (a b c d : At) → StartRead TheOpenings.Input (codes "input ") a b → WordRead Delay Item.delay SheetWord.delay b c → EndRead c d → FormRead a d
input_read a b c d start digits ended =
    let n = start.name in
    let v = digits.bytes in
    let form = Form.input n v in
    let shape : (40 ∷ (codes "input " ++ (n ++ (32 ∷ [])))) ++ (v ++ (41 ∷ (10 ∷ []))) ≡ form_text form ++ (10 ∷ []) = simp append_assoc in
    let took = took_then start.took (took_then digits.took ended) in
    let at_n : a.place + 1 + length (codes "input ") ≡ a.place + 7 = omega arith in
    let at_b : b.place ≡ a.place + 7 + length n + 1 = omega (arith, start.took.on, length-append n (32 ∷ [])) in
    let last = closed form a c d shape took ended in
    record {
      form = form;
      lawful = (start.lawful, digits.lawful);
      shallow = omega arith;
      took = took_as shape (λ i. SheetWord.input_open (codes "(") a.place ∷ SheetWord.name n (at_n i) ∷ SheetWord.delay v (at_b i) ∷ closes (last i) ∷ []) took;
    }

pub line_read : (a b c d : At) → StartRead TheOpenings.Line (codes "line ") a b → CellRead max_depth b c → EndRead c d → FormRead a d
line_read a b c d start cell ended =
    let n = start.name in
    let w = cell.word in
    let v = cell.digits in
    let ps = cell.pins in
    let form = Form.line n w v ps in
    let shape : (40 ∷ (codes "line " ++ (n ++ (32 ∷ [])))) ++ (cell_text w v ps ++ (41 ∷ (10 ∷ []))) ≡ form_text form ++ (10 ∷ []) = simp append_assoc in
    let took = took_then start.took (took_then cell.took ended) in
    let at_n : a.place + 1 + length (codes "line ") ≡ a.place + 6 = omega arith in
    let at_b : b.place ≡ a.place + 6 + length n + 1 = omega (arith, start.took.on, length-append n (32 ∷ [])) in
    let last = closed form a c d shape took ended in
    record {
      form = form;
      lawful = (start.lawful, cell.lawful);
      shallow = cell.shallow;
      took = took_as shape (λ i. SheetWord.line_open (codes "(") a.place ∷ SheetWord.name n (at_n i) ∷ (cell_words (at_b i) w v ps ++ (closes (last i) ∷ []))) took;
    }

-- A form is a line form or an input form, by its second byte.

abbrev start : List Item
start = Item.forms ∷ []

by_open : (c : ℕ) (xs : List ℕ) (t : List Item) (o : Bool) → eqb c 40 ≡ o → open_brackets t ≤ 9 → outcome 9 (Some (Item.form ∷ end_items start)) xs ≡ outcome 9 (Some t) xs → outcome 9 (Some start) (c ∷ xs) ≡ outcome 9 (Some (Item.byte 40 ∷ t)) (c ∷ xs)
unfolding step
by_open c xs t true e ok h =
    goes 9 start c xs (omega arith) ∙ ap (λ o. outcome 9 o xs) (taken (eqb c 40) _ _ e) ∙ h ∙ sym (goes 9 (Item.byte 40 ∷ t) c xs ok ∙ ap (λ o. outcome 9 o xs) (taken (eqb c 40) _ _ e))
by_open c xs t false e ok h =
    goes 9 start c xs (omega arith) ∙ ap (λ o. outcome 9 o xs) (left (eqb c 40) _ _ e) ∙ sym (goes 9 (Item.byte 40 ∷ t) c xs ok ∙ ap (λ o. outcome 9 o xs) (left (eqb c 40) _ _ e))

as_line : (a : At) → SecondIs 108 a true → out start a ≡ out (line_items start) a
unfolding step
as_line a (c, (xs, r)) =
    let lines = bytes_then (codes "line ") (Item.name ∷ Item.byte 32 ∷ Item.cell ∷ end_items start) in
    let inner : outcome 9 (Some (Item.form ∷ end_items start)) (108 ∷ xs) ≡ outcome 9 (Some lines) (108 ∷ xs) = goes 9 (Item.form ∷ end_items start) 108 xs (omega arith) ∙ sym (goes 9 lines 108 xs (omega arith)) in
    ap (outcome 9 (Some start)) r ∙ by_open c (108 ∷ xs) lines (eqb c 40) refl (omega arith) inner ∙ sym (ap (outcome 9 (Some (line_items start))) r)

input_second : (xs : List ℕ) → ((ys : List ℕ) → xs ≡ 108 ∷ ys → ⊥) → outcome 9 (Some (Item.form ∷ end_items start)) xs ≡ outcome 9 (Some (bytes_then (codes "input ") (Item.name ∷ Item.byte 32 ∷ Item.delay ∷ end_items start))) xs
unfolding step
input_second [] h = broken_end Item.form (end_items start) (omega arith) refl ∙ sym (broken_end (Item.byte 105) (bytes_then (codes "nput ") (Item.name ∷ Item.byte 32 ∷ Item.delay ∷ end_items start)) (omega arith) refl)
input_second (d ∷ ys) h =
    let inputs = bytes_then (codes "input ") (Item.name ∷ Item.byte 32 ∷ Item.delay ∷ end_items start) in
    goes 9 (Item.form ∷ end_items start) d ys (omega arith)
    ∙ ap (λ o. outcome 9 (cond (eqb d 105) (Some (bytes_then (codes "nput ") (Item.name ∷ Item.byte 32 ∷ Item.delay ∷ end_items start))) o) ys) (left (eqb d 108) _ _ (other (eqb d 108) refl))
    ∙ sym (goes 9 inputs d ys (omega arith))
  where
    other : (t : Bool) → eqb d 108 ≡ t → eqb d 108 ≡ false
    other true e = absurd (h ys (ap (λ v. v ∷ ys) (eqb-true d 108 e)))
    other false e = e

as_input : (a : At) (r : List ℕ) → rest a ≡ r → 0 < length r → SecondIs 108 a false → out start a ≡ out (input_items start) a
as_input a [] e l h = absurd (omega arith)
as_input a (c ∷ xs) e l h =
    ap (outcome 9 (Some start)) e ∙ by_open c xs _ (eqb c 40) refl (omega arith) (input_second xs (λ ys r. h c ys (e ∙ ap (λ v. c ∷ v) r))) ∙ sym (ap (outcome 9 (Some (input_items start))) e)

pub second_there : (b : ℕ) (a : At) (r : List ℕ) → r ≡ rest a → 2 ≤ length r → get_or r 1 0 ≡ b → SecondIs b a true
second_there b a [] e l h = absurd (omega arith)
second_there b a (c ∷ []) e l h = absurd (omega arith)
second_there b a (c ∷ (d ∷ xs)) e l h = (c, (xs, sym e ∙ ap (λ v. c ∷ (v ∷ xs)) h))

pub second_other : (b : ℕ) (a : At) (r : List ℕ) → r ≡ rest a → (2 ≤ length r → get_or r 1 0 ≡ b → ⊥) → SecondIs b a false
second_other b a r e n c xs h =
    let text : r ≡ c ∷ (b ∷ xs) = e ∙ h in
    n (omega (arith, ap length text)) (ap (λ v. get_or v 1 0) text)

pub line_stops : (a : At) (f : GrammarFault) → SecondIs 108 a true → Stops line_items most_open a f → NoForms a f
line_stops a f h n = ends_as a.text f _ _ (as_line a h) (n start (omega arith))

pub input_stops : (a : At) (f : GrammarFault) → a.place < length a.text → SecondIs 108 a false → Stops input_items most_open a f → NoForms a f
input_stops a f l h n = ends_as a.text f _ _ (as_input a (rest a) refl (omega (arith, length-drop a.place a.text)) h) (n start (omega arith))

-- Forms one after another.

sheet_text_push : (fs : List Form) (f : Form) → sheet_text (fs ++ (f ∷ [])) ≡ sheet_text fs ++ (form_text f ++ (10 ∷ []))
sheet_text_push [] f = refl
sheet_text_push (g ∷ fs) f = ap (λ v. form_text g ++ (10 ∷ v)) (sheet_text_push fs f) ∙ sym (append_assoc (form_text g) (10 ∷ sheet_text fs) (form_text f ++ (10 ∷ [])))

sheet_words_push : (at : ℕ) (fs : List Form) (f : Form) → sheet_words at (fs ++ (f ∷ [])) ≡ sheet_words at fs ++ form_words (at + length (sheet_text fs)) f
sheet_words_push at [] f = append-nil (form_words at f) ∙ ap (λ p. form_words p f) (let h : at ≡ at + 0 = omega arith in h)
sheet_words_push at (g ∷ fs) f =
    let next = at + length (form_text g) + 1 in
    let long : length (form_text g ++ (10 ∷ sheet_text fs)) ≡ length (form_text g) + (1 + length (sheet_text fs)) = length-append (form_text g) (10 ∷ sheet_text fs) ∙ ap (λ k. length (form_text g) + k) (omega arith) in
    let place : next + length (sheet_text fs) ≡ at + length (sheet_text (g ∷ fs)) = omega (arith, long) in
    ap (λ v. form_words at g ++ v) (sheet_words_push next fs f ∙ ap (λ p. sheet_words next fs ++ form_words p f) place) ∙ sym (append_assoc (form_words at g) (sheet_words next fs) (form_words (at + length (sheet_text (g ∷ fs))) f))

lawful_push : (fs : List Form) (f : Form) → LawfulForms fs → LawfulForm f → LawfulForms (fs ++ (f ∷ []))
lawful_push [] f l k = (k, tt)
lawful_push (g ∷ fs) f l k = (l.0, lawful_push fs f l.1 k)

depth_push : (fs : List Form) (f : Form) → sheet_depth fs ≤ max_depth → form_depth f ≤ max_depth → sheet_depth (fs ++ (f ∷ [])) ≤ max_depth
depth_push [] f l k = omega arith
depth_push (g ∷ fs) f l k = omega (arith, depth_push fs f (omega arith) k)

pub forms_none : (a : At) → FormsRead a a
forms_none a = record { forms = []; lawful = tt; shallow = omega arith; took = took_none a }

pub forms_more : (a m b : At) → FormsRead a m → FormRead m b → FormsRead a b
forms_more a m b fs f =
    let all = fs.forms in
    let one = f.form in
    record {
      forms = all ++ (one ∷ []);
      lawful = lawful_push all one fs.lawful f.lawful;
      shallow = depth_push all one fs.shallow f.shallow;
      took = took_as (sym (sheet_text_push all one)) (ap (λ p. sheet_words a.place all ++ form_words p one) fs.took.on ∙ sym (sheet_words_push a.place all one)) (took_then fs.took f.took);
    }

pub forms_stop : (a m : At) (f : GrammarFault) → FormsRead a m → NoForms m f → NoForms a f
forms_stop a m f fs n =
    ends_as a.text f _ _ (ap (outcome 9 (Some start)) fs.took.read ∙ forms_run (outcome 9) 9 (goes 9) fs.forms (rest m) (omega (arith, fs.shallow)) fs.lawful) (subst (λ t. Ends t f (out start m)) fs.took.same_text n)

pub forms_all : (a b : At) → FormsRead a b → rest b ≡ [] → AllRead a b.words
forms_all a b fs end = record {
  forms = fs.forms;
  lawful = fs.lawful;
  shallow = fs.shallow;
  read = fs.took.read ∙ ap (λ v. sheet_text fs.forms ++ v) end ∙ append-nil (sheet_text fs.forms);
  kept = fs.took.kept;
}

pub form_moves : (a b : At) → FormRead a b → a.place < b.place
form_moves a b f = let long = length-append (form_text f.form) (10 ∷ []) in omega (arith, f.took.on, long)

-- The verdict.

pub judged_fault : (text : List ℕ) (f : GrammarFault) → length text ≤ max_sheet → Ends text f (outcome 9 (Some start) text) → Judged text (verdict f)
judged_fault text TheVariants.TooLong short e = absurd e
judged_fault text (TheVariants.Broken place) short e =
    let here : length text - (length text - place) ≡ place = omega (arith, e.0) in
    Judged.is_broken short place (subst (Broken text) here (broken_verdict text (length text - place) e.1))
judged_fault text (TheVariants.TooDeep place) short e =
    let here : length text - (length text - place) ≡ place = omega (arith, e.0) in
    Judged.is_too_deep short place (subst (TooDeep text) here (deep_verdict text (length text - place) e.1))
