-- The recogniser reads every sheet. Assumes nothing.
use Rattle.std.proofs.Common.{◌≡◌, ℕ, zero, suc, ◌+◌, ◌≤◌, Bool, true, false, cond, eqb, leb, List, [], ◌∷◌, ◌++◌, length, Some, None, codes, Option, sym, refl, ap, ◌∙◌, subst, inl, inr, append_assoc, append-nil, arith, eq-eqb, eqb-true, le-leb}
use Rattle.names.specs.Names.{letter, digit, name_byte}
use Rattle.sheets.proofs.Letters.{Starred, name_parts, word_parts}
use Rattle.sheets.specs.Sheet.{Each, Name, Delay, Pins, Form, pin_count, LawfulPins, LawfulCell, LawfulForm, LawfulForms, pins_text, cell_text, form_text, sheet_text, Viable, pins_depth, form_depth, sheet_depth}
use Rattle.sheets.specs.Recogniser.{Item, step, after, bytes_then, cell_rest, open_brackets, outcome}

pub taken : {A : Type 0} (t : Bool) (x y : A) → t ≡ true → cond t x y ≡ x
taken t x y e = ap (λ (b : Bool). cond b x y) e

pub left : {A : Type 0} (t : Bool) (x y : A) → t ≡ false → cond t x y ≡ y
left t x y e = ap (λ (b : Bool). cond b x y) e

-- c parts words: it continues no name and no number
abbrev pub Parts : ℕ → Type 0
Parts c = (name_byte c ≡ false) × (digit c ≡ false)

not_empty : (w : List ℕ) → Starred w → 1 ≤ length w
not_empty [] h = absurd h
not_empty (b ∷ bs) h = omega arith

-- what follows a pin begins with a space or a closing bracket
pub pins_part : (ps : Pins) (rest : List ℕ) → (c : ℕ) × (tail : List ℕ) × (pins_text ps ++ (41 ∷ rest) ≡ c ∷ tail) × Parts c
pins_part Pins.end rest = (41, rest, refl, (refl, refl))
pins_part (Pins.name n ps) rest = (32, (n ++ pins_text ps) ++ (41 ∷ rest), refl, (refl, refl))
pins_part (Pins.cell w d qs ps) rest = (32, (40 ∷ (w ++ (32 ∷ (d ++ (pins_text qs ++ (41 ∷ pins_text ps)))))) ++ (41 ∷ rest), refl, (refl, refl))

-- any function of a state and what is left of the text that goes by the recogniser's steps, where no more cells than the limit are open
module _ {R : Type 0} (run : Option (List Item) → List ℕ → R) (limit : ℕ) (go : (s : List Item) (b : ℕ) (bs : List ℕ) → open_brackets s ≤ limit → run (Some s) (b ∷ bs) ≡ run (step s b) bs) where
  pub bytes_run : (cs : List ℕ) (s : List Item) (rest : List ℕ) → open_brackets s ≤ limit → run (Some (bytes_then cs s)) (cs ++ rest) ≡ run (Some s) rest
  unfolding step
  bytes_run [] s rest ok = refl
  bytes_run (c ∷ cs) s rest ok =
      go (bytes_then (c ∷ cs) s) c (cs ++ rest) (subst (λ n. n ≤ limit) (sym (flat (c ∷ cs) s)) ok) ∙ ap (λ o. run o (cs ++ rest)) (taken (eqb c c) _ _ (eq-eqb c c refl)) ∙ bytes_run cs s rest ok
    where
      flat : (cs : List ℕ) (s : List Item) → open_brackets (bytes_then cs s) ≡ open_brackets s
      flat [] s = refl
      flat (c ∷ cs) s = flat cs s

  pub name_rest_run : (k : ℕ) (ns : List ℕ) (c : ℕ) (s : List Item) (rest : List ℕ) → open_brackets s ≤ limit → Each name_byte ns → length ns ≤ k → Parts c → run (Some (Item.name_rest k ∷ s)) (ns ++ (c ∷ rest)) ≡ run (Some s) (c ∷ rest)
  unfolding step
  name_rest_run zero [] c s rest ok a l p = go (Item.name_rest 0 ∷ s) c rest ok ∙ sym (go s c rest ok)
  name_rest_run zero (n ∷ ns) c s rest ok a l p = absurd (omega arith)
  name_rest_run (suc k) [] c s rest ok a l p = go (Item.name_rest (suc k) ∷ s) c rest ok ∙ ap (λ o. run o rest) (left (name_byte c) _ _ p.0) ∙ sym (go s c rest ok)
  name_rest_run (suc k) (n ∷ ns) c s rest ok a l p =
      go (Item.name_rest (suc k) ∷ s) n (ns ++ (c ∷ rest)) ok ∙ ap (λ o. run o (ns ++ (c ∷ rest))) (taken (name_byte n) _ _ a.0) ∙ name_rest_run k ns c s rest ok a.1 (omega arith) p

  pub digits_run : (k : ℕ) (ns : List ℕ) (c : ℕ) (s : List Item) (rest : List ℕ) → open_brackets s ≤ limit → Each digit ns → length ns ≤ k → Parts c → run (Some (Item.digits k ∷ s)) (ns ++ (c ∷ rest)) ≡ run (Some s) (c ∷ rest)
  unfolding step
  digits_run zero [] c s rest ok a l p = go (Item.digits 0 ∷ s) c rest ok ∙ sym (go s c rest ok)
  digits_run zero (n ∷ ns) c s rest ok a l p = absurd (omega arith)
  digits_run (suc k) [] c s rest ok a l p = go (Item.digits (suc k) ∷ s) c rest ok ∙ ap (λ o. run o rest) (left (digit c) _ _ p.1) ∙ sym (go s c rest ok)
  digits_run (suc k) (n ∷ ns) c s rest ok a l p =
      go (Item.digits (suc k) ∷ s) n (ns ++ (c ∷ rest)) ok ∙ ap (λ o. run o (ns ++ (c ∷ rest))) (taken (digit n) _ _ a.0) ∙ digits_run k ns c s rest ok a.1 (omega arith) p

  pub name_run : (n : List ℕ) (c : ℕ) (s : List Item) (rest : List ℕ) → open_brackets s ≤ limit → Name n → Parts c → run (Some (Item.name ∷ s)) (n ++ (c ∷ rest)) ≡ run (Some s) (c ∷ rest)
  unfolding step
  name_run [] c s rest ok h p = absurd (name_parts [] h)
  name_run (b ∷ bs) c s rest ok named p =
      let h = name_parts (b ∷ bs) named in
      go (Item.name ∷ s) b (bs ++ (c ∷ rest)) ok ∙ ap (λ o. run o (bs ++ (c ∷ rest))) (taken (letter b) _ _ h.0) ∙ name_rest_run 7 bs c s rest ok h.1 h.2 p

  pub pin_name_run : (n : List ℕ) (c : ℕ) (s : List Item) (rest : List ℕ) → open_brackets s ≤ limit → Name n → Parts c → run (Some (Item.pin ∷ s)) (n ++ (c ∷ rest)) ≡ run (Some s) (c ∷ rest)
  unfolding step
  pin_name_run [] c s rest ok h p = absurd (name_parts [] h)
  pin_name_run (b ∷ bs) c s rest ok named p =
      let h = name_parts (b ∷ bs) named in
      go (Item.pin ∷ s) b (bs ++ (c ∷ rest)) ok ∙ ap (λ o. run o (bs ++ (c ∷ rest))) (taken (letter b) _ _ h.0) ∙ name_rest_run 7 bs c s rest ok h.1 h.2 p

  pub word_run : (k : ℕ) (w : List ℕ) (c : ℕ) (s : List Item) (rest : List ℕ) → open_brackets s ≤ limit → Starred w → length w ≤ suc k → Parts c → run (Some (Item.word k ∷ s)) (w ++ (c ∷ rest)) ≡ run (Some s) (c ∷ rest)
  unfolding step
  word_run k [] c s rest ok h l p = absurd h
  word_run zero (b ∷ bs) c s rest ok (inl h) l p = absurd (omega (arith, not_empty bs h.1))
  word_run zero (b ∷ bs) c s rest ok (inr h) l p =
      go (Item.word 0 ∷ s) b (bs ++ (c ∷ rest)) ok ∙ ap (λ o. run o (bs ++ (c ∷ rest))) (taken (letter b) _ _ h.0) ∙ name_rest_run 0 bs c s rest ok h.1 (omega arith) p
  word_run (suc k) (b ∷ bs) c s rest ok (inl h) l p =
      go (Item.word (suc k) ∷ s) b (bs ++ (c ∷ rest)) ok ∙ ap (λ o. run o (bs ++ (c ∷ rest))) (left (letter b) _ _ (ap letter h.0) ∙ taken (eqb b 42) _ _ (eq-eqb b 42 h.0)) ∙ word_run k bs c s rest ok h.1 (omega arith) p
  word_run (suc k) (b ∷ bs) c s rest ok (inr h) l p =
      go (Item.word (suc k) ∷ s) b (bs ++ (c ∷ rest)) ok ∙ ap (λ o. run o (bs ++ (c ∷ rest))) (taken (letter b) _ _ h.0) ∙ name_rest_run (suc k) bs c s rest ok h.1 (omega arith) p

  delay_run_at : (b : ℕ) (bs : List ℕ) (c : ℕ) (s : List Item) (rest : List ℕ) (zeroed : Bool) → open_brackets s ≤ limit → eqb b 48 ≡ zeroed → Delay (b ∷ bs) → Parts c → run (Some (Item.delay ∷ s)) ((b ∷ bs) ++ (c ∷ rest)) ≡ run (Some s) (c ∷ rest)
  unfolding step
  delay_run_at b bs c s rest true ok e h p =
      go (Item.delay ∷ s) b (bs ++ (c ∷ rest)) ok ∙ ap (λ o. run o (bs ++ (c ∷ rest))) (taken (eqb b 48) _ _ e) ∙ ap (λ v. run (Some s) (v ++ (c ∷ rest))) (h.3 (eqb-true b 48 e))
  delay_run_at b bs c s rest false ok e h p =
      go (Item.delay ∷ s) b (bs ++ (c ∷ rest)) ok ∙ ap (λ o. run o (bs ++ (c ∷ rest))) (left (eqb b 48) _ _ e ∙ taken (digit b) _ _ h.0) ∙ digits_run 6 bs c s rest ok h.1 (omega (arith, h.2)) p

  pub delay_run : (d : List ℕ) (c : ℕ) (s : List Item) (rest : List ℕ) → open_brackets s ≤ limit → Delay d → Parts c → run (Some (Item.delay ∷ s)) (d ++ (c ∷ rest)) ≡ run (Some s) (c ∷ rest)
  delay_run [] c s rest ok h p = absurd h
  delay_run (b ∷ bs) c s rest ok h p = delay_run_at b bs c s rest (eqb b 48) ok refl h p

  -- the first pin of a cell
  first_pin : (qs : Pins) (s : List Item) (rest : List ℕ) → suc (open_brackets s) ≤ limit → 1 ≤ pin_count qs → run (Some (Item.byte 32 ∷ Item.pin ∷ Item.pins 3 ∷ s)) (pins_text qs ++ (41 ∷ rest)) ≡ run (Some (Item.pins 4 ∷ s)) (pins_text qs ++ (41 ∷ rest))
  unfolding step
  first_pin Pins.end s rest ok l = absurd (omega arith)
  first_pin (Pins.name n ps) s rest ok l = go (Item.byte 32 ∷ Item.pin ∷ Item.pins 3 ∷ s) 32 _ ok ∙ sym (go (Item.pins 4 ∷ s) 32 _ ok)
  first_pin (Pins.cell w d qs ps) s rest ok l = go (Item.byte 32 ∷ Item.pin ∷ Item.pins 3 ∷ s) 32 _ ok ∙ sym (go (Item.pins 4 ∷ s) 32 _ ok)

  -- a cell after its opening bracket, if its pins are read
  cell_rest_run : (w d : List ℕ) (qs : Pins) (s : List Item) (rest : List ℕ) → suc (open_brackets s) ≤ limit → LawfulCell w d qs → run (Some (Item.pins 4 ∷ s)) (pins_text qs ++ (41 ∷ rest)) ≡ run (Some s) rest → run (Some (cell_rest s)) (w ++ (32 ∷ (d ++ (pins_text qs ++ (41 ∷ rest))))) ≡ run (Some s) rest
  unfolding step
  cell_rest_run w d qs s rest ok l h =
      let part = pins_part qs rest in
      let more = Item.byte 32 ∷ Item.pin ∷ Item.pins 3 ∷ s in
      let delayed : run (Some (Item.delay ∷ more)) (d ++ (pins_text qs ++ (41 ∷ rest))) ≡ run (Some more) (pins_text qs ++ (41 ∷ rest)) = subst (λ v. run (Some (Item.delay ∷ more)) (d ++ v) ≡ run (Some more) v) (sym part.2) (delay_run d part.0 more part.1 ok l.1 part.3) in
      word_run 7 w 32 (Item.byte 32 ∷ Item.delay ∷ more) (d ++ (pins_text qs ++ (41 ∷ rest))) ok (word_parts w l.0).0 (word_parts w l.0).1 (refl, refl) ∙ go (Item.byte 32 ∷ Item.delay ∷ more) 32 _ ok ∙ delayed ∙ first_pin qs s rest ok l.2.0 ∙ h

  pub pins_run : (ps : Pins) (k : ℕ) (s : List Item) (rest : List ℕ) → pins_depth ps + suc (open_brackets s) ≤ limit → LawfulPins ps → pin_count ps ≤ k → run (Some (Item.pins k ∷ s)) (pins_text ps ++ (41 ∷ rest)) ≡ run (Some s) rest
  unfolding step
  pins_run Pins.end zero s rest ok l c = go (Item.pins 0 ∷ s) 41 rest (omega arith)
  pins_run Pins.end (suc k) s rest ok l c = go (Item.pins (suc k) ∷ s) 41 rest (omega arith)
  pins_run (Pins.name n ps) zero s rest ok l c = absurd (omega arith)
  pins_run (Pins.name n ps) (suc k) s rest ok l c =
      let part = pins_part ps rest in
      let more = Item.pins k ∷ s in
      let shallow : suc (open_brackets s) ≤ limit = omega arith in
      let named : run (Some (Item.pin ∷ more)) (n ++ (pins_text ps ++ (41 ∷ rest))) ≡ run (Some more) (pins_text ps ++ (41 ∷ rest)) = subst (λ v. run (Some (Item.pin ∷ more)) (n ++ v) ≡ run (Some more) v) (sym part.2) (pin_name_run n part.0 more part.1 shallow l.0 part.3) in
      go (Item.pins (suc k) ∷ s) 32 _ shallow ∙ ap (λ v. run (Some (Item.pin ∷ more)) v) (append_assoc n (pins_text ps) (41 ∷ rest)) ∙ named ∙ pins_run ps k s rest ok l.1 (omega arith)
  pins_run (Pins.cell w d qs ps) zero s rest ok l c = absurd (omega arith)
  pins_run (Pins.cell w d qs ps) (suc k) s rest ok l c =
      let more = Item.pins k ∷ s in
      let inner = pins_run qs 4 more (pins_text ps ++ (41 ∷ rest)) (omega arith) l.0.3 l.0.2.1 in
      let split : (w ++ (32 ∷ (d ++ (pins_text qs ++ (41 ∷ pins_text ps))))) ++ (41 ∷ rest) ≡ w ++ (32 ∷ (d ++ (pins_text qs ++ (41 ∷ (pins_text ps ++ (41 ∷ rest)))))) = simp append_assoc in
      go (Item.pins (suc k) ∷ s) 32 _ (omega arith) ∙ go (Item.pin ∷ more) 40 _ (omega arith) ∙ ap (λ v. run (Some (cell_rest more)) v) split ∙ cell_rest_run w d qs more (pins_text ps ++ (41 ∷ rest)) (omega arith) l.0 inner ∙ pins_run ps k s rest (omega arith) l.1 (omega arith)

  pub cell_run : (w d : List ℕ) (ps : Pins) (s : List Item) (rest : List ℕ) → pins_depth ps + suc (open_brackets s) ≤ limit → LawfulCell w d ps → run (Some (Item.cell ∷ s)) (cell_text w d ps ++ rest) ≡ run (Some s) rest
  unfolding step
  cell_run w d ps s rest ok l =
      let split : (w ++ (32 ∷ (d ++ (pins_text ps ++ (41 ∷ []))))) ++ rest ≡ w ++ (32 ∷ (d ++ (pins_text ps ++ (41 ∷ rest)))) = simp append_assoc in
      go (Item.cell ∷ s) 40 _ (omega arith) ∙ ap (λ v. run (Some (cell_rest s)) v) split ∙ cell_rest_run w d ps s rest (omega arith) l (pins_run ps 4 s rest ok l.3 l.2.1)

  pub form_run : (f : Form) (rest : List ℕ) → form_depth f + 1 ≤ limit → LawfulForm f → run (Some (Item.forms ∷ [])) (form_text f ++ (10 ∷ rest)) ≡ run (Some (Item.forms ∷ [])) rest
  unfolding step
  form_run (Form.input n d) rest ok l =
      let tail = Item.close ∷ Item.byte 10 ∷ Item.forms ∷ [] in
      let lo : 1 ≤ limit = omega arith in
      let least : 0 ≤ limit = omega arith in
      let split : (n ++ (32 ∷ (d ++ (41 ∷ [])))) ++ (10 ∷ rest) ≡ n ++ (32 ∷ (d ++ (41 ∷ (10 ∷ rest)))) = simp append_assoc in
      go (Item.forms ∷ []) 40 _ least ∙ go (Item.form ∷ tail) 105 _ lo ∙ bytes_run (codes "nput ") (Item.name ∷ Item.byte 32 ∷ Item.delay ∷ tail) _ lo
      ∙ ap (λ v. run (Some (Item.name ∷ Item.byte 32 ∷ Item.delay ∷ tail)) v) split ∙ name_run n 32 (Item.byte 32 ∷ Item.delay ∷ tail) (d ++ (41 ∷ (10 ∷ rest))) lo l.0 (refl, refl)
      ∙ go (Item.byte 32 ∷ Item.delay ∷ tail) 32 _ lo ∙ delay_run d 41 tail (10 ∷ rest) lo l.1 (refl, refl) ∙ go tail 41 _ lo ∙ go (Item.byte 10 ∷ Item.forms ∷ []) 10 rest least
  form_run (Form.line n w d ps) rest ok l =
      let tail = Item.close ∷ Item.byte 10 ∷ Item.forms ∷ [] in
      let lo : 1 ≤ limit = omega arith in
      let least : 0 ≤ limit = omega arith in
      let split : (n ++ (32 ∷ (cell_text w d ps ++ (41 ∷ [])))) ++ (10 ∷ rest) ≡ n ++ (32 ∷ (cell_text w d ps ++ (41 ∷ (10 ∷ rest)))) = simp append_assoc in
      go (Item.forms ∷ []) 40 _ least ∙ go (Item.form ∷ tail) 108 _ lo ∙ bytes_run (codes "ine ") (Item.name ∷ Item.byte 32 ∷ Item.cell ∷ tail) _ lo
      ∙ ap (λ v. run (Some (Item.name ∷ Item.byte 32 ∷ Item.cell ∷ tail)) v) split ∙ name_run n 32 (Item.byte 32 ∷ Item.cell ∷ tail) (cell_text w d ps ++ (41 ∷ (10 ∷ rest))) lo l.0 (refl, refl)
      ∙ go (Item.byte 32 ∷ Item.cell ∷ tail) 32 _ lo ∙ cell_run w d ps tail (41 ∷ (10 ∷ rest)) (omega arith) l.1 ∙ go tail 41 _ lo ∙ go (Item.byte 10 ∷ Item.forms ∷ []) 10 rest least

  pub forms_run : (fs : List Form) (rest : List ℕ) → sheet_depth fs + 1 ≤ limit → LawfulForms fs → run (Some (Item.forms ∷ [])) (sheet_text fs ++ rest) ≡ run (Some (Item.forms ∷ [])) rest
  forms_run [] rest ok l = refl
  forms_run (f ∷ fs) rest ok l =
      let split : sheet_text (f ∷ fs) ++ rest ≡ form_text f ++ (10 ∷ (sheet_text fs ++ rest)) = append_assoc (form_text f) (10 ∷ sheet_text fs) rest in
      ap (λ v. run (Some (Item.forms ∷ [])) v) split ∙ form_run f (sheet_text fs ++ rest) (omega arith) l.0 ∙ forms_run fs rest (omega arith) l.1

-- G1: the recogniser comes back to its start over every sheet
after_goes : (s : List Item) (b : ℕ) (bs : List ℕ) → after (Some s) (b ∷ bs) ≡ after (step s b) bs
unfolding after
after_goes s b bs = refl

after_stays : (s : List Item) → after (Some s) [] ≡ Some s
unfolding after
after_stays s = refl

pub sheet_accepted : (fs : List Form) → LawfulForms fs → after (Some (Item.forms ∷ [])) (sheet_text fs) ≡ Some (Item.forms ∷ [])
sheet_accepted fs l =
    ap (λ v. after (Some (Item.forms ∷ [])) v) (sym (append-nil (sheet_text fs))) ∙ forms_run after (sheet_depth fs + 1) (λ s b bs ok. after_goes s b bs) fs [] (omega arith) l ∙ after_stays (Item.forms ∷ [])

pub after_append : (o : Option (List Item)) (xs ys : List ℕ) → after o (xs ++ ys) ≡ after (after o xs) ys
unfolding after
after_append None xs ys = refl
after_append (Some s) [] ys = refl
after_append (Some s) (b ∷ bs) ys = after_append (step s b) bs ys

-- a text over which the recogniser has failed is no beginning of a sheet
pub failed_not_viable : (xs : List ℕ) → after (Some (Item.forms ∷ [])) xs ≡ None → Viable xs → ⊥
unfolding after
failed_not_viable xs e (rest, (fs, lawful, text)) =
    let none : after (Some (Item.forms ∷ [])) (sheet_text fs) ≡ None = ap (λ v. after (Some (Item.forms ∷ [])) v) text ∙ after_append (Some (Item.forms ∷ [])) xs rest ∙ ap (λ o. after o rest) e in
    let some = sheet_accepted fs lawful in
    let z : ◌≡◌ {A = ℕ} 0 1 = cc in
    omega arith

-- with a limit to the depth
pub goes : (limit : ℕ) (s : List Item) (b : ℕ) (bs : List ℕ) → open_brackets s ≤ limit → outcome limit (Some s) (b ∷ bs) ≡ outcome limit (step s b) bs
unfolding outcome
goes limit s b bs ok = taken (leb (open_brackets s) limit) _ _ (le-leb (open_brackets s) limit ok)
