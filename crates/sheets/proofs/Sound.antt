-- A step of the recogniser keeps to the language. Assumes nothing.
use Rattle.std.proofs.Common.{◌≡◌, ℕ, zero, suc, ◌≤◌, Bool, true, false, cond, eqb, ◌⊎◌, List, [], ◌∷◌, ◌++◌, Some, None, codes, Option, sym, refl, ap, ◌∙◌, subst, inl, inr, append_assoc, append-nil, arith, eqb-true}
use borrow.Author.Tests.{eqb-false}
use Rattle.names.specs.Names.{letter, digit, name_byte}
use Rattle.sheets.proofs.Letters.{name_made, word_made}
use Rattle.sheets.specs.Sheet.{Name, Pins, Form, pin_count, LawfulPins, pins_text, cell_text, form_text, sheet_text, Sheet, Viable}
use Rattle.sheets.specs.Recogniser.{Item, step, after, bytes_then, cell_rest}
use Rattle.sheets.proofs.Language.{IsCell, IsPins, Lang, LangO, some_end}

by_test : (t : Bool) (x y : Option (List Item)) (xs : List ℕ) (Q : Type 0) → LangO (cond t x y) xs → (t ≡ true → LangO x xs → Q) → (t ≡ false → LangO y xs → Q) → Q
by_test true x y xs Q h f g = f refl h
by_test false x y xs Q h f g = g refl h

-- the test holds, or nothing is read
if_test : (t : Bool) (s : List Item) (xs : List ℕ) (Q : Type 0) → LangO (cond t (Some s) None) xs → (t ≡ true → Lang s xs → Q) → Q
if_test true s xs Q h f = f refl h
if_test false s xs Q h f = absurd h

bytes_read : (cs : List ℕ) (s : List Item) (xs : List ℕ) → Lang (bytes_then cs s) xs → (zs : List ℕ) × (cs ++ zs ≡ xs) × Lang s zs
bytes_read [] s xs h = (xs, refl, h)
bytes_read (c ∷ cs) s xs h =
    let more = bytes_read cs s h.1 h.4 in
    let front : c ∷ h.1 ≡ xs = ap (λ y. y ++ h.1) h.3 ∙ h.2 in
    (more.0, ap (λ y. c ∷ y) more.1 ∙ front, more.2)

-- a pin in front of pins
pin_more : (p q : List ℕ) (k : ℕ) → Name p ⊎ IsCell p → IsPins k q → (ps : Pins) × LawfulPins ps × (1 ≤ pin_count ps) × (pin_count ps ≤ suc k) × (pins_text ps ++ (41 ∷ []) ≡ 32 ∷ (p ++ q))
pin_more p q k (inl n) (ps, l, c, e) =
    (Pins.name p ps, (n, l), omega arith, omega arith, ap (λ y. 32 ∷ y) (append_assoc p (pins_text ps) (41 ∷ []) ∙ ap (λ y. p ++ y) e))
pin_more p q k (inr m) h =
    let w = m.0 in
    let d = m.1 in
    let qs = m.2 in
    let ps = h.0 in
    (Pins.cell w d qs ps, (m.3, h.1), omega arith, omega (arith, h.2), ap (λ y. 32 ∷ y) ((simp append_assoc) ∙ ap (λ y. y ++ (pins_text ps ++ (41 ∷ []))) m.4 ∙ ap (λ y. p ++ y) h.3))

cell_read : (s : List Item) (xs : List ℕ) → Lang (cell_rest s) xs → (ys : List ℕ) × (zs : List ℕ) × (ys ++ zs ≡ 40 ∷ xs) × IsCell ys × Lang s zs
cell_read s xs (w, z1, e1, lw, (b1, z2, e2, r2, (d, z3, e3, ld, (b2, z4, e4, r4, (p, z5, e5, lp, (q, z6, e6, lq, t)))))) =
    let m = pin_more p q 3 lp lq in
    let text = cell_text w d m.0 in
    let last : (pins_text m.0 ++ (41 ∷ [])) ++ z6 ≡ z3 = ap (λ y. y ++ z6) m.4 ∙ ap (λ y. 32 ∷ y) (append_assoc p q z6 ∙ ap (λ y. p ++ y) e6 ∙ e5) ∙ ap (λ y. y ++ z4) r4 ∙ e4 in
    let back : 32 ∷ (d ++ ((pins_text m.0 ++ (41 ∷ [])) ++ z6)) ≡ z1 = ap (λ y. 32 ∷ y) (ap (λ y. d ++ y) last ∙ e3) ∙ ap (λ y. y ++ z2) r2 ∙ e2 in
    let whole : text ++ z6 ≡ 40 ∷ (w ++ (32 ∷ (d ++ ((pins_text m.0 ++ (41 ∷ [])) ++ z6)))) = simp append_assoc in
    (text, z6, whole ∙ ap (λ y. 40 ∷ y) (ap (λ y. w ++ y) back ∙ e1), (w, d, m.0, (word_made w lw.0 lw.1, ld, (m.2, m.3), m.1), refl), t)

input_read : (s : List Item) (xs : List ℕ) → Lang (bytes_then (codes "nput ") (Item.name ∷ Item.byte 32 ∷ Item.delay ∷ s)) xs → Lang (Item.form ∷ s) (105 ∷ xs)
input_read s xs h =
    let (zs, e0, (n, z1, e1, ln, (b1, z2, e2, r2, (d, z3, e3, ld, t)))) = bytes_read (codes "nput ") (Item.name ∷ Item.byte 32 ∷ Item.delay ∷ s) xs h in
    let ys = codes "input " ++ (n ++ (32 ∷ d)) in
    let split : ys ++ z3 ≡ codes "input " ++ (n ++ (32 ∷ (d ++ z3))) = simp append_assoc in
    let back : 32 ∷ (d ++ z3) ≡ z1 = ap (λ y. 32 ∷ y) e3 ∙ ap (λ y. y ++ z2) r2 ∙ e2 in
    (ys, z3, split ∙ ap (λ y. codes "input " ++ y) (ap (λ y. n ++ y) back ∙ e1) ∙ ap (λ y. 105 ∷ y) e0, (Form.input n d, (ln, ld), simp append_assoc), t)

line_read : (s : List Item) (xs : List ℕ) → Lang (bytes_then (codes "ine ") (Item.name ∷ Item.byte 32 ∷ Item.cell ∷ s)) xs → Lang (Item.form ∷ s) (108 ∷ xs)
line_read s xs h =
    let (zs, e0, (n, z1, e1, ln, (b1, z2, e2, r2, (c, z3, e3, (w, d, ps, lc, ec), t)))) = bytes_read (codes "ine ") (Item.name ∷ Item.byte 32 ∷ Item.cell ∷ s) xs h in
    let ys = codes "line " ++ (n ++ (32 ∷ c)) in
    let split : ys ++ z3 ≡ codes "line " ++ (n ++ (32 ∷ (c ++ z3))) = simp append_assoc in
    let back : 32 ∷ (c ++ z3) ≡ z1 = ap (λ y. 32 ∷ y) e3 ∙ ap (λ y. y ++ z2) r2 ∙ e2 in
    let text : form_text (Form.line n w d ps) ≡ 40 ∷ (ys ++ (41 ∷ [])) = ap (λ y. codes "(line " ++ (n ++ (32 ∷ (y ++ (41 ∷ []))))) ec ∙ simp append_assoc in
    (ys, z3, split ∙ ap (λ y. codes "line " ++ y) (ap (λ y. n ++ y) back ∙ e1) ∙ ap (λ y. 108 ∷ y) e0, (Form.line n w d ps, (ln, lc), text), t)

forms_read : (s : List Item) (xs : List ℕ) → Lang (Item.form ∷ Item.close ∷ Item.byte 10 ∷ Item.forms ∷ s) xs → Lang (Item.forms ∷ s) (40 ∷ xs)
forms_read s xs (x, z1, e1, (f, lf, ef), (b1, z2, e2, r2, (b2, z3, e3, r3, (y, z4, e4, (fs, lfs, efs), t)))) =
    let ys = sheet_text (f ∷ fs) in
    let split : ys ++ z4 ≡ form_text f ++ (10 ∷ (sheet_text fs ++ z4)) = simp append_assoc in
    let front : form_text f ++ (10 ∷ (sheet_text fs ++ z4)) ≡ (40 ∷ (x ++ (41 ∷ []))) ++ (10 ∷ (y ++ z4)) = ap (λ y. y ++ (10 ∷ (sheet_text fs ++ z4))) ef ∙ ap (λ v. (40 ∷ (x ++ (41 ∷ []))) ++ (10 ∷ (v ++ z4))) efs in
    let shift : (40 ∷ (x ++ (41 ∷ []))) ++ (10 ∷ (y ++ z4)) ≡ 40 ∷ (x ++ (41 ∷ (10 ∷ (y ++ z4)))) = simp append_assoc in
    let back : 41 ∷ (10 ∷ (y ++ z4)) ≡ z1 = ap (λ v. 41 ∷ (10 ∷ v)) e4 ∙ ap (λ v. 41 ∷ v) (ap (λ v. v ++ z3) r3 ∙ e3) ∙ ap (λ v. v ++ z2) r2 ∙ e2 in
    (ys, z4, split ∙ front ∙ shift ∙ ap (λ v. 40 ∷ v) (ap (λ v. x ++ v) back ∙ e1), (f ∷ fs, (lf, lfs), refl), t)

-- what is read after the byte, with the byte in front
pub sound : (s : List Item) (b : ℕ) (xs : List ℕ) → LangO (step s b) xs → Lang s (b ∷ xs)
unfolding step
sound [] b xs h = absurd h
sound (Item.byte c ∷ s) b xs h = if_test (eqb b c) s xs _ h (λ e t. (c ∷ [], xs, ap (λ y. y ∷ xs) (sym (eqb-true b c e)), refl, t))
sound (Item.name ∷ s) b xs h =
    if_test (letter b) (Item.name_rest 7 ∷ s) xs _ h (λ e t. (b ∷ t.0, t.1, ap (λ y. b ∷ y) t.2, name_made (b ∷ t.0) (e, t.3.0, t.3.1), t.4))
sound (Item.name_rest zero ∷ s) b xs h = ([], b ∷ xs, refl, (tt, omega arith), sound s b xs h)
sound (Item.name_rest (suc k) ∷ s) b xs h =
    by_test (name_byte b) (Some (Item.name_rest k ∷ s)) (step s b) xs _ h
    (λ e t. (b ∷ t.0, t.1, ap (λ y. b ∷ y) t.2, ((e, t.3.0), omega (arith, t.3.1)), t.4))
    (λ e t. ([], b ∷ xs, refl, (tt, omega arith), sound s b xs t))
sound (Item.word zero ∷ s) b xs h =
    if_test (letter b) (Item.name_rest 0 ∷ s) xs _ h (λ e t. (b ∷ t.0, t.1, ap (λ y. b ∷ y) t.2, (inr (e, t.3.0), omega (arith, t.3.1)), t.4))
sound (Item.word (suc k) ∷ s) b xs h =
    by_test (letter b) (Some (Item.name_rest (suc k) ∷ s)) (cond (eqb b 42) (Some (Item.word k ∷ s)) None) xs _ h
    (λ e t. (b ∷ t.0, t.1, ap (λ y. b ∷ y) t.2, (inr (e, t.3.0), omega (arith, t.3.1)), t.4))
    (λ e u. if_test (eqb b 42) (Item.word k ∷ s) xs _ u (λ f t. (b ∷ t.0, t.1, ap (λ y. b ∷ y) t.2, (inl (eqb-true b 42 f, t.3.0), omega (arith, t.3.1)), t.4)))
sound (Item.delay ∷ s) b xs h =
    by_test (eqb b 48) (Some s) (cond (digit b) (Some (Item.digits 6 ∷ s)) None) xs _ h
    (λ e t. (b ∷ [], xs, refl, (subst (λ y. digit y ≡ true) (sym (eqb-true b 48 e)) refl, tt, omega arith, λ f. refl), t))
    (λ e u. if_test (digit b) (Item.digits 6 ∷ s) xs _ u (λ f t. (b ∷ t.0, t.1, ap (λ y. b ∷ y) t.2, (f, t.3.0, omega (arith, t.3.1), λ z. absurd (eqb-false b 48 e z)), t.4)))
sound (Item.digits zero ∷ s) b xs h = ([], b ∷ xs, refl, (tt, omega arith), sound s b xs h)
sound (Item.digits (suc k) ∷ s) b xs h =
    by_test (digit b) (Some (Item.digits k ∷ s)) (step s b) xs _ h
    (λ e t. (b ∷ t.0, t.1, ap (λ y. b ∷ y) t.2, ((e, t.3.0), omega (arith, t.3.1)), t.4))
    (λ e t. ([], b ∷ xs, refl, (tt, omega arith), sound s b xs t))
sound (Item.cell ∷ s) b xs h =
    if_test (eqb b 40) (cell_rest s) xs _ h (λ e t. subst (λ y. Lang (Item.cell ∷ s) (y ∷ xs)) (sym (eqb-true b 40 e)) (cell_read s xs t))
sound (Item.pin ∷ s) b xs h =
    by_test (letter b) (Some (Item.name_rest 7 ∷ s)) (cond (eqb b 40) (Some (cell_rest s)) None) xs _ h
    (λ e t. (b ∷ t.0, t.1, ap (λ y. b ∷ y) t.2, inl (name_made (b ∷ t.0) (e, t.3.0, t.3.1)), t.4))
    (λ e u. if_test (eqb b 40) (cell_rest s) xs _ u (λ f t. let c = cell_read s xs t in
    subst (λ y. Lang (Item.pin ∷ s) (y ∷ xs)) (sym (eqb-true b 40 f)) (c.0, c.1, c.2, inr c.3, c.4)))
sound (Item.pins zero ∷ s) b xs h =
    if_test (eqb b 41) s xs _ h (λ e t. (41 ∷ [], xs, ap (λ y. y ∷ xs) (sym (eqb-true b 41 e)), (Pins.end, tt, omega arith, refl), t))
sound (Item.pins (suc k) ∷ s) b xs h =
    by_test (eqb b 41) (Some s) (cond (eqb b 32) (Some (Item.pin ∷ Item.pins k ∷ s)) None) xs _ h
    (λ e t. (41 ∷ [], xs, ap (λ y. y ∷ xs) (sym (eqb-true b 41 e)), (Pins.end, tt, omega arith, refl), t))
    (λ e u. if_test (eqb b 32) (Item.pin ∷ Item.pins k ∷ s) xs _ u (λ f t.
    let m = pin_more t.0 t.4.0 k t.3 t.4.3 in
    let text : (32 ∷ (t.0 ++ t.4.0)) ++ t.4.1 ≡ b ∷ xs = ap (λ y. 32 ∷ y) (append_assoc t.0 t.4.0 t.4.1 ∙ ap (λ y. t.0 ++ y) t.4.2 ∙ t.2) ∙ ap (λ y. y ∷ xs) (sym (eqb-true b 32 f)) in
    (32 ∷ (t.0 ++ t.4.0), t.4.1, text, (m.0, m.1, m.3, m.4), t.4.4)))
sound (Item.form ∷ s) b xs h =
    by_test (eqb b 105) (Some (bytes_then (codes "nput ") (Item.name ∷ Item.byte 32 ∷ Item.delay ∷ s))) (cond (eqb b 108) (Some (bytes_then (codes "ine ") (Item.name ∷ Item.byte 32 ∷ Item.cell ∷ s))) None) xs _ h
    (λ e t. subst (λ y. Lang (Item.form ∷ s) (y ∷ xs)) (sym (eqb-true b 105 e)) (input_read s xs t))
    (λ e u. if_test (eqb b 108) (bytes_then (codes "ine ") (Item.name ∷ Item.byte 32 ∷ Item.cell ∷ s)) xs _ u (λ f t. subst (λ y. Lang (Item.form ∷ s) (y ∷ xs)) (sym (eqb-true b 108 f)) (line_read s xs t)))
sound (Item.close ∷ s) b xs h = if_test (eqb b 41) s xs _ h (λ e t. (41 ∷ [], xs, ap (λ y. y ∷ xs) (sym (eqb-true b 41 e)), refl, t))
sound (Item.forms ∷ s) b xs h =
    if_test (eqb b 40) (Item.form ∷ Item.close ∷ Item.byte 10 ∷ Item.forms ∷ s) xs _ h (λ e t. subst (λ y. Lang (Item.forms ∷ s) (y ∷ xs)) (sym (eqb-true b 40 e)) (forms_read s xs t))

-- the same over a text
pub sound_after : (o : Option (List Item)) (xs ys : List ℕ) → LangO (after o xs) ys → LangO o (xs ++ ys)
unfolding after
sound_after None xs ys h = h
sound_after (Some s) [] ys h = h
sound_after (Some s) (b ∷ bs) ys h = sound s b (bs ++ ys) (sound_after (step s b) bs ys h)

-- G3: a text over which the recogniser has not failed is the beginning of a sheet
pub live_viable : (xs : List ℕ) (s : List Item) → after (Some (Item.forms ∷ [])) xs ≡ Some s → Viable xs
live_viable xs s e =
    let last = some_end s in
    let (ys, zs, split, (fs, lawful, text), none) = sound_after (Some (Item.forms ∷ [])) xs last.0 (subst (λ o. LangO o last.0) (sym e) last.1) in
    (last.0, (fs, lawful, text ∙ sym (append-nil ys) ∙ ap (λ y. ys ++ y) (sym none) ∙ split))

-- G2: a text over which it comes back to its start is a sheet
pub accepted_sheet : (xs : List ℕ) → after (Some (Item.forms ∷ [])) xs ≡ Some (Item.forms ∷ []) → Sheet xs
accepted_sheet xs e =
    let ended : Lang (Item.forms ∷ []) [] = ([], [], refl, ([], tt, refl), refl) in
    let (ys, zs, split, (fs, lawful, text), none) = sound_after (Some (Item.forms ∷ [])) xs [] (subst (λ o. LangO o []) (sym e) ended) in
    (fs, lawful, text ∙ sym (append-nil ys) ∙ ap (λ y. ys ++ y) (sym none) ∙ split ∙ append-nil xs)
