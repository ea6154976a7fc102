-- The words of a lawful sheet fit one after another. Assumes nothing.
use Rattle.std.proofs.Common.{◌≡◌, ℕ, suc, ◌+◌, ◌-◌, ◌<◌, ◌≤◌, true, List, [], ◌∷◌, ◌++◌, length, Some, None, Option, sym, refl, subst, inl, inr, append_assoc, append-nil, arith}
use Rattle.std.proofs.lemmas.List.{get_or_append_left, get_or_push, length_push}
use Rattle.std.proofs.lemmas.Bool.{cases_lt}
use Rattle.names.specs.Names.{lawful_word}
use Rattle.families.specs.Tables.{Tables}
use Rattle.lines.specs.Limits.{max_delay, max_pins}
use Rattle.network.specs.Least.{NothingWrong}
use Rattle.network.specs.Refusals.{NameWrong, LabelWrong}
use Rattle.network.specs.Sketches.{Sketch, empty, line_named, input_line, cell_line, with_input, with_cell}
use Rattle.network.proofs.Refused.{label_none, label_fine}
use Rattle.sheets.specs.Sheet.{max_depth, Pins, Form, pin_count, pins_depth, form_depth, sheet_depth, LawfulPins, LawfulCell, LawfulForm, LawfulForms, cell_text, form_text}
use Rattle.sheets.specs.Words.{SheetWord, closes, pins_place, pins_words, cell_words, form_words, sheet_words}
use Rattle.drawing.specs.Drawing.{Answer, then, delay_place, input_name_place, input_delay_place, line_name_place, line_cell_place, next_place, delay_from, name_free, input_room, add_cell}
use Rattle.drawing.specs.Fits.{inner_pins, Below, FitAll}
use Rattle.drawing.specs.Pictures.{Opened, Picture, just_open, with_word, with_pins, inner_pin, label, blank}
use Rattle.drawing.proofs.Drawn.{before_pins, in_cells, between, pins_same}
use Rattle.drawing.proofs.Onward.{refused_done, done_same, delay_short, delay_then, name_then, room_then, cell_then, line_low, still_free}

-- an open cell that its closing bracket can add
abbrev Good : Sketch → Opened → Type 0
Good s c = (lawful_word c.word ≡ true) × (c.delay ≤ max_delay) × Below (length s.lines) c.pins

-- the cells around the innermost: each can have one pin more
abbrev Around : Sketch → List Opened → Type 0
Around s [] = Unit {0}
Around s (c ∷ cs) = Good s c × (length c.pins < max_pins) × Around s cs

-- a name beside each line, and the form's name still free
abbrev Sound : Sketch → List ℕ → Type 0
Sound s form = (length s.names ≡ length s.lines) × NothingWrong (NameWrong s form)

below_more : (n m : ℕ) (pins : List ℕ) → n ≤ m → Below n pins → Below m pins
below_more n m pins l h pin k = let z = h pin k in omega (arith, z)

below_push : (n line : ℕ) (pins : List ℕ) → Below n pins → line < n → Below n (pins ++ (line ∷ []))
below_push n line pins h l pin k =
    elim (cases_lt pin (length pins)) [
      | inl less ↦ subst (λ v. v < n) (sym (get_or_append_left pins (line ∷ []) 0 pin less)) (h pin less)
      | inr more ↦ let same : length pins ≡ pin = omega (arith, length_push pins line) in subst (λ v. v < n) (sym (get_or_push pins line 0 pin same)) l
    ]

around_more : (s t : Sketch) (cs : List Opened) → length s.lines ≤ length t.lines → Around s cs → Around t cs
around_more s t [] l h = tt
around_more s t (c ∷ cs) l h = ((h.0.0, h.0.1, below_more _ _ c.pins l h.0.2), h.1, around_more s t cs l h.2)

inner_few : (s : Sketch) (cs : List Opened) → Around s cs → inner_pins cs < max_pins
inner_few s [] h = omega arith
inner_few s (c ∷ cs) h = h.1

label_free : (s : Sketch) (form : List ℕ) (cs : List Opened) → NothingWrong (NameWrong s form) → NothingWrong (LabelWrong s (label form cs))
label_free s form [] h = label_fine s form h
label_free s form (c ∷ cs) h = label_none s

not_none : {X : Type 0} {x : X} {xs : List X} {A : Type 0} → ◌≡◌ {A = List X} (x ∷ xs) [] → A
not_none e = let z : ◌≡◌ {A = ℕ} 0 1 = cc in absurd (omega arith)

module _ (family : Tables) where
  -- A word that was drawn, and the words after it.
  went : (p : Picture) (ws : List SheetWord) → FitAll family p ws → (q : Picture) → Answer.done p ≡ Answer.done q → FitAll family q ws
  went p ws fit q e = subst (λ v. FitAll family v ws) (done_same p q e) fit

  went_then : {X : Type 0} (a : Answer X) (f : X → Picture) (ws : List SheetWord) → ((x : X) → a ≡ Answer.done x → FitAll family (f x) ws) → (q : Picture) → then a (λ x. Answer.done (f x)) ≡ Answer.done q → FitAll family q ws
  went_then (Answer.refused n p) f ws h q e = refused_done n p q e
  went_then (Answer.done x) f ws h q e = went (f x) ws (h x refl) q e

  module _ (form : List ℕ) where
    abbrev here : Sketch → List Opened → Picture
    here s cells = in_cells family form s cells

    -- what must hold after the pins of the cell c
    abbrev Next : Opened → List Opened → List SheetWord → Type 0
    Next c cs rest = (t : Sketch) (lines : List ℕ) → Sound t form → Good t (with_pins lines c) → Around t cs → FitAll family (here t (with_pins lines c ∷ cs)) rest

    one_more : (c : Opened) (cs : List Opened) (rest : List SheetWord) (line : ℕ) → Next c cs rest → Next (with_pins (line ∷ []) c) cs rest
    one_more c cs rest line next t lines ok good around =
        let cell = pins_same (with_pins lines (with_pins (line ∷ []) c)) _ (append_assoc c.pins (line ∷ []) lines) in
        subst (λ (v : Opened). FitAll family (here t (v ∷ cs)) rest) (sym cell) (next t (line ∷ lines) ok (subst (Good t) cell good) around)

    -- a cell, where its pins fit
    fit_cell : (place : ℕ) (w d : List ℕ) (ps : Pins) (s : Sketch) (cs : List Opened) (rest : List SheetWord)
        → LawfulCell w d ps → length cs < max_depth → Sound s form
        → ((v : ℕ) (more : List SheetWord) → v ≤ max_delay → Next (before_pins place w v) cs more → FitAll family (here s (before_pins place w v ∷ cs)) (pins_words (pins_place place w d) ps ++ more))
        → ((t : Sketch) (table v : ℕ) (lines : List ℕ) → Sound t form → Around t cs → FitAll family (here (with_cell t (label form cs) table v lines) (inner_pin (length t.lines) cs)) rest)
        → FitAll family (here s cs) (cell_words place w d ps ++ rest)
    fit_cell place w d ps s cs rest law deep ok ih next = (
      deep,
      went (here s (just_open place ∷ cs)) (SheetWord.cell_word w (place + 1) ∷ delay ∷ ends) (
        (law.0, omega arith),
        went (here s (with_word w (just_open place) ∷ cs)) (delay ∷ ends) (
          (delay_short d law.1, λ none. not_none none),
          went_then (delay_from (delay_place place w) d) (λ v. here s (before_pins place w v ∷ cs)) ends (λ v e. subst (FitAll family (here s (before_pins place w v ∷ cs))) (sym (append_assoc (pins_words (pins_place place w d) ps) (closing ∷ []) rest)) (ih v (closing ∷ rest) (delay_then (delay_place place w) d v e) (closed v))),
        ),
      ),
    )
      where
        closing : SheetWord
        closing = closes (place + length (cell_text w d ps) - 1)

        delay : SheetWord
        delay = SheetWord.delay d (delay_place place w)

        ends : List SheetWord
        ends = (pins_words (pins_place place w d) ps ++ (closing ∷ [])) ++ rest

        closed : (v : ℕ) → Next (before_pins place w v) cs (closing ∷ rest)
        closed v t lines sound good around = (
          (good.0, good.1, good.2, label_free t form cs sound.1, inner_few t cs around),
          went_then (add_cell family place (label form cs) w v lines t) (λ cell. here cell.0 (inner_pin cell.1 cs)) rest (λ cell e.
              let made = cell_then family place (label form cs) w v lines t cell e in
              subst (λ (x : Sketch × ℕ). FitAll family (here x.0 (inner_pin x.1 cs)) rest) (sym made.1) (next t made.0 v lines sound around)),
        )

    fit_pins : (ps : Pins) (at : ℕ) (s : Sketch) (c : Opened) (cs : List Opened) (rest : List SheetWord) → LawfulPins ps → length c.pins + pin_count ps ≤ max_pins → pins_depth ps + suc (length cs) ≤ max_depth → Sound s form → Good s c → Around s cs → Next c cs rest → FitAll family (here s (c ∷ cs)) (pins_words at ps ++ rest)
    fit_pins Pins.end at s c cs rest law few deep ok good around next =
        let cell = pins_same c _ (sym (append-nil c.pins)) in
        subst (λ (v : Opened). FitAll family (here s (v ∷ cs)) rest) (sym cell) (next s [] ok (subst (Good s) cell good) around)
    fit_pins (Pins.name n ps) at s c cs rest law few deep ok good around next = (
      (law.0, omega (arith, few)),
      λ q e. by (line_named 0 n s.names) refl q e (λ line low. fit_pins ps (at + 1 + length n) s (with_pins (line ∷ []) c) cs rest law.1 (omega (arith, few, length_push c.pins line)) deep ok (good.0, good.1, below_push _ line c.pins good.2 low) around (one_more c cs rest line next)),
    )
      where
        by : (found : Option ℕ) → line_named 0 n s.names ≡ found → (q : Picture) → elim found [ None ↦ Answer.refused 3 (at + 1) | Some line ↦ Answer.done (here s (with_pins (line ∷ []) c ∷ cs)) ] ≡ Answer.done q → ((line : ℕ) → line < length s.lines → FitAll family (here s (with_pins (line ∷ []) c ∷ cs)) (pins_words (at + 1 + length n) ps ++ rest)) → FitAll family q (pins_words (at + 1 + length n) ps ++ rest)
        by None is q e ih = refused_done 3 (at + 1) q e
        by (Some line) is q e ih = went _ _ (ih line (line_low s n line ok.0 is)) q e
    fit_pins (Pins.cell w d qs ps) at s c cs rest law few deep ok good around next =
        subst (FitAll family (here s (c ∷ cs))) (sym (append_assoc (cell_words (at + 1) w d qs) (pins_words (at + 1 + length (cell_text w d qs)) ps) rest))
        (fit_cell (at + 1) w d qs s (c ∷ cs) (pins_words (at + 1 + length (cell_text w d qs)) ps ++ rest) law.0 (omega (arith, deep)) ok
        (λ v more slow after. fit_pins qs (pins_place (at + 1) w d) s (before_pins (at + 1) w v) (c ∷ cs) more law.0.3 (omega (arith, law.0.2.1)) (omega (arith, deep)) ok (law.0.0, slow, λ pin h. absurd (omega arith)) (good, omega (arith, few), around) after)
        (λ t table v lines sound outer.
        let line = length t.lines in
        let grown = length_push t.lines (cell_line table v lines) in
        let more : line < length (with_cell t None table v lines).lines = omega (arith, grown) in
        fit_pins ps (at + 1 + length (cell_text w d qs)) (with_cell t None table v lines) (with_pins (line ∷ []) c) cs rest law.1 (omega (arith, few, length_push c.pins line)) (omega (arith, deep))
        (omega (arith, sound.0, grown, length_push t.names None), still_free t form table v lines sound.1)
        (outer.0.0, outer.0.1, below_push _ line c.pins (below_more _ _ c.pins (omega (arith, more)) outer.0.2) more)
        (around_more t (with_cell t None table v lines) cs (omega (arith, more)) outer.2)
        (one_more c cs rest line next)))

  abbrev Even : Sketch → Type 0
  Even s = length s.names ≡ length s.lines

  fit_form : (f : Form) (at : ℕ) (s : Sketch) (form : List ℕ) (rest : List SheetWord) → LawfulForm f → form_depth f ≤ max_depth → Even s → ((t : Sketch) (n : List ℕ) → Even t → FitAll family (between t n) rest) → FitAll family (between s form) (form_words at f ++ rest)
  fit_form (Form.input n d) at s form rest law deep even next = (
    tt,
    went_then (input_room at s) (λ _. between s form) (SheetWord.name n (input_name_place at) ∷ delay ∷ last ∷ rest) (λ u room. (
      (law.0, omega arith),
      went_then (name_free (input_name_place at) n s) (λ _. between s n) (delay ∷ last ∷ rest) (λ v free. (
        (delay_short d law.1, λ none. (name_then (input_name_place at) n s v law.0 free, room_then at s u room)),
        went_then (delay_from (input_delay_place at n) d) (λ x. between (with_input s n x) n) (last ∷ rest) (λ x e.
            (tt, went (between (with_input s n x) n) rest (next (with_input s n x) n (omega (arith, even, length_push s.lines (input_line x), length_push s.names (Some n)))))),
      )),
    )),
  )
    where
      delay : SheetWord
      delay = SheetWord.delay d (input_delay_place at n)

      last : SheetWord
      last = closes (at + length (form_text (Form.input n d)) - 1)
  fit_form (Form.line n w d ps) at s form rest law deep even next = (
    tt,
    went (between s form) (SheetWord.name n (line_name_place at) ∷ ends) (
      (law.0, omega arith),
      went_then (name_free (line_name_place at) n s) (λ _. between s n) ends (λ u free.
          subst (FitAll family (between s n)) (sym (append_assoc (cell_words (line_cell_place at n) w d ps) (last ∷ []) rest))
          (fit_cell n (line_cell_place at n) w d ps s [] (last ∷ rest) law.1 (omega arith) (even, name_then (line_name_place at) n s u law.0 free)
          (λ v more slow after. fit_pins n ps (pins_place (line_cell_place at n) w d) s (before_pins (line_cell_place at n) w v) [] more law.1.3 (omega (arith, law.1.2.1)) (omega (arith, deep)) (even, name_then (line_name_place at) n s u law.0 free) (law.1.0, slow, λ pin h. absurd (omega arith)) tt after)
          (λ t table v lines sound outer. (tt, went (between (with_cell t (Some n) table v lines) n) rest (next (with_cell t (Some n) table v lines) n (omega (arith, sound.0, length_push t.lines (cell_line table v lines), length_push t.names (Some n)))))))),
    ),
  )
    where
      last : SheetWord
      last = closes (at + length (form_text (Form.line n w d ps)) - 1)

      ends : List SheetWord
      ends = (cell_words (line_cell_place at n) w d ps ++ (last ∷ [])) ++ rest

  fit_forms : (fs : List Form) (at : ℕ) (s : Sketch) (form : List ℕ) → LawfulForms fs → sheet_depth fs ≤ max_depth → Even s → FitAll family (between s form) (sheet_words at fs)
  fit_forms [] at s form law deep even = tt
  fit_forms (f ∷ fs) at s form law deep even = fit_form f at s form (sheet_words (next_place at f) fs) law.0 (omega (arith, deep)) even (λ t n e. fit_forms fs (next_place at f) t n law.1 (omega (arith, deep)) e)

  pub fit_sheet : (fs : List Form) → LawfulForms fs → sheet_depth fs ≤ max_depth → FitAll family blank (sheet_words 0 fs)
  fit_sheet fs law deep = fit_forms fs 0 empty [] law deep refl
