-- What a step that went on says. Assumes nothing.
use Rattle.std.proofs.Common.{◌≡◌, ℕ, zero, suc, ◌<◌, ◌≤◌, Bool, true, false, cond, ◌&&◌, eqb, ltb, leb, List, [], ◌∷◌, ◌++◌, length, get_or, Some, None, Option, sym, refl, ◌∙◌, subst, inl, inr, arith}
use Rattle.std.proofs.lemmas.List.{get_or_past}
use Rattle.std.proofs.lemmas.Bool.{leb-true, ltb-true, eqb-true, cases_lt}
use Rattle.names.specs.Names.{lawful_name}
use Rattle.families.specs.Tables.{Tables}
use Rattle.lines.specs.Limits.{max_delay, max_inputs, max_lines}
use Rattle.lines.specs.Lines.{inputs}
use Rattle.network.specs.Least.{NothingWrong}
use Rattle.network.specs.Refusals.{NameWrong, RoomWrong}
use Rattle.network.specs.Sketches.{Sketch, line_named, with_cell}
use Rattle.network.proofs.Firsts.{first_named}
use Rattle.network.proofs.Refused.{name_fine, room_fine}
use Rattle.sheets.specs.Sheet.{max_digits, Delay}
use Rattle.drawing.specs.Drawing.{Answer, number_from, input_room, name_free, delay_from, add_cell}

pub refused_done : {X : Type 0} {A : Type 0} (n place : ℕ) (x : X) → Answer.refused n place ≡ Answer.done x → A
refused_done n place x e = let z : ◌≡◌ {A = ℕ} 0 1 = cc in absurd (omega arith)

pub done_same : {X : Type 0} (x y : X) → Answer.done x ≡ Answer.done y → x ≡ y
done_same x y e = cc

pub delay_short : (digits : List ℕ) → Delay digits → length digits ≤ max_digits
delay_short [] h = absurd h
delay_short (b ∷ bs) h = omega (arith, h.2)

pub delay_then : (place : ℕ) (digits : List ℕ) (delay : ℕ) → delay_from place digits ≡ Answer.done delay → delay ≤ max_delay
delay_then place digits delay e = by (leb (number_from 0 digits) max_delay) refl e
  where
    by : (b : Bool) → leb (number_from 0 digits) max_delay ≡ b → cond b (Answer.done (number_from 0 digits)) (Answer.refused 5 place) ≡ Answer.done delay → delay ≤ max_delay
    by true t h = subst (λ k. k ≤ max_delay) (done_same (number_from 0 digits) delay h) (leb-true (number_from 0 digits) max_delay t)
    by false t h = refused_done 5 place delay h

pub name_then : (place : ℕ) (name : List ℕ) (s : Sketch) (u : Unit {0}) → lawful_name name ≡ true → name_free place name s ≡ Answer.done u → NothingWrong (NameWrong s name)
name_then place name s u lawful e = by (line_named 0 name s.names) refl e
  where
    by : (o : Option ℕ) → line_named 0 name s.names ≡ o → ◌≡◌ {A = Answer (Unit {0})} (elim o [ None ↦ Answer.done tt | Some line ↦ Answer.refused 2 place ]) (Answer.done u) → NothingWrong (NameWrong s name)
    by None t h = name_fine s name lawful (first_named s.names name None (sym t))
    by (Some line) t h = refused_done 2 place u h

pub room_then : (place : ℕ) (s : Sketch) (u : Unit {0}) → input_room place s ≡ Answer.done u → NothingWrong (RoomWrong s)
room_then place s u e = by (ltb (inputs s.lines) max_inputs) (ltb (length s.lines) max_lines) (eqb (inputs s.lines) (length s.lines)) refl refl refl e
  where
    by : (a b c : Bool) → ltb (inputs s.lines) max_inputs ≡ a → ltb (length s.lines) max_lines ≡ b → eqb (inputs s.lines) (length s.lines) ≡ c → ◌≡◌ {A = Answer (Unit {0})} (cond (a && b) (cond c (Answer.done tt) (Answer.refused 8 place)) (Answer.refused 6 place)) (Answer.done u) → NothingWrong (RoomWrong s)
    by true true true p q r h = room_fine s (ltb-true (inputs s.lines) max_inputs p) (ltb-true (length s.lines) max_lines q) (omega (arith, eqb-true (inputs s.lines) (length s.lines) r))
    by true true false p q r h = refused_done 8 place u h
    by true false c p q r h = refused_done 6 place u h
    by false b c p q r h = refused_done 6 place u h

pub cell_then : (family : Tables) (place : ℕ) (name : Option (List ℕ)) (word : List ℕ) (delay : ℕ) (pins : List ℕ) (s : Sketch) (made : Sketch × ℕ) → add_cell family place name word delay pins s ≡ Answer.done made → (table : ℕ) × (made ≡ (with_cell s name table delay pins, length s.lines))
cell_then family place name word delay pins s made e = by (family word (length pins)) (ltb (length s.lines) max_lines) e
  where
    by : (o : Option ℕ) (b : Bool) → elim o [ None ↦ Answer.refused 4 place | Some table ↦ cond b (Answer.done (with_cell s name table delay pins, length s.lines)) (Answer.refused 6 place) ] ≡ Answer.done made → (table : ℕ) × (made ≡ (with_cell s name table delay pins, length s.lines))
    by None b h = refused_done 4 place made h
    by (Some table) true h = (table, sym (done_same (with_cell s name table delay pins, length s.lines) made h))
    by (Some table) false h = refused_done 6 place made h

-- Names of lines.

pub line_low : (s : Sketch) (name : List ℕ) (line : ℕ) → length s.names ≡ length s.lines → line_named 0 name s.names ≡ Some line → line < length s.lines
line_low s name line same e = elim (cases_lt line (length s.names)) [ inl l ↦ omega arith | inr l ↦ absurd (past (get_or_past s.names line None l) (first_named s.names name (Some line) (sym e)).named.stands) ]
  where
    past : {own : List ℕ} → get_or s.names line None ≡ None → get_or s.names line None ≡ Some own → ⊥
    past a b = let z : ◌≡◌ {A = ℕ} 0 1 = cc in omega arith

unnamed : (names : List (Option (List ℕ))) (line : ℕ) → get_or (names ++ (None ∷ [])) line None ≡ get_or names line None
unnamed [] zero = refl
unnamed [] (suc line) = refl
unnamed (x ∷ names) zero = refl
unnamed (x ∷ names) (suc line) = unnamed names line

-- a cell without a name takes none
pub still_free : (s : Sketch) (name : List ℕ) (table delay : ℕ) (pins : List ℕ) → NothingWrong (NameWrong s name) → NothingWrong (NameWrong (with_cell s None table delay pins) name)
still_free s name table delay pins h _ (NameWrong.unlawful e) = h 1 (NameWrong.unlawful e)
still_free s name table delay pins h _ (NameWrong.taken line k) = h 2 (NameWrong.taken line (record { own = k.own; stands = sym (unnamed s.names line) ∙ k.stands; same = k.same }))
