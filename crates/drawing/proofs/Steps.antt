-- What the draft answers is what the drawing says. Assumes nothing.
use Rattle.std.proofs.Common.{◌≡◌, ℕ, ◌<◌, ◌≤◌, Bool, true, false, cond, ◌&&◌, eqb, ltb, ◌⊎◌, List, length, Some, None, Option, sym, refl, ap, ◌∙◌, inl, inr, arith}
use Rattle.std.proofs.lemmas.Bool.{both_ways, lt-ltb, le-ltb, le-leb, lt-leb, eq-eqb, ne_eqb, cases_lt}
use Rattle.names.specs.Names.{lawful_name, lawful_word}
use Rattle.families.specs.Tables.{Tables}
use Rattle.lines.specs.Limits.{max_delay, max_inputs, max_lines}
use Rattle.lines.specs.Lines.{inputs}
use Rattle.lines.proofs.Lawfuls.{inputs_few}
use Rattle.network.specs.Drafts.{CellAdded}
use Rattle.network.specs.Least.{Least, NothingWrong}
use Rattle.network.specs.Refusals.{NameWrong, DelayWrong, RoomWrong, LabelWrong, InputWrong, CellWrong, SealWrong}
use Rattle.network.specs.Sketches.{Sketch, with_cell}
use Rattle.network.proofs.Firsts.{some_named}
use Rattle.network.proofs.Refused.{free_then, slow_then, few_then, only_then, spare_then, seal_then}
use Rattle.drawing.specs.Drawing.{Answer, number_from, input_room, name_free, delay_from, add_cell, sealable}
use Rattle.drawing.specs.Fits.{Below}

-- Names.

abbrev taken_at : ℕ → Option ℕ → Answer (Unit {0})
taken_at place o = elim o [ None ↦ Answer.done tt | Some line ↦ Answer.refused 2 place ]

pub name_refused : (s : Sketch) (name : List ℕ) (place k : ℕ) → lawful_name name ≡ true → Least (NameWrong s name) k → name_free place name s ≡ Answer.refused k place
name_refused s name place k lawful h = by k h.fits
  where
    by : (k : ℕ) → NameWrong s name k → name_free place name s ≡ Answer.refused k place
    by _ (NameWrong.unlawful e) = absurd (both_ways (lawful_name name) e lawful)
    by _ (NameWrong.taken line e) = ap (taken_at place) (some_named s.names name line e).1

pub name_fine : (s : Sketch) (name : List ℕ) (place : ℕ) → NothingWrong (NameWrong s name) → name_free place name s ≡ Answer.done tt
name_fine s name place h = ap (taken_at place) (free_then s name h)

-- Delays.

pub delay_refused : (digits : List ℕ) (place k : ℕ) → DelayWrong (number_from 0 digits) k → delay_from place digits ≡ Answer.refused k place
delay_refused digits place _ (DelayWrong.above l) = ap (λ b. cond b (Answer.done (number_from 0 digits)) (Answer.refused 5 place)) (lt-leb (number_from 0 digits) max_delay l)

pub delay_fine : (digits : List ℕ) (place : ℕ) → NothingWrong (DelayWrong (number_from 0 digits)) → delay_from place digits ≡ Answer.done (number_from 0 digits)
delay_fine digits place h = ap (λ b. cond b (Answer.done (number_from 0 digits)) (Answer.refused 5 place)) (le-leb (number_from 0 digits) max_delay (slow_then (number_from 0 digits) h))

-- Inputs.

module _ (s : Sketch) (place : ℕ) where
  abbrev told : Bool → Bool → Bool → Answer (Unit {0})
  told a b c = cond (a && b) (cond c (Answer.done tt) (Answer.refused 8 place)) (Answer.refused 6 place)

  full_lines : (a c : Bool) → told a false c ≡ Answer.refused 6 place
  full_lines true c = refl
  full_lines false c = refl

  abbrev few : Bool
  few = ltb (inputs s.lines) max_inputs

  abbrev spare : Bool
  spare = ltb (length s.lines) max_lines

  abbrev only : Bool
  only = eqb (inputs s.lines) (length s.lines)

  room_told : (c : Bool) → inputs s.lines < max_inputs → length s.lines < max_lines → only ≡ c → input_room place s ≡ told true true c
  room_told c l m e = ap (λ v. told v spare only) (lt-ltb (inputs s.lines) max_inputs l) ∙ ap (λ v. told true v only) (lt-ltb (length s.lines) max_lines m) ∙ ap (told true true) e

  pub room_refused : (k : ℕ) → Least (RoomWrong s) k → input_room place s ≡ Answer.refused k place
  room_refused k h = by k h.fits h.least
    where
      by : (k : ℕ) → RoomWrong s k → ((m : ℕ) → RoomWrong s m → k ≤ m) → input_room place s ≡ Answer.refused k place
      by _ (RoomWrong.inputs_full l) least = ap (λ v. told v spare only) (le-ltb (inputs s.lines) max_inputs l)
      by _ (RoomWrong.lines_full l) least = ap (λ v. told few v only) (le-ltb (length s.lines) max_lines l) ∙ full_lines few only
      by _ (RoomWrong.after_cell l) least = after (cases_lt (inputs s.lines) max_inputs) (cases_lt (length s.lines) max_lines)
        where
          after : (inputs s.lines < max_inputs) ⊎ (max_inputs ≤ inputs s.lines) → (length s.lines < max_lines) ⊎ (max_lines ≤ length s.lines) → input_room place s ≡ Answer.refused 8 place
          after (inr full) any = let z = least 6 (RoomWrong.inputs_full full) in absurd (omega (arith, z))
          after (inl e) (inr full) = let z = least 6 (RoomWrong.lines_full full) in absurd (omega (arith, z))
          after (inl e) (inl f) = room_told false e f (ne_eqb (inputs s.lines) (length s.lines) (λ g. omega arith))

  pub room_fine : NothingWrong (RoomWrong s) → input_room place s ≡ Answer.done tt
  room_fine h = room_told true (few_then s h) (spare_then s h) (eq-eqb (inputs s.lines) (length s.lines) (omega (arith, only_then s h, inputs_few s.lines)))

-- an input at its delay, where its name and its room are fine
pub input_refused : (s : Sketch) (name digits : List ℕ) (place k : ℕ) → NothingWrong (NameWrong s name) → NothingWrong (RoomWrong s) → InputWrong s name (number_from 0 digits) k → delay_from place digits ≡ Answer.refused k place
input_refused s name digits place k free room (InputWrong.in_name w) = absurd (free k w)
input_refused s name digits place k free room (InputWrong.in_delay w) = delay_refused digits place k w
input_refused s name digits place k free room (InputWrong.in_room w) = absurd (room k w)

-- Cells.

module _ (family : Tables) (place : ℕ) (name : Option (List ℕ)) (word : List ℕ) (delay : ℕ) (pins : List ℕ) (s : Sketch) where
  abbrev given : Option ℕ → Bool → Answer (Sketch × ℕ)
  given o b = elim o [ None ↦ Answer.refused 4 place | Some table ↦ cond b (Answer.done (with_cell s name table delay pins, length s.lines)) (Answer.refused 6 place) ]

  abbrev spare_line : Bool
  spare_line = ltb (length s.lines) max_lines

  pub cell_refused : (k : ℕ) → NothingWrong (LabelWrong s name) → lawful_word word ≡ true → delay ≤ max_delay → Below (length s.lines) pins → Least (CellWrong family s name word delay pins) k → add_cell family place name word delay pins s ≡ Answer.refused k place
  cell_refused k free lawful slow below h = by k h.fits h.least
    where
      too_many : (o : Option ℕ) → family word (length pins) ≡ o → max_lines ≤ length s.lines → ((m : ℕ) → CellWrong family s name word delay pins m → 6 ≤ m) → add_cell family place name word delay pins s ≡ Answer.refused 6 place
      too_many None e l least = let z = least 4 (CellWrong.no_table e) in absurd (omega (arith, z))
      too_many (Some table) e l least = ap (λ o. given o spare_line) e ∙ ap (given (Some table)) (le-ltb (length s.lines) max_lines l)

      slow_enough : (k : ℕ) → DelayWrong delay k → ⊥
      slow_enough _ (DelayWrong.above l) = omega arith

      by : (k : ℕ) → CellWrong family s name word delay pins k → ((m : ℕ) → CellWrong family s name word delay pins m → k ≤ m) → add_cell family place name word delay pins s ≡ Answer.refused k place
      by k (CellWrong.in_name w) least = absurd (free k w)
      by _ (CellWrong.unlawful_word e) least = absurd (both_ways (lawful_word word) e lawful)
      by _ (CellWrong.no_table e) least = ap (λ o. given o spare_line) e
      by k (CellWrong.in_delay w) least = absurd (slow_enough k w)
      by _ (CellWrong.lines_full l) least = too_many (family word (length pins)) refl l least
      by _ (CellWrong.not_below pin l m) least = let z = below pin l in absurd (omega (arith, z))

  pub cell_added : (after : Sketch) (line : ℕ) → CellAdded family s after name word delay pins line → add_cell family place name word delay pins s ≡ Answer.done (after, line)
  cell_added after line h =
      let room : length s.lines < max_lines = elim (cases_lt (length s.lines) max_lines) [ inl l ↦ l | inr l ↦ absurd (h.asked 6 (CellWrong.lines_full l)) ] in
      ap (λ o. given o spare_line) h.assigned ∙ ap (given (Some h.table)) (lt-ltb (length s.lines) max_lines room)
      ∙ ap (λ v. Answer.done (v, length s.lines)) (sym h.sketch) ∙ ap (λ v. Answer.done (after, v)) (sym h.number)

-- Sealing.

abbrev seal_by : ℕ → Sketch → Bool → Answer Sketch
seal_by place s b = cond b (Answer.refused 9 place) (Answer.done s)

pub seal_refused : (s : Sketch) (place k : ℕ) → SealWrong s k → sealable place s ≡ Answer.refused k place
seal_refused s place _ (SealWrong.no_input e) = ap (seal_by place s) (eq-eqb (inputs s.lines) 0 e)

pub seal_fine : (s : Sketch) (place : ℕ) → NothingWrong (SealWrong s) → sealable place s ≡ Answer.done s
seal_fine s place h = let some = seal_then s h in ap (seal_by place s) (ne_eqb (inputs s.lines) 0 (λ e. omega (arith, some)))
