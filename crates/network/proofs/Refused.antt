-- The least number that fits a call of a draft, and what holds where none fits. Assumes nothing.
use Rattle.std.proofs.Common.{◌≡◌, ℕ, ◌<◌, ◌≤◌, Bool, true, false, leb, List, length, get_or, Some, None, Option, refl, subst, inl, inr, arith}
use Rattle.std.proofs.lemmas.Bool.{both_ways, leb-true, and_parts, cases_lt}
use Rattle.names.specs.Names.{max_name, lawful_name, lawful_word}
use Rattle.families.specs.Tables.{Tables}
use Rattle.lines.specs.Limits.{max_delay, max_inputs, max_lines}
use Rattle.lines.specs.Lines.{inputs}
use Rattle.network.specs.Least.{Least, NothingWrong}
use Rattle.network.specs.Refusals.{NameWrong, DelayWrong, RoomWrong, LabelWrong, InputWrong, CellWrong, SealWrong}
use Rattle.network.specs.Sketches.{Sketch, Named, NoneNamed, line_named}
use Rattle.network.proofs.Firsts.{none_named}

some_none : (o : Option ℕ) (x : ℕ) → o ≡ Some x → o ≡ None → ⊥
some_none o x p q = let z : ◌≡◌ {A = ℕ} 0 1 = cc in omega arith

pub delay_above : (d : ℕ) → max_delay < d → Least (DelayWrong d) 5
delay_above d h = record { fits = DelayWrong.above h; least = at_least }
  where
    at_least : (m : ℕ) → DelayWrong d m → 5 ≤ m
    at_least _ (DelayWrong.above _) = omega arith

pub delay_fine : (d : ℕ) → d ≤ max_delay → NothingWrong (DelayWrong d)
delay_fine d h _ (DelayWrong.above k) = omega arith

module _ (s : Sketch) where
  room_least : (m : ℕ) → RoomWrong s m → 6 ≤ m
  room_least _ (RoomWrong.inputs_full _) = omega arith
  room_least _ (RoomWrong.lines_full _) = omega arith
  room_least _ (RoomWrong.after_cell _) = omega arith

  pub room_inputs : max_inputs ≤ inputs s.lines → Least (RoomWrong s) 6
  room_inputs h = record { fits = RoomWrong.inputs_full h; least = room_least }

  pub room_full : max_lines ≤ length s.lines → Least (RoomWrong s) 6
  room_full h = record { fits = RoomWrong.lines_full h; least = room_least }

  pub room_after : inputs s.lines < max_inputs → length s.lines < max_lines → inputs s.lines < length s.lines → Least (RoomWrong s) 8
  room_after a b h = record { fits = RoomWrong.after_cell h; least = at_least }
    where
      at_least : (m : ℕ) → RoomWrong s m → 8 ≤ m
      at_least _ (RoomWrong.inputs_full k) = omega arith
      at_least _ (RoomWrong.lines_full k) = omega arith
      at_least _ (RoomWrong.after_cell _) = omega arith

  pub room_fine : inputs s.lines < max_inputs → length s.lines < max_lines → length s.lines ≤ inputs s.lines → NothingWrong (RoomWrong s)
  room_fine a b h _ (RoomWrong.inputs_full k) = omega arith
  room_fine a b h _ (RoomWrong.lines_full k) = omega arith
  room_fine a b h _ (RoomWrong.after_cell k) = omega arith

  module _ (name : List ℕ) where
    pub name_unlawful : lawful_name name ≡ false → Least (NameWrong s name) 1
    name_unlawful h = record { fits = NameWrong.unlawful h; least = at_least }
      where
        at_least : (m : ℕ) → NameWrong s name m → 1 ≤ m
        at_least _ (NameWrong.unlawful _) = omega arith
        at_least _ (NameWrong.taken _ _) = omega arith

    pub name_taken : lawful_name name ≡ true → (line : ℕ) → Named s.names name line → Least (NameWrong s name) 2
    name_taken l line h = record { fits = NameWrong.taken line h; least = at_least }
      where
        at_least : (m : ℕ) → NameWrong s name m → 2 ≤ m
        at_least _ (NameWrong.unlawful k) = absurd (both_ways (lawful_name name) k l)
        at_least _ (NameWrong.taken _ _) = omega arith

    pub name_fine : lawful_name name ≡ true → NoneNamed s.names name → NothingWrong (NameWrong s name)
    name_fine l h _ (NameWrong.unlawful k) = both_ways (lawful_name name) k l
    name_fine l h _ (NameWrong.taken line k) = h line k

    pub name_few : (m : ℕ) → NameWrong s name m → m ≤ 2
    name_few _ (NameWrong.unlawful _) = omega arith
    name_few _ (NameWrong.taken _ _) = omega arith

    -- Adding an input.
    module _ (delay : ℕ) where
      pub input_name : (n : ℕ) → Least (NameWrong s name) n → Least (InputWrong s name delay) n
      input_name n h = record { fits = InputWrong.in_name h.fits; least = at_least }
        where
          few : n ≤ 2
          few = name_few n h.fits

          at_least : (m : ℕ) → InputWrong s name delay m → n ≤ m
          at_least m (InputWrong.in_name k) = h.least m k
          at_least _ (InputWrong.in_delay (DelayWrong.above _)) = omega (arith, few)
          at_least m (InputWrong.in_room k) = omega (arith, few, room_least m k)

      pub input_delay : NothingWrong (NameWrong s name) → (n : ℕ) → Least (DelayWrong delay) n → Least (InputWrong s name delay) n
      input_delay none n h = record { fits = InputWrong.in_delay h.fits; least = at_least }
        where
          is_five : (m : ℕ) → DelayWrong delay m → m ≡ 5
          is_five _ (DelayWrong.above _) = refl

          at_least : (m : ℕ) → InputWrong s name delay m → n ≤ m
          at_least m (InputWrong.in_name k) = absurd (none m k)
          at_least m (InputWrong.in_delay k) = h.least m k
          at_least m (InputWrong.in_room k) = omega (arith, is_five n h.fits, room_least m k)

      pub input_room : NothingWrong (NameWrong s name) → NothingWrong (DelayWrong delay) → (n : ℕ) → Least (RoomWrong s) n → Least (InputWrong s name delay) n
      input_room none fine n h = record { fits = InputWrong.in_room h.fits; least = at_least }
        where
          at_least : (m : ℕ) → InputWrong s name delay m → n ≤ m
          at_least m (InputWrong.in_name k) = absurd (none m k)
          at_least m (InputWrong.in_delay k) = absurd (fine m k)
          at_least m (InputWrong.in_room k) = h.least m k

      pub input_fine : NothingWrong (NameWrong s name) → NothingWrong (DelayWrong delay) → NothingWrong (RoomWrong s) → NothingWrong (InputWrong s name delay)
      input_fine a b c n (InputWrong.in_name k) = a n k
      input_fine a b c n (InputWrong.in_delay k) = b n k
      input_fine a b c n (InputWrong.in_room k) = c n k

-- What nothing wrong says.

pub lawful_then : (s : Sketch) (name : List ℕ) → NothingWrong (NameWrong s name) → lawful_name name ≡ true
lawful_then s name none = by (lawful_name name) refl
  where
    by : (b : Bool) → lawful_name name ≡ b → lawful_name name ≡ true
    by true e = e
    by false e = absurd (none 1 (NameWrong.unlawful e))

pub short_name : (name : List ℕ) → lawful_name name ≡ true → length name ≤ max_name
short_name name e = leb-true (length name) max_name (and_parts (leb (length name) max_name) _ e).0

pub free_then : (s : Sketch) (name : List ℕ) → NothingWrong (NameWrong s name) → line_named 0 name s.names ≡ None
free_then s name none = none_named s.names name (λ line h. none 2 (NameWrong.taken line h))

pub slow_then : (d : ℕ) → NothingWrong (DelayWrong d) → d ≤ max_delay
slow_then d none = elim (cases_lt max_delay d) [ inl h ↦ absurd (none 5 (DelayWrong.above h)) | inr h ↦ h ]

pub few_then : (s : Sketch) → NothingWrong (RoomWrong s) → inputs s.lines < max_inputs
few_then s none = elim (cases_lt (inputs s.lines) max_inputs) [ inl h ↦ h | inr h ↦ absurd (none 6 (RoomWrong.inputs_full h)) ]

pub only_then : (s : Sketch) → NothingWrong (RoomWrong s) → length s.lines ≤ inputs s.lines
only_then s none = elim (cases_lt (inputs s.lines) (length s.lines)) [ inl h ↦ absurd (none 8 (RoomWrong.after_cell h)) | inr h ↦ h ]

pub spare_then : (s : Sketch) → NothingWrong (RoomWrong s) → length s.lines < max_lines
spare_then s none = elim (cases_lt (length s.lines) max_lines) [ inl h ↦ h | inr h ↦ absurd (none 6 (RoomWrong.lines_full h)) ]

-- The name of a cell.

pub label_none : (s : Sketch) → NothingWrong (LabelWrong s None)
label_none s n w = let z : ◌≡◌ {A = ℕ} 0 1 = clash w.1 in omega arith
  where
    clash : {bytes : List ℕ} → ◌≡◌ {A = Option (List ℕ)} None (Some bytes) → ◌≡◌ {A = ℕ} 0 1
    clash e = cc

label_is : (bytes other : List ℕ) → ◌≡◌ {A = Option (List ℕ)} (Some bytes) (Some other) → other ≡ bytes
label_is bytes other e = cc

pub label_fine : (s : Sketch) (bytes : List ℕ) → NothingWrong (NameWrong s bytes) → NothingWrong (LabelWrong s (Some bytes))
label_fine s bytes none n w = none n (subst (λ b. NameWrong s b n) (label_is bytes w.0 w.1) w.2)

pub label_least : (s : Sketch) (bytes : List ℕ) (n : ℕ) → Least (NameWrong s bytes) n → Least (LabelWrong s (Some bytes)) n
label_least s bytes n h = record { fits = (bytes, refl, h.fits); least = λ m w. h.least m (subst (λ b. NameWrong s b m) (label_is bytes w.0 w.1) w.2) }

-- Adding a cell.

module _ (tables : Tables) (s : Sketch) (name : Option (List ℕ)) (word : List ℕ) (delay : ℕ) (pins : List ℕ) where
  abbrev Wrong : ℕ → Type 0
  Wrong = CellWrong tables s name word delay pins

  label_some : (m : ℕ) → LabelWrong s name m → 1 ≤ m
  label_some m w = at_least m w.2
    where
      at_least : (m : ℕ) → NameWrong s w.0 m → 1 ≤ m
      at_least _ (NameWrong.unlawful _) = omega arith
      at_least _ (NameWrong.taken _ _) = omega arith

  delay_is : (m : ℕ) → DelayWrong delay m → m ≡ 5
  delay_is _ (DelayWrong.above _) = refl

  pub cell_word : lawful_word word ≡ false → Least (CellWrong tables s name word delay pins) 1
  cell_word h = record { fits = CellWrong.unlawful_word h; least = at_least }
    where
      at_least : (m : ℕ) → CellWrong tables s name word delay pins m → 1 ≤ m
      at_least m (CellWrong.in_name w) = label_some m w
      at_least _ (CellWrong.unlawful_word _) = omega arith
      at_least _ (CellWrong.no_table _) = omega arith
      at_least m (CellWrong.in_delay w) = omega (arith, delay_is m w)
      at_least _ (CellWrong.lines_full _) = omega arith
      at_least _ (CellWrong.not_below _ _ _) = omega arith

  module _ (lawful : lawful_word word ≡ true) where
    pub cell_label : (n : ℕ) → Least (LabelWrong s name) n → Least (CellWrong tables s name word delay pins) n
    cell_label n h = record { fits = CellWrong.in_name h.fits; least = at_least }
      where
        few : n ≤ 2
        few = name_few s h.fits.0 n h.fits.2

        at_least : (m : ℕ) → CellWrong tables s name word delay pins m → n ≤ m
        at_least m (CellWrong.in_name w) = h.least m w
        at_least _ (CellWrong.unlawful_word k) = absurd (both_ways (lawful_word word) k lawful)
        at_least _ (CellWrong.no_table _) = omega (arith, few)
        at_least m (CellWrong.in_delay w) = omega (arith, few, delay_is m w)
        at_least _ (CellWrong.lines_full _) = omega (arith, few)
        at_least _ (CellWrong.not_below _ _ _) = omega (arith, few)

    module _ (free : NothingWrong (LabelWrong s name)) where
      pub cell_no_table : tables word (length pins) ≡ None → Least (CellWrong tables s name word delay pins) 4
      cell_no_table h = record { fits = CellWrong.no_table h; least = at_least }
        where
          at_least : (m : ℕ) → CellWrong tables s name word delay pins m → 4 ≤ m
          at_least m (CellWrong.in_name w) = absurd (free m w)
          at_least _ (CellWrong.unlawful_word k) = absurd (both_ways (lawful_word word) k lawful)
          at_least _ (CellWrong.no_table _) = omega arith
          at_least m (CellWrong.in_delay w) = omega (arith, delay_is m w)
          at_least _ (CellWrong.lines_full _) = omega arith
          at_least _ (CellWrong.not_below _ _ _) = omega arith

      module _ (table : ℕ) (assigned : tables word (length pins) ≡ Some table) where
        pub cell_delay : (n : ℕ) → Least (DelayWrong delay) n → Least (CellWrong tables s name word delay pins) n
        cell_delay n h = record { fits = CellWrong.in_delay h.fits; least = at_least }
          where
            at_least : (m : ℕ) → CellWrong tables s name word delay pins m → n ≤ m
            at_least m (CellWrong.in_name w) = absurd (free m w)
            at_least _ (CellWrong.unlawful_word k) = absurd (both_ways (lawful_word word) k lawful)
            at_least _ (CellWrong.no_table k) = absurd (some_none _ table assigned k)
            at_least m (CellWrong.in_delay w) = h.least m w
            at_least _ (CellWrong.lines_full _) = omega (arith, delay_is n h.fits)
            at_least _ (CellWrong.not_below _ _ _) = omega (arith, delay_is n h.fits)

        module _ (slow : NothingWrong (DelayWrong delay)) where
          pub cell_full : max_lines ≤ length s.lines → Least (CellWrong tables s name word delay pins) 6
          cell_full h = record { fits = CellWrong.lines_full h; least = at_least }
            where
              at_least : (m : ℕ) → CellWrong tables s name word delay pins m → 6 ≤ m
              at_least m (CellWrong.in_name w) = absurd (free m w)
              at_least _ (CellWrong.unlawful_word k) = absurd (both_ways (lawful_word word) k lawful)
              at_least _ (CellWrong.no_table k) = absurd (some_none _ table assigned k)
              at_least m (CellWrong.in_delay w) = absurd (slow m w)
              at_least _ (CellWrong.lines_full _) = omega arith
              at_least _ (CellWrong.not_below _ _ _) = omega arith

          module _ (spare : length s.lines < max_lines) where
            pub cell_pin : (pin : ℕ) → pin < length pins → length s.lines ≤ get_or pins pin 0 → Least (CellWrong tables s name word delay pins) 10
            cell_pin pin l h = record { fits = CellWrong.not_below pin l h; least = at_least }
              where
                at_least : (m : ℕ) → CellWrong tables s name word delay pins m → 10 ≤ m
                at_least m (CellWrong.in_name w) = absurd (free m w)
                at_least _ (CellWrong.unlawful_word k) = absurd (both_ways (lawful_word word) k lawful)
                at_least _ (CellWrong.no_table k) = absurd (some_none _ table assigned k)
                at_least m (CellWrong.in_delay w) = absurd (slow m w)
                at_least _ (CellWrong.lines_full k) = omega arith
                at_least _ (CellWrong.not_below _ _ _) = omega arith

            pub cell_fine : ((pin : ℕ) → pin < length pins → get_or pins pin 0 < length s.lines) → NothingWrong (CellWrong tables s name word delay pins)
            cell_fine below m (CellWrong.in_name w) = free m w
            cell_fine below _ (CellWrong.unlawful_word k) = both_ways (lawful_word word) k lawful
            cell_fine below _ (CellWrong.no_table k) = some_none _ table assigned k
            cell_fine below m (CellWrong.in_delay w) = slow m w
            cell_fine below _ (CellWrong.lines_full k) = omega arith
            cell_fine below _ (CellWrong.not_below pin l k) = omega (arith, below pin l)

-- Sealing.

pub seal_none : (s : Sketch) → inputs s.lines ≡ 0 → Least (SealWrong s) 9
seal_none s h = record { fits = SealWrong.no_input h; least = at_least }
  where
    at_least : (m : ℕ) → SealWrong s m → 9 ≤ m
    at_least _ (SealWrong.no_input _) = omega arith

pub seal_fine : (s : Sketch) → 0 < inputs s.lines → NothingWrong (SealWrong s)
seal_fine s h _ (SealWrong.no_input k) = omega arith

pub seal_then : (s : Sketch) → NothingWrong (SealWrong s) → 1 ≤ inputs s.lines
seal_then s none = elim (cases_lt 0 (inputs s.lines)) [ inl h ↦ h | inr h ↦ absurd (none 9 (SealWrong.no_input (omega arith))) ]
