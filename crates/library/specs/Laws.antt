-- Laws of the entries of a library. Assumes nothing.
use Rattle.std.specs.Prelude.{◌≡◌, ℕ, zero, suc, ◌^◌, ◌<◌, ◌≤◌, Bool, true, false, cond, ◌⊎◌, List, [], ◌∷◌, length, take, is_some as option_is_some, Some, None, codes, Decides, Option, ◌==◌, slice_index_or, refl}
use Rattle.std.proofs.Common.{sym, ap, subst, ◌∙◌, inl, inr, arith}
use Rattle.std.specs.List.{ContainsAt as Has}
use Rattle.std.proofs.ByRecursion.{has_append_right}
use Rattle.std.proofs.lemmas.List.{get_or-take, length-take-le}
use Rattle.std.proofs.lemmas.Bool.{false≢true, both_ways, cases_lt, cases_order, and_parts, and_from, eqb-true, eq-eqb}
use Rattle.std.proofs.lemmas.Bool.Decides.{not_from_Decides}
use Rattle.families.specs.Tables.{LawfulTable, LawfulTables}
use Rattle.names.specs.Kept.{bytes_of}
use Rattle.names.specs.Names.{lawful_name, same_word}
use Rattle.names.specs.declared.name.Name.{Name}
use Rattle.names.proofs.Same.{same_turned, same_through}
use Rattle.lines.specs.Limits.{max_pins}
use Rattle.library.specs.declared.entry.Entry.{Entry}
use Rattle.library.specs.Board.{maj_table, mux_table}
use Rattle.library.specs.Entries.{name_of, is_for, Bad, NoneBad, assigned, HasTable, AssignsByEntries}

-- What a list has.

has_first : (entry : Entry) (entries : List Entry) → Has (entry ∷ entries) entry
has_first entry entries = (0, omega arith, λ d. refl)

has_cases : (entry : Entry) (entries : List Entry) (other : Entry) → Has (entry ∷ entries) other → (entry ≡ other) ⊎ Has entries other
has_cases entry entries other (zero, l, here) = inl (here entry)
has_cases entry entries other (suc k, l, here) = inr (k, omega arith, here)

-- What is assigned is the table of an entry, and nothing where no entry is for the word and the pins.

pub has_table : (entries : List Entry) (word : List ℕ) (pins table : ℕ) → assigned entries word pins ≡ Some table → HasTable entries word pins table
has_table [] word pins table e = let z : ◌≡◌ {A = ℕ} 0 1 = cc in absurd (omega arith)
has_table (entry ∷ entries) word pins table e = by (is_for word pins entry) refl e (has_table entries word pins table)
  where
    by : (b : Bool) → is_for word pins entry ≡ b → cond b (Some entry.table) (assigned entries word pins) ≡ Some table → (assigned entries word pins ≡ Some table → HasTable entries word pins table) → HasTable (entry ∷ entries) word pins table
    by true t h later = record { entry = entry; listed = has_first entry entries; for_them = t; its_table = cc }
    by false t h later =
        let found = later h in
        record { entry = found.entry; listed = has_append_right (entry ∷ []) entries found.entry found.listed; for_them = found.for_them; its_table = found.its_table }

pub is_some : (entries : List Entry) (word : List ℕ) (pins : ℕ) (entry : Entry) → Has entries entry → is_for word pins entry ≡ true → option_is_some (assigned entries word pins) ≡ true
is_some [] word pins entry h t = absurd (omega (arith, h.1))
is_some (first ∷ entries) word pins entry h t = by (is_for word pins first) refl (λ later. is_some entries word pins entry later t)
  where
    by : (b : Bool) → is_for word pins first ≡ b → (Has entries entry → option_is_some (assigned entries word pins) ≡ true) → option_is_some (cond b (Some first.table) (assigned entries word pins)) ≡ true
    by true e later = refl
    by false e later = elim (has_cases first entries entry h) [
      | inl same ↦ absurd (both_ways (is_for word pins first) e (ap (is_for word pins) same ∙ t))
      | inr there ↦ later there
    ]

-- An entry with nothing else wrong is bad where an earlier one is for its name and pins.
pub repeated_decides : (earlier : List Entry) (entry : Entry) → lawful_name (name_of entry) ≡ true → 1 ≤ entry.pins → entry.pins ≤ max_pins → entry.table < 2 ^ (2 ^ entry.pins) → Decides (option_is_some (assigned earlier (name_of entry) entry.pins)) (Bad earlier entry)
repeated_decides earlier entry lawful some few fits = (by (assigned earlier (name_of entry) entry.pins) refl, only)
  where
    by : (o : Option ℕ) → assigned earlier (name_of entry) entry.pins ≡ o → option_is_some o ≡ true → Bad earlier entry
    by (Some table) e s = let h = has_table earlier (name_of entry) entry.pins table e in Bad.repeated h.entry h.listed h.for_them
    by None e s = absurd (false≢true s)

    only : Bad earlier entry → option_is_some (assigned earlier (name_of entry) entry.pins) ≡ true
    only (Bad.unlawful_name u) = absurd (both_ways _ u lawful)
    only (Bad.no_pins u) = absurd (omega arith)
    only (Bad.too_many_pins u) = absurd (omega arith)
    only (Bad.bit_past_rows u) = absurd (omega arith)
    only (Bad.repeated other h t) = is_some earlier (name_of entry) entry.pins other h t

-- Two entries for the same word and pins are for one another's.
alike : (word : List ℕ) (pins : ℕ) (a b : Entry) → is_for word pins a ≡ true → is_for word pins b ≡ true → is_for (name_of b) b.pins a ≡ true
alike word pins a b s t =
    let p = and_parts (a.pins == pins) (same_word (name_of a) word) s in
    let q = and_parts (b.pins == pins) (same_word (name_of b) word) t in
    and_from _ _ (eq-eqb a.pins b.pins (eqb-true _ _ p.0 ∙ sym (eqb-true _ _ q.0))) (same_through (name_of a) word (name_of b) p.1 (same_turned (name_of b) word q.1))

module _ (entries : List Entry) (none : NoneBad entries) where
  -- an entry that is listed is not bad
  not_bad : (entry : Entry) (h : Has entries entry) → Bad (take h.0 entries) entry → ⊥
  not_bad entry h b = none h.0 h.1 (λ d. subst (Bad (take h.0 entries)) (sym (h.2 d)) b)

  -- of two places, the later one would be bad
  not_two : (word : List ℕ) (pins : ℕ) (a b : Entry) (h : Has entries a) (k : Has entries b) → is_for word pins a ≡ true → is_for word pins b ≡ true → h.0 < k.0 → ⊥
  not_two word pins a b h k s t l =
      let kept : length (take k.0 entries) ≡ k.0 = length-take-le k.0 entries (omega (arith, k.1)) in
      not_bad b k (Bad.repeated a (h.0, omega arith, λ d. get_or-take k.0 entries h.0 d l ∙ h.2 d) (alike word pins a b s t))

  one_table : (word : List ℕ) (pins : ℕ) (a b : Entry) (h : Has entries a) (k : Has entries b) → is_for word pins a ≡ true → is_for word pins b ≡ true → a.table ≡ b.table
  one_table word pins a b h k s t = elim (cases_order h.0 k.0) [
    | inl same ↦ ap (λ (e : Entry). e.table) (sym (h.2 a) ∙ ap (λ n. slice_index_or entries n a) same ∙ k.2 a)
    | inr (inl l) ↦ absurd (not_two word pins a b h k s t l)
    | inr (inr l) ↦ absurd (not_two word pins b a k h t s l)
  ]

  each_entry : (word : List ℕ) (pins table : ℕ) → HasTable entries word pins table → assigned entries word pins ≡ Some table
  each_entry word pins table h = by (assigned entries word pins) refl (is_some entries word pins h.entry h.listed h.for_them)
    where
      by : (o : Option ℕ) → assigned entries word pins ≡ o → option_is_some o ≡ true → o ≡ Some table
      by None e s = absurd (false≢true s)
      by (Some found) e s =
          let other = has_table entries word pins found e in
          ap Some (sym other.its_table ∙ one_table word pins other.entry h.entry other.listed h.listed other.for_them h.for_them ∙ h.its_table)

  pub by_entries : AssignsByEntries entries
  by_entries = record { from_entry = has_table entries; each_entry = each_entry }

  pub library_lawful : LawfulTables (assigned entries)
  library_lawful word pins table e =
      let h = has_table entries word pins table e in
      let good = not_bad h.entry h.listed in
      let same = eqb-true _ _ (and_parts (h.entry.pins == pins) _ h.for_them).0 in
      subst (λ p. LawfulTable p table) same (subst (LawfulTable h.entry.pins) h.its_table (record {
        some_pins = elim (cases_lt h.entry.pins 1) [ inl l ↦ absurd (good (Bad.no_pins (omega arith))) | inr l ↦ l ];
        few_pins = elim (cases_lt max_pins h.entry.pins) [ inl l ↦ absurd (good (Bad.too_many_pins l)) | inr l ↦ l ];
        fits = elim (cases_lt h.entry.table (2 ^ (2 ^ h.entry.pins))) [ inl l ↦ l | inr l ↦ absurd (good (Bad.bit_past_rows l)) ];
      }))

-- The board's two entries.

abbrev pub maj_entry : Name → Entry
maj_entry name = record { name = name; pins = 3; table = maj_table }

abbrev pub mux_entry : Name → Entry
mux_entry name = record { name = name; pins = 3; table = mux_table }

pub board_good : (maj mux : Name) → bytes_of maj ≡ codes "maj" → bytes_of mux ≡ codes "mux" → NoneBad (maj_entry maj ∷ mux_entry mux ∷ [])
board_good maj mux a b zero l bad =
    not_from_Decides _ (repeated_decides [] (maj_entry maj) (ap lawful_name a) (omega arith) (omega arith) (omega arith)) refl (bad (maj_entry maj))
board_good maj mux a b (suc zero) l bad =
    let other : same_word (bytes_of maj) (bytes_of mux) ≡ false = ap (λ v. same_word v (bytes_of mux)) a ∙ ap (same_word (codes "maj")) b in
    not_from_Decides _ (repeated_decides (maj_entry maj ∷ []) (mux_entry mux) (ap lawful_name b) (omega arith) (omega arith) (omega arith)) (ap (λ v. option_is_some (cond v (Some maj_table) None)) other) (bad (mux_entry mux))
board_good maj mux a b (suc (suc n)) l bad = omega arith
