-- Names and cell words taken apart byte by byte, and put together. Assumes nothing.
use Rattle.std.proofs.Common.{◌≡◌, ℕ, ◌≤◌, Bool, true, false, cond, ◌&&◌, leb, ◌⊎◌, List, [], ◌∷◌, length, sym, refl, ap, ◌∙◌, inl, inr, arith, eq-eqb, eqb-true, le-leb, leb-true}
use Rattle.std.proofs.lemmas.Bool.{and_parts, and_from}
use Rattle.std.specs.List.{list_all}
use Rattle.names.specs.Names.{letter, name_byte, star, max_name, letter_first, starred}
use Rattle.sheets.specs.Sheet.{Name, CellWord, Each}

-- a letter, and at most seven letters and digits
abbrev pub NameParts : List ℕ → Type 0
NameParts [] = ⊥
NameParts (b ∷ bs) = (letter b ≡ true) × Each name_byte bs × (length bs ≤ 7)

-- some stars, or none, and then a letter and any letters and digits
abbrev pub Starred : List ℕ → Type 0
Starred [] = ⊥
Starred (b ∷ bs) = ((b ≡ 42) × Starred bs) ⊎ ((letter b ≡ true) × Each name_byte bs)

each_of : (test : ℕ → Bool) (bs : List ℕ) → list_all test bs ≡ true → Each test bs
each_of test [] e = tt
each_of test (b ∷ bs) e = let parts = and_parts (test b) (list_all test bs) e in (parts.0, each_of test bs parts.1)

of_each : (test : ℕ → Bool) (bs : List ℕ) → Each test bs → list_all test bs ≡ true
of_each test [] e = refl
of_each test (b ∷ bs) e = and_from (test b) (list_all test bs) e.0 (of_each test bs e.1)

pub name_parts : (n : List ℕ) → Name n → NameParts n
name_parts [] h = let z : ◌≡◌ {A = ℕ} 0 1 = cc in omega arith
name_parts (b ∷ bs) h =
    let parts = and_parts (leb (length (b ∷ bs)) max_name) (letter_first (b ∷ bs)) h in
    let short = leb-true (length (b ∷ bs)) max_name parts.0 in
    let first = and_parts (letter b) (list_all name_byte bs) parts.1 in
    (first.0, each_of name_byte bs first.1, omega arith)

pub name_made : (n : List ℕ) → NameParts n → Name n
name_made [] h = absurd h
name_made (b ∷ bs) h =
    and_from (leb (length (b ∷ bs)) max_name) (letter_first (b ∷ bs)) (le-leb (length (b ∷ bs)) max_name (omega (arith, h.2))) (and_from (letter b) (list_all name_byte bs) h.0 (of_each name_byte bs h.1))

starred_of : (w : List ℕ) → starred w ≡ true → Starred w
starred_of [] e = let z : ◌≡◌ {A = ℕ} 0 1 = cc in omega arith
starred_of (b ∷ bs) e = by (starred_of bs) (star b) refl
  where
    by : (starred bs ≡ true → Starred bs) → (t : Bool) → star b ≡ t → ((b ≡ 42) × Starred bs) ⊎ ((letter b ≡ true) × Each name_byte bs)
    by rest true s = inl (eqb-true b 42 s, rest (sym (ap (λ t. cond t (starred bs) (letter_first (b ∷ bs))) s) ∙ e))
    by rest false s =
        let first : letter b && list_all name_byte bs ≡ true = sym (ap (λ t. cond t (starred bs) (letter_first (b ∷ bs))) s) ∙ e in
        let parts = and_parts (letter b) (list_all name_byte bs) first in
        inr (parts.0, each_of name_byte bs parts.1)

no_star : (b : ℕ) (t : Bool) → star b ≡ t → letter b ≡ true → star b ≡ false
no_star b true s h = absurd (let z : true ≡ false = sym h ∙ ap letter (eqb-true b 42 s) in let y : ◌≡◌ {A = ℕ} 0 1 = cc in omega arith)
no_star b false s h = s

of_starred : (w : List ℕ) → Starred w → starred w ≡ true
of_starred [] h = absurd h
of_starred (b ∷ bs) (inl h) = ap (λ t. cond t (starred bs) (letter_first (b ∷ bs))) (eq-eqb b 42 h.0) ∙ of_starred bs h.1
of_starred (b ∷ bs) (inr h) =
    ap (λ t. cond t (starred bs) (letter_first (b ∷ bs))) (no_star b (star b) refl h.0) ∙ and_from (letter b) (list_all name_byte bs) h.0 (of_each name_byte bs h.1)

pub word_parts : (w : List ℕ) → CellWord w → Starred w × (length w ≤ max_name)
word_parts w h =
    let parts = and_parts (leb (length w) max_name) (starred w) h in
    (starred_of w parts.1, leb-true (length w) max_name parts.0)

pub word_made : (w : List ℕ) → Starred w → length w ≤ max_name → CellWord w
word_made w h short = and_from (leb (length w) max_name) (starred w) (le-leb (length w) max_name short) (of_starred w h)
