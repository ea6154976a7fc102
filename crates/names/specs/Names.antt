-- Names and cell words, by their bytes, and when two are the same. Assumes nothing.
--     name        what a sheet calls a line
--     cell word   what a sheet calls a sort of cell
use Rattle.std.specs.Prelude.{ℕ, Bool, false, cond, ◌&&◌, ◌||◌, List, [], ◌∷◌, length, ◌==◌, nat_le}
use Rattle.std.specs.List.{list_all}
use Rattle.std.specs.Str.{bytes_eq}

-- a lower-case letter
abbrev pub letter : ℕ → Bool
letter b = nat_le 97 b && nat_le b 122

abbrev pub digit : ℕ → Bool
digit b = nat_le 48 b && nat_le b 57

-- a byte that goes on with a name
abbrev pub name_byte : ℕ → Bool
name_byte b = letter b || digit b

abbrev pub star : ℕ → Bool
star b = b == 42

-- the most bytes of a name, and of a cell word
abbrev pub max_name : ℕ
max_name = 8

-- letters or digits, the first a letter
abbrev pub letter_first : List ℕ → Bool
letter_first [] = false
letter_first (b ∷ bs) = letter b && list_all name_byte bs

-- some stars, or none, before such bytes
abbrev pub starred : List ℕ → Bool
starred [] = false
starred (b ∷ bs) = cond (star b) (starred bs) (letter_first (b ∷ bs))

-- a name: 1 to 8 lower-case letters or digits, the first a letter
abbrev pub lawful_name : List ℕ → Bool
lawful_name bytes = nat_le (length bytes) max_name && letter_first bytes

-- a cell word: some stars, or none, and then a name, at most 8 bytes together
abbrev pub lawful_word : List ℕ → Bool
lawful_word bytes = nat_le (length bytes) max_name && starred bytes

-- two names, or two cell words, are the same: byte for byte
abbrev pub same_word : List ℕ → List ℕ → Bool
same_word a b = bytes_eq a b
