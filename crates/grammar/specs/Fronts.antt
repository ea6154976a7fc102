-- The word at the front of a text. Assumes nothing.
use Rattle.std.specs.Prelude.{◌≡◌, ℕ, ◌-◌, ◌<◌, ◌≤◌, Bool, false, List, ◌∷◌, length, take, drop, Some, Result, slice_index, MatchResult, ◌≢◌}
use Rattle.sheets.specs.Sheet.{Each}
use Rattle.sheets.specs.Recogniser.{Item, Outcome, open_brackets, outcome, most_open}

-- r bytes at the front pass the test, and no more of the first few do
pub record Front (test : ℕ → Bool) (most : ℕ) (s : List ℕ) (r : ℕ) : Type 0 where
  pub within : r ≤ length s
  pub few : r ≤ most
  pub all : Each test (take r s)
  pub stops : r < length s → r < most → test (slice_index s r) ≡ false

-- the byte is the first of s, and has length 1, or it is not
abbrev pub ByteFront : ℕ → List ℕ → Result ℕ ℕ → Type 0
ByteFront b s r = MatchResult r (λ n. (n ≡ 1) × ((xs : List ℕ) × (s ≡ b ∷ xs))) (λ k. (k ≡ 0) × ((xs : List ℕ) → s ≢ b ∷ xs))

-- the word at the front of s has r bytes; where there is none, r is the number of bytes that one could begin with
abbrev pub WordFront : (List ℕ → Type 0) → Item → List ℕ → ℕ → Type 0
WordFront Is i s r = (r ≤ length s) × Is (take r s) × ((t : List Item) → open_brackets t ≤ most_open → outcome most_open (Some (i ∷ t)) s ≡ outcome most_open (Some t) (drop r s))

abbrev pub NoWordFront : Item → List ℕ → ℕ → Type 0
NoWordFront i s r = (r ≤ length s) × ((t : List Item) → open_brackets t ≤ most_open → outcome most_open (Some (i ∷ t)) s ≡ Outcome.broken (length s - r))
