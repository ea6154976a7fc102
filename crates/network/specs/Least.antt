-- The number of a refusal, where several may fit: the least. Assumes nothing.
--     Wrong n     the refusal of that number fits a call
use Rattle.std.specs.Prelude.{ℕ, ◌≤◌}

-- the number fits, and no smaller one does
pub record Least (Wrong : ℕ → Type 0) (n : ℕ) : Type 0 where
  pub fits : Wrong n
  pub least : (m : ℕ) → Wrong m → n ≤ m

-- no number fits
abbrev pub NothingWrong : (ℕ → Type 0) → Type 0
NothingWrong Wrong = (n : ℕ) → Wrong n → ⊥
