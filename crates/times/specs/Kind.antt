-- What a kind of time is: a start, an order, and a way to let a delay pass. Assumes nothing.
--     kind.start              the time at which everything starts
--     kind.at_or_before a b   whether the time a is at or before the time b
--     kind.after a delay      the time when the delay has passed from the time a
use Rattle.std.specs.Prelude.{◌≡◌, ℕ, ◌≤◌, Bool, true, ◌⊎◌}

pub record Kind (Time : Type 0) : Type 0 where
  pub start : Time
  pub at_or_before : Time → Time → Bool
  pub after : Time → ℕ → Time

-- `a` is at or before `b`
abbrev pub NoLater : {Time : Type 0} → Kind Time → Time → Time → Type 0
NoLater kind a b = kind.at_or_before a b ≡ true

-- what every kind of time shows
pub record Laws {Time : Type 0} (kind : Kind Time) : Type 0 where
  -- of two times, one is at or before the other
  pub total : (a b : Time) → NoLater kind a b ⊎ NoLater kind b a
  -- times at or before each other are the same time
  pub antisymmetric : (a b : Time) → NoLater kind a b → NoLater kind b a → a ≡ b
  -- what is at or before a time is at or before every later one
  pub transitive : (a b c : Time) → NoLater kind a b → NoLater kind b c → NoLater kind a c
  -- the same delay keeps the order of two times
  pub same_delay : (a b : Time) (delay : ℕ) → NoLater kind a b → NoLater kind (kind.after a delay) (kind.after b delay)
  -- no delay ends before it began
  pub no_earlier : (a : Time) (delay : ℕ) → NoLater kind a (kind.after a delay)

-- a longer delay from the same time ends at the same time or later; it stands apart, since not every kind of time need show it
abbrev pub LongerLater : {Time : Type 0} → Kind Time → Type 0
LongerLater {Time} kind = (a : Time) (short long : ℕ) → short ≤ long → NoLater kind (kind.after a short) (kind.after a long)
