-- The limits of drafts and networks. Assumes nothing.
use Rattle.std.specs.Prelude.{ℕ}

-- the greatest delay, in ticks
abbrev pub max_delay : ℕ
max_delay = 1000000

-- the most inputs
abbrev pub max_inputs : ℕ
max_inputs = 24

-- the most lines, inputs counted
abbrev pub max_lines : ℕ
max_lines = 512

-- the most pins of a cell
abbrev pub max_pins : ℕ
max_pins = 4
