use Rattle.std.proofs.Common.{◌≡◌, ℕ, ◌<◌, slice_index_or}
use Rattle.lines.specs.Lines.{feeder}
use Rattle.cells.specs.Pins.{at_pin}
use Rattle.settling.proofs.pins.at_pins.Given as goal

-- the pins so far are written
abbrev pub invariant-loop-pin : goal.invariant-loop-pin
invariant-loop-pin g l = (pin : ℕ) → pin < l.pin → at_pin l.at pin ≡ slice_index_or l.known (feeder l.fn.cell pin) l.fn.other
