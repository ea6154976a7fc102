-- What stands at the pins of a cell, as the code keeps it: a field for each of four pins; a number past 3 means pin 3. Assumes nothing.
use Rattle.std.specs.Prelude.{ℕ, zero, suc}
use Rattle.cells.specs.declared.pins.Pins.{Pins}

-- the same at every pin
abbrev pub all_pins : {X : Type 0} → X → Pins X
all_pins thing = record { zero = thing; one = thing; two = thing; three = thing }

-- what stands at a pin
abbrev pub at_pin : {X : Type 0} → Pins X → ℕ → X
at_pin pins zero = pins.zero
at_pin pins (suc zero) = pins.one
at_pin pins (suc (suc zero)) = pins.two
at_pin pins (suc (suc (suc pin))) = pins.three

-- the same but for one pin
abbrev pub with_pin : {X : Type 0} → Pins X → ℕ → X → Pins X
with_pin pins zero new = record { zero = new; one = pins.one; two = pins.two; three = pins.three }
with_pin pins (suc zero) new = record { zero = pins.zero; one = new; two = pins.two; three = pins.three }
with_pin pins (suc (suc zero)) new = record { zero = pins.zero; one = pins.one; two = new; three = pins.three }
with_pin pins (suc (suc (suc pin))) new = record { zero = pins.zero; one = pins.one; two = pins.two; three = new }
