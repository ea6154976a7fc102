-- What a write to one pin's time leaves. Assumes nothing.
use Rattle.std.proofs.Common.{◌≡◌, ℕ, zero, suc, ◌+◌, ◌<◌, refl, ◌∙◌, arith, below_more}
use Rattle.cells.specs.declared.pins.Pins.{Pins}
use Rattle.cells.specs.Pins.{at_pin, with_pin}

module _ {Time : Type 0} (times : Pins Time) (time : Time) where
  pub pin_same : (pin : ℕ) → at_pin (with_pin times pin time) pin ≡ time
  pin_same zero = refl
  pin_same (suc zero) = refl
  pin_same (suc (suc zero)) = refl
  pin_same (suc (suc (suc pin))) = refl

  pub pin_other : (pin other : ℕ) → other < pin → pin < 4 → at_pin (with_pin times pin time) other ≡ at_pin times other
  pin_other zero other l h = absurd (omega arith)
  pin_other (suc zero) zero l h = refl
  pin_other (suc zero) (suc other) l h = absurd (omega arith)
  pin_other (suc (suc zero)) zero l h = refl
  pin_other (suc (suc zero)) (suc zero) l h = refl
  pin_other (suc (suc zero)) (suc (suc other)) l h = absurd (omega arith)
  pin_other (suc (suc (suc pin))) zero l h = refl
  pin_other (suc (suc (suc pin))) (suc zero) l h = refl
  pin_other (suc (suc (suc pin))) (suc (suc zero)) l h = refl
  pin_other (suc (suc (suc pin))) (suc (suc (suc other))) l h = absurd (omega arith)

-- one pin more in a loop that fills them
pub pins_more : {Time : Type 0} (times : Pins Time) (want : ℕ → Time) (pin : ℕ) (time : Time) → pin < 4 → time ≡ want pin → ((k : ℕ) → k < pin → at_pin times k ≡ want k)
    → (k : ℕ) → k < pin + 1 → at_pin (with_pin times pin time) k ≡ want k
pins_more times want pin time room is sofar =
    below_more _ _ (λ k l. pin_other times time pin k l room ∙ sofar k l) (pin_same times time pin ∙ is)
