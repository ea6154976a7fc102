-- Two kinds of time: ticks, and ticks with stages. Assumes nothing.
-- The laws are owed for every number of the logic, so a count past the greatest, which no program holds, stays where it is:
-- that is the outer `max` and `later` below. What the counts of a program become is said without it, by the functions' own clauses.
use Rattle.std.specs.Prelude.{◌≡◌, ℕ, ◌+◌, ◌-◌, ◌^◌, ◌<◌, ◌≤◌, min, max, Bool, cond, ◌&&◌, ◌||◌, ◌⊎◌, ◌==◌, nat_le, nat_lt}
use Rattle.times.specs.declared.staged.Staged.{Staged}
use Rattle.times.specs.declared.ticks.Ticks.{Ticks}
use Rattle.times.specs.Kind.{Kind}

abbrev pub greatest_ticks : ℕ
greatest_ticks = 2 ^ 64 - 1

abbrev pub greatest_stages : ℕ
greatest_stages = 2 ^ 32 - 1

-- a count of ticks from 0; a sum above the greatest gives the greatest
abbrev pub ticks_kind : Kind Ticks
ticks_kind = record {
  start = record { ticks = 0 };
  at_or_before = λ a b. nat_le a.ticks b.ticks;
  after = λ a delay. record { ticks = max a.ticks (min greatest_ticks (a.ticks + delay)) };
}

-- fewer ticks, or as many ticks and no more stages
abbrev pub TicksThenStages : Staged → Staged → Type 0
TicksThenStages a b = (a.ticks < b.ticks) ⊎ ((a.ticks ≡ b.ticks) × (a.stages ≤ b.stages))

-- `b` is what a delay makes of `a`
pub record StagedSum (a : Staged) (delay : ℕ) (b : Staged) : Type 0 where
  -- a tick sum up to the greatest is the tick count, and there is one stage more, but the greatest stage count stays
  pub fits : a.ticks + delay ≤ greatest_ticks → (b.ticks ≡ a.ticks + delay) × (b.stages ≡ min greatest_stages (a.stages + 1))
  -- a tick sum above the greatest sets both counts to their greatest
  pub exceeds : greatest_ticks < a.ticks + delay → (b.ticks ≡ greatest_ticks) × (b.stages ≡ greatest_stages)

-- the same, computed

-- by ticks, then by stages
abbrev pub staged_order : Staged → Staged → Bool
staged_order a b = nat_lt a.ticks b.ticks || (a.ticks == b.ticks && nat_le a.stages b.stages)

abbrev pub sooner : Staged → Staged → Staged
sooner a b = cond (staged_order a b) a b

abbrev pub later : Staged → Staged → Staged
later a b = cond (staged_order a b) b a

abbrev pub greatest_staged : Staged
greatest_staged = record { ticks = greatest_ticks; stages = greatest_stages }

-- a delay adds its ticks and one stage, and the greatest stage count stays
abbrev pub staged_sum : Staged → ℕ → Staged
staged_sum a delay = record { ticks = a.ticks + delay; stages = min greatest_stages (a.stages + 1) }

-- ticks and stages from 0 and 0; a tick sum above the greatest gives the greatest of both
abbrev pub staged_kind : Kind Staged
staged_kind = record {
  start = record { ticks = 0; stages = 0 };
  at_or_before = staged_order;
  after = λ a delay. later a (sooner (staged_sum a delay) greatest_staged);
}
