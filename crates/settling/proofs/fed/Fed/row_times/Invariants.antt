use Rattle.std.proofs.Common.{◌≡◌, ℕ, ◌<◌, true, is_some, unwrap_or}
use Rattle.cells.specs.Pins.{at_pin}
use Rattle.cells.specs.Tables.{every_below}
use Rattle.settling.specs.Latest.{latest_pin, latest_line}
use Rattle.settling.proofs.fed.Fed.row_times.Given as goal

-- the pins so far have latest times, which are written
abbrev pub invariant-loop-pin : goal.invariant-loop-pin
invariant-loop-pin g l =
    (every_below l.pin (λ pin. is_some (latest_pin (latest_line l.self.work.now) l.self.cell l.row pin)) ≡ true)
    × ((pin : ℕ) → pin < l.pin → at_pin l.at pin ≡ unwrap_or (latest_pin (latest_line l.self.work.now) l.self.cell l.row pin) g.T.Time.kind.start)
