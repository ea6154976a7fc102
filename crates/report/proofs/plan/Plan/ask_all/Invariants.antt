use Rattle.std.proofs.Common.{◌-◌, take, drop}
use Rattle.lines.specs.Lines.{inputs}
use Rattle.network.specs.Drafts.{sealed}
use Rattle.report.specs.Answers.{named_from}
use Rattle.report.specs.Planned.{PlansFor}
use Rattle.report.proofs.plan.Plan.ask_all.Given as goal

-- the forms so far are planned
abbrev pub invariant-loop-line : goal.invariant-loop-line
invariant-loop-line l = PlansFor (named_from (inputs (sealed l.network).lines) (take (l.line - inputs (sealed l.network).lines) (drop (inputs (sealed l.network).lines) (sealed l.network).names))) l.self
