use Rattle.std.proofs.Common.{◌+◌, ◌<◌, sym, refl, ap, ◌∙◌, arith}
use Rattle.std.proofs.lemmas.List.{length-take-le}
use Rattle.lines.specs.declared.line.Line.{Line}
use Rattle.lines.specs.Lines.{inputs}
use Rattle.lines.proofs.Lawfuls.{lawful_of}
use Rattle.settling.specs.Settle.{tied_by}
use Rattle.settling.specs.Latest.{in_setting, latest_driver, latest_line, stays}
use Rattle.settling.proofs.LatestAgain.{front_at, front_lawful, so_far_of, line_stays, line_again}
use Rattle.settling.proofs.tied.Tied.latest_again.Goals as goal
use Rattle.settling.proofs.tied.Tied.latest_again.Goals.{then-not-has_stayed, else-not-has_stayed}

pub loop-number-init : goal.loop-number-init
loop-number-init g c = (
  c.requires.worked.0,
  record {
    below = λ k b. absurd (omega arith);
    above = λ k a u. c.requires.worked.1 k u;
    kept = λ k b. absurd (omega arith);
    size = refl;
  },
)

pub has_stayed-requires-clause-driver : goal.has_stayed-requires-clause-driver
has_stayed-requires-clause-driver g c =
    let lines = c.args.self.lines.now in
    (inputs lines, front_lawful lines c.args.upto c.loop-number.number (lawful_of lines c.args.self.lawful) c.requires.upto (omega arith))

pub line_latest-times-requires-clause-driver : goal.line_latest-times-requires-clause-driver
line_latest-times-requires-clause-driver g c =
    let lines = c.args.self.lines.now in
    front_lawful lines c.args.upto c.loop-number.number (lawful_of lines c.args.self.lawful) c.requires.upto (omega arith)

pub loop-number-preserved : goal.loop-number-preserved
loop-number-preserved g c =
    let kind = g.T.Time.kind in
    let tied = tied_by c.args.self.ties.now in
    let lines = c.args.self.lines.now in
    let lawful = lawful_of lines c.args.self.lawful in
    let new = in_setting c.args.setting.now in
    let number = c.loop-number.number in
    let work = c.loop-number.work in
    let changed = c.loop-number.changed in
    let long = length-take-le c.args.upto lines c.requires.upto in
    let h : number < c.args.upto = omega arith in
    let here = front_at lines c.args.upto number h in
    let so_far = c.loop-number.invariant.1 in (
      c.loop-number.invariant.0,
      elim c.if-not-has_stayed.branch [
        | then-not-has_stayed w ↦
            so_far_of kind tied lines new _ c.args.upto (number + 1) _ _ _ _ w.work-is w.changed-is
            (line_again kind g.met.T.Time.lawful tied lines lawful new _ c.args.upto number c.requires.upto h work changed so_far (omega arith) (omega arith)
            w.index-work-number.result w.line_latest-times.result w.is_same.result w.index-work-number.is
            (w.line_latest-times.ensures ∙ ap (λ (l : Line). latest_driver kind tied new number (latest_line work) l l.driver) here) w.is_same.ensures)
        | else-not-has_stayed w ↦
            so_far_of kind tied lines new _ c.args.upto (number + 1) _ _ _ _ w.work-is w.changed-is
            (line_stays kind g.met.T.Time.lawful tied lines lawful new _ c.args.upto number c.requires.upto h work changed so_far
            (ap (λ (l : Line). stays changed l.driver) (sym here) ∙ sym c.has_stayed.ensures ∙ w.if-not-has_stayed.false))
      ],
    )
