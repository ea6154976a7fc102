use Rattle.std.proofs.Common.{false, set, Some, sym, ap, ◌∙◌, arith}
use Rattle.std.proofs.lemmas.Bool.{not-true, not-false}
use Rattle.lines.proofs.Lawfuls.{lawful_of}
use Rattle.settling.specs.Latest.{cut}
use Rattle.search.specs.Turns.{next_setting}
use Rattle.search.specs.Turns.Progress.{looking}
use Rattle.search.proofs.Turning.{over_so_far, over_length}
use Rattle.search.proofs.Walks.{open_at, open_within, open_nowhere, open_none, open_left, decided}
use Rattle.seeking.proofs.Looking.{cut_for, at_end, gone_on, counts, less, again_cut, again_open, found_at_end, nothing_at_end}
use Rattle.seeking.proofs.aim.Target.look_for.Goals as goal

pub looking-init : goal.looking-init
looking-init g c = ap looking (sym c.requires.start)

pub overflow_add-looks : goal.overflow_add-looks
overflow_add-looks g c =
    let n = counts (cut_for g.T.Time.kind c.args.self c.args.value c.args.bound) c.args.self.network.ties.now c.looking.setting c.looking.looks c.looking.invariant c.requires.few in
    omega (arith, n)

pub latest_at-late-requires : goal.latest_at-late-requires
latest_at-late-requires g c =
    let long = over_length c.args.self.network.ties.now c.looking.setting (over_so_far (cut_for g.T.Time.kind c.args.self c.args.value c.args.bound) c.args.self.network.ties.now c.looking.setting c.looking.looks c.looking.invariant) in
    record { inputs = omega (arith, long); room = omega arith }

pub pass-requires : goal.pass-requires
pass-requires g c = over_so_far (cut_for g.T.Time.kind c.args.self c.args.value c.args.bound) c.args.self.network.ties.now c.looking.setting c.looking.looks c.looking.invariant

pub returns-in_default : goal.returns-in_default
returns-in_default g c =
    let kind = g.T.Time.kind in
    let uncut = not-true (cut kind c.args.bound c.latest_at-late.result) (sym c.reaches.ensures ∙ c.if-reaches.true) in
    found_at_end kind g.met.T.Time.lawful c.args.self.network.lines.now (lawful_of c.args.self.network.lines.now c.args.self.network.lawful) c.args.self.line c.args.self.present c.args.value c.args.bound c.args.self.network.ties.now c.requires.inputs c.looking.setting c.looking.looks c.looking.invariant c.latest_at-late.result c.latest_at-late.ensures
    (ap (cut kind c.args.bound) (sym c.latest_at-late.ensures) ∙ uncut) (open_none c.looking.setting (open_nowhere c.looking.setting (sym c.next_open.ensures.first ∙ c.in_default.is)))

pub looking-smaller-then-reaches : goal.looking-smaller-then-reaches
looking-smaller-then-reaches g c = less (cut_for g.T.Time.kind c.args.self c.args.value c.args.bound) c.args.self.network.ties.now c.looking.setting c.looking.looks c.looking.invariant

pub looking-preserved-then-reaches : goal.looking-preserved-then-reaches
looking-preserved-then-reaches g c =
    let kind = g.T.Time.kind in
    let uncut = not-true (cut kind c.args.bound c.latest_at-late.result) (sym c.reaches.ensures ∙ c.if-reaches.true) in
    let next = c.in-Some.next in
    let found = sym c.next_open.ensures.first ∙ c.in-Some.is in
    let here = open_at c.looking.setting next found in
    let k = open_left c.looking.setting next here (open_within c.looking.setting next found) in
    again_open (cut_for g.T.Time.kind c.args.self c.args.value c.args.bound) c.args.self.network.ties.now c.looking.setting c.looking.looks c.looking.invariant (set c.looking.setting next (Some false)) k.0
    (ap (cut kind c.args.bound) (sym c.latest_at-late.ensures) ∙ uncut) k.1 (decided c.looking.setting next here false)

pub returns-then-not-pass : goal.returns-then-not-pass
returns-then-not-pass g c =
    let kind = g.T.Time.kind in
    let is_cut = not-false (cut kind c.args.bound c.latest_at-late.result) (sym c.reaches.ensures ∙ c.if-reaches.false) in
    let e = at_end c.args.self.network.ties.now c.pass.new.setting (next_setting c.args.self.network.ties.now c.looking.setting) c.pass.result c.pass.ensures.answer c.if-not-pass.true c.pass.ensures.setting in
    nothing_at_end kind g.met.T.Time.lawful c.args.self.network.lines.now (lawful_of c.args.self.network.lines.now c.args.self.network.lawful) c.args.self.line c.args.self.present c.args.value c.args.bound c.args.self.network.ties.now c.requires.inputs c.looking.setting c.looking.looks c.looking.invariant c.pass.new.setting
    (ap (cut kind c.args.bound) (sym c.latest_at-late.ensures) ∙ is_cut) e.0 e.1

pub looking-smaller : goal.looking-smaller
looking-smaller g c = less (cut_for g.T.Time.kind c.args.self c.args.value c.args.bound) c.args.self.network.ties.now c.looking.setting c.looking.looks c.looking.invariant

pub looking-preserved : goal.looking-preserved
looking-preserved g c =
    let kind = g.T.Time.kind in
    let is_cut = not-false (cut kind c.args.bound c.latest_at-late.result) (sym c.reaches.ensures ∙ c.if-reaches.false) in
    let e = gone_on c.args.self.network.ties.now c.pass.new.setting (next_setting c.args.self.network.ties.now c.looking.setting) c.pass.result c.pass.ensures.answer c.if-not-pass.false c.pass.ensures.setting in
    again_cut (cut_for g.T.Time.kind c.args.self c.args.value c.args.bound) c.args.self.network.ties.now c.looking.setting c.looking.looks c.looking.invariant c.pass.new.setting (ap (cut kind c.args.bound) (sym c.latest_at-late.ensures) ∙ is_cut) e
