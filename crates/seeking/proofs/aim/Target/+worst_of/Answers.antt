use Rattle.std.proofs.Common.{true, false, set, Some, sym, refl, ap, ◌∙◌, arith, length-set, rules}
use Rattle.search.specs.Search.{undecided}
use Rattle.search.proofs.Walks.{open_at, open_within, open_nowhere, open_none, open_left, decided, decided_again, undone, fewer}
use Rattle.seeking.specs.Seeking.{latest_of_both}
use Rattle.search.specs.Worst.{best_of}
use Rattle.seeking.proofs.Worsting.{passed_over, reached_here, both_ways_on}
use Rattle.seeking.proofs.aim.Target.+worst_of.Goals as goal

pub returns-then-not-is_promising : goal.returns-then-not-is_promising
returns-then-not-is_promising g t c =
    record {
      restored = refl;
      worst = passed_over g.T.Time.kind.at_or_before (latest_of_both g.T.Time.kind c.args.self.network.lines.now c.args.self.network.ties.now c.args.self.line) c.args.setting.now c.latest_of_both-late.result c.args.best c.args.at.now c.latest_of_both-late.ensures (undecided c.args.setting.now) (sym c.is_promising.ensures ∙ c.if-not-is_promising.true);
    }

pub returns-in_default : goal.returns-in_default
returns-in_default g t c =
    record {
      restored = refl;
      worst = ap (best_of c.latest_of_both-late.result) c.keep.ensures ∙ reached_here g.T.Time.kind.at_or_before (latest_of_both g.T.Time.kind c.args.self.network.lines.now c.args.self.network.ties.now c.args.self.line) c.args.setting.now c.latest_of_both-late.result c.args.best c.args.at.now c.latest_of_both-late.ensures (undecided c.args.setting.now) (open_none c.args.setting.now (open_nowhere c.args.setting.now (sym c.next_open.ensures.first ∙ c.in_default.is))) (sym c.is_promising.ensures ∙ c.if-not-is_promising.false);
    }

pub worst_of-zero-requires : goal.worst_of-zero-requires
worst_of-zero-requires g t c κs within =
    let s = c.args.setting.now in
    let next = c.in-Some.next in
    let found = sym c.next_open.ensures.first ∙ c.in-Some.is in
    let here = open_at s next found in
    let k = open_left s next here (open_within s next found) in
    let f = fewer s (set s next (Some false)) false k.0 k.1 (decided s next here false) in
    (omega (arith, k.1, f, c.decreases), (within, (length-set s next (Some false) ∙ c.requires.inputs, (c.requires.kept, omega arith))))

pub worst_of-one-requires : goal.worst_of-one-requires
worst_of-one-requires g t c κs within =
    let s = c.args.setting.now in
    let next = c.in-Some.next in
    let found = sym c.next_open.ensures.first ∙ c.in-Some.is in
    let here = open_at s next found in
    let k = open_left s next here (open_within s next found) in
    let back = c.worst_of-zero.ensures.restored ∙ decided s next here false in
    let e = decided_again s next here c.worst_of-zero.new.setting false back true in
    let f = fewer s (set c.worst_of-zero.new.setting next (Some true)) true k.0 k.1 e in
    (omega (arith, k.1, f, c.decreases), (within, (search rules, (search rules, omega arith))))

pub returns : goal.returns
returns g t c =
    let s = c.args.setting.now in
    let next = c.in-Some.next in
    let found = sym c.next_open.ensures.first ∙ c.in-Some.is in
    let here = open_at s next found in
    let k = open_left s next here (open_within s next found) in
    let first = decided s next here false in
    let back = c.worst_of-zero.ensures.restored ∙ first in
    let second = decided_again s next here c.worst_of-zero.new.setting false back true in
    record {
      restored = undone s next here c.worst_of-one.new.setting true (c.worst_of-one.ensures.restored ∙ second);
      worst = both_ways_on g.T.Time.kind.at_or_before (latest_of_both g.T.Time.kind c.args.self.network.lines.now c.args.self.network.ties.now c.args.self.line) s c.latest_of_both-late.result c.args.best c.args.at.now c.latest_of_both-late.ensures k.0 k.1 (sym c.is_promising.ensures ∙ c.if-not-is_promising.false)
          c.worst_of-zero.result c.worst_of-one.result c.worst_of-zero.new.at c.worst_of-one.new.at (set s next (Some false)) (set c.worst_of-zero.new.setting next (Some true)) first second c.worst_of-zero.ensures.worst c.worst_of-one.ensures.worst;
    }
