use Rattle.std.proofs.Common.{take, sym, subst, arith, below_more}
use Rattle.std.proofs.lemmas.List.Elements.{at_read}
use Rattle.std.proofs.lemmas.Bool.Decides.{not_from_Decides}
use Rattle.library.specs.Entries.{Bad, BadEntry}
use Rattle.library.specs.Refusals.{EntriesWrong}
use Rattle.library.proofs.checking.check_entries.Goals as goal

pub returns-then-is_bad : goal.returns-then-is_bad
returns-then-is_bad c =
    let entries = c.args.entries.now in
    EntriesWrong.bad_entry c.loop-i.i (record {
      within = c.loop-i-test.true;
      bad = at_read entries (Bad (take c.loop-i.i entries)) c.loop-i.i c.index-entries-i.result c.loop-i-test.true c.index-entries-i.is (c.is_bad.ensures.0 c.if-is_bad.true);
      first = c.loop-i.invariant;
    })

pub loop-i-preserved : goal.loop-i-preserved
loop-i-preserved c =
    let entries = c.args.entries.now in
    let entry = c.index-entries-i.result in
    below_more (λ number. BadEntry entries number → ⊥) c.loop-i.i c.loop-i.invariant (λ bad. not_from_Decides _ c.is_bad.ensures c.if-is_bad.false (subst (Bad (take c.loop-i.i entries)) (sym c.index-entries-i.is) (bad entry)))

pub returns : goal.returns
returns c number l = c.loop-i.invariant number (omega (arith, l))
