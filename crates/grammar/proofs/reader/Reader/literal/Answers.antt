use Rattle.std.proofs.Common.{sym, refl, arith}
use Rattle.std.proofs.lemmas.List.{take_all, take_more}
use Rattle.grammar.specs.Readers.{at}
use Rattle.grammar.proofs.Roads.{break_cases, took_none, took_then, took_as, literal_stuck}
use Rattle.grammar.proofs.reader.Reader.literal.Goals as goal

pub loop-b-init : goal.loop-b-init
loop-b-init c = (omega arith, took_none (at c.args.self.now))

pub returns-in_err-expect : goal.returns-in_err-expect
returns-in_err-expect c =
    break_cases _ _ _ c.in_err-expect.field-0.0 c.from_residual.ensures.1 (literal_stuck c.args.bytes.now c.loop-b.b-index _ (at c.args.self.now) (at c.loop-b.self) c.in_err-expect.field-0.0 c.loop-b-test.true c.loop-b.self.within c.loop-b.invariant.1 c.in_err-expect.ensures)

pub loop-b-preserved : goal.loop-b-preserved
loop-b-preserved c =
    (omega arith, took_as (sym (take_more c.args.bytes.now c.loop-b.b-index 0 c.loop-b-test.true)) refl (took_then c.loop-b.invariant.1 c.in_ok-expect.ensures))

pub returns : goal.returns
returns c = took_as (take_all c.loop-b.b-index c.args.bytes.now c.loop-b-test.false) refl c.loop-b.invariant.1
