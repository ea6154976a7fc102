use Rattle.std.proofs.Common.{map, vec_items, sym, ap, ◌∙◌}
use Rattle.std.proofs.lemmas.List.{map_push}
use Rattle.names.specs.Kept.{bytes_of}
use Rattle.turns.specs.Asked.{asked}
use Rattle.report.proofs.plan.Plan.ask.Goals as goal

pub returns : goal.returns
returns c =
    let buffers = c.in-Some.field-0 in
    record {
      vector = vec_items buffers.vector;
      work = vec_items buffers.work;
      wide = sym buffers.vector.ok.0 ∙ buffers.wide;
      deep = sym buffers.work.ok.0 ∙ buffers.deep;
      asks = ap (map asked) c.push_reserved.ensures.items ∙ map_push asked (vec_items c.args.self.now.calls) _;
      names = ap (map bytes_of) c.push_reserved-2.ensures.items ∙ map_push bytes_of (vec_items c.args.self.now.names) _;
    }
