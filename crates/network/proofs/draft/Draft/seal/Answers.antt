use Rattle.std.proofs.Common.{arith}
use Rattle.network.specs.Drafts.{sketch}
use Rattle.network.proofs.Refused.{seal_then}
use Rattle.network.proofs.draft.Draft.seal.Goals as goal

pub invariant_of-result : goal.invariant_of-result
invariant_of-result c =
    let draft = c.args.self in
    let some = seal_then (sketch draft) c.requires in
    record {
      sizes = (draft.sizes.0, draft.sizes.1, draft.sizes.2, omega (arith, some, draft.counted));
      counted = draft.counted;
      lawful = draft.lawful;
    }
