use Rattle.std.proofs.Common.{◌*◌, sym, refl, ap, arith, rules}
use Rattle.std.proofs.lemmas.List.{with_items_is}
use Rattle.turns.specs.Plain.{opened}
use Rattle.study.proofs.Places.{opened_is, cleared_moved, open_room}
use Rattle.study.proofs.Standing.{stands_opened}
use Rattle.study.proofs.study.Study.open.Goals as goal

pub clear-requires : goal.clear-requires
clear-requires g c = omega (arith, open_room c.args.network.lines.len c.args.ceilings.len c.requires)

pub invariant_of-result : goal.invariant_of-result
invariant_of-result g c =
    let network = c.args.network in
    record {
      lawful = network.lawful;
      counted = network.counted;
      few = network.sizes.2;
      most = network.sizes.1;
      whole = refl;
      room = omega (arith, open_room network.lines.len c.args.ceilings.len c.requires);
    }

pub returns : goal.returns
returns g c =
    let network = c.args.network in
    let plain = opened_is network.lines.items network.inputs network.sizes.2 network.counted in
    let cleared = cleared_moved (2 * c.len.result) (2 * network.lines.len) _ _ _ _ (ap (λ n. 2 * n) (search rules)) c.deref_mut.ensures.value (sym (with_items_is c.args.ceilings c.clear.new.places (omega arith))) c.clear.ensures in
    record {
      plain = plain;
      ceilings = cleared;
      stands = stands_opened g.T.Time.kind (opened network.lines.items) _ plain cleared.none;
    }
