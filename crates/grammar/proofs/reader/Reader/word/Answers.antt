use Rattle.std.proofs.Common.{◌≡◌, take, Ok, vec_items, refl, ap, ◌∙◌, rules}
use Rattle.std.proofs.lemmas.List.{map_push}
use Rattle.std.proofs.lemmas.Result.{MatchResult-at_ok}
use Rattle.grammar.specs.Readers.{at}
use Rattle.grammar.specs.Views.{view, views}
use Rattle.grammar.proofs.Roads.{took_front}
use Rattle.grammar.proofs.reader.Reader.word.Goals as goal

pub returns : goal.returns
returns g c =
    let a = at c.args.self.now in
    let len = c.in_ok-len.len in
    let found : c.args.found ≡ Ok len = search rules in
    let there = MatchResult-at_ok _ _ len found c.requires.there in
    let kept = ap views c.push_reserved.ensures.items ∙ map_push view (vec_items c.args.self.now.words) _ in
    (len, found, record { part = _; word = c.make-word.result; is = ap (take len) c.rest.ensures; made = c.make-word.ensures; took = took_front a _ len _ there.1 refl refl kept })
