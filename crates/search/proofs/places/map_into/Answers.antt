use Rattle.std.proofs.Common.{◌≡◌, ◌+◌, length, map, get_or, set, refl, sym, ap, ap₂, ◌∙◌, rules, arith}
use Rattle.std.proofs.Math.Seq.{paste}
use Rattle.std.proofs.lemmas.List.{get_or-map, get_or_read_under, length-map}
use Rattle.std.proofs.lemmas.List.Edits.{paste_more}
use Rattle.search.proofs.places.map_into.Goals as goal

pub loop-i-preserved : goal.loop-i-preserved
loop-i-preserved g c by is =
    let i = c.loop-i.i in
    let made = map by c.args.from.now in
    let long : length made ≡ length c.args.from.now = length-map c.args.from.now by in
    let here : i ≡ 0 + i = omega arith in
    let value : c.f.result ≡ get_or made i c.f.result = is _ _ c.f.ensures ∙ ap by (get_or_read_under c.args.from.now i _ _ c.index-from-i.result (search rules) c.loop-i-test.true refl) ∙ sym (get_or-map by c.args.from.now i c.index-from-i.result c.f.result c.loop-i-test.true) in
    ap₂ (λ l v. set l i v) (c.loop-i.invariant by is) value
    ∙ ap (λ k. set (paste c.args.into.now 0 made i) k (get_or made i c.f.result)) here
    ∙ paste_more c.args.into.now 0 made i c.f.result (omega (arith, c.requires.room)) (omega (arith, long))
