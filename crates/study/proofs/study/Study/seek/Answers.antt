use Rattle.std.proofs.Common.{◌≤◌, length, take, set, Some, sym, refl, ap, ◌∙◌, subst, arith}
use Rattle.std.proofs.lemmas.Result.{err_from_is_err_and}
use Rattle.lines.specs.Limits.{max_inputs}
use Rattle.search.specs.Search.{undecided}
use Rattle.turns.specs.Asked.{seek}
use Rattle.turns.specs.Plain.{is_one}
use Rattle.turns.proofs.Accepted.{seek_present, seek_bit, seek_room, seek_work}
use Rattle.study.specs.Standing.{plain_of, Promises}
use Rattle.study.proofs.Places.{ties_long, lent, covers_read, none_of_not, some_of_not}
use Rattle.study.proofs.Shown.{few_undecided, vector_shown, looked_at, found_of, nothing_of, told_looked}
use Rattle.study.proofs.Stepping.{unchanged_self, keeps_recorded, refused_seek, accepted_covered, accepted_found, accepted_nothing}
use Rattle.study.proofs.study.Study.seek.Goals as goal

pub returns-in_err-check_seek-clause-promise : goal.returns-in_err-check_seek-clause-promise
returns-in_err-check_seek-clause-promise g c =
    let p = err_from_is_err_and c.from_residual.result c.from_residual.ensures.1 in
    let study = c.args.self.now in
    rw (p.1, p.2) (refused_seek g.T.Time.kind g.met.T.Time.lawful study study c.args.line c.args.value c.args.bound c.args.vector.now c.args.work.now _ c.in_err-check_seek.ensures (unchanged_self study))

pub ceiling_place-place-requires-clause-present : goal.ceiling_place-place-requires-clause-present
ceiling_place-place-requires-clause-present g c = omega (arith, seek_present _ _ _ _ _ c.in_ok-check_seek.ensures, c.args.self.now.lines.ok.0)

pub ceiling_place-place-requires-clause-bit : goal.ceiling_place-place-requires-clause-bit
ceiling_place-place-requires-clause-bit g c = seek_bit _ _ _ _ _ c.in_ok-check_seek.ensures

pub returns-then-is_covered-clause-promise : goal.returns-then-is_covered-clause-promise
returns-then-is_covered-clause-promise g c =
    let study = c.args.self.now in
    let kind = g.T.Time.kind in
    let none = c.in_ok-check_seek.ensures in
    let present = seek_present _ _ _ _ _ none in
    let bit = seek_bit _ _ _ _ _ none in
    accepted_covered kind g.met.T.Time.lawful study _ c.args.line c.args.value c.args.bound c.args.vector.now c.args.work.now c.args.work.now none refl refl
    (covers_read kind study c.args.line c.args.value c.args.bound _ _ _ _ present bit c.ceiling_place-place.ensures.place c.index.ensures c.is_covered.ensures c.if-is_covered.true) refl

pub target-requires : goal.target-requires
target-requires g c = omega (arith, seek_present _ _ _ _ _ c.in_ok-check_seek.ensures, c.args.self.now.lines.ok.0)

pub look_for-looked-requires-clause-few : goal.look_for-looked-requires-clause-few
look_for-looked-requires-clause-few g c =
    let study = c.args.self.now in
    subst (λ s. undecided s ≤ max_inputs) (sym c.target.ensures.ties) (few_undecided (take study.inputs study.ties) (omega (arith, ties_long study, study.few)))

pub look_for-looked-requires-clause-room : goal.look_for-looked-requires-clause-room
look_for-looked-requires-clause-room g c = omega (arith, ap length c.target.ensures.lines, seek_work _ _ _ _ _ c.in_ok-check_seek.ensures)

pub returns-then-is_none-clause-promise : goal.returns-then-is_none-clause-promise
returns-then-is_none-clause-promise g c =
    let study = c.args.self.now in
    let kind = g.T.Time.kind in
    let none = c.in_ok-check_seek.ensures in
    let present = seek_present _ _ _ _ _ none in
    let bit = seek_bit _ _ _ _ _ none in
    let uncovered = covers_read kind study c.args.line c.args.value c.args.bound _ _ _ _ present bit c.ceiling_place-place.ensures.place c.index.ensures c.is_covered.ensures c.if-is_covered.false in
    let ends = looked_at kind _ (plain_of study) (lent study c.target.result.network.lines.now c.target.result.network.ties.now c.target.ensures.lines c.target.ensures.ties) _ c.args.line c.target.ensures.line (is_one c.args.value) c.args.bound c.look_for-looked.new.setting c.look_for-looked.result.found c.look_for-looked.result.looks c.look_for-looked.ensures in
    let nothing = none_of_not c.look_for-looked.result.found c.is_none.result c.is_none.ensures c.if-is_none.true in
    let shows = nothing_of kind study.lines.items (take study.inputs study.ties) c.args.line _ _ _ _ ends nothing in
    subst (Promises kind study _ (seek c.args.line c.args.value c.args.bound c.args.vector.now c.args.work.now)) (told_looked c.look_for-looked.new.work (sym nothing) (sym ends.looks_are) refl)
    (accepted_nothing kind g.met.T.Time.lawful study _ c.args.line c.args.value c.args.bound c.args.vector.now c.args.work.now c.look_for-looked.new.work none (omega arith) refl uncovered shows (ap (λ k. set study.ceilings.items k (Some c.args.bound)) c.ceiling_place-place.ensures.place))

pub returns-then-is_none-clause-keeps : goal.returns-then-is_none-clause-keeps
returns-then-is_none-clause-keeps g c =
    let study = c.args.self.now in
    keeps_recorded study _ _ c.args.line c.args.value c.args.bound (omega (arith, seek_present _ _ _ _ _ c.in_ok-check_seek.ensures, study.lines.ok.0)) (seek_bit _ _ _ _ _ c.in_ok-check_seek.ensures) (ap (λ k. set study.ceilings.items k (Some c.args.bound)) c.ceiling_place-place.ensures.place)

pub write_vector-requires : goal.write_vector-requires
write_vector-requires g c = omega (arith, seek_room _ _ _ _ _ c.in_ok-check_seek.ensures, ties_long c.args.self.now)

pub returns-clause-promise : goal.returns-clause-promise
returns-clause-promise g c =
    let study = c.args.self.now in
    let kind = g.T.Time.kind in
    let none = c.in_ok-check_seek.ensures in
    let present = seek_present _ _ _ _ _ none in
    let bit = seek_bit _ _ _ _ _ none in
    let uncovered = covers_read kind study c.args.line c.args.value c.args.bound _ _ _ _ present bit c.ceiling_place-place.ensures.place c.index.ensures c.is_covered.ensures c.if-is_covered.false in
    let ends = looked_at kind _ (plain_of study) (lent study c.target.result.network.lines.now c.target.result.network.ties.now c.target.ensures.lines c.target.ensures.ties) _ c.args.line c.target.ensures.line (is_one c.args.value) c.args.bound c.look_for-looked.new.setting c.look_for-looked.result.found c.look_for-looked.result.looks c.look_for-looked.ensures in
    let some = some_of_not c.look_for-looked.result.found c.is_none.result c.is_none.ensures c.if-is_none.false in
    let shows = found_of kind study.lines.items (take study.inputs study.ties) c.args.line _ _ _ _ ends some.0 some.1 in
    subst (Promises kind study _ (seek c.args.line c.args.value c.args.bound c.args.vector.now c.args.work.now))
    (told_looked c.look_for-looked.new.work (ap Some shows.2 ∙ sym some.1) (sym ends.looks_are) (sym (vector_shown shows.0 c.look_for-looked.new.setting shows.3 c.args.vector.now _ c.write_vector.ensures)))
    (accepted_found kind g.met.T.Time.lawful study _ c.args.line c.args.value c.args.bound c.args.vector.now c.args.work.now c.look_for-looked.new.work none (omega arith) refl uncovered shows.0 shows.1 refl)
