use Rattle.std.proofs.Common.{◌≡◌, ℕ, ◌^◌, ◌<◌, add-one, refl, ap, rules, arith}
use Rattle.std.proofs.lemmas.Nat.{one_shl}
use Rattle.cells.specs.Firsts.{first, first_among, at_or_after}
use Rattle.cells.proofs.Walks.{folded, serves_fold}
use Rattle.settling.specs.Latest.{latest_by_row, latest_line}
use Rattle.settling.proofs.fed.Fed.output_latest.Goals as goal

pub fold-requires-clause-callable : goal.fold-requires-clause-callable
fold-requires-clause-callable g c =
    let rows = one_shl c.args.self.now.cell.count 64 (omega (arith, c.args.self.now.lawful.few_pins)) in
    serves_fold _ _ (2 ^ c.args.self.now.cell.count) (λ row best. best ≡ best) (λ i b r q l inv k. (search rules, refl)) _ _ (ap (λ (n : ℕ). record { start = 0; end = n }) rows) refl (λ i b l inv. search (rules, l))

pub returns : goal.returns
returns g c =
    let kind = g.T.Time.kind in
    let cell = c.args.self.now.cell in
    let by_row = latest_by_row kind (latest_line c.args.self.now.work.now) c.args.line cell c.args.value in
    let rows = one_shl cell.count 64 (omega (arith, c.args.self.now.lawful.few_pins)) in
    folded _ _ (2 ^ cell.count) (λ row best. best ≡ first_among (at_or_after kind) by_row row)
    (λ i b r q l inv k.
    let told : r ≡ first (at_or_after kind) (by_row i) b = search rules in
    (search rules, simp (add-one, told, inv))) _ _ (ap (λ (n : ℕ). record { start = 0; end = n }) rows) refl c.fold.result c.fold.ensures.ran
