use Rattle.std.proofs.Common.{ℕ, ◌*◌, ◌%◌, ◌^◌, ◌<◌, ◌≤◌, ltb, ap, ◌∙◌, arith}
use Rattle.std.proofs.lemmas.Nat.{one_shl, pow_below}
use Rattle.library.proofs.checking.fits.Goals as goal

-- at most four pins have at most sixteen rows
few_rows : (pins : ℕ) → pins ≤ 4 → 2 ^ pins < 32
few_rows pins few = pow_below pins 5 (omega arith)

pub overflow_shl-result-2 : goal.overflow_shl-result-2
overflow_shl-result-2 c = omega (arith, one_shl c.args.pins 32 (omega arith), few_rows c.args.pins c.requires)

pub returns : goal.returns
returns c =
    let rows = one_shl c.args.pins 32 (omega arith) in
    ap (λ n. ltb c.args.table ((1 * 2 ^ n) % 2 ^ 32)) rows ∙ ap (ltb c.args.table) (one_shl (2 ^ c.args.pins) 32 (few_rows c.args.pins c.requires))
