use Rattle.std.proofs.Common.{◌^◌, ◌≤◌, arith, pow_mono}
use Rattle.cells.proofs.table.Table.output.Goals as goal

pub bit_of-requires : goal.bit_of-requires
bit_of-requires c = let few : 2 ^ c.args.self.pins ≤ 2 ^ 4 = pow_mono c.args.self.few in omega (arith, c.requires.row)
