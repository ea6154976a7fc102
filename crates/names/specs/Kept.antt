-- What a kept name holds. Assumes nothing.
use Rattle.std.specs.Prelude.{ℕ, List, take}
use Rattle.names.specs.declared.name.Name.{Name}

-- the bytes that were kept; what stands behind them is of no account
abbrev pub bytes_of : Name → List ℕ
bytes_of name = take name.len name.bytes
