use Rattle.std.proofs.Common.{◌≡◌, ◌+◌, ◌≤◌, ◌++◌, length, take, vec_items, vec_len}
use Rattle.turns.specs.Plain.{bits}
use Rattle.report.specs.Texts.{vector_text}
use Rattle.report.proofs.text.Text.push_vector.Given as goal

-- the digits so far are appended
abbrev pub invariant-loop-b : goal.invariant-loop-b
invariant-loop-b l = (vec_len l.self.bytes ≡ vec_len l.initial.self.bytes + l.b-index) × (l.b-index ≤ length l.vector) × (vec_items l.self.bytes ≡ vec_items l.initial.self.bytes ++ vector_text (bits (take l.b-index l.vector)))
