use Rattle.std.proofs.Common.{ℕ, ◌<◌}
use Rattle.card.specs.Shown.{Prints}
use Rattle.card.proofs.charset.punched.Given as goal

abbrev pub invariant-loop-byte : goal.invariant-loop-byte
invariant-loop-byte l = (b : ℕ) → b < l.byte → Prints b l.character → ⊥
