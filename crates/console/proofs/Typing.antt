-- The parts of a line.
use Rattle.std.proofs.Common.{◌≡◌, ℕ, ◌-◌, ◌<◌, List, length, get_or, take, drop, ap}
use Rattle.std.proofs.lemmas.Slice.{first_rest}
use Rattle.console.specs.Typed.{letter_command, command_of}

pub by_letter : (line : List ℕ) → 0 < length line → command_of line ≡ letter_command (get_or line 0 0) (take (length line - 1) (drop 1 line))
by_letter line h = ap command_of (first_rest line 0 h)
