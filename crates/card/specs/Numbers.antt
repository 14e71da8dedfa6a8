-- Numbers as they stand on a card: unsigned, the high byte first.
use Rattle.std.specs.Prelude.{ℕ, zero, suc, ◌+◌, ◌*◌, ◌^◌, List, slice_index}

-- the number that the n bytes from place `at` form
abbrev pub big : ℕ → List ℕ → ℕ → ℕ
big zero bytes at = 0
big (suc n) bytes at = slice_index bytes at * 256 ^ n + big n bytes (at + 1)
