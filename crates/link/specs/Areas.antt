-- The area that a program is linked into.
use Rattle.std.specs.Prelude.{ℕ, ◌+◌, ◌%◌, Bool, ◌&&◌, Some, None, Option, ◌==◌, nat_le}

-- the origin, 0 where none is given
abbrev pub origin_or : Option ℕ → ℕ
origin_or None = 0
origin_or (Some origin) = origin

-- origin and size are multiples of 8, and their sum does not pass 1,048,576
abbrev pub good_area : ℕ → ℕ → Bool
good_area origin size = origin % 8 == 0 && (size % 8 == 0 && nat_le (origin + size) 1048576)
