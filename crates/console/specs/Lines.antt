-- A typed line.
use Rattle.std.specs.Prelude.{ℕ, ◌-◌, Bool, cond, ◌&&◌, List, length, take, ◌==◌, nat_lt, slice_index}

-- the last byte is a newline; an empty line has none
abbrev pub ends_in_newline : List ℕ → Bool
ends_in_newline line = nat_lt 0 (length line) && slice_index line (length line - 1) == 10

-- a line as it was read, without the newline byte at its end; the last line of an input may have none
abbrev pub without_newline : List ℕ → List ℕ
without_newline line = cond (ends_in_newline line) (take (length line - 1) line) line
