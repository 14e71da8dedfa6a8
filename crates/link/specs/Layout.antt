-- How sections and commons are laid out.
use Rattle.std.specs.Prelude.{ℕ, ◌+◌, ◌*◌, ◌/◌, cond, Some, None, Option, nat_le}
use Rattle.link.specs.declared.homes.Extent.{Extent}
use Rattle.link.specs.declared.layout.Free.{Free}

-- the next multiple of 8, the address itself where it is one
abbrev pub aligned : ℕ → ℕ
aligned n = (n + 7) / 8 * 8

-- so many bytes from the next multiple of 8 on, where they do not end past a limit
abbrev pub fitted : ℕ → ℕ → ℕ → Option Extent
fitted next size limit = cond (nat_le (aligned next + size) limit) (Some (record { start = aligned next; end = aligned next + size })) None

-- what is free once bytes were taken, if any were
abbrev pub left : Free → Option Extent → Free
left free None = free
left free (Some extent) = record { next = extent.end; limit = free.limit }
