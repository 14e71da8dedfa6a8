-- What two joined libraries mean.
use Rattle.std.specs.Prelude.{List, Some, None, Option}
use Rattle.library.specs.Slots.{Slot, Sound}

-- a name that the first holds has what the first says, any other what the second says
abbrev pub or_else : Option (List Slot) → Option (List Slot) → Option (List Slot)
or_else None second = second
or_else (Some slots) second = Some slots

pub or_else_sound : (o p : Option (List Slot)) → Sound o → Sound p → Sound (or_else o p)
or_else_sound None p h k = k
or_else_sound (Some slots) p h k = h
