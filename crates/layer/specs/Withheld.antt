-- What a library means where names are withheld.
use Rattle.std.specs.Prelude.{Bool, true, false, cond, ◌||◌, List, None, Option}
use Rattle.std.specs.List.{list_any}
use Rattle.card.specs.declared.name.Name.{Name}
use Rattle.card.specs.Names.{same_name, is_blank}
use Rattle.library.specs.declared.fault.LibraryFault.{LibraryFault}
use Rattle.library.specs.Slots.{Slot, Sound}
use Rattle.layer.specs.Additions.{fault_of}

-- a name is among the names
abbrev pub among : Name → List Name → Bool
among name names = list_any (λ x. same_name x name) names

-- a name that is blank or withheld already
abbrev pub bad_name : List Name → Name → Bool
bad_name names name = is_blank name || among name names

-- the rule that one more name breaks, in a table of 32 places
abbrev pub withhold_fault : List Name → Name → Option LibraryFault
withhold_fault names name = fault_of 32 names (bad_name names name)

-- a withheld name has nothing, any other what it has below
abbrev pub without : List Name → Name → Option (List Slot) → Option (List Slot)
without names name below = cond (among name names) None below

without_by : (b : Bool) (o : Option (List Slot)) → Sound o → Sound (cond b None o)
without_by true o h = tt
without_by false o h = h

pub without_sound : (names : List Name) (name : Name) (o : Option (List Slot)) → Sound o → Sound (without names name o)
without_sound names name o h = without_by (among name names) o h
