-- What a library answers, by the slot that it was asked for.
use Rattle.std.specs.Prelude.{ℕ, List, Some, None, Ok, Err, Option, Result}
use Rattle.library.specs.declared.fault.LibraryFault.{LibraryFault}
use Rattle.library.specs.declared.shelf.NoCard.{NoCard}
use Rattle.library.specs.declared.shelf.NoCard.TheVariants.{Flawed, Nothing}
use Rattle.library.specs.Slots.{Slot, Card, Flaw}

-- the card was copied, or why there is none to copy
abbrev pub answered : Option Slot → Result (Unit {0}) NoCard
answered None = Err Nothing
answered (Some (Card bytes)) = Ok tt
answered (Some (Flaw mark)) = Err (Flawed mark)

-- the caller's 80 bytes afterwards
abbrev pub filled : Option Slot → List ℕ → List ℕ
filled None old = old
filled (Some (Card bytes)) old = bytes
filled (Some (Flaw mark)) old = old

-- what is answered, given the rule that is broken, if any
abbrev pub answer_by : Option LibraryFault → Result (Unit {0}) LibraryFault
answer_by None = Ok tt
answer_by (Some fault) = Err fault
