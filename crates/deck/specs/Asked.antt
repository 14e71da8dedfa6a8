-- What a library answers for a deck, with its refusals.
use Rattle.std.specs.Prelude.{ℕ, List, length, Some, None, Ok, Err, Option, Result}
use Rattle.card.specs.declared.refusal.CardAt.{CardAt}
use Rattle.library.specs.declared.fault.LibraryFault.{LibraryFault}
use Rattle.library.specs.declared.fault.LibraryFault.TheVariants.{NoSuchDeck, FlawedCard}
use Rattle.library.specs.declared.shelf.NoCard.{NoCard}
use Rattle.library.specs.declared.shelf.NoCard.TheVariants.{Flawed, Nothing}
use Rattle.library.specs.Slots.{Slot, Card, Flaw}

-- the number of a deck's cards; no such deck where the library holds nothing under the name
abbrev pub cards_of : ℕ → Option (List Slot) → Result ℕ LibraryFault
cards_of deck None = Err (NoSuchDeck deck)
cards_of deck (Some slots) = Ok (length slots)

-- why a card cannot be had: there is none, or it is flawed with its mark
abbrev pub fault_at : CardAt → NoCard → LibraryFault
fault_at at Nothing = NoSuchDeck at.deck
fault_at at (Flawed mark) = FlawedCard at mark

-- the bytes of a card; flawed with its mark where it cannot be read
abbrev pub bytes_at : CardAt → Option Slot → Result (List ℕ) LibraryFault
bytes_at at None = Err (NoSuchDeck at.deck)
bytes_at at (Some (Card bytes)) = Ok bytes
bytes_at at (Some (Flaw mark)) = Err (FlawedCard at mark)
