-- What a refusal of a deck tells.
use Rattle.card.specs.declared.refusal.Layer.TheVariants as layer
use Rattle.card.specs.declared.refusal.Refusal.{Refusal}
use Rattle.card.specs.Told.{told_card, broken_at, of_deck}
use Rattle.library.specs.Told.{told_library}
use Rattle.deck.specs.declared.fault.DeckFault.{DeckFault}
use Rattle.deck.specs.declared.fault.DeckFault.TheVariants.{Library, Card, UnknownId, UnclearLength, OutsideSection, ConstantsOverlap, NameTwice}

-- faults of the library and of a card are told as they are
abbrev pub told_deck : DeckFault → Refusal
told_deck (Library fault) = told_library fault
told_deck (Card fault) = told_card fault
told_deck (UnknownId at) = broken_at layer.Deck 18 at
told_deck (UnclearLength deck) = of_deck layer.Deck 19 deck
told_deck (OutsideSection at) = broken_at layer.Deck 20 at
told_deck (ConstantsOverlap at) = broken_at layer.Deck 21 at
told_deck (NameTwice at) = broken_at layer.Deck 22 at
