-- What a refusal of a library tells.
use Rattle.std.specs.Prelude.{Some}
use Rattle.card.specs.declared.refusal.Layer.TheVariants as layer
use Rattle.card.specs.declared.refusal.Refusal.{Refusal}
use Rattle.card.specs.Told.{of_deck, without_deck}
use Rattle.library.specs.declared.fault.LibraryFault.{LibraryFault}
use Rattle.library.specs.declared.fault.LibraryFault.TheVariants.{BadTrayLength, BadTrayDecks, NameTwice, TableFull, BadName, NoSuchDeck, FlawedCard}

abbrev pub told_library : LibraryFault → Refusal
told_library BadTrayLength = without_deck layer.Library 1
told_library BadTrayDecks = without_deck layer.Library 2
told_library NameTwice = without_deck layer.Library 5
told_library TableFull = without_deck layer.Library 6
told_library BadName = without_deck layer.Library 7
told_library (NoSuchDeck deck) = of_deck layer.Library 10 deck
told_library (FlawedCard at mark) = record { number = 11; deck = at.deck; card = at.card; layer = layer.Library; mark = Some mark }
