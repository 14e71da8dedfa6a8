-- What a refusal of the link tells.
use Rattle.card.specs.declared.refusal.Layer.TheVariants as layer
use Rattle.card.specs.declared.refusal.Refusal.{Refusal}
use Rattle.card.specs.Told.{broken_at, of_deck, without_deck}
use Rattle.deck.specs.Told.{told_deck}
use Rattle.link.specs.declared.fault.LinkFault.{LinkFault}
use Rattle.link.specs.declared.fault.LinkFault.TheVariants.{Deck, BadArea, LabelClash, CommonTooLong, OutsideArea, TooMany, BlankEntry, OpenName, NoSection, CommonOutsideArea, BadEntry}

-- faults of a deck are told as they are
abbrev pub told_link : LinkFault → Refusal
told_link (Deck fault) = told_deck fault
told_link BadArea = without_deck layer.Link 9
told_link (LabelClash at) = broken_at layer.Link 23 at
told_link (CommonTooLong at) = broken_at layer.Link 24 at
told_link (OutsideArea at) = broken_at layer.Link 25 at
told_link (TooMany deck) = of_deck layer.Link 26 deck
told_link BlankEntry = without_deck layer.Link 27
told_link OpenName = without_deck layer.Link 28
told_link NoSection = without_deck layer.Link 29
told_link CommonOutsideArea = without_deck layer.Link 30
told_link BadEntry = without_deck layer.Link 31
