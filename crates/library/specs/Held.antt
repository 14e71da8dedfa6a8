-- What a tray means as a library.
use Rattle.std.specs.Prelude.{ℕ, List, map, Option}
use Rattle.std.specs.Option.{option_map}
use Rattle.card.specs.declared.name.Name.{Name}
use Rattle.library.specs.Decks.{cards_of, under}
use Rattle.library.specs.Slots.{Slot, Card}

-- under a name the cards of its deck, all readable
abbrev pub held_in : List ℕ → Name → Option (List Slot)
held_in bytes name = option_map (map Card) (under name.bytes (cards_of bytes))
