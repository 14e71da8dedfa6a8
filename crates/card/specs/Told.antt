-- What a refusal of a card tells.
use Rattle.std.specs.Prelude.{ℕ, None}
use Rattle.card.specs.Names.{blank_name, number_of}
use Rattle.card.specs.declared.refusal.Layer.{Layer}
use Rattle.card.specs.declared.refusal.Layer.TheVariants as layer
use Rattle.card.specs.declared.refusal.Refusal.{Refusal}
use Rattle.card.specs.declared.refusal.CardAt.{CardAt}
use Rattle.card.specs.declared.refusal.CardFault.{CardFault}
use Rattle.card.specs.declared.refusal.CardFault.TheVariants.{UnknownKind, EndMisplaced, BadCount, BadItem, BadId, BadRelocation}

-- the rule of that number broken at a card
abbrev pub broken_at : Layer → ℕ → CardAt → Refusal
broken_at l n at = record { number = n; deck = at.deck; card = at.card; layer = l; mark = None }

-- the rule of that number broken by a deck as a whole
abbrev pub of_deck : Layer → ℕ → ℕ → Refusal
of_deck l n deck = broken_at l n (record { deck = deck; card = 0 })

-- the rule of that number broken where there is no deck: the blank name stands for it
abbrev pub without_deck : Layer → ℕ → Refusal
without_deck l n = of_deck l n (number_of blank_name)

abbrev pub told_card : CardFault → Refusal
told_card (UnknownKind at) = broken_at layer.Card 12 at
told_card (EndMisplaced at) = broken_at layer.Card 13 at
told_card (BadCount at) = broken_at layer.Card 14 at
told_card (BadItem at) = broken_at layer.Card 15 at
told_card (BadId at) = broken_at layer.Card 16 at
told_card (BadRelocation at) = broken_at layer.Card 17 at
