-- A stretch of a tray's cards.
use Rattle.std.specs.Prelude.{◌≡◌, ℕ, ◌+◌, ◌≤◌, Bool, ◌&&◌, List, [], length, take, drop, is_some, Some, None, Option, nat_le}
use Rattle.std.specs.Option.{unwrap_or}
use Rattle.card.specs.declared.name.Name.{Name}
use Rattle.library.specs.Decks.{under}
use Rattle.library.specs.declared.stretch.Stretch.{Stretch}

-- the cards of a stretch that was found
abbrev pub cards_in : Option Stretch → List (List ℕ) → List (List ℕ)
cards_in None cs = []
cards_in (Some s) cs = take s.size (drop s.first cs)

-- the place behind its last card
abbrev pub end_of : Option Stretch → ℕ
end_of None = 0
end_of (Some s) = s.first + s.size

-- a stretch has a card i, counted from 1
abbrev pub has_card : Stretch → ℕ → Bool
has_card s i = nat_le 1 i && nat_le i s.size

-- a stretch, if any, is where the deck of a name stands among a tray's cards
pub record Finds (found : Option Stretch) (name : Name) (cs : List (List ℕ)) : Type 0 where
  pub known : is_some found ≡ is_some (under name.bytes cs)
  pub valid : cards_in found cs ≡ unwrap_or (under name.bytes cs) []
  pub within : end_of found ≤ length cs
