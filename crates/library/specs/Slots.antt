-- What a library means: under each name nothing, or the slots of its deck.
use Rattle.std.specs.Prelude.{◌≡◌, ℕ, zero, suc, ◌≤◌, List, [], ◌∷◌, length, Some, None, Option}

-- a card that can be read, its bytes, or one that cannot, its mark
pub data Slot : Type 0 where
  Card : List ℕ → Slot
  Flaw : ℕ → Slot

-- a card that can be read has 80 bytes
abbrev pub Wide : Slot → Type 0
Wide (Card bytes) = length bytes ≡ 80
Wide (Flaw mark) = Unit {0}

abbrev pub AllWide : List Slot → Type 0
AllWide [] = Unit {0}
AllWide (s ∷ ss) = Wide s × AllWide ss

-- a deck has 1 to 512 slots
abbrev pub Sound : Option (List Slot) → Type 0
Sound None = Unit {0}
Sound (Some slots) = (1 ≤ length slots) × (length slots ≤ 512) × AllWide slots

-- how many cards a deck has
abbrev pub counted : Option (List Slot) → Option ℕ
counted None = None
counted (Some slots) = Some (length slots)

-- the slot at a place, counted from 0
abbrev pub at : List Slot → ℕ → Option Slot
at [] n = None
at (s ∷ ss) zero = Some s
at (s ∷ ss) (suc n) = at ss n

-- the slot at a place, counted from 1
abbrev pub from1 : List Slot → ℕ → Option Slot
from1 slots zero = None
from1 slots (suc n) = at slots n

-- the slot at a place of what stands under a name
abbrev pub slot_at : Option (List Slot) → ℕ → Option Slot
slot_at None i = None
slot_at (Some slots) i = from1 slots i

-- the slots, none where there is no deck
abbrev pub slots_of : Option (List Slot) → List Slot
slots_of None = []
slots_of (Some slots) = slots
