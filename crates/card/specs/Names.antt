-- Names: any eight bytes.
use Rattle.std.specs.Prelude.{ℕ, Bool, List, [], ◌∷◌, take, drop}
use Rattle.std.specs.Str.{bytes_eq}
use Rattle.card.specs.declared.name.Name.{Name}
use Rattle.card.specs.Numbers.{big}

-- two names are the same, byte for byte
abbrev pub same_name : Name → Name → Bool
same_name a b = bytes_eq a.bytes b.bytes

-- eight times hex 40
abbrev pub blank_name : Name
blank_name = record { bytes = 0x40 ∷ 0x40 ∷ 0x40 ∷ 0x40 ∷ 0x40 ∷ 0x40 ∷ 0x40 ∷ 0x40 ∷ [] }

abbrev pub is_blank : Name → Bool
is_blank a = same_name a blank_name

-- a name as one number of 64 bits, the first byte highest
abbrev pub number_of : Name → ℕ
number_of a = big 8 a.bytes 0

-- the name in the eight bytes from place `at`
abbrev pub name_at : List ℕ → ℕ → Name
name_at card at = record { bytes = take 8 (drop at card) }
