-- A tray's bytes as cards, and its cards as decks.
use Rattle.std.specs.Prelude.{ℕ, ◌+◌, ◌/◌, Bool, ◌&&◌, List, length, map, take, drop, filter, position, Option, ◌==◌, slice_index}
use Rattle.std.specs.List.{before_first}
use Rattle.std.specs.Option.{option_map}
use Rattle.std.specs.Simd.{first_chunks}
use Rattle.std.specs.Str.{bytes_eq}

-- the cards of a tray, each of eighty bytes
abbrev pub cards_of : List ℕ → List (List ℕ)
cards_of bytes = first_chunks 80 (length bytes / 80) bytes

-- a header begins with hex C4 C5 C3 D2
abbrev pub is_header : List ℕ → Bool
is_header card = slice_index card 0 == 0xC4 && (slice_index card 1 == 0xC5 && (slice_index card 2 == 0xC3 && slice_index card 3 == 0xD2))

-- columns 5 to 12
abbrev pub name_on : List ℕ → List ℕ
name_on card = take 8 (drop 4 card)

-- the header of a name
abbrev pub is_header_of : List ℕ → List ℕ → Bool
is_header_of name card = is_header card && bytes_eq (name_on card) name

-- the cards up to the next header
abbrev pub deck : List (List ℕ) → List (List ℕ)
deck cs = before_first is_header cs

-- the deck behind the first header of a name
abbrev pub under : List ℕ → List (List ℕ) → Option (List (List ℕ))
under name cs = option_map (λ i. deck (drop (i + 1) cs)) (position (is_header_of name) cs)

-- the names on the headers, in their order
abbrev pub header_names : List (List ℕ) → List (List ℕ)
header_names cs = map name_on (filter is_header cs)
