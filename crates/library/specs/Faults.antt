-- The rules of a tray.
use Rattle.std.specs.Prelude.{ℕ, ◌/◌, ◌%◌, Bool, true, cond, not, ◌&&◌, List, [], ◌∷◌, length, Some, None, Option, ◌==◌, nat_le}
use Rattle.std.specs.List.{list_any}
use Rattle.std.specs.Str.{bytes_eq}
use Rattle.library.specs.declared.fault.LibraryFault.{LibraryFault}
use Rattle.library.specs.declared.fault.LibraryFault.TheVariants.{BadTrayLength, BadTrayDecks, NameTwice}
use Rattle.library.specs.Decks.{cards_of, is_header, deck, header_names}

-- whole cards, and at most 12,000 of them
abbrev pub good_length : List ℕ → Bool
good_length bytes = length bytes % 80 == 0 && nat_le (length bytes / 80) 12000

-- a tray with cards starts with a header
abbrev pub good_start : List (List ℕ) → Bool
good_start [] = true
good_start (c ∷ cs) = is_header c

-- a deck has 1 to 512 cards
abbrev pub good_size : ℕ → Bool
good_size n = nat_le 1 n && nat_le n 512

-- behind a header stands a good deck; cs are the cards behind the card c
abbrev pub good_behind : List ℕ → List (List ℕ) → Bool
good_behind c cs = cond (is_header c) (good_size (length (deck cs))) true

abbrev pub good_sizes : List (List ℕ) → Bool
good_sizes [] = true
good_sizes (c ∷ cs) = good_behind c cs && good_sizes cs

-- at most 1,024 decks, each behind its header
abbrev pub good_decks : List (List ℕ) → Bool
good_decks cs = good_start cs && (nat_le (length (header_names cs)) 1024 && good_sizes cs)

-- a name is among the names
abbrev pub among : List ℕ → List (List ℕ) → Bool
among name names = list_any (λ x. bytes_eq x name) names

-- no name stands twice
abbrev pub all_apart : List (List ℕ) → Bool
all_apart [] = true
all_apart (x ∷ xs) = not (among x xs) && all_apart xs

-- the first rule that a tray breaks
abbrev pub tray_fault : List ℕ → Option LibraryFault
tray_fault bytes =
    cond (good_length bytes)
    (cond (good_decks (cards_of bytes))
    (cond (all_apart (header_names (cards_of bytes))) None (Some NameTwice))
    (Some BadTrayDecks))
    (Some BadTrayLength)
