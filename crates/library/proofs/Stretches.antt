-- Decks as stretches of a tray's cards.
use Rattle.std.proofs.Common.{◌≡◌, ℕ, ◌+◌, ◌-◌, ◌<◌, ◌≤◌, Bool, true, false, ◌&&◌, leb, ◌⊎◌, List, [], map, length, get_or, take, drop, is_some, Some, None, Option, unwrap_or, sym, refl, ap, ◌∙◌, inl, inr, arith, leb-false, leb-true}
use Rattle.std.specs.Prelude.{position}
use Rattle.std.specs.List.{position_or_len}
use Rattle.std.specs.Option.{option_map}
use Rattle.std.proofs.lemmas.List.{length-drop, length-take, length-map, take_min, get_or-drop, get_or-take, get_or-map}
use Rattle.std.proofs.lemmas.List.Quantifiers.{position-Some}
use Rattle.card.specs.declared.name.Name.{Name}
use Rattle.library.specs.declared.stretch.Stretch.{Stretch}
use Rattle.library.specs.Decks.{is_header, is_header_of, deck, under}
use Rattle.library.specs.Faults.{good_sizes}
use Rattle.library.specs.Found.{Finds, cards_in, has_card}
use Rattle.library.specs.Slots.{Slot, Card, counted, slot_at}
use Rattle.library.specs.Sound.{both_0, both_1, size_is, deck_good}
use Rattle.library.proofs.Places.{at_within, from1-at, from1_past}

take_front : (k : ℕ) (cs : List (List ℕ)) → take (length (take k cs)) cs ≡ take k cs
take_front k cs = ap (λ n. take n cs) (length-take k cs) ∙ take_min k cs

-- The deck behind the header at place i.
module _ (name : Name) (cs : List (List ℕ)) (i : ℕ) (header : position (is_header_of name.bytes) cs ≡ Some i) where
  pub deck_small : good_sizes cs ≡ true → length (deck (drop (i + 1) cs)) ≤ 512
  deck_small good = (size_is (length (deck (drop (i + 1) cs))) (deck_good name.bytes cs i good header)).1

  pub finds : (s : Stretch) → s.first ≡ i + 1 → s.size ≡ length (deck (drop (i + 1) cs)) → Finds (Some s) name cs
  finds s first size =
      let left = drop (i + 1) cs in
      let is : under name.bytes cs ≡ Some (deck left) = ap (option_map (λ j. deck (drop (j + 1) cs))) header in
      let front : take (length (deck left)) left ≡ deck left = take_front (position_or_len is_header left) left in
      let below = (position-Some (is_header_of name.bytes) cs i [] header).0 in
      let long = length-drop (i + 1) cs in
      let short = length-take (position_or_len is_header left) left in
      record {
        known = sym (ap is_some is);
        valid = ap (λ n. take n (drop s.first cs)) size ∙ ap (λ n. take (length (deck left)) (drop n cs)) first ∙ front ∙ sym (ap (λ o. unwrap_or o []) is);
        within = omega arith;
      }

no_slot_0 : (o : Option (List Slot)) → slot_at o 0 ≡ None
no_slot_0 None = refl
no_slot_0 (Some slots) = refl

has_by : (a b : Bool) → (a && b) ≡ false → (a ≡ false) ⊎ (b ≡ false)
has_by true b h = inr h
has_by false b h = inl refl

some_found : (o : Option (List (List ℕ))) (d : List (List ℕ)) → true ≡ is_some o → d ≡ unwrap_or o [] → option_map (map Card) o ≡ Some (map Card d)
some_found None d h v = cc
some_found (Some e) d h v = ap (λ x. Some (map Card x)) (sym v)

-- What was found at a stretch is held.
module _ (name : Name) (cs : List (List ℕ)) (s : Stretch) (found : Finds (Some s) name cs) where
  abbrev slots : Option (List Slot)
  slots = option_map (map Card) (under name.bytes cs)

  held : slots ≡ Some (map Card (cards_in (Some s) cs))
  held = some_found (under name.bytes cs) (cards_in (Some s) cs) found.known found.valid

  long : length (cards_in (Some s) cs) ≡ s.size
  long =
      let left = length-drop s.first cs in
      let within : s.first + s.size ≤ length cs = found.within in
      simp length-take (omega arith)

  pub found_count : counted slots ≡ Some s.size
  found_count = ap counted held ∙ ap Some (length-map (cards_in (Some s) cs) Card ∙ long)

  past : (i : ℕ) → s.size < i → slot_at slots i ≡ None
  past i more =
      let len = length-map (cards_in (Some s) cs) Card ∙ long in
      ap (λ x. slot_at x i) held ∙ from1_past (map Card (cards_in (Some s) cs)) i (omega arith)

  pub found_past : (i : ℕ) → has_card s i ≡ false → slot_at slots i ≡ None
  found_past i out = elim (has_by (leb 1 i) (leb i s.size) out) [
    | inl low ↦ let e : i ≡ 0 = omega (arith, leb-false 1 i low) in ap (slot_at slots) e ∙ no_slot_0 slots
    | inr high ↦ past i (omega (arith, leb-false i s.size high))
  ]

  pub within_has : (i : ℕ) → has_card s i ≡ true → (0 < i) × (i ≤ s.size)
  within_has i h = (omega (arith, leb-true 1 i (both_0 (leb 1 i) (leb i s.size) h)), leb-true i s.size (both_1 (leb 1 i) (leb i s.size) h))

  pub found_card : (i : ℕ) → has_card s i ≡ true → slot_at slots i ≡ Some (Card (get_or cs (s.first + i - 1) []))
  found_card i h =
      let pos = (within_has i h).0 in
      let most = (within_has i h).1 in
      let d = cards_in (Some s) cs in
      let len = length-map d Card in
      let size = long in
      let e : s.first + (i - 1) ≡ s.first + i - 1 = omega arith in
      let card : get_or d (i - 1) [] ≡ get_or cs (s.first + i - 1) [] =
      get_or-take s.size (drop s.first cs) (i - 1) [] (omega arith)
      ∙ get_or-drop s.first cs (i - 1) []
      ∙ ap (λ m. get_or cs m []) e in
      ap (λ x. slot_at x i) held ∙ from1-at (map Card d) i pos ∙ at_within (map Card d) (i - 1) (Card []) (omega arith)
      ∙ ap Some (get_or-map Card d (i - 1) [] (Card []) (omega arith) ∙ ap Card card)
