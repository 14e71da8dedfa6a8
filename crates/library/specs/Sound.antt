-- A tray without a fault holds decks such as a library may hold.
use Rattle.std.specs.Prelude.{◌≡◌, ℕ, zero, suc, ◌+◌, ◌*◌, ◌/◌, ◌<◌, ◌≤◌, Bool, true, false, cond, ◌&&◌, List, [], ◌∷◌, map, length, drop, position, Some, None, Option, nat_le, refl}
use Rattle.std.proofs.Common.{get_or, sym, ap, ◌∙◌, arith, length-take, length-drop, leb-true}
use Rattle.std.proofs.lemmas.List.{length-map}
use Rattle.std.proofs.lemmas.List.Elements.{All-cons, All-head, All-tail, All-take, All-drop}
use Rattle.std.proofs.lemmas.List.Quantifiers.{position-Some}
use Rattle.std.specs.List.{All, position_or_len}
use Rattle.std.specs.Option.{option_map}
use Rattle.std.specs.Simd.{first_chunks}
use Rattle.card.specs.declared.name.Name.{Name}
use Rattle.library.specs.declared.fault.LibraryFault.TheVariants.{BadTrayLength, BadTrayDecks, NameTwice}
use Rattle.library.specs.Decks.{cards_of, is_header, is_header_of, name_on, deck, under, header_names}
use Rattle.library.specs.Faults.{good_length, good_start, good_size, good_behind, good_sizes, all_apart, tray_fault}
use Rattle.library.specs.Held.{held_in}
use Rattle.library.specs.Slots.{Card, Sound, AllWide}
use Rattle.std.specs.Str.{bytes_eq}

never : {P : Type 0} → true ≡ false → P
never h = let z : ◌≡◌ {A = ℕ} 0 1 = cc in absurd (omega arith)

pub both_0 : (a b : Bool) → (a && b) ≡ true → a ≡ true
both_0 true b h = refl
both_0 false b h = h

pub both_1 : (a b : Bool) → (a && b) ≡ true → b ≡ true
both_1 true b h = h
both_1 false b h = cc

-- a tray without a fault has good decks
fault_by : (a s n d e : Bool) → cond a (cond (s && (n && d)) (cond e None (Some NameTwice)) (Some BadTrayDecks)) (Some BadTrayLength) ≡ None → d ≡ true
fault_by false s n d e h = cc
fault_by true false n d e h = cc
fault_by true true false d e h = cc
fault_by true true true false e h = cc
fault_by true true true true e h = refl

pub sizes_good : (bytes : List ℕ) → tray_fault bytes ≡ None → good_sizes (cards_of bytes) ≡ true
sizes_good bytes h =
    fault_by (good_length bytes) (good_start (cards_of bytes)) (nat_le (length (header_names (cards_of bytes))) 1024) (good_sizes (cards_of bytes)) (all_apart (header_names (cards_of bytes))) h

pub size_is : (n : ℕ) → good_size n ≡ true → (1 ≤ n) × (n ≤ 512)
size_is n h = (leb-true 1 n (both_0 (nat_le 1 n) (nat_le n 512) h), leb-true n 512 (both_1 (nat_le 1 n) (nat_le n 512) h))

good_at : (cs : List (List ℕ)) (i : ℕ) → good_sizes cs ≡ true → i < length cs → good_behind (get_or cs i []) (drop (suc i) cs) ≡ true
good_at [] i g h = absurd (omega arith)
good_at (c ∷ cs) zero g h = both_0 (good_behind c cs) (good_sizes cs) g
good_at (c ∷ cs) (suc i) g h = good_at cs i (both_1 (good_behind c cs) (good_sizes cs) g) (omega arith)

behind_by : (b t : Bool) (n : ℕ) → (b && t) ≡ true → cond b (good_size n) true ≡ true → good_size n ≡ true
behind_by true t n e h = h
behind_by false t n e h = cc

-- the deck behind a header that was found
pub deck_good : (name : List ℕ) (cs : List (List ℕ)) (i : ℕ) → good_sizes cs ≡ true → position (is_header_of name) cs ≡ Some i → good_size (length (deck (drop (i + 1) cs))) ≡ true
deck_good name cs i g e =
    let found = position-Some (is_header_of name) cs i [] e in
    let next : suc i ≡ i + 1 = omega arith in
    let good : good_behind (get_or cs i []) (drop (i + 1) cs) ≡ true = ap (λ n. good_behind (get_or cs i []) (drop n cs)) (sym next) ∙ good_at cs i g found.0 in
    behind_by (is_header (get_or cs i [])) (bytes_eq (name_on (get_or cs i [])) name) (length (deck (drop (i + 1) cs))) found.1 good

-- every card has eighty bytes
abbrev Fit : List (List ℕ) → Type 0
Fit cs = All (λ c. length c ≡ 80) cs

cards_fit : (n : ℕ) (bytes : List ℕ) → 80 * n ≤ length bytes → Fit (first_chunks 80 n bytes)
cards_fit zero bytes h = λ k d below. absurd (omega arith)
cards_fit (suc n) bytes h = All-cons (λ c. length c ≡ 80) _ _ (simp length-take (omega arith)) (cards_fit n (drop 80 bytes) (simp length-drop (omega arith)))

-- so has every card before the next header
deck_fit : (cs : List (List ℕ)) → Fit cs → Fit (deck cs)
deck_fit cs h = All-take (λ c. length c ≡ 80) (position_or_len is_header cs) cs h

slots_wide : (d : List (List ℕ)) → Fit d → AllWide (map Card d)
slots_wide [] h = tt
slots_wide (c ∷ cs) h = (All-head (λ x. length x ≡ 80) c cs h, slots_wide cs (All-tail (λ x. length x ≡ 80) c cs h))

deck_sound : (d : List (List ℕ)) → good_size (length d) ≡ true → Fit d → Sound (Some (map Card d))
deck_sound d g h = let s = size_is (length d) g in (simp length-map s.0, simp length-map s.1, slots_wide d h)

found_sound : (name : List ℕ) (cs : List (List ℕ)) → good_sizes cs ≡ true → Fit cs → (o : Option ℕ) → position (is_header_of name) cs ≡ o
    → Sound (option_map (map Card) (option_map (λ i. deck (drop (i + 1) cs)) o))
found_sound name cs g h None e = tt
found_sound name cs g h (Some i) e =
    let left = drop (i + 1) cs in
    deck_sound (deck left) (deck_good name cs i g e) (deck_fit left (All-drop (λ c. length c ≡ 80) (i + 1) cs h))

under_sound : (name : List ℕ) (cs : List (List ℕ)) → good_sizes cs ≡ true → Fit cs → Sound (option_map (map Card) (under name cs))
under_sound name cs g h = found_sound name cs g h (position (is_header_of name) cs) refl

pub held_sound : (bytes : List ℕ) (name : Name) → tray_fault bytes ≡ None → Sound (held_in bytes name)
held_sound bytes name h =
    under_sound name.bytes (cards_of bytes) (sizes_good bytes h) (cards_fit (length bytes / 80) bytes (omega arith))
