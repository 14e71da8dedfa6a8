-- What a library means where names are changed inside its cards.
use Rattle.std.specs.Prelude.{◌≡◌, ℕ, ◌+◌, ◌≤◌, Bool, true, false, cond, List, [], ◌∷◌, ◌++◌, map, length, take, drop, Some, None, Option, ◌==◌}
use Rattle.std.proofs.Common.{arith, length-take, length-drop, length-append}
use Rattle.std.proofs.lemmas.List.{length-map}
use Rattle.std.specs.List.{fold, AllByRecursion}
use Rattle.std.specs.Option.{option_map}
use Rattle.card.specs.declared.kind.CardKind.{CardKind}
use Rattle.card.specs.declared.kind.CardKind.TheVariants.{Esd, Txt, Rld, End, Sym}
use Rattle.card.specs.Items.{byte_count}
use Rattle.card.specs.Kinds.{spelled_kind}
use Rattle.card.specs.Names.{name_at}
use Rattle.library.specs.Slots.{Slot, Card, Flaw, Sound, Wide, AllWide}
use Rattle.layer.specs.Renamed.{Renaming, renamed, AllEight, renamed_eight}

-- a card with eight other bytes from place `at` on
abbrev pub put : List ℕ → ℕ → List ℕ → List ℕ
put card at bytes = take at card ++ (bytes ++ drop (at + 8) card)

-- a card with the name at place `at` changed
abbrev pub rename_at : List Renaming → List ℕ → ℕ → List ℕ
rename_at pairs card at = put card at (renamed pairs (name_at card at)).bytes

-- the places of the items of an ESD card with a byte count of 16, 32 or 48
abbrev pub item_places : ℕ → List ℕ
item_places n = cond (n == 16) (16 ∷ []) (cond (n == 32) (16 ∷ 32 ∷ []) (cond (n == 48) (16 ∷ 32 ∷ 48 ∷ []) []))

abbrev pub kind_places : CardKind → List ℕ → List ℕ
kind_places Esd card = item_places (byte_count card)
kind_places Txt card = []
kind_places Rld card = []
kind_places End card = 16 ∷ []
kind_places Sym card = []

-- the places of the names that are looked up: those of the items where columns 2 to 4 say ESD, one where they say END
abbrev pub name_places : List ℕ → List ℕ
name_places card = elim (spelled_kind card) [
  | None ↦ []
  | Some kind ↦ kind_places kind card
]

-- a card with its names changed: in columns 17 to 24, 33 to 40 and 49 to 56, as many as it has
unfoldable pub edited : List Renaming → List ℕ → List ℕ
edited pairs card = fold (rename_at pairs) card (name_places card)

-- a readable card with its names changed; a flaw keeps its mark
abbrev pub changed_slot : List Renaming → Slot → Slot
changed_slot pairs (Card bytes) = Card (edited pairs bytes)
changed_slot pairs (Flaw mark) = Flaw mark

-- each slot of what stands below changed
abbrev pub changed : List Renaming → Option (List Slot) → Option (List Slot)
changed pairs below = option_map (map (changed_slot pairs)) below

-- eight bytes from each place on are on the card
abbrev pub Within : List ℕ → Type 0
Within places = AllByRecursion (λ at. at + 8 ≤ 80) places

within_by : (b : Bool) (ats bts : List ℕ) → Within ats → Within bts → Within (cond b ats bts)
within_by true ats bts h k = h
within_by false ats bts h k = k

pub items_within : (n : ℕ) → Within (item_places n)
items_within n =
    within_by (n == 16) _ _ (omega arith, tt)
    (within_by (n == 32) _ _ (omega arith, (omega arith, tt)) (within_by (n == 48) _ _ (omega arith, (omega arith, (omega arith, tt))) tt))

kind_within : (kind : CardKind) (card : List ℕ) → Within (kind_places kind card)
kind_within Esd card = items_within (byte_count card)
kind_within Txt card = tt
kind_within Rld card = tt
kind_within End card = (omega arith, tt)
kind_within Sym card = tt

kinds_within : (o : Option CardKind) (card : List ℕ) → Within (elim o [ None ↦ [] | Some kind ↦ kind_places kind card ])
kinds_within None card = tt
kinds_within (Some kind) card = kind_within kind card

pub names_within : (card : List ℕ) → Within (name_places card)
names_within card = kinds_within (spelled_kind card) card

few_by : (b : Bool) (ats bts : List ℕ) → length ats ≤ 3 → length bts ≤ 3 → length (cond b ats bts) ≤ 3
few_by true ats bts h k = h
few_by false ats bts h k = k

pub items_few : (n : ℕ) → length (item_places n) ≤ 3
items_few n = few_by (n == 16) _ _ (omega arith) (few_by (n == 32) _ _ (omega arith) (few_by (n == 48) _ _ (omega arith) (omega arith)))

kind_few : (kind : CardKind) (card : List ℕ) → length (kind_places kind card) ≤ 3
kind_few Esd card = items_few (byte_count card)
kind_few Txt card = omega arith
kind_few Rld card = omega arith
kind_few End card = omega arith
kind_few Sym card = omega arith

kinds_few : (o : Option CardKind) (card : List ℕ) → length {A = ℕ} (elim o [ None ↦ [] | Some kind ↦ kind_places kind card ]) ≤ 3
kinds_few None card = omega arith
kinds_few (Some kind) card = kind_few kind card

-- no card has more than three names that are looked up
pub name_few : (card : List ℕ) → length (name_places card) ≤ 3
name_few card = kinds_few (spelled_kind card) card

rename_wide : (pairs : List Renaming) → AllEight pairs → (card : List ℕ) (at : ℕ) → at + 8 ≤ 80 → length card ≡ 80 → length (rename_at pairs card at) ≡ 80
rename_wide pairs a card at k h =
    let e : length (take 8 (drop at card)) ≡ 8 = simp (length-take, length-drop) (omega arith) in
    let n = renamed_eight pairs (name_at card at) a e in
    simp (length-append, length-take, length-drop) (omega arith)

fold_wide : (pairs : List Renaming) → AllEight pairs → (places card : List ℕ) → Within places → length card ≡ 80 → length (fold (rename_at pairs) card places) ≡ 80
fold_wide pairs a [] card w h = h
fold_wide pairs a (at ∷ ats) card w h = fold_wide pairs a ats (rename_at pairs card at) w.1 (rename_wide pairs a card at w.0 h)

edited_wide : (pairs : List Renaming) → AllEight pairs → (card : List ℕ) → length card ≡ 80 → length (edited pairs card) ≡ 80
unfolding edited
edited_wide pairs a card h = fold_wide pairs a (name_places card) card (names_within card) h

slot_wide : (pairs : List Renaming) → AllEight pairs → (s : Slot) → Wide s → Wide (changed_slot pairs s)
slot_wide pairs a (Card bytes) h = edited_wide pairs a bytes h
slot_wide pairs a (Flaw mark) h = tt

all_wide : (pairs : List Renaming) → AllEight pairs → (ss : List Slot) → AllWide ss → AllWide (map (changed_slot pairs) ss)
all_wide pairs a [] h = tt
all_wide pairs a (s ∷ ss) h = (slot_wide pairs a s h.0, all_wide pairs a ss h.1)

pub changed_sound : (pairs : List Renaming) → AllEight pairs → (o : Option (List Slot)) → Sound o → Sound (changed pairs o)
changed_sound pairs a None h = tt
changed_sound pairs a (Some slots) h = (simp length-map h.0, simp length-map h.1, all_wide pairs a slots h.2)
