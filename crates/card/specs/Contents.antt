-- What a card says, and when it is refused.
use Rattle.std.specs.Prelude.{ℕ, ◌/◌, ◌%◌, Bool, cond, not, ◌&&◌, List, [], ◌∷◌, take, Some, None, Ok, Err, Option, Result, ◌==◌, nat_le}
use Rattle.card.specs.declared.kind.CardKind.{CardKind}
use Rattle.card.specs.declared.kind.CardKind.TheVariants as kind
use Rattle.card.specs.declared.content.Item.{Item}
use Rattle.card.specs.declared.content.Constant.{Constant}
use Rattle.card.specs.declared.content.Entry.{Entry}
use Rattle.card.specs.declared.content.RldCard.{RldCard}
use Rattle.card.specs.declared.content.Card.{Card}
use Rattle.card.specs.declared.content.Card.TheVariants as card
use Rattle.card.specs.declared.refusal.CardAt.{CardAt}
use Rattle.card.specs.declared.refusal.CardFault.{CardFault}
use Rattle.card.specs.declared.refusal.CardFault.TheVariants.{UnknownKind, EndMisplaced, BadCount, BadItem, BadRelocation}
use Rattle.card.specs.Numbers.{big}
use Rattle.card.specs.Kinds.{kind_of}
use Rattle.card.specs.Items.{byte_count, id_field, data_columns, data_words, esd_items, rld_items, end_entry, end_length}

-- the content of a card
pub data Content : Type 0 where
  Esd : (first-id : ℕ) → List (Item ℕ) → Content
  Txt : (section address : ℕ) → List ℕ → Content
  Rld : List (Constant ℕ) → Content
  End : Option (Entry ℕ) → Option ℕ → Content
  Sym : Content

-- a TXT card has 1 to 56 bytes
abbrev pub good_txt_count : ℕ → Bool
good_txt_count n = nat_le 1 n && nat_le n 56

-- an RLD card has a multiple of 4 from 8 to 56
abbrev pub good_rld_count : ℕ → Bool
good_rld_count n = n % 4 == 0 && (nat_le 8 n && nat_le n 56)

-- a list of items, or the fault where one of them is bad
abbrev pub or_bad : {X : Type 0} → CardFault → (List X → Content) → Option (List X) → Result Content CardFault
or_bad fault content None = Err fault
or_bad fault content (Some xs) = Ok (content xs)

-- an ESD card has one, two or three items of 16 bytes
abbrev pub esd_says : List ℕ → CardAt → Result Content CardFault
esd_says c at =
    cond (byte_count c == 16) (or_bad (BadItem at) (Esd (id_field c)) (esd_items 1 c 16))
    (cond (byte_count c == 32) (or_bad (BadItem at) (Esd (id_field c)) (esd_items 2 c 16))
    (cond (byte_count c == 48) (or_bad (BadItem at) (Esd (id_field c)) (esd_items 3 c 16))
    (Err (BadCount at))))

-- a TXT card has its bytes from column 17 on
abbrev pub txt_says : List ℕ → CardAt → Result Content CardFault
txt_says c at = cond (good_txt_count (byte_count c)) (Ok (Txt (id_field c) (big 3 c 5) (take (byte_count c) (data_columns c)))) (Err (BadCount at))

abbrev pub rld_says : List ℕ → CardAt → Result Content CardFault
rld_says c at = cond (good_rld_count (byte_count c)) (or_bad (BadRelocation at) Rld (rld_items (take (byte_count c / 4) (data_words c)) None [])) (Err (BadCount at))

abbrev pub end_says : List ℕ → Result Content CardFault
end_says c = Ok (End (end_entry c) (end_length c))

-- an item, or the fault where it is bad
abbrev pub or_item : CardAt → Option (Item ℕ) → Result (Item ℕ) CardFault
or_item at None = Err (BadItem at)
or_item at (Some x) = Ok x

abbrev pub kind_says : CardKind → List ℕ → CardAt → Result Content CardFault
kind_says kind.Esd c at = esd_says c at
kind_says kind.Txt c at = txt_says c at
kind_says kind.Rld c at = rld_says c at
kind_says kind.End c at = end_says c
kind_says kind.Sym c at = Ok Sym

-- END is the last card, and the last card is END
abbrev pub misplaced : CardKind → Bool → Bool
misplaced kind.Esd last = last
misplaced kind.Txt last = last
misplaced kind.Rld last = last
misplaced kind.End last = not last
misplaced kind.Sym last = last

-- what a card says, given whether it is its deck's last: refused by 12, then 13, then by the rules of its kind
abbrev pub card_says : List ℕ → CardAt → Bool → Result Content CardFault
card_says c at last =
    elim (kind_of c) [
      | None ↦ Err (UnknownKind at)
      | Some k ↦ cond (misplaced k last) (Err (EndMisplaced at)) (kind_says k c at)
    ]

-- the items that are there
abbrev pub somes : {X : Type 0} → List (Option X) → List X
somes [] = []
somes (None ∷ xs) = somes xs
somes (Some x ∷ xs) = x ∷ somes xs

-- what a card that was read says
abbrev pub saying : Card → Content
saying (card.Esd e) = Esd e.first_id (somes e.items)
saying (card.Txt t) = Txt t.section t.address (take t.count t.bytes)
saying (card.Rld r) = Rld (take r.count r.places)
saying (card.End e) = End e.entry e.length
saying card.Sym = Sym

abbrev pub rld_held : Option RldCard → Option (List (Constant ℕ))
rld_held None = None
rld_held (Some r) = Some (take r.count r.places)

abbrev pub says : Result Card CardFault → Result Content CardFault
says (Ok c) = Ok (saying c)
says (Err f) = Err f
