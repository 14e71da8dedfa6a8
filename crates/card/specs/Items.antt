-- What the items and fields of a card say, one definition a rule.
use Rattle.std.specs.Prelude.{ℕ, zero, suc, ◌+◌, ◌/◌, ◌%◌, Bool, cond, ◌||◌, List, [], ◌∷◌, ◌++◌, take, drop, Some, None, Option, ◌==◌, nat_le, slice_index}
use Rattle.std.specs.Simd.{first_chunks}
use Rattle.card.specs.declared.name.Name.{Name}
use Rattle.card.specs.declared.content.Strength.TheVariants.{Strong, Weak}
use Rattle.card.specs.declared.content.Item.{Item}
use Rattle.card.specs.declared.content.Item.TheVariants.{Section, Label, Reference, Common}
use Rattle.card.specs.declared.content.Width.{Width}
use Rattle.card.specs.declared.content.Width.TheVariants.{Three, Four}
use Rattle.card.specs.declared.content.Sign.{Sign}
use Rattle.card.specs.declared.content.Sign.TheVariants.{Plus, Minus}
use Rattle.card.specs.declared.content.Constant.{Constant}
use Rattle.card.specs.declared.content.Pointers.{Pointers}
use Rattle.card.specs.declared.content.Entry.{Entry}
use Rattle.card.specs.declared.content.Entry.TheVariants.{Address, Named}
use Rattle.card.specs.Numbers.{big}
use Rattle.card.specs.Names.{name_at, is_blank}

-- the byte count in columns 11 and 12
abbrev pub byte_count : List ℕ → ℕ
byte_count card = big 2 card 10

-- the ID in columns 15 and 16
abbrev pub id_field : List ℕ → ℕ
id_field card = big 2 card 14

-- columns 17 to 72
abbrev pub data_columns : List ℕ → List ℕ
data_columns card = take 56 (drop 16 card)

-- the same as fourteen words of four bytes
unfoldable pub data_words : List ℕ → List (List ℕ)
data_words card = first_chunks 4 14 (data_columns card)

-- a section, a label and a common define their names; a private section has none
abbrev pub defines : {S : Type 0} → Item S → Option Name
defines (Section name start size) = name
defines (Label name address section) = Some name
defines (Reference name strength) = None
defines (Common name size) = Some name

-- an item that must have a name
abbrev pub unless_blank : Name → Item ℕ → Option (Item ℕ)
unless_blank name item = cond (is_blank name) None (Some item)

-- the item that a type, a name, an input address and a length make; none where the type is unknown, or a label or a
-- reference has the blank name; a section with the blank name is private, and a label's length is its section's ID
abbrev pub typed_item : ℕ → Name → ℕ → ℕ → Option (Item ℕ)
typed_item type name address size =
    cond (type == 0x00) (Some (Section (cond (is_blank name) None (Some name)) address size))
    (cond (type == 0x04) (Some (Section None address size))
    (cond (type == 0x01) (unless_blank name (Label name address size))
    (cond (type == 0x02) (unless_blank name (Reference name Strong))
    (cond (type == 0x0A) (unless_blank name (Reference name Weak))
    (cond (type == 0x05) (Some (Common name size))
    None)))))

-- the item of an ESD card in the 16 bytes from place `at`: name, type, input address, a byte not read, length
unfoldable pub esd_item : List ℕ → ℕ → Option (Item ℕ)
esd_item card at = typed_item (slice_index card (at + 8)) (name_at card at) (big 3 card (at + 9)) (big 3 card (at + 13))

-- one item more in front, unless something is wrong with it or with what follows
abbrev pub and_then : {X : Type 0} → Option X → Option (List X) → Option (List X)
and_then None rest = None
and_then (Some x) None = None
and_then (Some x) (Some xs) = Some (x ∷ xs)

-- the n items of an ESD card from place `at` on
abbrev pub esd_items : ℕ → List ℕ → ℕ → Option (List (Item ℕ))
esd_items zero card at = Some []
esd_items (suc n) card at = and_then (esd_item card at) (esd_items n card (at + 16))

-- the flag of an RLD item, from the high end: four bits of type, two of width less one, one sign, one repeat
abbrev pub flag_type : ℕ → ℕ
flag_type flag = flag / 16

abbrev pub flag_width : ℕ → ℕ
flag_width flag = flag / 4 % 4 + 1

abbrev pub flag_sign : ℕ → Sign
flag_sign flag = cond (flag / 2 % 2 == 1) Minus Plus

abbrev pub flag_repeats : ℕ → Bool
flag_repeats flag = flag % 2 == 1

abbrev pub width_of : ℕ → Option Width
width_of n = cond (n == 3) (Some Three) (cond (n == 4) (Some Four) None)

-- the width that a flag gives: types 0 and 1 alone, 3 or 4 bytes
abbrev pub good_width : ℕ → Option Width
good_width flag = cond (nat_le (flag_type flag) 1) (width_of (flag_width flag)) None

-- the number of bytes of a constant
abbrev pub wide : Width → ℕ
wide Three = 3
wide Four = 4

-- R and P stand for the next constant too where the flag says so
abbrev pub after_flag : ℕ → Pointers → Option Pointers
after_flag flag ids = cond (flag_repeats flag) (Some ids) None

-- R and P in a word of four bytes
abbrev pub pointers_in : List ℕ → Pointers
pointers_in word = record { r = big 2 word 0; p = big 2 word 2 }

-- the constant of R and P whose flag and address a word of four bytes holds
abbrev pub constant_in : List ℕ → Pointers → Width → Constant ℕ
constant_in word ids width = record { target = ids.r; section = ids.p; width = width; sign = flag_sign (slice_index word 0); address = big 3 word 1 }

-- the items found so far and those in the words of four bytes, where a constant is due for the R and P that were read,
-- if any; none where an item has another type or width, is cut, or is the last one and announces a repeat
abbrev pub rld_items : List (List ℕ) → Option Pointers → List (Constant ℕ) → Option (List (Constant ℕ))
rld_items [] None found = Some found
rld_items [] (Some ids) found = None
rld_items (word ∷ words) None found = rld_items words (Some (pointers_in word)) found
rld_items (word ∷ words) (Some ids) found =
    elim (good_width (slice_index word 0)) [
      | None ↦ None
      | Some width ↦ rld_items words (after_flag (slice_index word 0) ids) (found ++ constant_in word ids width ∷ [])
    ]

-- END's entry ID in columns 15 and 16 is absent where it is zero or blank
abbrev pub no_id : ℕ → Bool
no_id id = id == 0 || id == 0x4040

-- END's input address in columns 6 to 8; three blanks mean zero
abbrev pub end_address : List ℕ → ℕ
end_address card = cond (big 3 card 5 == 0x404040) 0 (big 3 card 5)

-- END's entry: an address under an ID, else a name in columns 17 to 24 that is not blank, else none
abbrev pub end_entry : List ℕ → Option (Entry ℕ)
end_entry card =
    cond (no_id (id_field card))
    (cond (is_blank (name_at card 16)) None (Some (Named (name_at card 16))))
    (Some (Address (id_field card) (end_address card)))

-- END's length in columns 29 to 32, unless zero or blanks
abbrev pub end_length : List ℕ → Option ℕ
end_length card = cond (big 4 card 28 == 0 || big 4 card 28 == 0x40404040) None (Some (big 4 card 28))
