-- The kinds of cards.
use Rattle.std.specs.Prelude.{ℕ, Bool, cond, ◌&&◌, List, Some, None, Option, ◌==◌, slice_index}
use Rattle.card.specs.declared.kind.CardKind.{CardKind}
use Rattle.card.specs.declared.kind.CardKind.TheVariants.{Esd, Txt, Rld, End, Sym}

-- columns 2 to 4 hold these three bytes
abbrev pub spells : List ℕ → ℕ → ℕ → ℕ → Bool
spells card x y z = slice_index card 1 == x && (slice_index card 2 == y && slice_index card 3 == z)

-- the kind that columns 2 to 4 spell
abbrev pub spelled_kind : List ℕ → Option CardKind
spelled_kind card =
    cond (spells card 0xC5 0xE2 0xC4) (Some Esd)
    (cond (spells card 0xE3 0xE7 0xE3) (Some Txt)
    (cond (spells card 0xD9 0xD3 0xC4) (Some Rld)
    (cond (spells card 0xC5 0xD5 0xC4) (Some End)
    (cond (spells card 0xE2 0xE8 0xD4) (Some Sym) None))))

-- the kind of a card whose column 1 is hex 02
abbrev pub kind_of : List ℕ → Option CardKind
kind_of card = cond (slice_index card 0 == 0x02) (spelled_kind card) None
