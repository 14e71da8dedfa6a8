-- What the lines that are printed say.
use Rattle.std.specs.Prelude.{ℕ, ◌+◌, ◌/◌, ◌%◌, cond, List, [], ◌∷◌, ◌++◌, map, codes, nat_lt}
use Rattle.card.specs.declared.name.Name.{Name}
use Rattle.card.specs.Shown.{shown}
use Rattle.link.specs.declared.maplines.MapKind.{MapKind}
use Rattle.link.specs.declared.maplines.MapKind.TheVariants.{Section, Private, Label, Common, Strong, Weak}
use Rattle.link.specs.declared.maplines.MapLine.{MapLine}

-- the characters that a name's bytes print as
abbrev pub name_text : Name → List ℕ
name_text name = map shown name.bytes

abbrev pub kind_text : MapKind → List ℕ
kind_text Section = codes "SD"
kind_text Private = codes "PC"
kind_text Label = codes "LR"
kind_text Common = codes "CM"
kind_text Strong = codes "ER"
kind_text Weak = codes "WX"

-- the upper-case hex digit of a number's low four bits
abbrev pub hex_digit : ℕ → ℕ
hex_digit n = cond (nat_lt (n % 16) 10) (48 + n % 16) (55 + n % 16)

-- a number's low 24 bits as six hex digits
abbrev pub hex_text : ℕ → List ℕ
hex_text n =
    hex_digit (n / 0x100000) ∷ hex_digit (n / 0x10000) ∷ hex_digit (n / 0x1000) ∷ hex_digit (n / 0x100) ∷ hex_digit (n / 0x10) ∷ hex_digit n ∷ []

-- a number's last two decimal digits
abbrev pub two_digits : ℕ → List ℕ
two_digits n = (48 + n / 10 % 10) ∷ (48 + n % 10) ∷ []

-- a row of the map: name, kind, address and length, a blank between
abbrev pub row_text : MapLine → List ℕ
row_text row = name_text row.name ++ (32 ∷ (kind_text row.kind ++ (32 ∷ (hex_text row.address ++ (32 ∷ hex_text row.length)))))

abbrev pub entry_text : ℕ → List ℕ
entry_text address = codes "ENTRY " ++ hex_text address

abbrev pub refused_text : ℕ → List ℕ
refused_text number = codes "REFUSED " ++ two_digits number
