-- What a typed line asks for.
use Rattle.std.specs.Prelude.{◌≡◌, ℕ, ◌+◌, ◌-◌, cond, List, [], ◌∷◌, ◌++◌, length, replicate, Some, None, Option, ◌==◌, nat_le, slice_set}
use Rattle.std.specs.Option.{option_map}
use Rattle.card.specs.declared.name.Name.{Name}
use Rattle.card.specs.Names.{blank_name}
use Rattle.card.specs.Shown.{within}
use Rattle.console.specs.Text.{name_text}
use Rattle.console.specs.declared.command.Command.{Command}
use Rattle.console.specs.declared.command.Command.TheVariants.{Include, Entry, Calls, Fix, FixOpen, Map}

-- the byte that prints as a character: A to I, J to R, S to Z, 0 to 9, @, #, $ and the blank; no other has one
abbrev pub punch_of : ℕ → Option ℕ
punch_of c =
    cond (within 65 c 73) (Some (0xC1 + (c - 65)))
    (cond (within 74 c 82) (Some (0xD1 + (c - 74)))
    (cond (within 83 c 90) (Some (0xE2 + (c - 83)))
    (cond (within 48 c 57) (Some (0xF0 + (c - 48)))
    (cond (c == 64) (Some 0x7C)
    (cond (c == 35) (Some 0x7B)
    (cond (c == 36) (Some 0x5B)
    (cond (c == 32) (Some 0x40)
    None)))))))

-- a name's bytes with these characters punched over them from place `at` on; none where one has no byte
abbrev pub punched_over : List ℕ → ℕ → List ℕ → Option Name
punched_over bytes at [] = Some (record { bytes = bytes })
punched_over bytes at (c ∷ cs) = elim (punch_of c) [ None ↦ None | Some b ↦ punched_over (slice_set bytes at b) (at + 1) cs ]

-- the name that up to eight characters spell, filled with blanks
abbrev pub name_of : List ℕ → Option Name
name_of cs = cond (nat_le (length cs) 8) (punched_over blank_name.bytes 0 cs) None

-- the name behind a command's letter and one blank
abbrev pub name_after : List ℕ → Option Name
name_after [] = None
name_after (b ∷ cs) = cond (b == 32) (name_of cs) None

-- a command whose letter stands alone on its line
abbrev pub alone : Command → List ℕ → Option Command
alone command [] = Some command
alone command (b ∷ bs) = None

-- the command that a letter and the rest of its line ask for
abbrev pub letter_command : ℕ → List ℕ → Option Command
letter_command letter rest =
    cond (letter == 73) (option_map Include (name_after rest))  -- I
    (cond (letter == 69) (option_map Entry (name_after rest))  -- E
    (cond (letter == 67) (alone Calls rest)  -- C
    (cond (letter == 70) (alone Fix rest)  -- F
    (cond (letter == 76) (alone FixOpen rest)  -- L
    (cond (letter == 77) (alone Map rest)  -- M
    None)))))

-- the command that a line asks for, if any
abbrev pub command_of : List ℕ → Option Command
command_of [] = None
command_of (letter ∷ rest) = letter_command letter rest

-- characters with blanks behind them, eight in all
abbrev pub filled : List ℕ → List ℕ
filled cs = cs ++ replicate (8 - length cs) 32

-- a line is a letter, one blank and characters, and the name prints as these, filled with blanks
abbrev pub Names : ℕ → List ℕ → Name → Type 0
Names letter line name = (cs : List ℕ) × (line ≡ letter ∷ 32 ∷ cs) × (name_text name ≡ filled cs)

-- the command is what the line says
abbrev pub Says : List ℕ → Command → Type 0
Says line (Include name) = Names 73 line name
Says line (Entry name) = Names 69 line name
Says line Calls = line ≡ 67 ∷ []
Says line Fix = line ≡ 70 ∷ []
Says line FixOpen = line ≡ 76 ∷ []
Says line Map = line ≡ 77 ∷ []
