-- Additions to the table of a layer.
use Rattle.std.specs.Prelude.{ℕ, Bool, cond, List, [], ◌∷◌, ◌++◌, length, Some, None, Option, nat_le}
use Rattle.library.specs.declared.fault.LibraryFault.{LibraryFault}
use Rattle.library.specs.declared.fault.LibraryFault.TheVariants.{TableFull, BadName}

-- the rule that an addition breaks, given the table's places and whether a name is bad: a full table goes first
abbrev pub fault_of : {X : Type 0} → ℕ → List X → Bool → Option LibraryFault
fault_of places xs bad = cond (nat_le places (length xs)) (Some TableFull) (cond bad (Some BadName) None)

-- the table afterwards: one more behind the others, or as it was where a rule is broken
abbrev pub table_after : {X : Type 0} → Option LibraryFault → List X → X → List X
table_after None xs x = xs ++ x ∷ []
table_after (Some fault) xs x = xs
