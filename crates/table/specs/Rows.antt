-- What a table holds, and what it answers.
use Rattle.std.specs.Prelude.{ℕ, ◌+◌, Bool, cond, List, [], ◌∷◌, ◌++◌, length, take, Ok, Err, Option, Result, nat_lt, slice_set, position}
use Rattle.std.specs.List.{find}
use Rattle.std.specs.Option.{option_map}
use Rattle.table.specs.declared.Count.{Count}
use Rattle.table.specs.declared.Full.{Full}
use Rattle.table.specs.declared.Row.{Row}

-- rows past the count are no part of the table; a count past the rows reads as all the rows
abbrev pub held : {K V : Type 0} → Count → List (Row K V) → List (Row K V)
held count rows = take count.rows rows

-- a row stands under the key
abbrev pub under : {K V : Type 0} → (K → K → Bool) → K → Row K V → Bool
under same key r = same r.key key

-- the place of the first row under the key, counted from 0
abbrev pub first_at : {K V : Type 0} → (K → K → Bool) → K → List (Row K V) → Option ℕ
first_at same key rows = position (under same key) rows

-- the value of the first row under the key
abbrev pub value_under : {K V : Type 0} → (K → K → Bool) → K → List (Row K V) → Option V
value_under same key rows = option_map (λ r. r.value) (find (under same key) rows)

-- whether a row is free
abbrev pub room : {K V : Type 0} → Count → List (Row K V) → Bool
room count rows = nat_lt count.rows (length rows)

-- the place that a new row gets, right behind the held ones
abbrev pub placed : {K V : Type 0} → Count → List (Row K V) → Result ℕ Full
placed count rows = cond (room count rows) (Ok count.rows) (Err (record {}))

-- what the table holds after a new row
abbrev pub added : {K V : Type 0} → Row K V → Count → List (Row K V) → List (Row K V)
added row count rows = cond (room count rows) (held count rows ++ row ∷ []) (held count rows)

-- the count after a new row
abbrev pub grown : {K V : Type 0} → Count → List (Row K V) → Count
grown count rows = cond (room count rows) (record { rows = count.rows + 1 }) count

-- all the lent rows after a new row
abbrev pub written : {K V : Type 0} → Row K V → Count → List (Row K V) → List (Row K V)
written row count rows = cond (room count rows) (slice_set rows count.rows row) rows
