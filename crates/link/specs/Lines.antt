-- The dictionary as a list of lines.
use Rattle.std.specs.Prelude.{ℕ, Bool, true, false, List, vec_items, Some, None, Option}
use Rattle.card.specs.declared.name.Name.{Name}
use Rattle.card.specs.Names.{same_name}
use Rattle.table.specs.declared.Row.{Row}
use Rattle.table.specs.Rows.{held, value_under, first_at}
use Rattle.link.specs.declared.lines.Line.{Line}
use Rattle.link.specs.declared.lines.LineName.{LineName}
use Rattle.link.specs.declared.lines.Dictionary.{Dictionary}

abbrev pub same_if_named : Option Name → Option Name → Bool
same_if_named (Some a) (Some b) = same_name a b
same_if_named (Some a) None = false
same_if_named None (Some b) = false
same_if_named None None = true

-- two line names are one: the same name, or both of no name
abbrev pub same_line_name : LineName → LineName → Bool
same_line_name x y = same_if_named x.name y.name

abbrev pub named : Name → LineName
named name = record { name = Some name }

-- the lines in use
abbrev pub lines : Dictionary → List (Row LineName Line)
lines d = held d.count (vec_items d.rows)

-- the line of a name
abbrev pub line_of : Name → List (Row LineName Line) → Option Line
line_of name rows = value_under same_line_name (named name) rows

-- the place of a name's line, counted from 0
abbrev pub place_of : Name → List (Row LineName Line) → Option ℕ
place_of name rows = first_at same_line_name (named name) rows
