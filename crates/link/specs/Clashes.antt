-- What a deck must not define, given the dictionary's lines.
use Rattle.std.specs.Prelude.{ℕ, Bool, true, false, not, ◌&&◌, List, Some, None, Option, nat_lt}
use Rattle.std.specs.List.{slice_get}
use Rattle.card.specs.declared.name.Name.{Name}
use Rattle.table.specs.declared.Row.{Row}
use Rattle.card.specs.declared.content.Item.{Item}
use Rattle.card.specs.declared.content.Item.TheVariants as item
use Rattle.deck.specs.declared.rules.OnCard.{OnCard}
use Rattle.link.specs.declared.lines.Line.{Line}
use Rattle.link.specs.declared.lines.LineName.{LineName}
use Rattle.link.specs.declared.lines.LineState.{LineState}
use Rattle.link.specs.declared.lines.LineState.TheVariants.{Section, Label, Common, Open}
use Rattle.link.specs.Lines.{line_of}

abbrev pub Lines : Type 0
Lines = List (Row LineName Line)

abbrev pub state_in : Option Line → Option LineState
state_in None = None
state_in (Some l) = Some l.state

-- what is known of a name
abbrev pub state_of : Name → Lines → Option LineState
state_of name rows = state_in (line_of name rows)

abbrev pub is_section : Option LineState → Bool
is_section None = false
is_section (Some (Section address size)) = true
is_section (Some (Label address)) = false
is_section (Some (Common size)) = false
is_section (Some Open) = false

abbrev pub is_label : Option LineState → Bool
is_label None = false
is_label (Some (Section address size)) = false
is_label (Some (Label address)) = true
is_label (Some (Common size)) = false
is_label (Some Open) = false

-- a name is defined as a section, a label or a common
abbrev pub is_defined : Option LineState → Bool
is_defined None = false
is_defined (Some (Section address size)) = true
is_defined (Some (Label address)) = true
is_defined (Some (Common size)) = true
is_defined (Some Open) = false

-- a section is kept unless its name is a section already; a private one always is
abbrev pub kept : Lines → Option Name → Bool
kept rows None = true
kept rows (Some name) = not (is_section (state_of name rows))

abbrev pub kept_kind : Lines → Item ℕ → Bool
kept_kind rows (item.Section name address size) = kept rows name
kept_kind rows (item.Label name address section) = false
kept_kind rows (item.Reference name strength) = false
kept_kind rows (item.Common name size) = false

abbrev pub kept_item : Lines → Option (OnCard (Item ℕ)) → Bool
kept_item rows None = false
kept_item rows (Some x) = kept_kind rows x.what

-- the item at a place is a section that is kept
abbrev pub kept_at : Lines → List (OnCard (Item ℕ)) → ℕ → Bool
kept_at rows items place = kept_item rows (slice_get items place)

abbrev pub named_label : Lines → Option Name → Bool
named_label rows None = false
named_label rows (Some name) = is_label (state_of name rows)

-- the label of a kept section is defined already, or a section or common is a label already
abbrev pub label_clash : Lines → List (OnCard (Item ℕ)) → Item ℕ → Bool
label_clash rows items (item.Section name address size) = named_label rows name
label_clash rows items (item.Label name address section) = kept_at rows items section && is_defined (state_of name rows)
label_clash rows items (item.Reference name strength) = false
label_clash rows items (item.Common name size) = is_label (state_of name rows)

-- a length passes that of a section
abbrev pub passes_section : ℕ → Option LineState → Bool
passes_section n None = false
passes_section n (Some (Section address size)) = nat_lt size n
passes_section n (Some (Label address)) = false
passes_section n (Some (Common size)) = false
passes_section n (Some Open) = false

-- a length stays below that of a common
abbrev pub below_common : ℕ → Option LineState → Bool
below_common n None = false
below_common n (Some (Section address size)) = false
below_common n (Some (Label address)) = false
below_common n (Some (Common size)) = nat_lt n size
below_common n (Some Open) = false

abbrev pub named_below : Lines → ℕ → Option Name → Bool
named_below rows n None = false
named_below rows n (Some name) = below_common n (state_of name rows)

-- a common is longer than the section of its name, or a section is shorter than the common whose line it takes over
abbrev pub common_too_long : Lines → Item ℕ → Bool
common_too_long rows (item.Section name address size) = named_below rows size name
common_too_long rows (item.Label name address section) = false
common_too_long rows (item.Reference name strength) = false
common_too_long rows (item.Common name size) = passes_section size (state_of name rows)
