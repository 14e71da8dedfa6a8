-- What a link means: its lines, what it keeps of the decks taken, and how far it has come.
use Rattle.std.specs.Prelude.{ℕ, false, cond, List, [], map, Some, None, Ok, Err, vec_items, Result}
use Rattle.card.specs.declared.name.Name.{Name}
use Rattle.card.specs.Names.{is_blank}
use Rattle.table.specs.declared.Row.{Row}
use Rattle.link.specs.declared.fault.LinkFault.{LinkFault}
use Rattle.link.specs.declared.fault.LinkFault.TheVariants.{BlankEntry}
use Rattle.link.specs.declared.gathering.Link.{Link}
use Rattle.link.specs.declared.gathering.Progress.{Progress}
use Rattle.link.specs.declared.lines.Line.{Line}
use Rattle.link.specs.declared.lines.LineName.{LineName}
use Rattle.link.specs.declared.reserve.Room.{Room}
use Rattle.link.specs.declared.taken.Run.{Run}
use Rattle.link.specs.declared.taken.Relocation.{Relocation}
use Rattle.link.specs.Lines.{lines}
use Rattle.link.specs.Clashes.{Lines}

pub record RoomView : Type 0 where
  pub lines : Lines
  pub decks : ℕ
  pub runs : List Run
  pub relocations : List Relocation

abbrev pub room_view : Room → RoomView
room_view r = record {
  lines = lines r.dictionary;
  decks = r.taken.decks;
  runs = vec_items r.taken.runs.all;
  relocations = vec_items r.taken.relocations.all;
}

-- a room that holds nothing
abbrev pub empty_room : RoomView
empty_room = record { lines = []; decks = 0; runs = []; relocations = [] }

pub record View : Type 0 where
  pub room : RoomView
  pub progress : Progress

abbrev pub view_of : {L : Type 0} → Link L → View
view_of l = record { room = room_view l.room; progress = l.progress }

-- a link that has taken nothing, at an origin
abbrev pub opened : ℕ → View
opened origin = record { room = empty_room; progress = record { next = origin; end = origin; first = None; start = None; chosen = None } }

abbrev pub unmarked : Row LineName Line → Row LineName Line
unmarked r = record { key = r.key; value = record { state = r.value.state; strength = r.value.strength; marked = false } }

-- all of it but the marks that calls leave
abbrev pub except_marks : View → View
except_marks v = record {
  room = record { lines = map unmarked v.room.lines; decks = v.room.decks; runs = v.room.runs; relocations = v.room.relocations };
  progress = v.progress;
}

-- the blank name is no entry
abbrev pub entry_answer : Name → Result (Unit {0}) LinkFault
entry_answer name = cond (is_blank name) (Err BlankEntry) (Ok tt)

abbrev pub with_chosen : Name → Progress → Progress
with_chosen name p = record { next = p.next; end = p.end; first = p.first; start = p.start; chosen = Some name }

-- the entry name is chosen, unless it is blank
abbrev pub chosen : Name → View → View
chosen name v = cond (is_blank name) v (record { room = v.room; progress = with_chosen name v.progress })
