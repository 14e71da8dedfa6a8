-- What lies outside its section.
use Rattle.std.specs.Prelude.{ℕ, ◌+◌, Bool, true, false, ◌||◌, List, Some, None, Option, nat_lt}
use Rattle.std.specs.List.{slice_get}
use Rattle.card.specs.Items.{wide}
use Rattle.deck.specs.declared.rules.OnCard.{OnCard}
use Rattle.card.specs.declared.content.Item.{Item}
use Rattle.card.specs.declared.content.Item.TheVariants.{Section, Label, Reference, Common}
use Rattle.card.specs.declared.content.Text.{Text}
use Rattle.card.specs.declared.content.Constant.{Constant}

-- bytes from an address on leave an item: they begin before its start or end past its end; only sections have bytes
abbrev pub leaves_item : Item ℕ → ℕ → ℕ → Bool
leaves_item (Section name start size) address n = nat_lt address start || nat_lt (start + size) (address + n)
leaves_item (Label name start section) address n = true
leaves_item (Reference name strength) address n = true
leaves_item (Common name size) address n = true

abbrev pub leaves_place : Option (OnCard (Item ℕ)) → ℕ → ℕ → Bool
leaves_place None address n = true
leaves_place (Some item) address n = leaves_item item.what address n

-- n bytes from an address on leave the section at a place among the items
abbrev pub leaves : List (OnCard (Item ℕ)) → ℕ → ℕ → ℕ → Bool
leaves items section address n = leaves_place (slice_get items section) address n

-- a label lies before its section's start or past its end
abbrev pub out_item : List (OnCard (Item ℕ)) → Item ℕ → Bool
out_item items (Section name start size) = false
out_item items (Label name address section) = leaves items section address 0
out_item items (Reference name strength) = false
out_item items (Common name size) = false

abbrev pub out_text : List (OnCard (Item ℕ)) → Text ℕ → Bool
out_text items x = leaves items x.section x.address x.count

abbrev pub out_constant : List (OnCard (Item ℕ)) → Constant ℕ → Bool
out_constant items x = leaves items x.section x.address (wide x.width)
