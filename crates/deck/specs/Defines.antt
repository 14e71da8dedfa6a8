-- The names that a deck defines.
use Rattle.std.specs.Prelude.{ℕ, Bool, false, Some, None, Option}
use Rattle.card.specs.declared.name.Name.{Name}
use Rattle.card.specs.declared.content.Item.{Item}
use Rattle.card.specs.Items.{defines}
use Rattle.card.specs.Names.{same_name}

abbrev pub both_same : Option Name → Option Name → Bool
both_same None b = false
both_same (Some a) None = false
both_same (Some a) (Some b) = same_name a b

-- two items define one name
abbrev pub defines_same : Item ℕ → Item ℕ → Bool
defines_same x y = both_same (defines x) (defines y)
