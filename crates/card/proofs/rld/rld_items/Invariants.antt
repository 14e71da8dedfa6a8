use Rattle.std.proofs.Common.{◌≡◌, ◌≤◌, [], length, take, drop, None}
use Rattle.card.specs.Items.{rld_items}
use Rattle.card.proofs.rld.rld_items.Given as goal

abbrev pub invariant-loop-word : goal.invariant-loop-word
invariant-loop-word l =
    (rld_items l.words None [] ≡ rld_items (drop l.word-index l.words) l.pointers (take l.count l.places))
    × (l.count ≤ l.word-index)
    × (length l.places ≡ 14)
