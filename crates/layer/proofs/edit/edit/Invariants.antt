use Rattle.std.proofs.Common.{◌≡◌, map, drop}
use Rattle.std.specs.List.{fold}
use Rattle.layer.specs.Renamed.{renaming}
use Rattle.layer.specs.Changed.{rename_at}
use Rattle.layer.proofs.edit.edit.Given as goal

abbrev pub invariant-loop-at : goal.invariant-loop-at
invariant-loop-at l = fold (rename_at (map renaming l.pairs)) l.initial.card l.at-items ≡ fold (rename_at (map renaming l.pairs)) l.card (drop l.at-index l.at-items)
