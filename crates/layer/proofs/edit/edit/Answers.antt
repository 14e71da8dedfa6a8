use Rattle.std.proofs.Common.{map, sym, ap, ◌∙◌}
use Rattle.std.proofs.lemmas.List.{at_drop_all}
use Rattle.std.specs.List.{fold}
use Rattle.layer.specs.Renamed.{renaming}
use Rattle.layer.specs.Changed.{rename_at, edited}
use Rattle.layer.proofs.edit.edit.Goals as goal

pub returns : goal.returns
unfolding edited
returns c =
    let f = rename_at (map renaming c.args.pairs.now) in
    sym (ap (fold f c.args.card.now) (sym c.name_places-at-items.ensures.value) ∙ c.loop-at.invariant ∙ at_drop_all (fold f c.loop-at.card) c.name_places-at-items.result.now c.loop-at.at-index c.loop-at-test.false)
