use Rattle.std.proofs.Common.{vec_items, ap}
use Rattle.link.specs.Views.{unmarked}
use Rattle.link.proofs.Marks.{marked_same}
use Rattle.link.proofs.lines.Dictionary.mark.Goals as goal

pub returns-then-place-len : goal.returns-then-place-len
returns-then-place-len c =
    marked_same (vec_items c.args.self.now.rows) c.args.place c.args.self.now.count.rows c.index_mut.result.now _
    (ap unmarked c.index_mut.ensures.value)
