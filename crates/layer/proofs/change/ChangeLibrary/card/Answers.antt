use Rattle.std.proofs.Common.{rules}
use Rattle.library.specs.Slots.{slot_at}
use Rattle.layer.specs.Renamed.{renamings}
use Rattle.layer.proofs.Editing.{slot_changed, copied_changed}
use Rattle.layer.proofs.change.ChangeLibrary.card.Goals as goal

pub returns-in_err-card : goal.returns-in_err-card
returns-in_err-card g c =
    let pairs = renamings c.args.self.now.pairs in
    let below = g.L.Library.meaning c.args.self.now.below c.args.name in
    let slot = slot_changed pairs below c.args.i in
    record { same = search rules; answer = search rules; filled = search rules }

pub returns : goal.returns
returns g c =
    let pairs = renamings c.args.self.now.pairs in
    let below = g.L.Library.meaning c.args.self.now.below c.args.name in
    let slot = slot_changed pairs below c.args.i in
    let read = copied_changed pairs (slot_at below c.args.i) c.args.into.now c.in_ok-card.ensures.answer in
    record { same = search rules; answer = search rules; filled = search rules }
