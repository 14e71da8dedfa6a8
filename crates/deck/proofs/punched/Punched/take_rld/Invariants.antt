use Rattle.std.proofs.Common.{◌≡◌, ◌+◌, vec_len}
use Rattle.deck.proofs.punched.Punched.take_rld.Given as goal

abbrev pub invariant-loop-item : goal.invariant-loop-item
invariant-loop-item l =
    (vec_len l.self.items.all ≡ vec_len l.initial.self.items.all)
    × (vec_len l.self.texts.all ≡ vec_len l.initial.self.texts.all)
    × (vec_len l.self.constants.all ≡ vec_len l.initial.self.constants.all + l.item-index)
