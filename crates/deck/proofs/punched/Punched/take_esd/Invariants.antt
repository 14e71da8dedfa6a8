use Rattle.std.proofs.Common.{◌≡◌, ◌+◌, ◌≤◌, vec_len}
use Rattle.deck.proofs.punched.Punched.take_esd.Given as goal

abbrev pub invariant-loop-slot : goal.invariant-loop-slot
invariant-loop-slot l =
    (vec_len l.self.items.all ≤ vec_len l.initial.self.items.all + l.slot-index)
    × (vec_len l.self.texts.all ≡ vec_len l.initial.self.texts.all)
    × (vec_len l.self.constants.all ≡ vec_len l.initial.self.constants.all)
