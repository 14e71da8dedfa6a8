use Rattle.std.proofs.Common.{◌≤◌, vec_len}
use Rattle.deck.proofs.resolve.take_over.Given as goal

abbrev pub invariant-loop-x : goal.invariant-loop-x
invariant-loop-x g l = vec_len l.into.all ≤ l.x-index
