use Rattle.std.proofs.Common.{◌≤◌, vec_len}
use Rattle.deck.proofs.apart.sort_in.Given as goal

abbrev pub invariant-loop-x : goal.invariant-loop-x
invariant-loop-x g l = vec_len l.keys.all ≤ l.x-index
