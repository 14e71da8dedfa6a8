use Rattle.std.proofs.Common.{◌≤◌, vec_len}
use Rattle.link.proofs.layout.lay_out.Given as goal

abbrev pub invariant-loop-item : goal.invariant-loop-item
invariant-loop-item l = vec_len l.homes.all ≤ l.item-index
