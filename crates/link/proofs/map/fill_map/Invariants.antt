use Rattle.std.proofs.Common.{◌≤◌, vec_len}
use Rattle.link.proofs.map.fill_map.Given as goal

abbrev pub invariant-loop-row : goal.invariant-loop-row
invariant-loop-row l = vec_len l.map.all ≤ l.row-index
