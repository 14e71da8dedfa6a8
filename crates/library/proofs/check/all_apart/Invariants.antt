use Rattle.std.proofs.Common.{◌≡◌, length}
use Rattle.library.specs.Faults.{all_apart}
use Rattle.library.proofs.check.all_apart.Given as goal

abbrev pub invariant-loop-name : goal.invariant-loop-name
invariant-loop-name l = all_apart l.names ≡ all_apart l.left

abbrev pub decreases-loop-name : goal.decreases-loop-name
decreases-loop-name l = length l.left
