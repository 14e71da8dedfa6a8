use Rattle.std.proofs.Common.{◌≡◌, length}
use Rattle.library.specs.Faults.{good_sizes}
use Rattle.library.proofs.check.good_sizes.Given as goal

abbrev pub invariant-loop-card : goal.invariant-loop-card
invariant-loop-card l = good_sizes l.cards ≡ good_sizes l.left

abbrev pub decreases-loop-card : goal.decreases-loop-card
decreases-loop-card l = length l.left
