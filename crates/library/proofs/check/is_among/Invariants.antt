use Rattle.std.proofs.Common.{◌≡◌, drop}
use Rattle.library.specs.Faults.{among}
use Rattle.library.proofs.check.is_among.Given as goal

abbrev pub invariant-loop-other : goal.invariant-loop-other
invariant-loop-other l = among l.name l.names ≡ among l.name (drop l.other-index l.names)
