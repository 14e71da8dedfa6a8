use Rattle.std.proofs.Common.{◌≡◌, [], take, drop, None}
use Rattle.deck.specs.Rules.{latest}
use Rattle.deck.proofs.rules.latest.Given as goal

abbrev pub invariant-loop-i : goal.invariant-loop-i
invariant-loop-i g l = latest g.X.Apart.clashes None [] l.xs ≡ latest g.X.Apart.clashes l.found (take l.i l.xs) (drop l.i l.xs)
