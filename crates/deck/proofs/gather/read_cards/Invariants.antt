use Rattle.std.proofs.Common.{◌≡◌, ◌-◌}
use Rattle.deck.specs.Gathered.{Within}
use Rattle.deck.proofs.gather.read_cards.Given as goal

abbrev pub invariant-loop-card : goal.invariant-loop-card
invariant-loop-card g l =
    (g.L.Library.meaning l.library ≡ g.L.Library.meaning l.initial.library)
    × Within (l.card - 1) l.punched
