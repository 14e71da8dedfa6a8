use Rattle.std.proofs.Common.{◌≡◌, ◌++◌, drop}
use Rattle.library.specs.Decks.{header_names}
use Rattle.library.proofs.check.header_names.Given as goal

abbrev pub invariant-loop-card : goal.invariant-loop-card
invariant-loop-card l = header_names l.cards ≡ l.names.items ++ header_names (drop l.card-index l.cards)
