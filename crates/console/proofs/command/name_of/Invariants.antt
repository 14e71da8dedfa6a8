use Rattle.std.proofs.Common.{◌≡◌, drop}
use Rattle.card.specs.Names.{blank_name}
use Rattle.console.specs.Typed.{punched_over}
use Rattle.console.proofs.command.name_of.Given as goal

abbrev pub invariant-loop-i : goal.invariant-loop-i
invariant-loop-i l = punched_over blank_name.bytes 0 l.characters ≡ punched_over l.bytes l.i (drop l.i l.characters)
