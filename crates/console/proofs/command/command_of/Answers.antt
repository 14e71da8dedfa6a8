use Rattle.std.proofs.Common.{◌≡◌, Option, sym, subst, rules}
use Rattle.console.specs.declared.command.Command.{Command}
use Rattle.console.specs.Typed.{command_of, Says}
use Rattle.console.proofs.Spelled.{Bytes, Given, line_says}
use Rattle.console.proofs.Typing.{by_letter}
use Rattle.console.proofs.command.command_of.Goals as goal

pub returns : goal.returns
returns c =
    let line = c.args.line.now in
    let e : c.letter_command.result ≡ command_of line = search (rules, by_letter) in
    let bytes : Bytes line = λ i. let f = c.type_inv.line i in search rules in
    record { value = e; says = subst (λ (o : Option Command). Given o (Says line)) (sym e) (line_says line bytes) }
