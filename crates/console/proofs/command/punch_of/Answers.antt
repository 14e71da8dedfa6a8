use Rattle.std.proofs.Common.{rules}
use Rattle.console.proofs.Punches.{punched_is}
use Rattle.console.proofs.command.punch_of.Goals as goal

pub returns : goal.returns
returns c =
    record {
      value = punched_is c.args.character c.punched.result (search rules) c.punched.ensures;
      inverse = c.punched.ensures;
    }
