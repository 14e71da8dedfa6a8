use Rattle.std.proofs.Common.{◌≡◌, ℕ, ◌<◌, Bool, T, eqb, List, length, get_or, eqb→eq, rules}
use Rattle.card.specs.Shown.{shown}
use Rattle.card.proofs.Table.{entry, every}
use Rattle.card.proofs.charset.shown.Goals as goal

abbrev right : ℕ → ℕ → Bool
right k x = eqb x (shown k)

rule : (xs : List ℕ) (b : ℕ) → b < length xs → T (every right 0 xs) → get_or xs b 0 ≡ shown b
rule xs b h t = eqb→eq (get_or xs b 0) (shown b) (entry right xs t b h)

pub returns : goal.returns
returns c = let h : c.args.byte < 256 = search rules in search (rules, rule)
