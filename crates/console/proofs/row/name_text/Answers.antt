use Rattle.std.proofs.Common.{◌≡◌, map, length, ap, rules}
use Rattle.card.specs.Shown.{shown}
use Rattle.console.proofs.Cells.{cells_are}
use Rattle.console.proofs.row.name_text.Goals as goal

pub returns : goal.returns
returns c =
    let n : length c.args.name.bytes ≡ 8 = search rules in
    let e = ap (map shown) (cells_are c.args.name.bytes 0 8 n) in
    cc
