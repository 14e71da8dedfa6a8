-- Constants that share bytes.
use Rattle.std.specs.Prelude.{ℕ, ◌+◌, Bool, not, ◌&&◌, ◌==◌, nat_lt}
use Rattle.card.specs.declared.content.Constant.{Constant}
use Rattle.card.specs.Items.{wide}

-- two constants share a byte of one section and differ in place or width
abbrev pub overlap : Constant ℕ → Constant ℕ → Bool
overlap x y =
    (x.section == y.section)
    && (nat_lt x.address (y.address + wide y.width)
    && (nat_lt y.address (x.address + wide x.width)
    && not (x.address == y.address && wide x.width == wide y.width)))
