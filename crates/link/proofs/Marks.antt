-- A mark changes nothing but the mark.
use Rattle.std.proofs.Common.{◌≡◌, ℕ, zero, suc, List, [], ◌∷◌, map, get_or, take, set, refl, ap}
use Rattle.table.specs.declared.Row.{Row}
use Rattle.link.specs.declared.lines.Line.{Line}
use Rattle.link.specs.declared.lines.LineName.{LineName}
use Rattle.link.specs.Views.{unmarked}

pub marked_same : (rows : List (Row LineName Line)) (i n : ℕ) (x y : Row LineName Line) → unmarked y ≡ unmarked (get_or rows i x) →
    map unmarked (take n (set rows i y)) ≡ map unmarked (take n rows)
marked_same [] i n x y e = refl
marked_same (r ∷ rows) i zero x y e = refl
marked_same (r ∷ rows) zero (suc n) x y e = ap (λ z. z ∷ map unmarked (take n rows)) e
marked_same (r ∷ rows) (suc i) (suc n) x y e = ap (λ zs. unmarked r ∷ zs) (marked_same rows i n x y e)
