-- A list of known length, cell by cell.
use Rattle.std.proofs.Common.{◌≡◌, ℕ, zero, suc, ◌+◌, List, [], ◌∷◌, length, get_or, drop, ap, ◌∙◌, arith, drop-cons}
use Rattle.std.proofs.lemmas.List.{drop_all}

-- the n numbers from place i on
abbrev pub cells : List ℕ → ℕ → ℕ → List ℕ
cells xs i zero = []
cells xs i (suc n) = get_or xs i 0 ∷ cells xs (suc i) n

pub cells_are : (xs : List ℕ) (i n : ℕ) → length xs ≡ i + n → drop i xs ≡ cells xs i n
cells_are xs i zero h = drop_all i xs (omega arith)
cells_are xs i (suc n) h = drop-cons xs i 0 (omega arith) ∙ ap (λ (ys : List ℕ). get_or xs i 0 ∷ ys) (cells_are xs (suc i) n (omega arith))
