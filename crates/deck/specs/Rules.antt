-- The smallest card of those that break a rule.
use Rattle.std.specs.Prelude.{ℕ, Bool, cond, List, [], ◌∷◌, ◌++◌, map, filter, Some, None, Ok, Err, Option, Result, nat_lt}
use Rattle.std.specs.List.{fold, list_any}
use Rattle.card.specs.declared.refusal.CardAt.{CardAt}
use Rattle.deck.specs.declared.rules.OnCard.{OnCard}

-- the smaller of a card found before, if any, and another
abbrev pub lower : Option ℕ → ℕ → Option ℕ
lower None card = Some card
lower (Some other) card = cond (nat_lt card other) (Some card) (Some other)

-- the cards of the elements that break a rule
abbrev pub broken_on : {X : Type 0} → (X → Bool) → List (OnCard X) → List ℕ
broken_on breaks xs = map (λ x. x.card) (filter (λ x. breaks x.what) xs)

-- the smallest card of the elements that break a rule, and of what was found before
abbrev pub worst : {X : Type 0} → (X → Bool) → Option ℕ → List (OnCard X) → Option ℕ
worst breaks found xs = fold lower found (broken_on breaks xs)

-- an element clashes with one of a list
abbrev pub meets : {X : Type 0} → (X → X → Bool) → List (OnCard X) → X → Bool
meets clashes ys x = list_any (λ y. clashes y.what x) ys

-- the smallest card of the elements that clash with an earlier one, and of what was found before
abbrev pub latest : {X : Type 0} → (X → X → Bool) → Option ℕ → List (OnCard X) → List (OnCard X) → Option ℕ
latest clashes found before [] = found
latest clashes found before (x ∷ xs) = latest clashes (cond (meets clashes before x.what) (lower found x.card) found) (before ++ x ∷ []) xs

-- the card at fault of a deck, if there is one
abbrev pub unbroken : ℕ → Option ℕ → Result (Unit {0}) CardAt
unbroken deck None = Ok tt
unbroken deck (Some card) = Err (record { deck = deck; card = card })
