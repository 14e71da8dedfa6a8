-- Cards and slots with their names changed, step by step.
use Rattle.std.proofs.Common.{◌≡◌, ℕ, zero, suc, List, [], ◌∷◌, map, Some, None, Ok, Option, refl, ap, arith}
use lib.ListN.{length-map}
use Rattle.std.specs.Option.{option_map}
use Rattle.library.specs.Answers.{answered, filled}
use Rattle.library.specs.Slots.{Slot, Card, Flaw, at, from1, slot_at, counted}
use Rattle.layer.specs.Renamed.{Renaming}
use Rattle.layer.specs.Changed.{edited, changed_slot, changed}

module _ (pairs : List Renaming) where
  pub counted_changed : (o : Option (List Slot)) → counted (changed pairs o) ≡ counted o
  counted_changed None = refl
  counted_changed (Some slots) = ap Some (length-map slots (changed_slot pairs))

  at-changed : (ss : List Slot) (j : ℕ) → at (map (changed_slot pairs) ss) j ≡ option_map (changed_slot pairs) (at ss j)
  at-changed [] j = refl
  at-changed (s ∷ ss) zero = refl
  at-changed (s ∷ ss) (suc j) = at-changed ss j

  from1-changed : (ss : List Slot) (i : ℕ) → from1 (map (changed_slot pairs) ss) i ≡ option_map (changed_slot pairs) (from1 ss i)
  from1-changed ss zero = refl
  from1-changed ss (suc j) = at-changed ss j

  pub slot_changed : (o : Option (List Slot)) (i : ℕ) → slot_at (changed pairs o) i ≡ option_map (changed_slot pairs) (slot_at o i)
  slot_changed None i = refl
  slot_changed (Some slots) i = from1-changed slots i

  pub copied_changed : (o : Option Slot) (old : List ℕ) → Ok tt ≡ answered o → edited pairs (filled o old) ≡ filled (option_map (changed_slot pairs) o) old
  copied_changed None old h = let z : ◌≡◌ {A = ℕ} 0 1 = cc in absurd (omega arith)
  copied_changed (Some (Card b)) old h = refl
  copied_changed (Some (Flaw m)) old h = let z : ◌≡◌ {A = ℕ} 0 1 = cc in absurd (omega arith)
