-- The slots of a deck by their places, for every loop that reads a deck.
use Rattle.std.proofs.Common.{◌≡◌, ℕ, zero, suc, ◌+◌, ◌-◌, ◌<◌, ◌≤◌, List, [], ◌∷◌, length, get_or, drop, Some, None, Ok, Err, Option, sym, refl, ap, ◌∙◌, arith}
use Rattle.std.proofs.lemmas.List.{at_drop_more}
use Rattle.library.specs.declared.shelf.NoCard.TheVariants.{Flawed, Nothing}
use Rattle.library.specs.Answers.{answered, filled}
use Rattle.library.specs.Slots.{Slot, Card, Flaw, at, from1, slot_at, slots_of, counted}

pub at_within : (ss : List Slot) (j : ℕ) (d : Slot) → j < length ss → at ss j ≡ Some (get_or ss j d)
at_within [] j d h = absurd (omega arith)
at_within (s ∷ ss) zero d h = refl
at_within (s ∷ ss) (suc j) d h = at_within ss j d (omega arith)

pub at_past : (ss : List Slot) (j : ℕ) → length ss ≤ j → at ss j ≡ None
at_past [] j h = refl
at_past (s ∷ ss) zero h = absurd (omega arith)
at_past (s ∷ ss) (suc j) h = at_past ss j (omega arith)

pub from1-at : (ss : List Slot) (i : ℕ) → 0 < i → from1 ss i ≡ at ss (i - 1)
from1-at ss zero h = absurd (omega arith)
from1-at ss (suc n) h = let e : n ≡ suc n - 1 = omega arith in ap (at ss) e

pub from1_past : (ss : List Slot) (i : ℕ) → length ss < i → from1 ss i ≡ None
from1_past ss zero h = absurd (omega arith)
from1_past ss (suc n) h = at_past ss n (omega arith)

-- a library that counts n cards holds a deck of n slots
pub counted_is : (o : Option (List Slot)) (n : ℕ) → Some n ≡ counted o → (o ≡ Some (slots_of o)) × (length (slots_of o) ≡ n)
counted_is None n h = let z : ◌≡◌ {A = ℕ} 0 1 = cc in absurd (omega arith)
counted_is (Some slots) n h = (refl, cc)

-- the slot at place i + 1
pub slot_at_lem : (o : Option (List Slot)) (i : ℕ) (d : Slot) → i < length (slots_of o) → slot_at o (i + 1) ≡ Some (get_or (slots_of o) i d)
slot_at_lem None i d h = absurd (omega arith)
slot_at_lem (Some slots) i d h = let e : i + 1 ≡ suc i = omega arith in ap (from1 slots) e ∙ at_within slots i d h

-- what an answer says of the slot
pub copied_is : (s : Slot) (old : List ℕ) → Ok tt ≡ answered (Some s) → s ≡ Card (filled (Some s) old)
copied_is (Card b) old h = refl
copied_is (Flaw m) old h = let z : ◌≡◌ {A = ℕ} 0 1 = cc in absurd (omega arith)

pub flawed_is : (s : Slot) (mark : ℕ) → Err (Flawed mark) ≡ answered (Some s) → s ≡ Flaw mark
flawed_is (Card b) mark h = let z : ◌≡◌ {A = ℕ} 0 1 = cc in absurd (omega arith)
flawed_is (Flaw m) mark h = cc

pub nothing_never : (s : Slot) → Err Nothing ≡ answered (Some s) → ⊥
nothing_never (Card b) h = let z : ◌≡◌ {A = ℕ} 0 1 = cc in omega arith
nothing_never (Flaw m) h = let z : ◌≡◌ {A = ℕ} 0 1 = cc in omega arith

-- One card more of a deck, for any F of the slots that are left: o is what the library held under the name at first, p what it holds now.
module _ {Y : Type 0} (F : List Slot → Y) (o p : Option (List Slot)) (same : p ≡ o) (i : ℕ) (within : i < length (slots_of o)) where
  next : slot_at p (i + 1) ≡ Some (get_or (slots_of o) i (Flaw 0))
  next = ap (λ x. slot_at x (i + 1)) same ∙ slot_at_lem o i (Flaw 0) within

  pub at_read : (old new : List ℕ) → Ok tt ≡ answered (slot_at p (i + 1)) → new ≡ filled (slot_at p (i + 1)) old → F (drop i (slots_of o)) ≡ F (Card new ∷ drop (i + 1) (slots_of o))
  at_read old new a f =
      let s = get_or (slots_of o) i (Flaw 0) in
      let is : s ≡ Card new = copied_is s old (a ∙ ap answered next) ∙ ap Card (sym (f ∙ ap (λ x. filled x old) next)) in
      at_drop_more F (slots_of o) i (Flaw 0) within ∙ ap (λ x. F (x ∷ drop (i + 1) (slots_of o))) is

  pub at_flaw : (mark : ℕ) → Err (Flawed mark) ≡ answered (slot_at p (i + 1)) → F (drop i (slots_of o)) ≡ F (Flaw mark ∷ drop (i + 1) (slots_of o))
  at_flaw mark a =
      at_drop_more F (slots_of o) i (Flaw 0) within ∙ ap (λ x. F (x ∷ drop (i + 1) (slots_of o))) (flawed_is _ mark (a ∙ ap answered next))

  pub at_nothing : Err Nothing ≡ answered (slot_at p (i + 1)) → ⊥
  at_nothing a = nothing_never _ (a ∙ ap answered next)
