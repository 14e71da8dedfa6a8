-- How much room the cards of a deck take.
use Rattle.std.specs.Prelude.{◌≡◌, ℕ, ◌+◌, ◌*◌, ◌≤◌, vec_len}
use Rattle.deck.specs.declared.punched.Punched.{Punched}

-- room for one card more
pub record Room (p : Punched) : Type 0 where
  pub items : vec_len p.items.all + 3 ≤ 1536
  pub texts : vec_len p.texts.all + 1 ≤ 512
  pub constants : vec_len p.constants.all + 14 ≤ 7168

-- what one card adds at most
pub record Grown (p q : Punched) : Type 0 where
  pub items : vec_len q.items.all ≤ vec_len p.items.all + 3
  pub texts : vec_len q.texts.all ≤ vec_len p.texts.all + 1
  pub constants : vec_len q.constants.all ≤ vec_len p.constants.all + 14

-- no card was taken yet
pub record Clear (p : Punched) : Type 0 where
  pub items : vec_len p.items.all ≡ 0
  pub texts : vec_len p.texts.all ≡ 0
  pub constants : vec_len p.constants.all ≡ 0

-- what i cards add at most
pub record Within (i : ℕ) (p : Punched) : Type 0 where
  pub items : vec_len p.items.all ≤ 3 * i
  pub texts : vec_len p.texts.all ≤ i
  pub constants : vec_len p.constants.all ≤ 14 * i
