-- How bytes print.
use Rattle.std.specs.Prelude.{◌≡◌, ℕ, ◌+◌, ◌-◌, ◌<◌, Bool, cond, ◌&&◌, ◌==◌, nat_le}

abbrev pub within : ℕ → ℕ → ℕ → Bool
within low b high = nat_le low b && nat_le b high

-- the ASCII character that an EBCDIC byte prints as: letters and digits by their runs, four signs, a full stop for all else
abbrev pub shown : ℕ → ℕ
shown b =
    cond (within 0xC1 b 0xC9) (65 + (b - 0xC1))
    (cond (within 0xD1 b 0xD9) (74 + (b - 0xD1))
    (cond (within 0xE2 b 0xE9) (83 + (b - 0xE2))
    (cond (within 0xF0 b 0xF9) (48 + (b - 0xF0))
    (cond (b == 0x7C) 64
    (cond (b == 0x7B) 35
    (cond (b == 0x5B) 36
    (cond (b == 0x40) 32
    46)))))))

-- a byte that prints as a character other than the full stop
pub record Prints (b character : ℕ) : Type 0 where
  pub is_byte : b < 256
  pub prints : shown b ≡ character
  pub no_stop : character ≡ 46 → ⊥

-- a character that no byte prints as, or the full stop
abbrev pub Unprintable : ℕ → Type 0
Unprintable character = (b : ℕ) → Prints b character → ⊥
