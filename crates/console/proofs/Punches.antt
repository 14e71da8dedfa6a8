-- The table of punches is the inverse of how bytes print: two tests, each computed at 256 numbers.
use Rattle.std.proofs.Common.{◌≡◌, ℕ, ◌<◌, Bool, true, false, not, ◌&&◌, ◌||◌, T, eqb, ltb, replicate, Some, None, Option, sym, refl, ap, subst, eqb→eq, ltb→lt, rules, MatchOption}
use Rattle.card.specs.Shown.{shown, Unprintable, Prints}
use Rattle.card.proofs.Table.{left, right, entry}
use Rattle.console.specs.Typed.{punch_of}

abbrev is : Option ℕ → ℕ → Bool
is None b = false
is (Some x) b = eqb x b

-- a byte that does not print as a full stop is the punch of what it prints as
abbrev there : ℕ → ℕ → Bool
there b x = eqb (shown b) 46 || is (punch_of (shown b)) b

-- a byte below 256 that prints as c, which is no full stop
abbrev pub prints : Option ℕ → ℕ → Bool
prints None c = true
prints (Some b) c = ltb b 256 && (eqb (shown b) c && not (eqb c 46))

abbrev back : ℕ → ℕ → Bool
back c x = prints (punch_of c) c

second : (a b : Bool) → (T a → ⊥) → T (a || b) → T b
second true b h t = absurd (h tt)
second false b h t = t

is_some : (o : Option ℕ) (b : ℕ) → T (is o b) → Some b ≡ o
is_some None b t = absurd t
is_some (Some x) b t = ap Some (sym (eqb→eq x b t))

differs : (m n : ℕ) → T (not (eqb m n)) → m ≡ n → ⊥
differs m n t e = search rules

pub printing : (b c : ℕ) → T (prints (Some b) c) → Prints b c
printing b c t =
    let u = right (ltb b 256) (eqb (shown b) c && not (eqb c 46)) t in
    record {
      is_byte = ltb→lt b 256 (left (ltb b 256) (eqb (shown b) c && not (eqb c 46)) t);
      prints = eqb→eq (shown b) c (left (eqb (shown b) c) (not (eqb c 46)) u);
      no_stop = differs c 46 (right (eqb (shown b) c) (not (eqb c 46)) u);
    }

is_none : (o : Option ℕ) (c : ℕ) → T (prints o c) → Unprintable c → None ≡ o
is_none None c t h = refl
is_none (Some b) c t h = absurd (h b (printing b c t))

pub punch_prints : (c : ℕ) → c < 256 → T (prints (punch_of c) c)
punch_prints c h = entry back (replicate 256 0) tt c h

pub punched_is : (c : ℕ) (r : Option ℕ) → c < 256 → MatchOption r (Unprintable c) (λ b. Prints b c) → r ≡ punch_of c
punched_is c None h p = is_none (punch_of c) c (punch_prints c h) p
punched_is c (Some b) h p =
    is_some (punch_of c) b
    (second (eqb c 46) (is (punch_of c) b) (λ t. p.no_stop (eqb→eq c 46 t))
    (subst (λ (x : ℕ). T (eqb x 46 || is (punch_of x) b)) p.prints (entry there (replicate 256 0) tt b p.is_byte)))
