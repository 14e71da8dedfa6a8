-- A command is what its line says, and a name prints as it was typed.
use Rattle.std.proofs.Common.{◌≡◌, ℕ, suc, ◌+◌, ◌-◌, ◌<◌, ◌≤◌, Bool, true, false, cond, T, eqb, leb, List, [], ◌∷◌, ◌++◌, map, length, get_or, take, drop, set, replicate, IfSome, Some, None, Option, sym, refl, ap, ◌∙◌, subst, arith, eqb-true, leb-true}
use Rattle.std.proofs.lemmas.List.{append_assoc, take-append-drop, length-set, length-map, map-set, take_more_set, drop-set-lt, drop-replicate}
use Rattle.std.specs.Option.{option_map}
use Rattle.card.specs.declared.name.Name.{Name}
use Rattle.card.specs.Names.{blank_name}
use Rattle.card.specs.Shown.{shown}
use Rattle.console.specs.declared.command.Command.{Command}
use Rattle.console.specs.declared.command.Command.TheVariants.{Include, Entry, Calls, Fix, FixOpen, Map}
use Rattle.console.specs.Text.{name_text}
use Rattle.console.specs.Typed.{punch_of, punched_over, name_of, name_after, alone, letter_command, command_of, filled, Names, Says}
use Rattle.console.proofs.Punches.{prints, printing, punch_prints}

abbrev pub Bytes : List ℕ → Type 0
Bytes cs = (i : ℕ) → get_or cs i 0 < 256

abbrev pub Given : {X : Type 0} → Option X → (X → Type 0) → Type 0
Given o P = IfSome o P

given_on : {X : Type 0} (P Q : X → Type 0) (o : Option X) → ((x : X) → P x → Q x) → Given o P → Given o Q
given_on P Q None f p = tt
given_on P Q (Some x) f p = f x p

given_mapped : {X Y : Type 0} (Q : Y → Type 0) (f : X → Y) (o : Option X) → Given o (λ x. Q (f x)) → Given (option_map f o) Q
given_mapped Q f None p = tt
given_mapped Q f (Some x) p = p

-- what a test of two numbers picks
either : {X : Type 0} (P : Option X → Type 0) (t : Bool) (x y : Option X) → (t ≡ true → P x) → P y → P (cond t x y)
either P true x y p q = p refl
either P false x y p q = q

-- characters over a list from a place on
abbrev over : List ℕ → ℕ → List ℕ → List ℕ
over xs at cs = take at xs ++ (cs ++ drop (at + length cs) xs)

over_more : (xs : List ℕ) (at c : ℕ) (cs : List ℕ) → at < length xs → over (set xs at c) (at + 1) cs ≡ over xs at (c ∷ cs)
over_more xs at c cs h =
    let t = take_more_set xs at c h in
    let n : at + 1 + length cs ≡ at + suc (length cs) = omega arith in
    let l : at < at + suc (length cs) = omega arith in
    let d = drop-set-lt (at + suc (length cs)) xs at c l in
    let a = append_assoc (take at xs) (c ∷ []) (cs ++ drop (at + suc (length cs)) xs) in
    cc

-- a name that is given prints as xs
abbrev PrintsAs : Option Name → List ℕ → Type 0
PrintsAs o xs = Given o (λ n. name_text n ≡ xs)

turn :
    (bytes : List ℕ) (at c : ℕ) (cs : List ℕ) (o : Option ℕ) → T (prints o c) → at < length bytes
    → ((b : ℕ) → PrintsAs (punched_over (set bytes at b) (at + 1) cs) (over (map shown (set bytes at b)) (at + 1) cs))
    → PrintsAs (elim o [ None ↦ None | Some b ↦ punched_over (set bytes at b) (at + 1) cs ]) (over (map shown bytes) at (c ∷ cs))
turn bytes at c cs None t h ih = tt
turn bytes at c cs (Some b) t h ih =
    let within : at < length (map shown bytes) = simp length-map h in
    let e : map shown (set bytes at b) ≡ set (map shown bytes) at c =
    map-set shown bytes at b ∙ ap (set (map shown bytes) at) (printing b c t).prints in
    let to = ap (λ (xs : List ℕ). over xs (at + 1) cs) e ∙ over_more (map shown bytes) at c cs within in
    subst (PrintsAs (punched_over (set bytes at b) (at + 1) cs)) to (ih b)

-- characters punched over bytes print over what the bytes print as
punched_prints : (cs bytes : List ℕ) (at : ℕ) → at + length cs ≤ length bytes → Bytes cs → PrintsAs (punched_over bytes at cs) (over (map shown bytes) at cs)
punched_prints [] bytes at h k =
    let n : at ≡ at + 0 = omega arith in
    sym (take-append-drop at (map shown bytes)) ∙ ap (λ (m : ℕ). take at (map shown bytes) ++ drop m (map shown bytes)) n
punched_prints (c ∷ cs) bytes at h k =
    turn bytes at c cs (punch_of c) (punch_prints c (k 0)) (omega arith)
    (λ b. punched_prints cs (set bytes at b) (at + 1) (simp length-set (omega arith)) (λ i. k (suc i)))

name_prints : (cs : List ℕ) → Bytes cs → PrintsAs (name_of cs) (filled cs)
name_prints cs k =
    either (λ o. PrintsAs o (filled cs)) (leb (length cs) 8) (punched_over blank_name.bytes 0 cs) None
    (λ e.
    let fits = leb-true (length cs) 8 e in
    let n : 0 + length cs ≡ length cs = omega arith in
    let blanks : drop (0 + length cs) (replicate 8 32) ≡ replicate (8 - length cs) 32 =
    ap (λ (m : ℕ). drop m (replicate 8 32)) n ∙ drop-replicate (length cs) 8 32 in
    subst (PrintsAs (punched_over blank_name.bytes 0 cs)) (ap (λ (xs : List ℕ). cs ++ xs) blanks)
    (punched_prints cs blank_name.bytes 0 (omega (arith, fits)) k)
    )
    tt

-- the rest of a line is one blank and a name
abbrev Named : List ℕ → Name → Type 0
Named rest name = (cs : List ℕ) × (rest ≡ 32 ∷ cs) × (name_text name ≡ filled cs)

after_prints : (rest : List ℕ) → Bytes rest → Given (name_after rest) (Named rest)
after_prints [] k = tt
after_prints (b ∷ cs) k =
    either (λ o. Given o (Named (b ∷ cs))) (eqb b 32) (name_of cs) None
    (λ e.
    given_on (λ n. name_text n ≡ filled cs) (Named (b ∷ cs)) (name_of cs)
    (λ n p. (cs, ap (λ (x : ℕ). x ∷ cs) (eqb-true b 32 e), p))
    (name_prints cs (λ i. k (suc i)))
    )
    tt

named :
    (letter at : ℕ) (f : Name → Command) (rest : List ℕ) → Bytes rest → letter ≡ at
    → ((n : Name) → Names at (letter ∷ rest) n → Says (letter ∷ rest) (f n))
    → Given (option_map f (name_after rest)) (Says (letter ∷ rest))
named letter at f rest k e says =
    given_mapped (Says (letter ∷ rest)) f (name_after rest)
    (given_on (Named rest) (λ n. Says (letter ∷ rest) (f n)) (name_after rest)
    (λ n p. says n (p.0, ap (λ (x : ℕ). x ∷ rest) e ∙ ap (λ (xs : List ℕ). at ∷ xs) p.1, p.2))
    (after_prints rest k))

lone : (letter at : ℕ) (command : Command) (rest : List ℕ) → letter ≡ at → (letter ∷ [] ≡ at ∷ [] → Says (letter ∷ []) command) → Given (alone command rest) (Says (letter ∷ rest))
lone letter at command [] e says = says (ap (λ (x : ℕ). x ∷ []) e)
lone letter at command (b ∷ bs) e says = tt

letter_says : (letter : ℕ) (rest : List ℕ) → Bytes rest → Given (letter_command letter rest) (Says (letter ∷ rest))
letter_says letter rest k =
    let P : Option Command → Type 0 = λ o. Given o (Says (letter ∷ rest)) in
    let is = eqb-true letter in
    either P (eqb letter 73) _ _ (λ e. named letter 73 Include rest k (is 73 e) (λ n p. p))
    (either P (eqb letter 69) _ _ (λ e. named letter 69 Entry rest k (is 69 e) (λ n p. p))
    (either P (eqb letter 67) _ _ (λ e. lone letter 67 Calls rest (is 67 e) (λ p. p))
    (either P (eqb letter 70) _ _ (λ e. lone letter 70 Fix rest (is 70 e) (λ p. p))
    (either P (eqb letter 76) _ _ (λ e. lone letter 76 FixOpen rest (is 76 e) (λ p. p))
    (either P (eqb letter 77) _ _ (λ e. lone letter 77 Map rest (is 77 e) (λ p. p)) tt)))))

pub line_says : (line : List ℕ) → Bytes line → Given (command_of line) (Says line)
line_says [] k = tt
line_says (letter ∷ rest) k = letter_says letter rest (λ i. k (suc i))
