-- The pairs of a table, as they are kept and as they are told.
use Rattle.std.proofs.Common.{◌≡◌, Bool, true, false, cond, List, [], ◌∷◌, map, Some, Option, refl}
use Rattle.std.specs.List.{find}
use Rattle.std.specs.Option.{option_map}
use Rattle.card.specs.declared.name.Name.{Name}
use Rattle.card.specs.Names.{same_name}
use Rattle.layer.specs.declared.pair.Pair.{Pair}
use Rattle.layer.specs.Renamed.{Renaming, renaming, new_name, pair_new}

first : (b : Bool) (p : Pair) (o : Option Pair) (r : Option Renaming) → option_map (λ (q : Pair). q.new) o ≡ option_map (λ (q : Renaming). q.new) r
    → option_map (λ (q : Pair). q.new) (cond b (Some p) o) ≡ option_map (λ (q : Renaming). q.new) (cond b (Some (renaming p)) r)
first true p o r h = refl
first false p o r h = h

pub pair_new_is : (name : Name) (ps : List Pair) → pair_new name ps ≡ new_name name (map renaming ps)
pair_new_is name [] = refl
pair_new_is name (p ∷ ps) = first (same_name p.old name) p (find (λ q. same_name q.old name) ps) (find (λ q. same_name q.old name) (map renaming ps)) (pair_new_is name ps)
