-- The pairs of a change layer: an old name, and the name that it becomes.
use Rattle.std.specs.Prelude.{◌≡◌, Bool, true, false, cond, ◌||◌, List, [], ◌∷◌, map, length, is_some, Some, Option}
use Rattle.std.specs.List.{find}
use Rattle.std.specs.Option.{option_map, unwrap_or}
use Rattle.card.specs.declared.name.Name.{Name}
use Rattle.card.specs.Names.{same_name, is_blank}
use Rattle.library.specs.declared.fault.LibraryFault.{LibraryFault}
use Rattle.arrayvec.specs.ArrayVec.{ArrayVec}
use Rattle.layer.specs.declared.pair.Pair.{Pair}
use Rattle.layer.specs.Additions.{fault_of}

-- an old name and its new name
pub record Renaming : Type 0 where
  pub old : Name
  pub new : Name

abbrev pub renaming : Pair → Renaming
renaming p = record { old = p.old; new = p.new }

-- the pairs of a table
abbrev pub renamings : ArrayVec Pair → List Renaming
renamings t = map renaming t.items

-- the new name of the pair with that old name
abbrev pub new_name : Name → List Renaming → Option Name
new_name name ps = option_map (λ p. p.new) (find (λ p. same_name p.old name) ps)

-- the same of the pairs as they are kept
abbrev pub pair_new : Name → List Pair → Option Name
pair_new name ps = option_map (λ p. p.new) (find (λ p. same_name p.old name) ps)

-- a pair with a blank name, or whose old name is there already
abbrev pub bad_pair : List Renaming → Renaming → Bool
bad_pair pairs p = is_blank p.old || (is_blank p.new || is_some (new_name p.old pairs))

-- the rule that one more pair breaks, in a table of 16 places
abbrev pub change_fault : List Renaming → Renaming → Option LibraryFault
change_fault pairs p = fault_of 16 pairs (bad_pair pairs p)

-- what a name becomes: the new name where it is some pair's old one, else it stays; a new name is not looked up again
abbrev pub renamed : List Renaming → Name → Name
renamed pairs name = unwrap_or (new_name name pairs) name

-- every new name has eight bytes
abbrev pub AllEight : List Renaming → Type 0
AllEight [] = Unit {0}
AllEight (p ∷ ps) = (length p.new.bytes ≡ 8) × AllEight ps

pairs_eight : (ps : List Pair) → AllEight (map renaming ps)
pairs_eight [] = tt
pairs_eight (p ∷ ps) = (p.sized, pairs_eight ps)

pub renamings_eight : (t : ArrayVec Pair) → AllEight (renamings t)
renamings_eight t = pairs_eight t.items

eight_by : (b : Bool) (x : Renaming) (o : Option Renaming) (name : Name) → length x.new.bytes ≡ 8 → length (unwrap_or (option_map (λ p. p.new) o) name).bytes ≡ 8
    → length (unwrap_or (option_map (λ p. p.new) (cond b (Some x) o)) name).bytes ≡ 8
eight_by true x o name h k = h
eight_by false x o name h k = k

pub renamed_eight : (pairs : List Renaming) (name : Name) → AllEight pairs → length name.bytes ≡ 8 → length (renamed pairs name).bytes ≡ 8
renamed_eight [] name a h = h
renamed_eight (p ∷ ps) name a h = eight_by (same_name p.old name) p (find (λ q. same_name q.old name) ps) name a.0 (renamed_eight ps name a.1 h)
