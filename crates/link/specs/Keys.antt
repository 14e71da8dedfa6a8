-- The test of line names decides whether they are one.
use Rattle.std.specs.Prelude.{◌≡◌, List, ℕ, Some, None, Option, Decides, refl}
use Rattle.std.proofs.Common.{ap}
use Rattle.std.proofs.lemmas.Slice.Eq.{bytes_eq-Decides}
use Rattle.card.specs.declared.name.Name.{Name}
use Rattle.link.specs.declared.lines.LineName.{LineName}
use Rattle.link.specs.Lines.{same_if_named, same_line_name}

of_bytes : List ℕ → LineName
of_bytes bytes = record { name = Some (record { bytes = bytes }) }

by_name : (a b : Option Name) → Decides (same_if_named a b) (◌≡◌ {A = LineName} (record { name = a }) (record { name = b }))
unfolding of_bytes
by_name (Some a) (Some b) =
    let d = bytes_eq-Decides a.bytes b.bytes in
    ((λ t. ap of_bytes (d.0 t)), λ e. let n = ap (λ x. x.name) e in d.1 (cc))
by_name (Some a) None = ((λ t. cc), λ e. let n = ap (λ x. x.name) e in cc)
by_name None (Some b) = ((λ t. cc), λ e. let n = ap (λ x. x.name) e in cc)
by_name None None = ((λ t. refl), λ e. refl)

pub decides : (x y : LineName) → Decides (same_line_name x y) (x ≡ y)
decides x y = by_name x.name y.name
