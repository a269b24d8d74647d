-- No face that is in stands twice, where no key does.
use Rattle.std.proofs.Common.{◌≡◌, true, false, [], ◌∷◌}
use Rattle.std.specs.List.{IsDistinct, AllByRecursion}
use Rattle.std.specs.Map.{keys_of}
use Rattle.grid.specs.declared.shapes.Face.{Face}
use Rattle.grid.specs.Views.{triples_of}
use Rattle.grid.specs.Simplices.{same_triple}
use Rattle.tracked.specs.Keys.{Keys, same_face, faces_in}

pub in-apart : (g : Face) (keys : Keys) → AllByRecursion (λ f. same_face g f ≡ false) (keys_of keys) → AllByRecursion (λ t. same_triple g.0 t ≡ false) (triples_of (faces_in keys))
in-apart g [] h = tt
in-apart g ((f, true) ∷ ks) h = (h.0, in-apart g ks h.1)
in-apart g ((f, false) ∷ ks) h = in-apart g ks h.1

pub in-distinct : (keys : Keys) → IsDistinct same_face (keys_of keys) → IsDistinct same_triple (triples_of (faces_in keys))
unfolding IsDistinct
in-distinct [] h = tt
in-distinct ((f, true) ∷ ks) h = (in-apart f ks h.0, in-distinct ks h.1)
in-distinct ((f, false) ∷ ks) h = in-distinct ks h.1
