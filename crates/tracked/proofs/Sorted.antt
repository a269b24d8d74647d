-- Faces that are sorted and differ are in strictly rising order.
use Rattle.std.proofs.Common.{◌≡◌, ℕ, ◌+◌, ◌<◌, ◌≤◌, false, length, get_or, refl, sym, ◌∙◌, List, [], ◌∷◌, arith}
use Rattle.std.specs.declared.cmp.Ordering.{Ordering}
use Rattle.std.specs.declared.cmp.Ordering.TheVariants.{Less, Equal, Greater}
use Rattle.std.specs.Cmp.{IsTotalOrder}
use Rattle.std.specs.Cmp.Lexicographic.{slice_cmp}
use Rattle.std.specs.List.{IsDistinct, AllByRecursion}
use Rattle.std.specs.List.Sorted.{IsPermutation}
use Rattle.std.specs.Ordering.{nat_cmp, is_lt, is_eq, ordering_reverse}
use Rattle.std.proofs.lemmas.Map.Keys.{IsDistinct-IsPermutation, apart_from_distinct, sorted_from_all_adjacent}
use Rattle.std.proofs.lemmas.Map.Text.{is_eq-slice_cmp}
use Rattle.std.proofs.lemmas.Slice.Eq.{bytes_eq-Decides}
use Rattle.grid.specs.declared.shapes.Face.{Face}
use Rattle.grid.specs.Meshes.{Ordered}
use Rattle.grid.specs.Views.{triples_of}
use Rattle.grid.specs.Simplices.{same_triple}
use Rattle.grid.proofs.ForCallers.{same_bools, slice_cmp-total, Ordered-sorted}
use Rattle.tracked.specs.Keys.{same_face}

abbrev pub face_cmp : Face → Face → Ordering
face_cmp f g = slice_cmp nat_cmp f.0 g.0

abbrev LessOrEqual : List Face → Type 0
LessOrEqual fs = (k : ℕ) (d : Face) → 0 ≤ k → k + 1 < length fs → is_lt (face_cmp (get_or fs (k + 1) d) (get_or fs k d)) ≡ false

pub flip_eq : (x y : List ℕ) → same_triple x y ≡ same_triple y x
flip_eq x y = same_bools (same_triple x y) (same_triple y x) (λ e. (bytes_eq-Decides y x).1 (sym ((bytes_eq-Decides x y).0 e))) (λ e. (bytes_eq-Decides x y).1 (sym ((bytes_eq-Decides y x).0 e)))

-- neither above nor equal
less : (o : Ordering) (r : Ordering) → o ≡ ordering_reverse r → is_lt r ≡ false → is_eq o ≡ false → o ≡ Less
less Less r e f g = refl
less Equal r e f g = cc
less Greater Less e f g = cc
less Greater Equal e f g = cc
less Greater Greater e f g = cc

distinct_faces : (fs : List Face) → IsDistinct same_triple (triples_of fs) → IsDistinct same_face fs
unfolding IsDistinct
distinct_faces [] h = tt
distinct_faces (f ∷ fs) h = (each f fs h.0, distinct_faces fs h.1)
  where
    each : (f : Face) (gs : List Face) → AllByRecursion (λ t. same_triple f.0 t ≡ false) (triples_of gs) → AllByRecursion (λ g. same_face f g ≡ false) gs
    each f [] h = tt
    each f (g ∷ gs) h = (h.0, each f gs h.1)

pub Ordered-of_sorted : (fs gs : List Face) → IsPermutation fs gs → IsDistinct same_triple (triples_of fs) → LessOrEqual gs → Ordered (triples_of gs)
Ordered-of_sorted fs gs moved distinct sorted =
    let apart = IsDistinct-IsPermutation same_face (λ f g. flip_eq f.0 g.0) fs gs moved (distinct_faces fs distinct) in
    let none : Face = record { 0 = [] } in
    let total : IsTotalOrder face_cmp = slice_cmp-total (λ (f : Face). f.0) in
    Ordered-sorted (λ (f : Face). f.0) gs (sorted_from_all_adjacent total gs none (λ k h.
    less (face_cmp (get_or gs k none) (get_or gs (k + 1) none)) (face_cmp (get_or gs (k + 1) none) (get_or gs k none))
    (total.antisymm (get_or gs k none) (get_or gs (k + 1) none)) (sorted k none (omega arith) h)
    (is_eq-slice_cmp (get_or gs k none).0 (get_or gs (k + 1) none).0 ∙ apart_from_distinct same_face gs k (k + 1) none apart (omega arith) h)))
