use Rattle.std.proofs.Common.{ℕ, Option, List, [], length, sym, subst, rules}
use Rattle.std.proofs.Math.ListN.{get_or, get_or-map}
use Rattle.std.proofs.lemmas.Map.Made.{AllPairs-from_IsDistinct}
use Rattle.grid.specs.declared.shapes.Face.{Face}
use Rattle.grid.specs.Views.{triples_of}
use Rattle.flood.proofs.ConditionLemmas.{AreOpen-starts, AreOpen-goes_on, IsBelow-facet, IsFacetOf, IsFacetOf-from_position}
use Rattle.flood.proofs.FacetLemmas.{same_face}
use Rattle.flood.proofs.conditions.open_facets.Goals as goal

pub shut-requires : goal.shut-requires
shut-requires c =
    let triples = c.args.triples.now.keys in
    let face : Face = get_or c.args.tracked.now c.loop-face.face-index (record { 0 = [] }) in
    let P : Option ℕ → Type 0 = IsFacetOf triples face.0 in
    IsBelow-facet triples face.0 (length c.loop-face.is_open.items) c.get_index_of.result c.loop-face.invariant.one_each
    (subst P (sym c.get_index_of.ensures.index) (IsFacetOf-from_position triples face))

pub loop-face-init : goal.loop-face-init
loop-face-init c = rw (c.in_ok-is_open.ensures.items_if_clones_equal (search rules), c.len.ensures.len) (AreOpen-starts (triples_of c.args.tracked.now) c.args.triples.now.keys)

pub loop-face-preserved : goal.loop-face-preserved
loop-face-preserved c =
    let triples = c.args.triples.now.keys in
    let tracked = triples_of c.args.tracked.now in
    let n = c.loop-face.face-index in
    let face : Face = get_or c.args.tracked.now n (record { 0 = [] }) in
    let P : Option ℕ → Type 0 = IsFacetOf triples face.0 in
    let Q : List ℕ → Type 0 = λ t. IsFacetOf triples t c.get_index_of.result in
    let is = subst Q (sym (get_or-map (λ (f : Face). f.0) c.args.tracked.now n (record { 0 = [] }))) (subst P (sym c.get_index_of.ensures.index) (IsFacetOf-from_position triples face)) in
    rw c.shut.ensures (AreOpen-goes_on tracked n triples c.loop-face.is_open.items c.get_index_of.result (AllPairs-from_IsDistinct same_face triples c.len.ensures.unique) c.loop-face.invariant is)
