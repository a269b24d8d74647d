use Rattle.std.proofs.Common.{List, [], ap, sym, subst, ◌∙◌, arith}
use Rattle.std.proofs.lemmas.Map.Made.{AllPairs-from_IsDistinct}
use Rattle.std.proofs.lemmas.Option.{get_or_from_slice_get}
use Rattle.std.proofs.lemmas.Slice.Eq.{bytes_eq-Decides}
use Rattle.std.specs.List.{list_any}
use Rattle.grid.specs.Simplices.{rising, same_triple}
use Rattle.grid.specs.declared.shapes.Face.{Face}
use Rattle.grid.specs.Views.{corners_of}
use Rattle.flood.proofs.FacetLemmas.{AreFacets-starts, AreFacets-goes_on, Extends, Extends-cond, same_face}
use Rattle.flood.proofs.facets.facets_of.Goals as goal

pub loop-h-init : goal.loop-h-init
loop-h-init c = record {
  facets = rw (c.in_ok-triples.ensures.empty, c.in_ok-of.ensures.items) (AreFacets-starts (corners_of c.args.tets.now));
  few = omega (arith, c.in_ok-triples.ensures.len);
}

pub loop-h-preserved : goal.loop-h-preserved
loop-h-preserved c =
    let tets = corners_of c.args.tets.now in
    let old = c.loop-h.triples.keys in
    let new = c.insert_full.new.self.keys in
    let facet = c.in_ok-facet.facet in
    let face = c.rising.result in
    let stored = c.in_ok-facet.ensures.stored in
    let P : List Face → Type 0 = Extends old in
    let more = subst P (sym c.in_ok-facet.ensures.keys) (Extends-cond (list_any (λ (g : Face). same_triple face.0 g.0) old) old face) in
    let is = ap (λ (f : Face). f.0) (get_or_from_slice_get new facet stored.0 (record { 0 = [] }) stored.1) ∙ sym ((bytes_eq-Decides face.0 stored.0.0).0 stored.2) ∙ c.rising.ensures.rising ∙ ap rising c.half_face.ensures.is in
    record {
      facets = rw c.in_ok-push.ensures.items (AreFacets-goes_on tets c.loop-h.h old new c.loop-h.of.items facet c.loop-h.invariant.facets more c.half_face.ensures.there c.in_ok-facet.ensures.within is (AllPairs-from_IsDistinct same_face new c.in_ok-facet.ensures.unique));
      few = let few = c.loop-h.invariant.few in let one_more = more.one_more in omega arith;
    }
