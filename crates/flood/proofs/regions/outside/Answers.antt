use Rattle.std.proofs.Common.{◌≡◌, ℕ, ◌*◌, ◌<◌, Bool, None, List, length, slice_index_or, ap, sym, subst, ◌∙◌, arith}
use Rattle.std.proofs.lemmas.List.{get_or_default, length-map}
use Rattle.grid.specs.declared.shapes.Face.{Face}
use Rattle.grid.specs.declared.shapes.Tet.{Tet}
use Rattle.grid.specs.Views.{corners_of, triples_of}
use Rattle.flood.specs.HalfFaces.{AreFacets, AreOpen, ArePaired}
use Rattle.flood.specs.Chains.{IsLast}
use Rattle.flood.specs.Floods.{AreReachable, IsLoose}
use Rattle.flood.proofs.RegionLemmas.{AreRegions-from}
use Rattle.flood.proofs.regions.outside.Goals as goal

pub chains_of-requires : goal.chains_of-requires
chains_of-requires c =
    let facets = c.in_ok-triples.ensures in
    let of = c.in_ok-triples.field-0.of.items in
    let one_each = facets.one_each in
    let few = c.requires in
    record {
      in_range = λ k d below. let is = get_or_default of k d 0 below in let range = facets.in_range k (omega arith) in let len = c.len.ensures.len in omega arith;
      few = omega arith;
    }

pub mark_reachable-requires : goal.mark_reachable-requires
mark_reachable-requires c =
    let one_each = ap (λ (x : List ℕ). length x) c.in_ok-chains.ensures.same ∙ c.in_ok-triples.ensures.one_each in
    let one_last = c.in_ok-chains.ensures.one_last in
    let one_open = c.in_ok-is_open.ensures.one_each in
    let len = c.len.ensures.len in
    let one_paired = c.in_ok-is_paired.ensures.one_each in
    record {
      chained = c.in_ok-chains.ensures.chained;
      one_open = omega arith;
      one_paired = ap (λ (x : List Bool). length x) c.deref.ensures.value ∙ one_paired;
      four_each = one_each;
      few = c.requires;
    }

pub returns : goal.returns
returns c =
    let tets = corners_of c.args.tets.now in
    let tracked = triples_of c.args.tracked.now in
    let triples = c.in_ok-triples.field-0.triples.keys in
    let old = c.in_ok-triples.field-0.of.items in
    let of = c.in_ok-chains.chains.of.items in
    let last = c.in_ok-chains.chains.last.items in
    let before = c.in_ok-chains.ensures in
    let n_is : 4 * length c.args.tets.now ≡ 4 * length tets = ap (λ n. 4 * n) (sym (length-map c.args.tets.now (λ (t : Tet). t.0))) in
    let m_is : length c.args.tracked.now ≡ length tracked = sym (length-map c.args.tracked.now (λ (f : Face). f.0)) in
    let of_is = ap (λ (x : List ℕ). length x) before.same ∙ c.in_ok-triples.ensures.one_each ∙ n_is in
    let P : List ℕ → Type 0 = λ x. AreFacets tets (4 * length tets) triples x in
    let Q : ℕ → Type 0 = λ n. AreFacets tets n triples old in
    let facets = subst P (sym before.same) (subst Q n_is c.in_ok-triples.ensures) in
    let R : ℕ → Type 0 = λ n. AreOpen tracked n triples c.in_ok-is_open.is_open.items in
    let opened = subst R m_is c.in_ok-is_open.ensures in
    let S : ℕ → Type 0 = λ n. ArePaired tets of n last c.in_ok-is_paired.is_paired.items in
    let paired = subst S of_is c.in_ok-is_paired.ensures in
    let one_last = before.one_last in
    let len = c.len.ensures.len in
    let lasts : (d : ℕ) → d < length triples → IsLast of d (4 * length tets) (slice_index_or last d None) =
    λ d below. let T : ℕ → Type 0 = λ n. IsLast of d n (slice_index_or last d None) in subst T of_is (before.chained.last_is d (omega arith)) in
    let U : List Bool → Type 0 = λ x. AreReachable of c.in_ok-is_open.is_open.items (IsLoose of x) c.in_ok-flags.flags.items in
    let reached = subst U c.deref.ensures.value c.in_ok-flags.ensures.reachable in
    AreRegions-from tets tracked triples of last c.in_ok-is_open.is_open.items c.in_ok-is_paired.is_paired.items facets lasts opened paired c.in_ok-flags.flags.items
    (c.in_ok-flags.ensures.one_each ∙ sym (length-map c.args.tets.now (λ (t : Tet). t.0))) reached
