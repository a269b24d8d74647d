use Rattle.std.proofs.Common.{◌≡◌, ℕ, ◌/◌, ◌<◌, false, List, length, slice_index_or, sym, ap, ◌∙◌, subst, inl, inr, arith}
use Rattle.std.proofs.lemmas.Bool.{cases_lt}
use Rattle.std.proofs.lemmas.List.{get_or_read}
use Rattle.flood.specs.HalfFaces.{facet_at}
use Rattle.flood.specs.Floods.{CanPass, IsBehind, IsOn, State}
use Rattle.flood.proofs.ReachLemmas.{FillsFacets-still, FillsFacets-then, Reaches-then}
use Rattle.flood.proofs.flood.Flood.reach_from.Goals as goal

pub loop-h-preserved : goal.loop-h-preserved
loop-h-preserved c =
    let h = c.loop-h.h in
    let tet = c.args.tet in
    let old = c.args.self.now in
    let now = c.loop-h.self in
    let new = c.reach_through.new.self in
    let of = old.facet_of in
    let flood = c.self-in-loop-h in
    let facet = c.index.result.now in
    let so_far = c.loop-h.invariant in
    let step = c.in_ok-reach_through.ensures in
    let same = so_far.reaches.same_facets in
    let of_is = ap (λ (s : State). s.facet_of) flood.view_is ∙ same in
    let length_is = ap (λ (x : List ℕ). length x) of_is in
    let marks_are = ap (λ (s : State). length s.marks) flood.view_is in
    let one_each = so_far.reaches.one_each in
    let four_each = flood.invariant.four_each in
    let there = c.requires in
    let test = c.loop-h-test.true in
    let from = c.loop-h.auto.h in
    let below : h < length of = omega arith in
    let is = get_or_read flood.inside.chains.of.items h facet (omega arith) c.index.ensures 0 ∙ ap (λ x. facet_at x h) of_is in
    let place : h / 4 ≡ tet = omega arith in
    let Behind : ℕ → Type 0 = IsBehind of old.waiting tet in
    let beside : IsOn of facet tet = record { half_face = h; there = below; facet_is = sym is; tet_is = place } in
    record {
      reaches = Reaches-then Behind (CanPass now.facet_of now.waiting facet) Behind old now new so_far.reaches step.reaches (λ i b. b)
          (λ i p. record { facet = facet; beside = beside; passes = record { waits = so_far.fills.fewer facet p.waits; on = subst (λ x. IsOn x facet i) same p.on } });
      fills = FillsFacets-then Behind (CanPass now.facet_of now.waiting facet) old now new so_far.reaches step.reaches so_far.fills step.fills;
      done = λ g start before. elim (cases_lt g h) [
        | inl k ↦ FillsFacets-still now new (facet_at of g) step.fills (so_far.done g start k)
        | inr k ↦ let here : h ≡ g = omega arith in subst (λ x. slice_index_or new.waiting x false ≡ false) (is ∙ ap (facet_at of) here) step.done
      ];
    }
