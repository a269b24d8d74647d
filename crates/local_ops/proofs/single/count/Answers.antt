use Rattle.std.proofs.Common.{◌≡◌, ◌∙◌, ◌<◌, ℕ, List, All, length, map, ap, sym, subst, arith}
use Rattle.grid.specs.Simplices.{count}
use Rattle.tet_slots.specs.Searches.{has_edge, numbers_of}
use Rattle.local_ops.specs.Measures.{corners_at}
use Rattle.local_ops.proofs.FaceCounts.{count-near}
use Rattle.local_ops.proofs.NearSlots.{length-numbers, numbers-there}
use Rattle.local_ops.proofs.single.count.Goals as goal

pub count_among-requires-clause-few : goal.count_among-requires-clause-few
count_among-requires-clause-few c =
    let e = c.last_edge-edge.result in
    let is : c.deref.result.now ≡ numbers_of (has_edge e.u e.v) 0 c.args.slots.now.slots = c.deref.ensures.value ∙ c.in_ok-having2.ensures in
    omega (arith, ap length is, length-numbers (has_edge e.u e.v) 0 c.args.slots.now.slots, c.requires)

pub count_among-requires-clause-there : goal.count_among-requires-clause-there
count_among-requires-clause-there c =
    let e = c.last_edge-edge.result in
    let is : c.deref.result.now ≡ numbers_of (has_edge e.u e.v) 0 c.args.slots.now.slots = c.deref.ensures.value ∙ c.in_ok-having2.ensures in
    subst (All (λ i. i < length c.args.slots.now.slots)) (sym is) (numbers-there (has_edge e.u e.v) c.args.slots.now.slots)

pub returns : goal.returns
returns c =
    let e = c.last_edge-edge.result in
    let is : c.deref.result.now ≡ numbers_of (has_edge e.u e.v) 0 c.args.slots.now.slots = c.deref.ensures.value ∙ c.in_ok-having2.ensures in
    c.count_among.ensures ∙ (ap (λ (ns : List ℕ). count c.args.face.0 (map (corners_at c.args.slots.now.slots) ns)) is ∙ count-near c.args.face.0 e.u e.v c.last_edge-edge.ensures.u c.last_edge-edge.ensures.v c.args.slots.now.slots)
