use Rattle.std.proofs.Common.{Vec, Global, ◌≡◌, ◌∙◌, ap, refl, sym, subst, List, length, nat_abs, All, Result, Ok, Err, IfOk}
use Rattle.grid.specs.Boxes.{IsInBox}
use Rattle.grid.specs.declared.memory.Memory.{Memory}
use Rattle.mesh_types.specs.CutLists.{AreCuts}
use Rattle.mesh_types.specs.declared.cut.Cut.{Cut}
use Rattle.mesh_types.specs.CuttingRule.{phase_plane}
use Rattle.mesh_types.specs.Phases.{wanted, wanted_cuts}
use Rattle.mesh_store.specs.Parts.{mesh_in, live_tets}
use Rattle.mesh_store.proofs.ForCallers.{well_formed}
use Rattle.cutting_rule.specs.Edges.{numbers_of}
use Rattle.cutting_rule.proofs.ForCallers.{edges-split, edges-wanted, cuts-wanted, wanted_cuts-AreCuts, wanted_cuts-in}
use Rattle.cutter.proofs.phases.wanted_cuts.Goals as goal
use Rattle.cutter.proofs.phases.wanted_cuts.Goals.{After-cuts_of}

wanted-is : (c : goal.After-deref) → numbers_of c.deref.result.now ≡ wanted (mesh_in c.args.store.now.parts) c.args.triangle.now c.args.i
wanted-is c =
    ap numbers_of c.deref.ensures.value
    ∙ edges-wanted c.sort_edges_once.new.edges.items c.in_ok-edges.edges.items _ _ (mesh_in c.args.store.now.parts) _ c.args.triangle.now c.args.i
    c.sort_edges_once.ensures c.in_ok-edges.ensures c.slots-slots.ensures.points (ap live_tets c.slots-slots.ensures.slots) refl

plane-is : (c : goal.After-deref) → c.phase_plane.result.now ≡ phase_plane c.args.triangle.now c.args.i
plane-is c = c.phase_plane.ensures

pub cuts_of-requires-clause-apart : goal.cuts_of-requires-clause-apart
cuts_of-requires-clause-apart c =
    edges-split c.deref.result.now c.slots-slots.result.now.points c.phase_plane.result.now (mesh_in c.args.store.now.parts) c.args.triangle.now c.args.i
    (wanted-is c) c.slots-slots.ensures.points (plane-is c) (well_formed c.args.store.now.side c.args.store.now.parts c.slots-slots.ensures.sound).tets_are

cuts-are : (c : After-cuts_of) → IfOk c.cuts_of.result (λ v. v.items ≡ wanted_cuts (mesh_in c.args.store.now.parts) c.args.triangle.now c.args.i)
cuts-are c =
    let es : numbers_of c.deref.result.now ≡ wanted (mesh_in c.args.store.now.parts) c.args.triangle.now c.args.i =
    ap numbers_of c.deref.ensures.value
    ∙ edges-wanted c.sort_edges_once.new.edges.items c.in_ok-edges.edges.items _ _ (mesh_in c.args.store.now.parts) _ c.args.triangle.now c.args.i
    c.sort_edges_once.ensures c.in_ok-edges.ensures c.slots-slots.ensures.points (ap live_tets c.slots-slots.ensures.slots) refl in
    let plane : c.phase_plane.result.now ≡ phase_plane c.args.triangle.now c.args.i = c.phase_plane.ensures in
    subst (λ (cuts : List Cut). IfOk c.cuts_of.result (λ v. v.items ≡ cuts))
    (cuts-wanted c.deref.result.now c.slots-slots.result.now.points c.phase_plane.result.now (mesh_in c.args.store.now.parts) c.args.triangle.now c.args.i es c.slots-slots.ensures.points plane)
    c.cuts_of.ensures

with_cuts : (P : List Cut → Type 0) (r : Result (Vec Cut Global) Memory) (cuts : List Cut) → P cuts → IfOk r (λ v. v.items ≡ cuts) → IfOk r (λ v. P v.items)
with_cuts P (Ok v) cuts h e = subst P (sym e) h
with_cuts P (Err issue) cuts h e = tt

pub returns-clause-cuts : goal.returns-clause-cuts
returns-clause-cuts c = cuts-are (goal.at.returns-clause-cuts c).After-cuts_of

pub returns-clause-are_cuts : goal.returns-clause-are_cuts
returns-clause-are_cuts c =
    let store = c.args.store.now in
    let m = mesh_in store.parts in
    with_cuts (AreCuts (length m.points)) c.cuts_of.result (wanted_cuts m c.args.triangle.now c.args.i)
    (wanted_cuts-AreCuts m c.args.triangle.now c.args.i (well_formed store.side store.parts c.slots-slots.ensures.sound).tets_are) (cuts-are (goal.at.returns-clause-are_cuts c).After-cuts_of)

pub returns-clause-in_box : goal.returns-clause-in_box
returns-clause-in_box c =
    let store = c.args.store.now in
    let m = mesh_in store.parts in
    let sound = c.slots-slots.ensures.sound in
    with_cuts (All (λ (e : Cut). IsInBox (nat_abs store.side) e.at)) c.cuts_of.result (wanted_cuts m c.args.triangle.now c.args.i)
    (wanted_cuts-in m c.args.triangle.now c.args.i (nat_abs store.side) (well_formed store.side store.parts sound).tets_are sound.in_box) (cuts-are (goal.at.returns-clause-in_box c).After-cuts_of)
