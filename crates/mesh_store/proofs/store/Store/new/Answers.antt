use Rattle.std.proofs.Common.{◌≡◌, ◌∙◌, false, sym, ap, subst, map, true, length, arith, rules, List, to_z, of_z, w32}
use Rattle.std.proofs.lemmas.List.{length-map}
use Rattle.grid.specs.declared.shapes.Face.{Face}
use Rattle.grid.specs.declared.shapes.Tet.{Tet}
use Rattle.grid.specs.Meshes.{IsTriple}
use Rattle.grid.specs.Simplices.{IsTet}
use Rattle.grid.specs.Views.{corners_of}
use Rattle.tet_slots.specs.Slots.{SlotLists}
use Rattle.mesh_store.specs.Parts.{parts_of, mesh_in, parts_from, live_slot}
use Rattle.mesh_store.specs.Sound.{IsSoundStore}
use Rattle.mesh_store.proofs.FirstMesh.{sound-first, mesh-first}
use Rattle.mesh_store.proofs.Forgetting.{CanForget-none, CanRevive-none}
use Rattle.mesh_store.proofs.PieceLemmas.{All-unmap}
use Rattle.mesh_store.proofs.store.Store.new.Goals as goal
use Rattle.mesh_store.proofs.store.Store.new.Goals.{After-new}

pub fill_slots-requires-clause-points_few : goal.fill_slots-requires-clause-points_few
fill_slots-requires-clause-points_few c = c.requires.within.points_few

pub fill_slots-requires-clause-tets_few : goal.fill_slots-requires-clause-tets_few
fill_slots-requires-clause-tets_few c = let few = c.requires.within.made_few in omega (arith, few, c.requires.made)

pub fill_slots-requires-clause-corners : goal.fill_slots-requires-clause-corners
fill_slots-requires-clause-corners c = All-unmap (IsTet (length c.args.mesh.now.points)) (λ (t : Tet). t.0) c.args.mesh.now.tets c.requires.well_formed.tets_are

pub tracking-requires-clause-triples : goal.tracking-requires-clause-triples
tracking-requires-clause-triples c =
    rw c.as_slice.ensures (rw c.len.ensures (All-unmap (IsTriple (length c.args.mesh.now.points)) (λ (f : Face). f.0) c.args.mesh.now.tracked c.requires.well_formed.triples_are))

pub tracking-requires-clause-ordered : goal.tracking-requires-clause-ordered
tracking-requires-clause-ordered c = rw c.as_slice.ensures c.requires.well_formed.ordered

parts-are : (c : After-new) → parts_of c.settle.new.self c.in_ok-tracked.tracked ≡ parts_from c.args.mesh.now
parts-are c = λ i. parts_of ((c.settle.ensures ∙ c.in_ok-slots.ensures) i) ((c.in_ok-tracked.ensures ∙ ap (λ (fs : List Face). map (λ f. (f, true)) fs) c.as_slice.ensures) i)

one-each : (c : After-new) → length c.settle.new.self.forgotten ≡ length c.settle.new.self.slots
one-each c =
    let e = c.settle.ensures ∙ c.in_ok-slots.ensures in
    let tets = c.args.mesh.now.tets in
    ap (λ (s : SlotLists). length s.forgotten) e ∙ (length-map tets (λ _. false) ∙ (sym (length-map tets (λ (t : Tet). t.0)) ∙ (sym (length-map (corners_of tets) live_slot) ∙ ap (λ (s : SlotLists). length s.slots) (sym e))))

pub invariant_of-result : goal.invariant_of-result
invariant_of-result c =
    let side : to_z w32 (of_z w32 c.args.side) ≡ c.args.side = search rules in
    record {
      can = rw c.new.ensures tt;
      leave = rw c.new.ensures tt;
      forget = rw c.new.ensures (CanForget-none c.settle.new.self (CanRevive-none c.settle.new.self (one-each c)));
      none = λ _. c.new.ensures;
      sound = rw side (subst (IsSoundStore c.args.side) (sym (parts-are c)) (sound-first c.args.side c.args.mesh.now c.requires));
    }

pub returns-clause-mesh : goal.returns-clause-mesh
returns-clause-mesh c = ap mesh_in (parts-are (goal.at.returns-clause-mesh c).After-new) ∙ mesh-first c.args.side c.args.mesh.now c.requires
