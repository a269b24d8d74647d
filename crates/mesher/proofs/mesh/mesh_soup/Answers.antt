use Rattle.std.proofs.Common.{◌∙◌, ◌-◌, sym, ap, subst, length, nat_abs, List, All, to_z-of_z, arith}
use Rattle.std.specs.List.{range_with_len}
use Rattle.std.proofs.lemmas.List.FromFn.{length-range_with_len}
use Rattle.soup.proofs.ForCallers.{side-SFits, in-grid}
use Rattle.grid.specs.declared.shapes.Tri.{Tri}
use Rattle.grid.specs.Boxes.{IsInBox}
use Rattle.grid.specs.Limits.{IsSide}
use Rattle.grid.specs.Meshes.{Mesh, IsWellFormed, Tiles}
use Rattle.mesh_types.specs.Journals.{setting}
use Rattle.mesh_types.specs.Lattice.{lattice}
use Rattle.mesh_types.specs.Turns.{rolled_back}
use Rattle.mesh_types.specs.Views.{mesh_of}
use Rattle.mesh_types.proofs.ForCallers.{one-each}
use Rattle.mesh_store.specs.Parts.{StoreView, mesh_in}
use Rattle.mesh_store.specs.Sound.{IsSoundStore}
use Rattle.mesh_store.proofs.ForCallers.{well_formed}
use Rattle.mesher.specs.Meshed.{AreCoverings, HasItsCertificate, IsSecondOrNone}
use Rattle.mesher.proofs.Beginning.{first-mesh}
use Rattle.mesher.proofs.Ending.{have-certificates, in-setting, meshed-is, part-of, tiles-as}
use Rattle.mesher.proofs.mesh.mesh_soup.Goals as goal

pub new-requires : goal.new-requires
new-requires c =
    let whole = to_z-of_z (side-SFits c.args.soup.now.side c.requires.side) in
    let e = c.in_ok-start.ensures in
    first-mesh _ c.in_ok-start.start (subst IsSide (sym whole) c.requires.side) e.in_box e.well_formed e.within_limits e.made

pub first_part-requires-clause-closed : goal.first_part-requires-clause-closed
first_part-requires-clause-closed c = ap (λ (v : StoreView). v.at_begin) c.in_ok-store.ensures.view

pub first_part-requires-clause-tiles : goal.first_part-requires-clause-tiles
first_part-requires-clause-tiles c =
    tiles-as c.in_ok-store.store.side _ (mesh_in c.in_ok-store.store.parts) (mesh_of c.in_ok-start.start) (ap (λ (v : StoreView). v.side) c.in_ok-store.ensures.view) c.in_ok-store.ensures.mesh c.in_ok-start.ensures.tiles

pub second_part-requires-clause-budget_most : goal.second_part-requires-clause-budget_most
second_part-requires-clause-budget_most c = omega (arith, c.requires.budget_most)

pub second_part-requires-clause-tiles : goal.second_part-requires-clause-tiles
second_part-requires-clause-tiles c = subst (λ z. Tiles (mesh_in c.first_part.new.store.parts) (nat_abs z)) (sym c.first_part.ensures.side) c.in_ok-outcomes.ensures.tiles

pub second_part-requires-clause-one_each : goal.second_part-requires-clause-one_each
second_part-requires-clause-one_each c =
    let env = c.in_ok-env.env in
    let part = c.in_ok-outcomes.ensures.part in
    ap length c.deref.ensures.value
    ∙ (one-each env c.args.epsilon (range_with_len 0 (length env)) (mesh_in c.in_ok-store.store.parts) part.between c.in_ok-outcomes.field-0.outcomes.items part.inserted ∙ length-range_with_len 0 (length env))

pub coverings-requires-clause-there : goal.coverings-requires-clause-there
coverings-requires-clause-there c =
    let last = c.second_part.new.store in
    let w : IsWellFormed (mesh_of c.in_ok-mesh.mesh) = subst IsWellFormed (sym c.in_ok-mesh.ensures) (well_formed last.side last.parts c.slots.ensures.sound) in
    rw (c.as_slice-2.ensures, c.as_slice-3.ensures) w.triples_are

pub coverings-requires-clause-in_box : goal.coverings-requires-clause-in_box
coverings-requires-clause-in_box c =
    let side = c.args.soup.now.side in
    let whole = to_z-of_z (side-SFits side c.requires.side) in
    let kept = c.second_part.ensures.side ∙ (c.first_part.ensures.side ∙ (ap (λ (v : StoreView). v.side) c.in_ok-store.ensures.view ∙ whole)) in
    let sound = subst (λ z. IsSoundStore z c.second_part.new.store.parts) kept c.slots.ensures.sound in
    let inside = subst (λ (m : Mesh). All (IsInBox (nat_abs side)) m.points) (sym c.in_ok-mesh.ensures) sound.in_box in
    rw c.as_slice-2.ensures (in-grid side c.in_ok-mesh.mesh.points c.requires.side inside)

pub coverings-requires-clause-covered : goal.coverings-requires-clause-covered
coverings-requires-clause-covered c =
    let side = c.args.soup.now.side in
    let env = c.in_ok-env.env in
    let first = c.in_ok-store.store in
    let middle = c.first_part.new.store in
    let last = mesh_in c.second_part.new.store.parts in
    let whole = to_z-of_z (side-SFits side c.requires.side) in
    let start = c.in_ok-store.ensures.mesh ∙ (c.in_ok-start.ensures.is ∙ ap (λ z. lattice (nat_abs z) c.args.cells) whole) in
    let have = have-certificates (setting env c.args.epsilon side) (nat_abs side) c.args.cells (mesh_in first.parts) (mesh_in middle.parts) last start c.in_ok-outcomes.ensures.covered c.in_ok-second.ensures.covered in
    rw (c.as_slice-2.ensures, c.as_slice-3.ensures) (subst (λ (m : Mesh). All (HasItsCertificate env c.args.epsilon m.points) m.tracked) (sym c.in_ok-mesh.ensures) have)

pub returns : goal.returns
returns c =
    let side = c.args.soup.now.side in
    let e = c.args.epsilon in
    let env = c.in_ok-env.env in
    let triangles = c.args.soup.now.triangles in
    let first = c.in_ok-store.store in
    let middle = c.first_part.new.store in
    let last = c.second_part.new.store in
    let mesh = c.in_ok-mesh.mesh in
    let found = c.in_ok-outcomes.field-0 in
    let whole = to_z-of_z (side-SFits side c.requires.side) in
    let same = c.in_ok-env.ensures ∙ c.as_slice.ensures in
    let start = c.in_ok-store.ensures.mesh ∙ (c.in_ok-start.ensures.is ∙ ap (λ z. lattice (nat_abs z) c.args.cells) whole) in
    let began = ap (λ (v : StoreView). v.side) c.in_ok-store.ensures.view ∙ whole in
    let kept = c.first_part.ensures.side ∙ began in
    let sound = subst (λ z. IsSoundStore z last.parts) (c.second_part.ensures.side ∙ kept) c.slots.ensures.sound in
    let one = part-of env triangles e c.args.budget first.side side (mesh_in first.parts) (lattice (nat_abs side) c.args.cells) (mesh_in middle.parts) found.outcomes.items found.journal.lines found.end same began start c.in_ok-outcomes.ensures.part in
    let less = subst (λ k. IsSecondOrNone (setting env e middle.side) (rolled_back 0 c.deref.result.now) (c.args.budget - k) (mesh_in middle.parts) c.in_ok-second.second (mesh_in last.parts)) c.len.ensures c.in_ok-second.ensures.part in
    let those = subst (λ os. IsSecondOrNone (setting env e middle.side) (rolled_back 0 os) (c.args.budget - length found.journal.lines) (mesh_in middle.parts) c.in_ok-second.second (mesh_in last.parts)) c.deref.ensures.value less in
    let two = in-setting (λ s. IsSecondOrNone s (rolled_back 0 found.outcomes.items) (c.args.budget - length found.journal.lines) (mesh_in middle.parts) c.in_ok-second.second (mesh_in last.parts)) env triangles e middle.side side same kept those in
    let tiles = subst (λ z. Tiles (mesh_in last.parts) (nat_abs z)) kept c.in_ok-second.ensures.tiles in
    let coverings = rw (c.as_slice-2.ensures, c.as_slice-3.ensures) at c.in_ok-faces.ensures in
    let covered = subst (λ (ts : List Tri). AreCoverings ts e mesh.points (mesh_of mesh).tracked c.in_ok-faces.faces.items) same coverings in
    rw (c.from_vec.ensures, c.from_vec-2.ensures)
    (meshed-is c.args.soup.now e c.args.cells c.args.budget (mesh_in middle.parts) last.parts
    (record { mesh = mesh; outcomes = found.outcomes.items; journal = found.journal; end = found.end; second = c.in_ok-second.second; faces = c.in_ok-faces.faces.items })
    sound one two tiles c.in_ok-mesh.ensures covered)
