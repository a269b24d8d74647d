use Rattle.std.proofs.Common.{◌≡◌, ◌∙◌, ap, sym, subst, length, All}
use Rattle.grid.specs.Envelopes.{triangle_at}
use Rattle.grid.specs.Meshes.{Mesh, IsTriple, Tiles}
use Rattle.grid.specs.Views.{triples_of}
use Rattle.mesh_types.specs.Phases.{section}
use Rattle.mesh_types.specs.Tracking.{with_tracked}
use Rattle.mesh_store.specs.Parts.{StoreView, mesh_in}
use Rattle.mesh_store.proofs.ForCallers.{well_formed}
use Rattle.insertion.specs.Bare.{IsCovered}
use Rattle.insertion.specs.Progress.{start_of}
use Rattle.insertion.proofs.Covered.{covered-cut}
use Rattle.insertion.proofs.Fresh.{fresh}
use Rattle.insertion.proofs.Tiling.{tiles-cut}
use Rattle.cutting_rule.proofs.ForCallers.{code-all, section-triples}
use Rattle.insertion.proofs.settling.settle.Goals as goal

pub track-requires-clause-triples : goal.track-requires-clause-triples
track-requires-clause-triples c =
    let n = mesh_in c.args.store.now.parts in
    let t = triangle_at c.args.env.now c.args.t in
    let h = rw c.in-Ok-Sound.field-0-is at c.in-Ok-Sound.ensures in
    code-all (IsTriple (length n.points)) c.deref.result.now (section n t) (ap triples_of c.deref.ensures.value ∙ h.faces_are)
    (section-triples n t (well_formed c.args.store.now.side c.args.store.now.parts c.requires.cut.sound_now).tets_are)

pub returns-in-Ok-Sound-clause-tiles : goal.returns-in-Ok-Sound-clause-tiles
returns-in-Ok-Sound-clause-tiles c = λ l tiles.
    let v = c.args.store.now in
    let m = mesh_in (start_of v) in
    let n = mesh_in v.parts in
    let t = triangle_at c.args.env.now c.args.t in
    let h = rw c.in-Ok-Sound.field-0-is at c.in-Ok-Sound.ensures in
    let is : mesh_in c.commit.new.self.parts ≡ with_tracked n (section n t) =
    ap (λ (w : StoreView). mesh_in w.parts) c.commit.ensures
    ∙ (c.in_ok-track-in-Ok-Sound.ensures.mesh ∙ ap (with_tracked n) (ap triples_of c.deref.ensures.value ∙ h.faces_are)) in
    subst (λ (x : Mesh). Tiles x l) (sym is) (tiles-cut m n t l (well_formed v.side (start_of v) c.requires.cut.sound) tiles c.requires.cut.mesh h.positive)

pub returns-in-Ok-Sound-clause-covered : goal.returns-in-Ok-Sound-clause-covered
returns-in-Ok-Sound-clause-covered c = λ certs.
    let v = c.args.store.now in
    let m = mesh_in (start_of v) in
    let n = mesh_in v.parts in
    let t = triangle_at c.args.env.now c.args.t in
    let h = rw c.in-Ok-Sound.field-0-is at c.in-Ok-Sound.ensures in
    let is : mesh_in c.commit.new.self.parts ≡ with_tracked n (section n t) =
    ap (λ (w : StoreView). mesh_in w.parts) c.commit.ensures
    ∙ (c.in_ok-track-in-Ok-Sound.ensures.mesh ∙ ap (with_tracked n) (ap triples_of c.deref.ensures.value ∙ h.faces_are)) in
    let w = well_formed v.side (start_of v) c.requires.cut.sound in
    subst (λ (x : Mesh). All (IsCovered c.args.env.now c.args.e x.points) x.tracked) (sym is)
    (covered-cut m n c.args.env.now c.args.e c.args.t c.requires.there w (well_formed v.side v.parts c.requires.cut.sound_now) c.requires.cut.open_from.grown.points (fresh m n t w c.requires.cut.mesh) h.kept h.near certs)

pub returns-in-Ok-Faulty-clause-covered : goal.returns-in-Ok-Faulty-clause-covered
returns-in-Ok-Faulty-clause-covered c = λ h.
    subst (λ (w : StoreView). All (IsCovered c.args.env.now c.args.e w.parts.points) (mesh_in w.parts).tracked) (sym c.rollback.ensures) h
