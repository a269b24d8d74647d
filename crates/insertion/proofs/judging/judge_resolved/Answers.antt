use Rattle.std.proofs.Common.{◌≡◌, ◌∙◌, ◌<◌, sym, ap, subst, All, length, List}
use Rattle.grid.specs.declared.shapes.Face.{Face}
use Rattle.grid.specs.declared.shapes.Point.{Point}
use Rattle.grid.specs.Determinants.{point_at}
use Rattle.grid.specs.Envelopes.{triangle_at}
use Rattle.grid.specs.Near.{Near}
use Rattle.grid.specs.Views.{triples_of}
use Rattle.mesh_types.specs.Insertion.{NamesFirst, IsStray}
use Rattle.mesh_types.specs.Phases.{section}
use Rattle.mesh_store.specs.Parts.{mesh_in}
use Rattle.mesh_store.proofs.ForCallers.{well_formed}
use Rattle.insertion.specs.Progress.{start_of}
use Rattle.cutting_rule.proofs.ForCallers.{stray-first, code-all, section-triples, lower}
use Rattle.insertion.proofs.judging.judge_resolved.Goals as goal

pub first_stray-requires-clause-there : goal.first_stray-requires-clause-there
first_stray-requires-clause-there c =
    let v = c.args.store.now in
    let n = mesh_in v.parts in
    let t = triangle_at c.args.env.now c.args.t in
    let is : triples_of c.deref.result.now ≡ section n t = ap triples_of c.deref.ensures.value ∙ (c.in_ok-faces.ensures ∙ ap (section n) c.requires.is) in
    subst (λ (ps : List Point). All (λ (f : Face). All (λ u. u < length ps) f.0) c.deref.result.now) (sym c.slots.ensures.points)
    (code-all (λ f. All (λ u. u < length n.points) f) c.deref.result.now (section n t) is (lower (length n.points) (section n t) (section-triples n t (well_formed v.side v.parts c.requires.cut.sound_now).tets_are)))

pub returns-in-Some : goal.returns-in-Some
returns-in-Some c =
    let v = c.args.store.now in
    let n = mesh_in v.parts in
    let t = triangle_at c.args.env.now c.args.t in
    let e = c.args.e in
    let is : triples_of c.deref.result.now ≡ section n t = ap triples_of c.deref.ensures.value ∙ (c.in_ok-faces.ensures ∙ ap (section n) c.requires.is) in
    let h : NamesFirst n.points (IsStray n.points t e) (section n t) c.in-Some.corners =
    subst (λ fs. NamesFirst n.points (IsStray n.points t e) fs c.in-Some.corners) is
    (subst (λ s. NamesFirst n.points (IsStray n.points s e) (triples_of c.deref.result.now) c.in-Some.corners) c.triangle-tri.ensures.value
    (subst (λ (ps : List Point). NamesFirst ps (IsStray ps c.triangle-tri.result e) (triples_of c.deref.result.now) c.in-Some.corners) c.slots.ensures.points c.in-Some.ensures)) in
    stray-first c.args.env.now c.args.t e (mesh_in (start_of v)) n c.requires.cut.some_area c.requires.cut.within c.requires.positive c.requires.resolved c.in-Some.corners h

pub judge_near-requires-clause-faces : goal.judge_near-requires-clause-faces
judge_near-requires-clause-faces c = c.in_ok-faces.ensures ∙ ap (section (mesh_in c.args.store.now.parts)) c.requires.is

pub judge_near-requires-clause-near : goal.judge_near-requires-clause-near
judge_near-requires-clause-near c =
    let n = mesh_in c.args.store.now.parts in
    let t = triangle_at c.args.env.now c.args.t in
    let e = c.args.e in
    let is : triples_of c.deref.result.now ≡ section n t = ap triples_of c.deref.ensures.value ∙ (c.in_ok-faces.ensures ∙ ap (section n) c.requires.is) in
    subst (λ fs. All (λ f. All (λ u. Near (point_at n.points u) 0 t e) f) fs) is
    (subst (λ s. All (λ f. All (λ u. Near (point_at n.points u) 0 s e) f) (triples_of c.deref.result.now)) c.triangle-tri.ensures.value
    (subst (λ (ps : List Point). All (λ f. All (λ u. Near (point_at ps u) 0 c.triangle-tri.result e) f) (triples_of c.deref.result.now)) c.slots.ensures.points c.in-None.ensures))
