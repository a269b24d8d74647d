use Rattle.std.proofs.Common.{◌≡◌, ◌∙◌, length, ap, sym, inl, inr}
use Rattle.std.specs.List.{list_all}
use Rattle.std.proofs.lemmas.Bool.{cases_Bool}
use Rattle.std.proofs.lemmas.List.{length-map}
use Rattle.grid.specs.declared.shapes.Face.{Face}
use Rattle.grid.specs.Views.{triples_of}
use Rattle.mesh_store.specs.Parts.{mesh_in}
use Rattle.local_ops.specs.Surface.{at_point, is_moved_apart}
use Rattle.local_ops.proofs.SurfaceTests.{leaves, keeps, overlaps}
use Rattle.local_ops.proofs.surface.keeps_surface.Goals as goal

pub returns-then-leaves_surface : goal.returns-then-leaves_surface
returns-then-leaves_surface c =
    let m = mesh_in c.args.store.now.parts in
    let count : length c.deref.result.now ≡ length (at_point c.args.u m.tracked) = sym (length-map c.deref.result.now (λ (f : Face). f.0)) ∙ ap length (ap triples_of c.deref.ensures.value ∙ c.in_ok-faces.ensures) in
    (λ t. absurd (cc t), λ k. absurd (leaves m c.args.u c.args.v (length c.deref.result.now) count (sym c.leaves_surface.ensures ∙ c.if-leaves_surface.true) k))

pub returns : goal.returns
returns c =
    let m = mesh_in c.args.store.now.parts in
    let count : length c.deref.result.now ≡ length (at_point c.args.u m.tracked) = sym (length-map c.deref.result.now (λ (f : Face). f.0)) ∙ ap length (ap triples_of c.deref.ensures.value ∙ c.in_ok-faces.ensures) in
    let is : c.are_moved_apart.result ≡ list_all (is_moved_apart m.tracked c.args.u c.args.v) (at_point c.args.u m.tracked) =
    c.are_moved_apart.ensures ∙ ap (list_all (is_moved_apart m.tracked c.args.u c.args.v)) (ap triples_of c.deref-2.ensures.value ∙ c.in_ok-faces.ensures) in (
      λ t. keeps m c.args.u c.args.v (length c.deref.result.now) count (sym c.leaves_surface.ensures ∙ c.if-leaves_surface.false) (sym is ∙ t),
      λ k. elim (cases_Bool c.are_moved_apart.result) [ inl e ↦ e | inr e ↦ absurd (overlaps m c.args.u c.args.v (sym is ∙ e) k) ],
    )
