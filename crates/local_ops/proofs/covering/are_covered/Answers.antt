use Rattle.std.proofs.Common.{◌≡◌, ◌∙◌, ◌↔◌, ℕ, List, length, All, IsTrue, ap, sym, subst}
use Rattle.std.specs.List.{AllByRecursion as Each}
use Rattle.grid.specs.declared.shapes.Face.{Face}
use Rattle.grid.specs.declared.shapes.Point.{Point}
use Rattle.grid.specs.Meshes.{IsTriple}
use Rattle.grid.specs.Simplices.{has}
use Rattle.grid.specs.Views.{triples_of}
use Rattle.mesh_types.proofs.ForCallers.{Each-filter}
use Rattle.mesh_store.specs.Parts.{tracked_in}
use Rattle.mesh_store.proofs.ForCallers.{tracked-triples}
use Rattle.local_ops.specs.Covering.{IsFine}
use Rattle.local_ops.specs.Surface.{at_point}
use Rattle.local_ops.proofs.FaceLists.{all-faces}
use Rattle.local_ops.proofs.covering.are_covered.Goals as goal

pub all_fine-requires-clause-there : goal.all_fine-requires-clause-there
all_fine-requires-clause-there c =
    let parts = c.args.store.now.parts in
    let k = c.args.before.now.pivot in
    let is : triples_of c.deref-2.result.now ≡ at_point k (tracked_in parts.keys) = ap triples_of c.deref-2.ensures.value ∙ c.in_ok-faces.ensures in
    let each = Each-filter (IsTriple (length parts.points)) (λ f. has f k) (tracked_in parts.keys) (tracked-triples (length parts.points) parts.keys c.slots.ensures.sound.triples_are) in
    subst (λ (ps : List Point). All (λ (f : Face). IsTriple (length ps) f.0) c.deref-2.result.now) (sym c.slots.ensures.points)
    (all-faces (IsTriple (length parts.points)) c.deref-2.result.now (subst (Each (IsTriple (length parts.points))) (sym is) each))

pub returns : goal.returns
returns c =
    let parts = c.args.store.now.parts in
    let k = c.args.before.now.pivot in
    let is : triples_of c.deref-2.result.now ≡ at_point k (tracked_in parts.keys) = ap triples_of c.deref-2.ensures.value ∙ c.in_ok-faces.ensures in
    let env = c.args.env.now in
    let old : triples_of c.deref.result.now ≡ triples_of c.args.before.now.faces.items = ap triples_of c.deref.ensures.value in
    subst (λ (ps : List Point). IsTrue c.all_fine.result ↔ All (IsFine env c.args.e (triples_of c.args.before.now.faces.items) ps) (at_point k (tracked_in parts.keys))) c.slots.ensures.points
    (subst (λ (os : List (List ℕ)). IsTrue c.all_fine.result ↔ All (IsFine env c.args.e os c.slots.result.now.points) (at_point k (tracked_in parts.keys))) old
    (subst (λ (ts : List (List ℕ)). IsTrue c.all_fine.result ↔ All (IsFine env c.args.e (triples_of c.deref.result.now) c.slots.result.now.points) ts) is c.all_fine.ensures))
