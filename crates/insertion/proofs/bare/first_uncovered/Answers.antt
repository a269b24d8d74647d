use Rattle.std.proofs.Common.{◌≡◌, ◌∙◌, Bool, sym, ap, subst, All, length, ◌<◌, ℕ, MatchOption, List, filter}
use Rattle.grid.specs.declared.shapes.Face.{Face}
use Rattle.grid.specs.declared.shapes.Point.{Point}
use Rattle.grid.specs.Meshes.{IsTriple}
use Rattle.grid.specs.Views.{triples_of}
use Rattle.mesh_types.specs.Insertion.{NamesFirst}
use Rattle.mesh_store.specs.Parts.{mesh_in, tracked_in}
use Rattle.tracked.specs.Keys.{Keys}
use Rattle.insertion.specs.Bare.{IsBare, IsKept, is_fresh}
use Rattle.insertion.proofs.FreshFaces.{first-fresh}
use Rattle.insertion.proofs.Listed.{listed-low}
use Rattle.insertion.proofs.bare.first_uncovered.Goals as goal

pub fresh_faces-requires : goal.fresh_faces-requires
fresh_faces-requires c =
    let parts = c.args.store.now.parts in
    subst (λ (k : ℕ). All (λ (f : Face × Bool). IsTriple k f.0.0) c.tracked.result.now) (sym (c.points.ensures.count ∙ ap length c.slots-slots.ensures.points))
    (subst (λ (keys : Keys). All (λ (f : Face × Bool). IsTriple (length parts.points) f.0.0) keys) (sym c.tracked.ensures.keys) c.slots-slots.ensures.sound.triples_are)

pub first_bare-requires-clause-there : goal.first_bare-requires-clause-there
first_bare-requires-clause-there c =
    let parts = c.args.store.now.parts in
    let is : triples_of c.deref.result.now ≡ filter (is_fresh c.args.first) (tracked_in parts.keys) =
    ap triples_of c.deref.ensures.value ∙ (c.in_ok-faces.ensures ∙ ap (λ (keys : Keys). filter (is_fresh c.args.first) (tracked_in keys)) c.tracked.ensures.keys) in
    subst (λ (points : List Point). All (λ (f : Face). All (λ u. u < length points) f.0) c.deref.result.now) (sym c.slots-slots.ensures.points)
    (listed-low (length parts.points) (is_fresh c.args.first) parts.keys c.deref.result.now is c.slots-slots.ensures.sound.triples_are)

pub returns : goal.returns
returns c =
    let parts = c.args.store.now.parts in
    let env = c.args.env.now in
    let is : triples_of c.deref.result.now ≡ filter (is_fresh c.args.first) (tracked_in parts.keys) =
    ap triples_of c.deref.ensures.value ∙ (c.in_ok-faces.ensures ∙ ap (λ (keys : Keys). filter (is_fresh c.args.first) (tracked_in keys)) c.tracked.ensures.keys) in
    subst (λ (points : List Point). MatchOption c.first_bare.result (All (IsKept points env c.args.e c.args.first) (mesh_in parts).tracked) (NamesFirst points (IsBare points env c.args.e c.args.first) (mesh_in parts).tracked)) c.slots-slots.ensures.points
    (first-fresh c.slots-slots.result.now.points env c.args.e c.args.first (mesh_in parts).tracked c.first_bare.result
    (subst (λ fs. MatchOption c.first_bare.result (All (IsKept c.slots-slots.result.now.points env c.args.e c.args.first) fs) (NamesFirst c.slots-slots.result.now.points (IsBare c.slots-slots.result.now.points env c.args.e c.args.first) fs)) is c.first_bare.ensures))
