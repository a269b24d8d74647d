use Rattle.std.proofs.Common.{◌≡◌, ◌∙◌, ◌<◌, List, [], ◌∷◌, All, length, nat_abs, ap, sym, subst}
use Rattle.std.proofs.lemmas.List.Elements.{All-from_recursion}
use Rattle.grid.specs.declared.shapes.Point.{Point}
use Rattle.grid.specs.Boxes.{IsInBox}
use Rattle.grid.specs.Determinants.{point_at}
use Rattle.mesh_types.specs.declared.cut.Cut.{Cut}
use Rattle.mesh_types.specs.CutLists.{AreCuts, IsCutBelow}
use Rattle.mesh_types.specs.Results.{midpoint_floored}
use Rattle.mesh_types.proofs.ForCallers.{split_is}
use Rattle.mesh_store.specs.Parts.{StoreView, mesh_in}
use Rattle.mesh_store.proofs.ForCallers.{well_formed}
use Rattle.local_ops.proofs.Changed.{split-changed, split-full}
use Rattle.local_ops.proofs.Ends.{split_ends}
use Rattle.local_ops.proofs.NewPoints.{middle-in}
use Rattle.local_ops.proofs.changing.split.Goals as goal

pub point-requires : goal.point-requires
point-requires c =
    let v = c.args.store.now in
    subst (λ (ps : List Point). c.args.u < length ps) (sym c.slots.ensures.points) (split_ends (mesh_in v.parts) c.args.u c.args.v (well_formed v.side v.parts c.requires.sound) c.requires.candidate).0

pub point-requires-2 : goal.point-requires-2
point-requires-2 c =
    let v = c.args.store.now in
    subst (λ (ps : List Point). c.args.v < length ps) (sym c.slots-2.ensures.points) (split_ends (mesh_in v.parts) c.args.u c.args.v (well_formed v.side v.parts c.requires.sound) c.requires.candidate).1

pub refine-requires-clause-cuts : goal.refine-requires-clause-cuts
refine-requires-clause-cuts c =
    let v = c.args.store.now in
    let cut : Cut = record { u = c.args.u; v = c.args.v; at = c.midpoint-at.result } in
    subst (λ (s : StoreView). AreCuts (length s.parts.points) (cut ∷ [])) (sym c.begin.ensures) (record {
      each = All-from_recursion (IsCutBelow (length v.parts.points)) (cut ∷ []) (record { ends_rise = (split_is (mesh_in v.parts).tets c.args.u c.args.v c.requires.candidate).0; in_range = (split_ends (mesh_in v.parts) c.args.u c.args.v (well_formed v.side v.parts c.requires.sound) c.requires.candidate).1 }, tt);
      ordered = (tt, tt);
    })

pub refine-requires-clause-in_box : goal.refine-requires-clause-in_box
refine-requires-clause-in_box c =
    let v = c.args.store.now in
    let cut : Cut = record { u = c.args.u; v = c.args.v; at = c.midpoint-at.result } in
    let p : c.point.result ≡ point_at v.parts.points c.args.u = c.point.ensures ∙ ap (λ (ps : List Point). point_at ps c.args.u) c.slots.ensures.points in
    let q : c.point-2.result ≡ point_at v.parts.points c.args.v = c.point-2.ensures ∙ ap (λ (ps : List Point). point_at ps c.args.v) c.slots-2.ensures.points in
    let at : c.midpoint-at.result ≡ midpoint_floored (point_at v.parts.points c.args.u) (point_at v.parts.points c.args.v) = c.midpoint-at.ensures ∙ (λ i. midpoint_floored (p i) (q i)) in
    subst (λ (s : StoreView). All (λ (e : Cut). IsInBox (nat_abs s.side) e.at) (cut ∷ [])) (sym c.begin.ensures)
    (All-from_recursion (λ (e : Cut). IsInBox (nat_abs v.side) e.at) (cut ∷ []) (subst (IsInBox (nat_abs v.side)) (sym at) (middle-in (nat_abs v.side) (mesh_in v.parts) c.requires.sound.in_box c.args.u c.args.v), tt))

pub returns-clause-ok : goal.returns-clause-ok
returns-clause-ok c =
    let v = c.args.store.now in
    let p : c.point.result ≡ point_at v.parts.points c.args.u = c.point.ensures ∙ ap (λ (ps : List Point). point_at ps c.args.u) c.slots.ensures.points in
    let q : c.point-2.result ≡ point_at v.parts.points c.args.v = c.point-2.ensures ∙ ap (λ (ps : List Point). point_at ps c.args.v) c.slots-2.ensures.points in
    let at : c.midpoint-at.result ≡ midpoint_floored (point_at v.parts.points c.args.u) (point_at v.parts.points c.args.v) = c.midpoint-at.ensures ∙ (λ i. midpoint_floored (p i) (q i)) in
    split-changed v c.begin.new.self c.refine.new.self c.args.u c.args.v c.midpoint-at.result c.refine.result c.begin.ensures at c.refine.ensures.mesh c.refine.ensures.grown c.refine.ensures.goes_on c.refine.ensures.added c.refine.ensures.within

pub returns-clause-full : goal.returns-clause-full
returns-clause-full c =
    let v = c.args.store.now in
    let p : c.point.result ≡ point_at v.parts.points c.args.u = c.point.ensures ∙ ap (λ (ps : List Point). point_at ps c.args.u) c.slots.ensures.points in
    let q : c.point-2.result ≡ point_at v.parts.points c.args.v = c.point-2.ensures ∙ ap (λ (ps : List Point). point_at ps c.args.v) c.slots-2.ensures.points in
    let at : c.midpoint-at.result ≡ midpoint_floored (point_at v.parts.points c.args.u) (point_at v.parts.points c.args.v) = c.midpoint-at.ensures ∙ (λ i. midpoint_floored (p i) (q i)) in
    λ e. split-full v c.begin.new.self c.args.u c.args.v c.midpoint-at.result c.begin.ensures at (c.refine.ensures.full e)
