use Rattle.std.proofs.Common.{◌≡◌, ◌∙◌, ◌+◌, sym, ap, subst, rules, length, Err, All, IfOk, OnErr}
use Rattle.grid.specs.Meshes.{IsWithinLimits, Tiles}
use Rattle.grid.specs.Planes.{IsDegenerate}
use Rattle.grid.specs.Envelopes.{triangle_at}
use Rattle.mesh_types.specs.Insertion.{IsInsertion}
use Rattle.mesh_types.specs.Phases.{cut_by}
use Rattle.mesh_store.specs.Parts.{Parts, StoreView, mesh_in}
use Rattle.insertion.specs.Bare.{IsCovered}
use Rattle.insertion.specs.Progress.{start_of, closed, IsOpenFrom, IsCutUntil}
use Rattle.cutting_rule.specs.Until.{until}
use Rattle.cutting_rule.proofs.ForCallers.{full-first, inverted-first}
use Rattle.insertion.specs.Lasting.{EndsInverted}
use Rattle.insertion.proofs.Starting.{begun-open, start-is, closed-old, back-to, cut-from}
use Rattle.insertion.proofs.inserting.insert.Goals as goal

pub go_on-requires-clause-cut : goal.go_on-requires-clause-cut
go_on-requires-clause-cut c =
    let old = c.args.store.now in
    let tri = c.triangle-tri.result in
    let area : ¬ IsDegenerate tri = search rules in
    let opened : IsOpenFrom old.parts old.side c.cut_first.new.store = c.in-Ok-cut_first.ensures.goes_on old.parts old.side (begun-open old c.begin.new.self c.begin.ensures) in
    let mesh : mesh_in c.cut_first.new.store.parts ≡ until (mesh_in old.parts) tri 1 =
    c.in-Ok-cut_first.ensures.mesh ∙ (λ j. until (mesh_in (c.begin.ensures j).parts) (c.new-triangle.ensures j) 1) in
    subst (λ t. IsCutUntil t 1 c.cut_first.new.store) c.triangle-tri.ensures.value
    (cut-from 1 old.parts old.side c.cut_first.new.store tri c.slots.ensures.sound c.requires.positive opened c.in-Ok-cut_first.ensures.sound mesh c.in-Ok-cut_first.ensures.within area c.triangle-tri.ensures.within)

pub go_on-requires-clause-points : goal.go_on-requires-clause-points
go_on-requires-clause-points c =
    let old = c.args.store.now in
    let opened : IsOpenFrom old.parts old.side c.cut_first.new.store = c.in-Ok-cut_first.ensures.goes_on old.parts old.side (begun-open old c.begin.new.self c.begin.ensures) in
    let s : start_of c.cut_first.new.store ≡ old.parts = start-is old.parts old.side c.cut_first.new.store opened in
    c.points.ensures.count ∙ (ap length c.slots.ensures.points ∙ ap (λ (p : Parts). length p.points) (sym s))

pub go_on-requires-clause-made : goal.go_on-requires-clause-made
go_on-requires-clause-made c =
    let old = c.args.store.now in
    let opened : IsOpenFrom old.parts old.side c.cut_first.new.store = c.in-Ok-cut_first.ensures.goes_on old.parts old.side (begun-open old c.begin.new.self c.begin.ensures) in
    let s : start_of c.cut_first.new.store ≡ old.parts = start-is old.parts old.side c.cut_first.new.store opened in
    c.made.ensures.count ∙ (ap length c.slots-2.ensures.slots ∙ ap (λ (p : Parts). length p.slots) (sym s))

pub go_on-requires-clause-counted : goal.go_on-requires-clause-counted
go_on-requires-clause-counted c =
    let old = c.args.store.now in
    let opened : IsOpenFrom old.parts old.side c.cut_first.new.store = c.in-Ok-cut_first.ensures.goes_on old.parts old.side (begun-open old c.begin.new.self c.begin.ensures) in
    let s : start_of c.cut_first.new.store ≡ old.parts = start-is old.parts old.side c.cut_first.new.store opened in
    ap (λ (p : Parts). length p.points + c.in-Ok-cut_first.cuts.points) (s ∙ sym (ap (λ (v : StoreView). v.parts) c.begin.ensures)) ∙ c.in-Ok-cut_first.ensures.count

pub returns-in-Ok-cut_first-clause-side : goal.returns-in-Ok-cut_first-clause-side
returns-in-Ok-cut_first-clause-side c =
    let old = c.args.store.now in
    let opened : IsOpenFrom old.parts old.side c.cut_first.new.store = c.in-Ok-cut_first.ensures.goes_on old.parts old.side (begun-open old c.begin.new.self c.begin.ensures) in
    let s : start_of c.cut_first.new.store ≡ old.parts = start-is old.parts old.side c.cut_first.new.store opened in
    c.go_on.ensures.side ∙ opened.side_is

pub returns-in-Ok-cut_first-clause-outcome : goal.returns-in-Ok-cut_first-clause-outcome
returns-in-Ok-cut_first-clause-outcome c =
    let old = c.args.store.now in
    let opened : IsOpenFrom old.parts old.side c.cut_first.new.store = c.in-Ok-cut_first.ensures.goes_on old.parts old.side (begun-open old c.begin.new.self c.begin.ensures) in
    let s : start_of c.cut_first.new.store ≡ old.parts = start-is old.parts old.side c.cut_first.new.store opened in
    subst (λ (p : Parts). IfOk c.go_on.result (λ o. IsInsertion c.args.env.now c.args.t c.args.e (mesh_in p) o (mesh_in c.go_on.new.store.parts))) s c.go_on.ensures.outcome

pub returns-in-Ok-cut_first-clause-memory : goal.returns-in-Ok-cut_first-clause-memory
returns-in-Ok-cut_first-clause-memory c =
    let old = c.args.store.now in
    let opened : IsOpenFrom old.parts old.side c.cut_first.new.store = c.in-Ok-cut_first.ensures.goes_on old.parts old.side (begun-open old c.begin.new.self c.begin.ensures) in
    let s : start_of c.cut_first.new.store ≡ old.parts = start-is old.parts old.side c.cut_first.new.store opened in
    let target : closed (start_of c.cut_first.new.store) c.cut_first.new.store.side ≡ old = (λ j. closed (s j) (opened.side_is j)) ∙ closed-old old c.requires.closed in
    subst (λ (v : StoreView). OnErr c.go_on.result (c.go_on.new.store ≡ v)) target c.go_on.ensures.memory

pub returns-in-Err-Full-clause-closed : goal.returns-in-Err-Full-clause-closed
returns-in-Err-Full-clause-closed c =
    let old = c.args.store.now in
    let back : c.cut_first.new.store ≡ closed old.parts old.side = c.in-Err-Full.ensures.err old.parts old.side (begun-open old c.begin.new.self c.begin.ensures) in
    ap (λ (v : StoreView). v.at_begin) back

pub returns-in-Err-Full-clause-side : goal.returns-in-Err-Full-clause-side
returns-in-Err-Full-clause-side c =
    let old = c.args.store.now in
    let back : c.cut_first.new.store ≡ closed old.parts old.side = c.in-Err-Full.ensures.err old.parts old.side (begun-open old c.begin.new.self c.begin.ensures) in
    ap (λ (v : StoreView). v.side) back

pub returns-in-Err-Full-clause-outcome : goal.returns-in-Err-Full-clause-outcome
returns-in-Err-Full-clause-outcome c =
    let old = c.args.store.now in
    let back : c.cut_first.new.store ≡ closed old.parts old.side = c.in-Err-Full.ensures.err old.parts old.side (begun-open old c.begin.new.self c.begin.ensures) in
    let m = mesh_in old.parts in
    let tri = c.triangle-tri.result in
    let area : ¬ IsDegenerate tri = search rules in
    let over : ¬ IsWithinLimits (cut_by (mesh_in c.begin.new.self.parts) tri) = subst (λ t. ¬ IsWithinLimits (cut_by (mesh_in c.begin.new.self.parts) t)) c.new-triangle.ensures (c.in-Err-Full.ensures.full (ap Err c.in-Err-Full.field-0-is)) in
    let beyond : ¬ IsWithinLimits (cut_by m (triangle_at c.args.env.now c.args.t)) =
    subst (λ t. ¬ IsWithinLimits (cut_by m t)) c.triangle-tri.ensures.value (subst (λ (v : StoreView). ¬ IsWithinLimits (cut_by (mesh_in v.parts) tri)) c.begin.ensures over) in (
      full-first c.args.env.now c.args.t c.args.e m (cut_by m (triangle_at c.args.env.now c.args.t)) (subst (λ t. ¬ IsDegenerate t) c.triangle-tri.ensures.value area) beyond,
      ap (λ (v : StoreView). mesh_in v.parts) back,
    )

pub returns-in-Err-Memory-clause-closed : goal.returns-in-Err-Memory-clause-closed
returns-in-Err-Memory-clause-closed c =
    let old = c.args.store.now in
    let back : c.cut_first.new.store ≡ closed old.parts old.side = c.in-Err-Memory.ensures.err old.parts old.side (begun-open old c.begin.new.self c.begin.ensures) in
    ap (λ (v : StoreView). v.at_begin) back

pub returns-in-Err-Memory-clause-side : goal.returns-in-Err-Memory-clause-side
returns-in-Err-Memory-clause-side c =
    let old = c.args.store.now in
    let back : c.cut_first.new.store ≡ closed old.parts old.side = c.in-Err-Memory.ensures.err old.parts old.side (begun-open old c.begin.new.self c.begin.ensures) in
    ap (λ (v : StoreView). v.side) back

pub returns-in-Err-Memory-clause-memory : goal.returns-in-Err-Memory-clause-memory
returns-in-Err-Memory-clause-memory c =
    let old = c.args.store.now in
    let back : c.cut_first.new.store ≡ closed old.parts old.side = c.in-Err-Memory.ensures.err old.parts old.side (begun-open old c.begin.new.self c.begin.ensures) in
    back ∙ closed-old old c.requires.closed

pub returns-in-Ok-cut_first-clause-tiles : goal.returns-in-Ok-cut_first-clause-tiles
returns-in-Ok-cut_first-clause-tiles c =
    let old = c.args.store.now in
    let opened : IsOpenFrom old.parts old.side c.cut_first.new.store = c.in-Ok-cut_first.ensures.goes_on old.parts old.side (begun-open old c.begin.new.self c.begin.ensures) in
    let s : start_of c.cut_first.new.store ≡ old.parts = start-is old.parts old.side c.cut_first.new.store opened in
    λ l h. c.go_on.ensures.tiles l (subst (λ (p : Parts). Tiles (mesh_in p) l) (sym s) h)

pub returns-in-Err-Full-clause-tiles : goal.returns-in-Err-Full-clause-tiles
returns-in-Err-Full-clause-tiles c =
    let old = c.args.store.now in
    let back : c.cut_first.new.store ≡ closed old.parts old.side = c.in-Err-Full.ensures.err old.parts old.side (begun-open old c.begin.new.self c.begin.ensures) in
    λ l h. subst (λ (v : StoreView). Tiles (mesh_in v.parts) l) (sym back) h

pub returns-in-Ok-cut_first-clause-covered : goal.returns-in-Ok-cut_first-clause-covered
returns-in-Ok-cut_first-clause-covered c =
    let old = c.args.store.now in
    let opened : IsOpenFrom old.parts old.side c.cut_first.new.store = c.in-Ok-cut_first.ensures.goes_on old.parts old.side (begun-open old c.begin.new.self c.begin.ensures) in
    let s : start_of c.cut_first.new.store ≡ old.parts = start-is old.parts old.side c.cut_first.new.store opened in
    λ h. c.go_on.ensures.covered (subst (λ (p : Parts). All (IsCovered c.args.env.now c.args.e p.points) (mesh_in p).tracked) (sym s) h)

pub returns-in-Err-Full-clause-covered : goal.returns-in-Err-Full-clause-covered
returns-in-Err-Full-clause-covered c =
    let old = c.args.store.now in
    let back : c.cut_first.new.store ≡ closed old.parts old.side = c.in-Err-Full.ensures.err old.parts old.side (begun-open old c.begin.new.self c.begin.ensures) in
    λ h. subst (λ (v : StoreView). All (IsCovered c.args.env.now c.args.e v.parts.points) (mesh_in v.parts).tracked) (sym back) h

pub returns-then-is_none-clause-covered : goal.returns-then-is_none-clause-covered
returns-then-is_none-clause-covered c = λ h. h

pub returns-in-Some-clause-outcome : goal.returns-in-Some-clause-outcome
returns-in-Some-clause-outcome c =
    let old = c.args.store.now in
    let back : c.rollback-in-Some.new.self ≡ old = back-to old c.begin.new.self c.rollback-in-Some.new.self c.requires.closed c.begin.ensures c.rollback-in-Some.ensures in
    let m = mesh_in old.parts in
    let tri = c.triangle-tri.result in
    let t = triangle_at c.args.env.now c.args.t in
    let area : ¬ IsDegenerate tri = search rules in
    let begun : EndsInverted m c.new-triangle.result c.in-Some.corners = subst (λ (v : StoreView). EndsInverted (mesh_in v.parts) c.new-triangle.result c.in-Some.corners) c.begin.ensures c.in-Some.ensures in
    let ends : EndsInverted m t c.in-Some.corners = subst (λ t. EndsInverted m t c.in-Some.corners) (c.new-triangle.ensures ∙ c.triangle-tri.ensures.value) begun in (
      inverted-first c.args.env.now c.args.t c.args.e m (cut_by m t) (subst (λ t. ¬ IsDegenerate t) c.triangle-tri.ensures.value area) ends.within c.in-Some.corners ends.inverted,
      ap (λ (v : StoreView). mesh_in v.parts) back,
    )

pub returns-in-Some-clause-covered : goal.returns-in-Some-clause-covered
returns-in-Some-clause-covered c =
    let old = c.args.store.now in
    let back : c.rollback-in-Some.new.self ≡ old = back-to old c.begin.new.self c.rollback-in-Some.new.self c.requires.closed c.begin.ensures c.rollback-in-Some.ensures in
    λ h. subst (λ (v : StoreView). All (IsCovered c.args.env.now c.args.e v.parts.points) (mesh_in v.parts).tracked) (sym back) h
