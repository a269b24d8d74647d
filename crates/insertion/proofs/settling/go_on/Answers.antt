use Rattle.std.proofs.Common.{◌≡◌, ◌∙◌, sym, ap, subst, length, Err, All, IfOk, OnErr, arith}
use Rattle.grid.specs.Envelopes.{triangle_at}
use Rattle.grid.specs.Meshes.{IsWithinLimits, Tiles}
use Rattle.mesh_types.specs.Insertion.{IsInsertion}
use Rattle.mesh_types.specs.Phases.{cut_by}
use Rattle.mesh_store.specs.Parts.{Parts, StoreView, mesh_in}
use Rattle.cutting_rule.specs.Until.{until}
use Rattle.cutting_rule.proofs.ForCallers.{full-first}
use Rattle.insertion.specs.Bare.{IsCovered}
use Rattle.insertion.specs.Progress.{start_of, closed, IsOpenFrom}
use Rattle.insertion.proofs.Starting.{start-is, cut-from}
use Rattle.insertion.proofs.settling.go_on.Goals as goal

pub settle-requires-clause-cut : goal.settle-requires-clause-cut
settle-requires-clause-cut c =
    let v = c.args.store.now in
    let h = c.requires.cut in
    let m = mesh_in (start_of v) in
    let cut : mesh_in v.parts ≡ until m c.args.triangle.now 1 = h.mesh ∙ ap (λ t. until m t 1) (sym c.requires.is) in
    let opened : IsOpenFrom (start_of v) v.side c.cut_among.new.store = c.in-Ok.ensures.goes_on (start_of v) v.side h.open_from in
    let mesh = c.in-Ok.ensures.mesh m cut ∙ ap (λ t. until m t 4) c.requires.is in
    cut-from 4 (start_of v) v.side c.cut_among.new.store (triangle_at c.args.env.now c.args.t) h.sound h.positive opened c.in-Ok.ensures.sound mesh c.in-Ok.ensures.within h.some_area h.tri_in

pub settle-requires-clause-points : goal.settle-requires-clause-points
settle-requires-clause-points c =
    let v = c.args.store.now in
    let opened : IsOpenFrom (start_of v) v.side c.cut_among.new.store = c.in-Ok.ensures.goes_on (start_of v) v.side c.requires.cut.open_from in
    c.requires.points ∙ ap (λ (p : Parts). length p.points) (sym (start-is (start_of v) v.side c.cut_among.new.store opened))

pub settle-requires-clause-made : goal.settle-requires-clause-made
settle-requires-clause-made c =
    let v = c.args.store.now in
    let opened : IsOpenFrom (start_of v) v.side c.cut_among.new.store = c.in-Ok.ensures.goes_on (start_of v) v.side c.requires.cut.open_from in
    c.requires.made ∙ ap (λ (p : Parts). length p.slots) (sym (start-is (start_of v) v.side c.cut_among.new.store opened))

pub settle-requires-clause-counted : goal.settle-requires-clause-counted
settle-requires-clause-counted c =
    let v = c.args.store.now in
    let opened : IsOpenFrom (start_of v) v.side c.cut_among.new.store = c.in-Ok.ensures.goes_on (start_of v) v.side c.requires.cut.open_from in
    let same : length (start_of c.cut_among.new.store).points ≡ length (start_of v).points = ap (λ (p : Parts). length p.points) (start-is (start_of v) v.side c.cut_among.new.store opened) in
    omega (arith, same, c.requires.counted, c.in-Ok.ensures.count)

pub returns-in-Ok-clause-side : goal.returns-in-Ok-clause-side
returns-in-Ok-clause-side c =
    let v = c.args.store.now in
    let opened : IsOpenFrom (start_of v) v.side c.cut_among.new.store = c.in-Ok.ensures.goes_on (start_of v) v.side c.requires.cut.open_from in
    c.settle.ensures.side ∙ opened.side_is

pub returns-in-Ok-clause-outcome : goal.returns-in-Ok-clause-outcome
returns-in-Ok-clause-outcome c =
    let v = c.args.store.now in
    let opened : IsOpenFrom (start_of v) v.side c.cut_among.new.store = c.in-Ok.ensures.goes_on (start_of v) v.side c.requires.cut.open_from in
    let s = start-is (start_of v) v.side c.cut_among.new.store opened in
    subst (λ (p : Parts). IfOk c.settle.result (λ o. IsInsertion c.args.env.now c.args.t c.args.e (mesh_in p) o (mesh_in c.settle.new.store.parts))) s c.settle.ensures.outcome

pub returns-in-Ok-clause-memory : goal.returns-in-Ok-clause-memory
returns-in-Ok-clause-memory c =
    let v = c.args.store.now in
    let opened : IsOpenFrom (start_of v) v.side c.cut_among.new.store = c.in-Ok.ensures.goes_on (start_of v) v.side c.requires.cut.open_from in
    let s = start-is (start_of v) v.side c.cut_among.new.store opened in
    let target : closed (start_of c.cut_among.new.store) c.cut_among.new.store.side ≡ closed (start_of v) v.side = λ j. closed (s j) (opened.side_is j) in
    subst (λ (w : StoreView). OnErr c.settle.result (c.settle.new.store ≡ w)) target c.settle.ensures.memory

pub returns-in-Ok-clause-tiles : goal.returns-in-Ok-clause-tiles
returns-in-Ok-clause-tiles c =
    let v = c.args.store.now in
    let opened : IsOpenFrom (start_of v) v.side c.cut_among.new.store = c.in-Ok.ensures.goes_on (start_of v) v.side c.requires.cut.open_from in
    let s = start-is (start_of v) v.side c.cut_among.new.store opened in
    λ l h. c.settle.ensures.tiles l (subst (λ (p : Parts). Tiles (mesh_in p) l) (sym s) h)

pub returns-in-Ok-clause-covered : goal.returns-in-Ok-clause-covered
returns-in-Ok-clause-covered c =
    let v = c.args.store.now in
    let opened : IsOpenFrom (start_of v) v.side c.cut_among.new.store = c.in-Ok.ensures.goes_on (start_of v) v.side c.requires.cut.open_from in
    let s = start-is (start_of v) v.side c.cut_among.new.store opened in
    λ h. c.settle.ensures.covered (subst (λ (p : Parts). All (IsCovered c.args.env.now c.args.e p.points) (mesh_in p).tracked) (sym s) h)

pub returns-in-Err-Full-clause-closed : goal.returns-in-Err-Full-clause-closed
returns-in-Err-Full-clause-closed c =
    let v = c.args.store.now in
    let back : c.cut_among.new.store ≡ closed (start_of v) v.side = c.in-Err-Full.ensures.err (start_of v) v.side c.requires.cut.open_from in
    ap (λ (w : StoreView). w.at_begin) back

pub returns-in-Err-Full-clause-side : goal.returns-in-Err-Full-clause-side
returns-in-Err-Full-clause-side c =
    let v = c.args.store.now in
    let back : c.cut_among.new.store ≡ closed (start_of v) v.side = c.in-Err-Full.ensures.err (start_of v) v.side c.requires.cut.open_from in
    ap (λ (w : StoreView). w.side) back

pub returns-in-Err-Full-clause-outcome : goal.returns-in-Err-Full-clause-outcome
returns-in-Err-Full-clause-outcome c =
    let v = c.args.store.now in
    let h = c.requires.cut in
    let m = mesh_in (start_of v) in
    let t = triangle_at c.args.env.now c.args.t in
    let cut : mesh_in v.parts ≡ until m c.args.triangle.now 1 = h.mesh ∙ ap (λ t. until m t 1) (sym c.requires.is) in
    let back : c.cut_among.new.store ≡ closed (start_of v) v.side = c.in-Err-Full.ensures.err (start_of v) v.side h.open_from in
    let beyond : ¬ IsWithinLimits (cut_by m t) = subst (λ t. ¬ IsWithinLimits (cut_by m t)) c.requires.is (c.in-Err-Full.ensures.full m cut (ap Err c.in-Err-Full.field-0-is)) in
    (full-first c.args.env.now c.args.t c.args.e m (cut_by m t) h.some_area beyond, ap (λ (w : StoreView). mesh_in w.parts) back)

pub returns-in-Err-Full-clause-tiles : goal.returns-in-Err-Full-clause-tiles
returns-in-Err-Full-clause-tiles c =
    let v = c.args.store.now in
    let back : c.cut_among.new.store ≡ closed (start_of v) v.side = c.in-Err-Full.ensures.err (start_of v) v.side c.requires.cut.open_from in
    λ l h. subst (λ (w : StoreView). Tiles (mesh_in w.parts) l) (sym back) h

pub returns-in-Err-Full-clause-covered : goal.returns-in-Err-Full-clause-covered
returns-in-Err-Full-clause-covered c =
    let v = c.args.store.now in
    let back : c.cut_among.new.store ≡ closed (start_of v) v.side = c.in-Err-Full.ensures.err (start_of v) v.side c.requires.cut.open_from in
    λ h. subst (λ (w : StoreView). All (IsCovered c.args.env.now c.args.e w.parts.points) (mesh_in w.parts).tracked) (sym back) h

pub returns-in-Err-Memory-clause-closed : goal.returns-in-Err-Memory-clause-closed
returns-in-Err-Memory-clause-closed c =
    let v = c.args.store.now in
    let back : c.cut_among.new.store ≡ closed (start_of v) v.side = c.in-Err-Memory.ensures.err (start_of v) v.side c.requires.cut.open_from in
    ap (λ (w : StoreView). w.at_begin) back

pub returns-in-Err-Memory-clause-side : goal.returns-in-Err-Memory-clause-side
returns-in-Err-Memory-clause-side c =
    let v = c.args.store.now in
    let back : c.cut_among.new.store ≡ closed (start_of v) v.side = c.in-Err-Memory.ensures.err (start_of v) v.side c.requires.cut.open_from in
    ap (λ (w : StoreView). w.side) back

pub returns-in-Err-Memory-clause-memory : goal.returns-in-Err-Memory-clause-memory
returns-in-Err-Memory-clause-memory c =
    let v = c.args.store.now in
    c.in-Err-Memory.ensures.err (start_of v) v.side c.requires.cut.open_from
