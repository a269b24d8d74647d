use Rattle.std.proofs.Common.{◌≡◌, ℕ, ◌<◌, ◌∙◌, ap, subst, length, List}
use Rattle.std.specs.List.{list_any}
use Rattle.grid.specs.Limits.{most_made}
use Rattle.grid.specs.Simplices.{same_triple}
use Rattle.tet_slots.specs.declared.slot.Slot.{Slot}
use Rattle.tracked.specs.Keys.{Keys}
use Rattle.mesh_store.specs.Changes.{slots_split, triple_pieces}
use Rattle.mesh_store.specs.Parts.{StoreView, tracked_in}
use Rattle.mesh_store.proofs.MeshLemmas.{beyond-points, beyond-slots}
use Rattle.mesh_store.proofs.store.Store.refine_open.Goals as goal
use Rattle.mesh_store.proofs.store.Store.refine_open.Goals.{After-make_points, In_ok-make_points}

first-is : (c : After-make_points) → c.points-first.result ≡ length c.args.self.now.parts.points
first-is c = c.points-first.ensures.count ∙ ap (λ (v : StoreView). length v.parts.points) c.self.view_is

slots-are : (c : In_ok-make_points) → slots_split c.args.cuts.now c.points-first.result c.make_points.new.self.parts.slots ≡ slots_split c.args.cuts.now (length c.args.self.now.parts.points) c.args.self.now.parts.slots
slots-are c =
    ap (λ (k : ℕ). slots_split c.args.cuts.now k c.make_points.new.self.parts.slots) (c.points-first.ensures.count ∙ ap (λ (v : StoreView). length v.parts.points) c.self.view_is)
    ∙ ap (λ (v : StoreView). slots_split c.args.cuts.now (length c.args.self.now.parts.points) v.parts.slots) c.in_ok-make_points.ensures.ok

pub returns-in_err-make_points-clause-full : goal.returns-in_err-make_points-clause-full
returns-in_err-make_points-clause-full c = λ is.
    let r = rw is at c.from_residual.ensures.1 in
    beyond-points c.args.cuts.now c.args.self.now.parts (c.in_err-make_points.ensures.full (cc r))

pub returns-in_err-split_touched-clause-full : goal.returns-in_err-split_touched-clause-full
returns-in_err-split_touched-clause-full c = λ is.
    let r = rw is at c.from_residual-in_err-split_touched.ensures.1 in
    beyond-slots c.args.cuts.now c.args.self.now.parts
    (subst (λ (ss : List Slot). most_made < length ss) (slots-are (goal.at.returns-in_err-split_touched-clause-full c).In_ok-make_points) (c.in_err-split_touched.ensures.full (cc r)))

pub returns-clause-ok : goal.returns-clause-ok
returns-clause-ok c =
    let made = c.in_ok-make_points.ensures.ok in
    let split = c.in_ok-split_touched.ensures.ok in
    record {
      points = split.points ∙ ap (λ (v : StoreView). v.parts.points) made;
      slots = split.slots ∙ slots-are (goal.at.returns-clause-ok c).In_ok-make_points;
      faces = λ t. split.faces t
          ∙ (ap (λ (k : ℕ). list_any (same_triple t) (triple_pieces c.args.cuts.now k (tracked_in c.make_points.new.self.parts.keys))) (first-is (goal.at.returns-clause-ok c).After-make_points)
          ∙ ap (λ (ks : Keys). list_any (same_triple t) (triple_pieces c.args.cuts.now (length c.args.self.now.parts.points) (tracked_in ks))) (ap (λ (v : StoreView). v.parts.keys) made));
    }
