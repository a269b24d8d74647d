use Rattle.std.proofs.Common.{◌≡◌, ◌<◌, sym, subst, All, List, ℕ, true}
use Rattle.grid.specs.declared.shapes.Point.{Point}
use Rattle.grid.specs.Determinants.{IsPositive}
use Rattle.mesh_store.specs.Parts.{live_tets}
use Rattle.tet_slots.specs.declared.slot.Slot.{Slot}
use Rattle.tet_slots.specs.Slots.{slot_at}
use Rattle.insertion.specs.Progress.{start_of}
use Rattle.insertion.proofs.Old.{old-positive}
use Rattle.insertion.proofs.judging.judge.Goals as goal

pub first_inverted-requires-clause-positive : goal.first_inverted-requires-clause-positive
first_inverted-requires-clause-positive c =
    let v = c.args.store.now in
    let main : (j : ℕ) → j < c.args.before.made → (slot_at v.parts.slots j).live ≡ true → IsPositive v.parts.points (slot_at v.parts.slots j).tet.0 =
    λ j lt live. old-positive (start_of v) v.parts c.requires.cut.open_from.grown c.requires.cut.sound.tets_are c.requires.cut.positive j (subst (λ n. j < n) c.requires.made lt) live in
    subst (λ (ss : List Slot). (j : ℕ) → j < c.args.before.made → (slot_at ss j).live ≡ true → IsPositive c.slots.result.now.points (slot_at ss j).tet.0) (sym c.slots.ensures.slots)
    (subst (λ (ps : List Point). (j : ℕ) → j < c.args.before.made → (slot_at v.parts.slots j).live ≡ true → IsPositive ps (slot_at v.parts.slots j).tet.0) (sym c.slots.ensures.points) main)

pub judge_positive-requires-clause-positive : goal.judge_positive-requires-clause-positive
judge_positive-requires-clause-positive c =
    subst (λ (ps : List Point). All (IsPositive ps) (live_tets c.args.store.now.parts.slots)) c.slots.ensures.points
    (subst (λ (ss : List Slot). All (IsPositive c.slots.result.now.points) (live_tets ss)) c.slots.ensures.slots c.in-None.ensures)
