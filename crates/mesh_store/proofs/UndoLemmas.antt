-- One more mark.
use Rattle.std.proofs.Common.{◌≡◌, ℤ, List, [], ◌∷◌, ◌++◌, refl, sym, ◌∙◌, ap}
use Rattle.undo_record.specs.declared.mark.Mark.{Mark}
use Rattle.mesh_store.specs.Parts.{Parts}
use Rattle.mesh_store.specs.Sound.{IsSoundStore}
use Rattle.mesh_store.specs.Undoing.{undone, all_undone, CanUndo, CanUndoAll, LeaveSound, LeadsTo}

pub all_undone-push : (marks : List Mark) (x : Mark) (m : Parts) → all_undone (marks ++ x ∷ []) m ≡ all_undone marks (undone x m)
all_undone-push [] x m = refl
all_undone-push (y ∷ marks) x m = ap (undone y) (all_undone-push marks x m)

pub CanUndoAll-push : (marks : List Mark) (x : Mark) (m : Parts) → CanUndoAll marks (undone x m) → CanUndo x m → CanUndoAll (marks ++ x ∷ []) m
CanUndoAll-push [] x m rest here = (tt, here)
CanUndoAll-push (y ∷ marks) x m rest here = (CanUndoAll-push marks x m rest.0 here, rw (all_undone-push marks x m) rest.1)

pub LeaveSound-push : (side : ℤ) (marks : List Mark) (x : Mark) (m : Parts) → LeaveSound side marks (undone x m) → IsSoundStore side (undone x m) → LeaveSound side (marks ++ x ∷ []) m
LeaveSound-push side [] x m rest here = (tt, here)
LeaveSound-push side (y ∷ marks) x m rest here = (LeaveSound-push side marks x m rest.0 here, rw (all_undone-push marks x m) rest.1)

CanUndoAll-popped : (marks : List Mark) (x : Mark) (m : Parts) → CanUndoAll (marks ++ x ∷ []) m → CanUndoAll marks (undone x m) × CanUndo x m
CanUndoAll-popped [] x m all = (tt, all.1)
CanUndoAll-popped (y ∷ marks) x m all =
    let rest = CanUndoAll-popped marks x m all.0 in ((rest.0, rw (all_undone-push marks x m) at all.1), rest.1)

-- the parts after all undoing are sound
pub sound-undone : (side : ℤ) (marks : List Mark) (m : Parts) → IsSoundStore side m → LeaveSound side marks m → IsSoundStore side (all_undone marks m)
sound-undone side [] m sound all = sound
sound-undone side (x ∷ marks) m sound all = all.1

-- after the last mark is undone, the others lead to the same
pub popped : (target : Parts) (all marks : List Mark) (x : Mark) (m : Parts) → all ≡ marks ++ x ∷ [] → LeadsTo target all m → LeadsTo target marks (undone x m) × CanUndo x m
popped target all marks x m e leads =
    let parts = CanUndoAll-popped marks x m (rw e at leads.can) in
    (record { can = parts.0; gives = sym (all_undone-push marks x m) ∙ (rw e at leads.gives) }, parts.1)
