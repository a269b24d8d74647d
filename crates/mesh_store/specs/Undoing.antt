-- Undoing marks.
use Rattle.std.specs.Prelude.{◌≡◌, ℤ, ◌-◌, ◌<◌, Bool, true, false, Option, None, Some, List, [], ◌∷◌, length, take}
use Rattle.grid.specs.declared.shapes.Face.{Face}
use Rattle.undo_record.specs.declared.mark.Mark.{Mark}
use Rattle.undo_record.specs.declared.mark.Mark.TheVariants.{PointMade, TetMade, Killed, FaceNew, FaceIn, FaceOut}
use Rattle.tet_slots.specs.Slots.{with_live, slot_at, IsUnused}
use Rattle.tracked.specs.Keys.{state_of, put}
use Rattle.mesh_store.specs.Parts.{Parts}
use Rattle.mesh_store.specs.Sound.{IsSoundStore}

-- all but the last
abbrev pub front : {X : Type 0} → List X → List X
front xs = take (length xs - 1) xs

-- the parts before the change that a mark stands for
abbrev pub undone : Mark → Parts → Parts
undone PointMade m = record m { points = front m.points }
undone TetMade m = record m { slots = front m.slots }
undone (Killed s) m = record m { slots = with_live true s m.slots }
undone FaceNew m = record m { keys = front m.keys }
undone (FaceIn f) m = record m { keys = put f false m.keys }
undone (FaceOut f) m = record m { keys = put f true m.keys }

-- the parts have what the mark says was changed
abbrev pub CanUndo : Mark → Parts → Type 0
CanUndo PointMade m = (0 < length m.points) × IsUnused (length m.points - 1) m.slots
CanUndo TetMade m = 0 < length m.slots
CanUndo (Killed s) m = (s < length m.slots) × ((slot_at m.slots s).live ≡ false)
CanUndo FaceNew m = 0 < length m.keys
CanUndo (FaceIn f) m = state_of f m.keys ≡ Some true
CanUndo (FaceOut f) m = state_of f m.keys ≡ Some false

-- the parts before all the changes, which are undone last first
abbrev pub all_undone : List Mark → Parts → Parts
all_undone [] m = m
all_undone (x ∷ xs) m = undone x (all_undone xs m)

-- each mark can be undone in its turn
abbrev pub CanUndoAll : List Mark → Parts → Type 0
CanUndoAll [] m = Unit {0}
CanUndoAll (x ∷ xs) m = CanUndoAll xs m × CanUndo x (all_undone xs m)

-- undoing each mark in its turn leaves sound parts
abbrev pub LeaveSound : ℤ → List Mark → Parts → Type 0
LeaveSound side [] m = Unit {0}
LeaveSound side (x ∷ xs) m = LeaveSound side xs m × IsSoundStore side (undone x (all_undone xs m))

-- undoing the marks, last first, can be done and gives the target
pub record LeadsTo (target : Parts) (marks : List Mark) (m : Parts) : Type 0 where
  pub can : CanUndoAll marks m
  pub gives : all_undone marks m ≡ target

-- the marks of tracking a face that was so before
abbrev pub track_marks : Face → Option Bool → List Mark
track_marks f None = FaceNew ∷ []
track_marks f (Some true) = []
track_marks f (Some false) = FaceIn f ∷ []
