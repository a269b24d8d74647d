-- The slots that marks say were killed: the end of a transaction forgets them.
use Rattle.std.specs.Prelude.{◌≡◌, ℕ, ◌+◌, ◌-◌, ◌<◌, ◌≤◌, true, false, nat_eq, if◌then◌else◌, List, [], ◌∷◌, length, take, slice_set}
use Rattle.undo_record.specs.declared.mark.Mark.{Mark}
use Rattle.undo_record.specs.declared.mark.Mark.TheVariants.{PointMade, TetMade, Killed, FaceNew, FaceIn, FaceOut}
use Rattle.tet_slots.specs.Slots.{SlotLists, is_forgotten, slot_at, with_live}
use Rattle.mesh_store.specs.Undoing.{front}

-- how often marks say that the slot was killed
abbrev pub kill_of : ℕ → Mark → ℕ
kill_of i PointMade = 0
kill_of i TetMade = 0
kill_of i (Killed s) = if nat_eq s i then 1 else 0
kill_of i FaceNew = 0
kill_of i (FaceIn f) = 0
kill_of i (FaceOut f) = 0

abbrev pub kills : ℕ → List Mark → ℕ
kills i [] = 0
kills i (m ∷ ms) = kill_of i m + kills i ms

-- the points and slots before the change that a mark stands for
abbrev pub slots_undone : Mark → SlotLists → SlotLists
slots_undone PointMade s = record s { points = front s.points }
slots_undone TetMade s = record s { slots = front s.slots; forgotten = take (length s.slots - 1) s.forgotten }
slots_undone (Killed i) s = record s { slots = with_live true i s.slots }
slots_undone FaceNew s = s
slots_undone (FaceIn f) s = s
slots_undone (FaceOut f) s = s

-- the slots after the slot that a mark says was killed is forgotten
abbrev pub slots_forgotten : Mark → SlotLists → SlotLists
slots_forgotten PointMade s = s
slots_forgotten TetMade s = s
slots_forgotten (Killed i) s = record s { forgotten = slice_set s.forgotten i true }
slots_forgotten FaceNew s = s
slots_forgotten (FaceIn f) s = s
slots_forgotten (FaceOut f) s = s

-- the slot that a mark says was killed is there, dead and not forgotten
abbrev pub IsForgettable : Mark → SlotLists → Type 0
IsForgettable PointMade s = Unit {0}
IsForgettable TetMade s = Unit {0}
IsForgettable (Killed i) s = (i < length s.slots) × ((slot_at s.slots i).live ≡ false) × (is_forgotten s.forgotten i ≡ false)
IsForgettable FaceNew s = Unit {0}
IsForgettable (FaceIn f) s = Unit {0}
IsForgettable (FaceOut f) s = Unit {0}

-- no slot that marks say was killed is forgotten
pub record CanRevive (marks : List Mark) (s : SlotLists) : Type 0 where
  pub one_each : length s.forgotten ≡ length s.slots
  pub known : (i : ℕ) → 0 < kills i marks → i < length s.slots → is_forgotten s.forgotten i ≡ false

-- each of them is there and dead, and was killed once
pub record CanForget (marks : List Mark) (s : SlotLists) : Type 0 where
  pub can_revive : CanRevive marks s
  pub there : (i : ℕ) → 0 < kills i marks → i < length s.slots
  pub dead : (i : ℕ) → 0 < kills i marks → (slot_at s.slots i).live ≡ false
  pub once : (i : ℕ) → kills i marks ≤ 1

-- the marks are left, and what the others say was killed is forgotten
pub record IsForgetting (all : List Mark) (old : SlotLists) (marks : List Mark) (s : SlotLists) : Type 0 where
  pub points : s.points ≡ old.points
  pub slots : s.slots ≡ old.slots
  pub can : CanForget marks s
  pub forgotten : (i : ℕ) → 0 < kills i all → kills i marks ≡ 0 → is_forgotten s.forgotten i ≡ true
