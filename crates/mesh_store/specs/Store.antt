-- The fields of a store as what it shows, and what its type keeps.
use Rattle.std.specs.Prelude.{◌≡◌, Bool, false, if◌then◌else◌, Option, None, Some, []}
use Rattle.mesh_store.specs.declared.store.Store.TheInside.{Inside}
use Rattle.mesh_store.specs.Parts.{Parts, StoreView, parts_of}
use Rattle.mesh_store.specs.Forgetting.{CanForget}
use Rattle.mesh_store.specs.Sound.{IsSoundStore}
use Rattle.mesh_store.specs.Undoing.{all_undone, CanUndoAll, LeaveSound}

abbrev pub parts_now : Inside → Parts
parts_now s = parts_of s.slots s.tracked

abbrev pub begun : Bool → Parts → Option Parts
begun opened m = if opened then Some m else None

-- the parts at begin are what undoing gives
abbrev pub store_view : Inside → StoreView
store_view s = record { parts = parts_now s; at_begin = begun s.opened (all_undone s.undo (parts_now s)); side = s.side }

-- the marks can be undone, last first, and leave sound parts, and the slots that they say were killed can be forgotten; a closed store has none
pub record IsUndoable (s : Inside) : Type 0 where
  pub can : CanUndoAll s.undo (parts_now s)
  pub leave : LeaveSound s.side s.undo (parts_now s)
  pub forget : CanForget s.undo s.slots
  pub none : s.opened ≡ false → s.undo ≡ []
  pub sound : IsSoundStore s.side (parts_now s)
