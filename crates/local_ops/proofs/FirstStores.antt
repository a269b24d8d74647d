-- Stores of positive tetrahedra.
use Rattle.std.proofs.Common.{◌≡◌, List, Result, Ok, Err, IfOk, All, sym, subst}
use Rattle.grid.specs.declared.memory.Memory.{Memory}
use Rattle.grid.specs.declared.shapes.Point.{Point}
use Rattle.grid.specs.Determinants.{IsPositive}
use Rattle.grid.specs.Meshes.{Mesh}
use Rattle.mesh_types.specs.Journals.{AllPositive}
use Rattle.tet_slots.specs.declared.slot.Slot.{Slot}
use Rattle.mesh_store.specs.Changes.{HasSameSlots}
use Rattle.mesh_store.specs.Parts.{Parts, StoreView, live_tets, mesh_in}

pub positive-first : (r : Result StoreView Memory) (m : Mesh) → AllPositive m → IfOk r (λ s. mesh_in s.parts ≡ m) → IfOk r (λ s. AllPositive (mesh_in s.parts))
positive-first (Ok s) m h e = subst AllPositive (sym e) h
positive-first (Err x) m h e = tt

-- for `search`: tracking faces moves no tetrahedron
pub positive-same : (old new : Parts) → HasSameSlots old new → AllPositive (mesh_in old) → AllPositive (mesh_in new)
positive-same old new same h =
    subst (λ (ss : List Slot). All (IsPositive new.points) (live_tets ss)) (sym same.slots) (subst (λ (ps : List Point). All (IsPositive ps) (live_tets old.slots)) (sym same.points) h)
