-- A store in the course of an attempt.
use Rattle.std.specs.Prelude.{◌≡◌, ℕ, ◌<◌, Bool, true, nat_abs, Option, IsSome, Some, MatchOption, unwrap_or, length}
use Rattle.std.specs.List.{filter}
use Rattle.grid.specs.Meshes.{Mesh, IsWithinLimits}
use Rattle.grid.specs.Simplices.{has}
use Rattle.grid.specs.Views.{triples_of}
use Rattle.tet_slots.specs.declared.slot.Slot.{Slot}
use Rattle.tet_slots.specs.Searches.{has_corner, has_edge, numbers_of}
use Rattle.mesh_types.specs.declared.tries.Try.{Try}
use Rattle.mesh_types.specs.declared.tries.Try.TheVariants.{Split, Shift, Collapse, FaceSwap, EdgeSwap}
use Rattle.mesh_types.specs.declared.tries.Why.{Why}
use Rattle.mesh_types.specs.declared.tries.Verdict.TheVariants.{Refused}
use Rattle.mesh_types.specs.Tries.{is_candidate}
use Rattle.mesh_types.specs.Results.{result_of}
use Rattle.mesh_types.specs.Verdicts.{Setting, Passes, place_in_order, IsVerdict}
use Rattle.mesh_types.specs.Journals.{AllPositive}
use Rattle.mesh_store.specs.Changes.{IsGrown, AddedAreLive}
use Rattle.mesh_store.specs.Parts.{Parts, StoreView, mesh_in}
use Rattle.mesh_store.specs.Sound.{IsSoundStore}
use Rattle.local_ops.specs.declared.before.Before.{Before}

-- the tests before a place in the order are passed
pub record PassesBelow (s : Setting) (m : Mesh) (t : Try) (n : ℕ) : Type 0 where
  pub each : (w : Why) → place_in_order w < n → Passes s m t w

-- refused for this reason, or none of the tests before a place speaks against the try
abbrev pub IsRefusedOr : ℕ → Setting → Mesh → Try → Option Why → Type 0
IsRefusedOr n s m t found = MatchOption found (PassesBelow s m t n) (λ w. IsVerdict s m t (Refused w))

-- ---- what is read off the mesh before a try
-- a live slot that the try may kill
abbrev pub may_go : Try → Slot → Bool
may_go (Split u v) s = has_edge u v s
may_go (Shift u way) s = has_corner u s
may_go (Collapse u v) s = has_corner u s
may_go (FaceSwap a b c) s = has_edge a b s
may_go (EdgeSwap u v) s = has_edge u v s

-- a corner of each face that the try tracks anew, where there are n points before it
abbrev pub pivot_of : ℕ → Try → ℕ
pivot_of n (Split u v) = n
pivot_of n (Shift u way) = n
pivot_of n (Collapse u v) = v
pivot_of n (FaceSwap a b c) = n
pivot_of n (EdgeSwap u v) = n

-- the number of slots, those that may go, and the tracked faces at the pivot
pub record IsBefore (t : Try) (m : Parts) (b : Before) : Type 0 where
  pub made : b.made ≡ length m.slots
  pub near : b.near.items ≡ numbers_of (may_go t) 0 m.slots
  pub pivot : b.pivot ≡ pivot_of (length m.points) t
  pub faces : triples_of b.faces.items ≡ filter (λ f. has f b.pivot) (mesh_in m).tracked

-- ---- the store after the change
-- the parts at begin
abbrev pub start_of : StoreView → Parts
start_of v = unwrap_or v.at_begin v.parts

-- the store is open since the old one, and its mesh is the result of the try
pub record IsChanged (t : Try) (old new : StoreView) : Type 0 where
  pub begin : new.at_begin ≡ Some old.parts
  pub side : new.side ≡ old.side
  pub mesh : mesh_in new.parts ≡ (result_of (nat_abs old.side) (mesh_in old.parts) t).mesh
  pub grown : IsGrown old.parts new.parts
  pub added : AddedAreLive old.parts new.parts
  pub within : IsWithinLimits (mesh_in new.parts)

-- a try that can be made was made on the mesh at begin, whose tetrahedra are positive
pub record IsMade (t : Try) (v : StoreView) : Type 0 where
  pub opened : IsSome v.at_begin
  pub sound : IsSoundStore v.side (start_of v)
  pub candidate : is_candidate (mesh_in (start_of v)).tets t ≡ true
  pub positive : AllPositive (mesh_in (start_of v))
  pub mesh : mesh_in v.parts ≡ (result_of (nat_abs v.side) (mesh_in (start_of v)) t).mesh
  pub grown : IsGrown (start_of v) v.parts
  pub added : AddedAreLive (start_of v) v.parts
  pub within : IsWithinLimits (mesh_in v.parts)
