-- What a face swap makes is read off the two sides of the face.
use Rattle.std.proofs.Common.{◌≡◌, ℕ, ◌+◌, ◌≤◌, ◌<◌, false, ◌||◌, List, [], ◌∷◌, Some, length, ℤ, refl, ◌∙◌, ap, arith, append-nil}
use Rattle.std.specs.List.{find, list_all}
use Rattle.grid.specs.declared.shapes.Tri.{Tri}
use Rattle.grid.specs.Simplices.{IsTet, replaced}
use Rattle.grid.specs.Limits.{most_made}
use Rattle.mesh_types.specs.declared.tries.Try.TheVariants.{FaceSwap}
use Rattle.mesh_types.specs.declared.tries.Verdict.TheVariants.{Refused}
use Rattle.mesh_types.specs.declared.tries.Why.TheVariants as why
use Rattle.mesh_types.specs.Journals.{setting}
use Rattle.mesh_types.specs.Results.{Result, exchange, face_swap, has_face, is_across, without}
use Rattle.mesh_types.specs.Verdicts.{IsVerdict, Passes}
use Rattle.tet_slots.specs.declared.slot.Slot.{Slot}
use Rattle.tet_slots.specs.Searches.{has_edge, numbers_of}
use Rattle.mesh_store.specs.Exchanges.{has_either, tet_in}
use Rattle.mesh_store.specs.Parts.{Parts, live_tets, tracked_in, mesh_in}
use Rattle.mesh_store.specs.Sound.{IsSoundStore}
use Rattle.mesh_store.proofs.ForCallers.{IsFirst, face-first, face-second, face-corners}
use Rattle.local_ops.specs.Attempts.{PassesBelow}
use Rattle.local_ops.specs.Measures.{is_positive}
use Rattle.local_ops.specs.Swaps.{AreSides}
use Rattle.local_ops.specs.declared.swapping.Sides.{Sides}
use Rattle.local_ops.proofs.InOrder.{passes_more, refused}
use Rattle.local_ops.proofs.NewTets.{positive-fails}

-- ---- the slots that are found are there
abbrev with_slots : List Slot → Parts
with_slots slots = record { points = []; slots = slots; keys = [] }

module _ (a b c : ℕ) (slots : List Slot) where
  pub first-there : (i : ℕ) → find (λ j. has_either (a ∷ b ∷ c ∷ []) (tet_in slots j)) (numbers_of (has_edge a b) 0 slots) ≡ Some i → i < length slots
  first-there i e = (face-first a b c (with_slots slots) i e).there

  pub second-there : (x : List ℕ) (i : ℕ) → find (λ j. is_across (a ∷ b ∷ c ∷ []) x (tet_in slots j)) (numbers_of (has_edge a b) 0 slots) ≡ Some i → i < length slots
  second-there x i e = (face-second a b c (with_slots slots) x i e).there

-- ---- the result of the swap
module _ (m : Parts) (a b c : ℕ) (s : Sides) (h : AreSides m.slots a b c s) where
  abbrev x : List ℕ
  x = tet_in m.slots s.first

  pub first-side : IsFirst (has_either (a ∷ b ∷ c ∷ [])) m.slots s.first
  first-side = face-first a b c m s.first h.first

  pub second-side : IsFirst (is_across (a ∷ b ∷ c ∷ []) x) m.slots s.second
  second-side = face-second a b c m x s.second h.second

  abbrev three : List (List ℕ)
  three = replaced a s.apex x ∷ replaced b s.apex x ∷ replaced c s.apex x ∷ []

  found-first : find (λ x. has_face (a ∷ b ∷ c ∷ []) x || has_face (a ∷ c ∷ b ∷ []) x) (live_tets m.slots) ≡ Some x
  found-first = first-side.found

  found-second : find (is_across (a ∷ b ∷ c ∷ []) x) (live_tets m.slots) ≡ Some (tet_in m.slots s.second)
  found-second = second-side.found

  pub swapped-is : face_swap (mesh_in m) a b c ≡ exchange (mesh_in m) [] (without (tet_in m.slots s.second) (without x (live_tets m.slots))) (x ∷ tet_in m.slots s.second ∷ []) three (tracked_in m.keys)
  unfolding face_swap
  swapped-is = rw (found-first, found-second, h.apex) refl

  pub points-same : (face_swap (mesh_in m) a b c).mesh.points ≡ m.points
  points-same = ap (λ (r : Result). r.mesh.points) swapped-is ∙ append-nil m.points

  module _ (side : ℤ) (sound : IsSoundStore side m) where
    pub three-corners : (u : ℕ) → IsTet (length m.points) (replaced u s.apex x)
    three-corners u = face-corners a b c m s.first first-side s.second second-side s.apex h.apex side sound u

    module _ (triangles : List Tri) (e : ℕ) where
      pub within : length m.slots + 3 ≤ most_made → Passes (setting triangles e side) (mesh_in m) (FaceSwap a b c) why.Full
      within room = record {
        points_few = let is = ap length points-same in let few = sound.points_few in omega (arith, is, few);
        made_few = let made = ap (λ (r : Result). r.mesh.made) swapped-is in omega (arith, made, room);
      }

      pub inverted-seen : length m.slots + 3 ≤ most_made → list_all (is_positive m.points) three ≡ false
          → PassesBelow (setting triangles e side) (mesh_in m) (FaceSwap a b c) 3 → IsVerdict (setting triangles e side) (mesh_in m) (FaceSwap a b c) (Refused why.Inverted)
      inverted-seen room signs passed =
          let r : Result = face_swap (mesh_in m) a b c in
          let fresh : r.fresh ≡ three = ap (λ (r : Result). r.fresh) swapped-is in
          let off : list_all (is_positive r.mesh.points) r.fresh ≡ false = (λ i. list_all (is_positive (points-same i)) (fresh i)) ∙ signs in
          refused (setting triangles e side) (mesh_in m) (FaceSwap a b c) why.Inverted
          (passes_more (setting triangles e side) (mesh_in m) (FaceSwap a b c) why.Full passed (within room))
          (positive-fails r.mesh.points r.fresh off)
