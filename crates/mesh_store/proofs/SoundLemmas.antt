-- Each change keeps the parts sound.
use Rattle.std.proofs.Common.{◌≡◌, ℕ, ℤ, ◌+◌, ◌<◌, ◌≤◌, nat_abs, Bool, false, Some, List, [], ◌∷◌, ◌++◌, length, get_or, arith}
use Rattle.std.proofs.lemmas.List.{length_push}
use Rattle.std.proofs.lemmas.List.Elements.{All-push, All-set}
use Rattle.grid.specs.Boxes.{IsInBox}
use Rattle.grid.specs.declared.shapes.Face.{Face}
use Rattle.grid.specs.declared.shapes.Point.{Point}
use Rattle.grid.specs.Meshes.{IsTriple}
use Rattle.grid.specs.Simplices.{IsTet}
use Rattle.grid.specs.Limits.{most_points, most_made}
use Rattle.tet_slots.specs.declared.slot.Slot.{Slot}
use Rattle.tet_slots.specs.Slots.{slot_at, no_slot}
use Rattle.tet_slots.proofs.ForCallers.{killed-length}
use Rattle.tracked.specs.Keys.{state_of}
use Rattle.tracked.proofs.ForCallers.{All-put, All-key, distinct-put}
use Rattle.mesh_store.specs.Parts.{Parts, live_slot}
use Rattle.mesh_store.specs.Sound.{IsSoundStore}
use Rattle.mesh_store.specs.Changes.{point_made, tet_made, slot_killed, face_put}

pub IsTet-more : (n k : ℕ) (x : List ℕ) → n ≤ k → IsTet n x → IsTet k x
IsTet-more n k x le h = record { four = h.four; different = h.different; in_range = λ i d l. omega (arith, le, h.in_range i d l) }

pub IsTriple-more : (n k : ℕ) (x : List ℕ) → n ≤ k → IsTriple n x → IsTriple k x
IsTriple-more n k x le h = record { three = h.three; rises = h.rises; in_range = λ i d l. omega (arith, le, h.in_range i d l) }

pub sound-point : (side : ℤ) (p : Point) (m : Parts) → length m.points < most_points → IsInBox (nat_abs side) p → IsSoundStore side m → IsSoundStore side (point_made p m)
sound-point side p m room inside h =
    let longer : length (m.points ++ p ∷ []) ≡ length m.points + 1 = length_push m.points p in
    record {
      box = h.box;
      points_few = omega (arith, room, longer);
      slots_few = h.slots_few;
      in_box = All-push (IsInBox (nat_abs side)) m.points p h.in_box inside;
      tets_are = λ k d l. IsTet-more (length m.points) (length (m.points ++ p ∷ [])) (get_or m.slots k d).tet.0 (omega (arith, longer)) (h.tets_are k d l);
      triples_are = λ k d l. IsTriple-more (length m.points) (length (m.points ++ p ∷ [])) (get_or m.keys k d).0.0 (omega (arith, longer)) (h.triples_are k d l);
      distinct = h.distinct;
    }

pub sound-tet : (side : ℤ) (x : List ℕ) (m : Parts) → length m.slots < most_made → IsTet (length m.points) x → IsSoundStore side m → IsSoundStore side (tet_made x m)
sound-tet side x m room new h = record {
  box = h.box;
  points_few = h.points_few;
  slots_few = omega (arith, room, length_push m.slots (live_slot x));
  in_box = h.in_box;
  tets_are = All-push (λ (slot : Slot). IsTet (length m.points) slot.tet.0) m.slots (live_slot x) h.tets_are new;
  triples_are = h.triples_are;
  distinct = h.distinct;
}

pub sound-killed : (side : ℤ) (i : ℕ) (m : Parts) → i < length m.slots → IsSoundStore side m → IsSoundStore side (slot_killed i m)
sound-killed side i m there h = record {
  box = h.box;
  points_few = h.points_few;
  slots_few = omega (arith, h.slots_few, killed-length m.slots false i);
  in_box = h.in_box;
  tets_are = All-set (λ (slot : Slot). IsTet (length m.points) slot.tet.0) m.slots i (record { tet = (slot_at m.slots i).tet; live = false }) (h.tets_are i no_slot there) h.tets_are;
  triples_are = h.triples_are;
  distinct = h.distinct;
}

pub sound-put : (side : ℤ) (f : Face) (b : Bool) (m : Parts) → IsTriple (length m.points) f.0 → IsSoundStore side m → IsSoundStore side (face_put f b m)
sound-put side f b m triple h = record {
  box = h.box;
  points_few = h.points_few;
  slots_few = h.slots_few;
  in_box = h.in_box;
  tets_are = h.tets_are;
  triples_are = All-put (IsTriple (length m.points)) f b m.keys triple h.triples_are;
  distinct = distinct-put f b m.keys h.distinct;
}

-- a key is a rising triple of points
pub triple-key : (side : ℤ) (f : Face) (b : Bool) (m : Parts) → state_of f m.keys ≡ Some b → IsSoundStore side m → IsTriple (length m.points) f.0
triple-key side f b m is h = All-key (IsTriple (length m.points)) f b m.keys is h.triples_are
