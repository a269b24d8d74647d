-- Each change and its mark.
use Rattle.std.proofs.Common.{◌≡◌, ℕ, ℤ, ◌-◌, ◌<◌, Bool, true, false, Option, None, Some, List, [], ◌∷◌, ◌++◌, length, refl, ◌∙◌, ap, arith, append-nil}
use Rattle.std.specs.Prelude.{IsSome}
use Rattle.std.proofs.lemmas.List.{take_at, length_push}
use Rattle.grid.specs.declared.shapes.Face.{Face}
use Rattle.grid.specs.declared.shapes.Point.{Point}
use Rattle.undo_record.specs.declared.mark.Mark.{Mark}
use Rattle.undo_record.specs.declared.mark.Mark.TheVariants.{PointMade, TetMade, Killed, FaceNew, FaceIn, FaceOut}
use Rattle.tet_slots.specs.declared.slot.Slot.{Slot}
use Rattle.tet_slots.specs.Slots.{slot_at, IsUnused}
use Rattle.tet_slots.proofs.ForCallers.{revived, killed-dead, killed-length}
use Rattle.tracked.specs.Keys.{Keys, state_of, added_for}
use Rattle.tracked.specs.declared.table.Added.TheVariants.{Restored, New}
use Rattle.tracked.proofs.ForCallers.{put-same, put-back, state-put, put-new}
use Rattle.mesh_store.specs.Parts.{Parts, live_slot}
use Rattle.mesh_store.specs.Sound.{IsSoundStore}
use Rattle.mesh_store.specs.Changes.{with_parts, point_made, tet_made, slot_killed, face_put}
use Rattle.mesh_store.specs.Forgetting.{CanForget}
use Rattle.mesh_store.specs.Undoing.{front, undone, all_undone, CanUndo, CanUndoAll, LeaveSound, track_marks}
use Rattle.mesh_store.specs.Store.{parts_now, begun, store_view, IsUndoable}
use Rattle.mesh_store.specs.declared.store.Store.TheInside.{Inside}
use Rattle.mesh_store.proofs.UndoLemmas.{all_undone-push, CanUndoAll-push, LeaveSound-push}

pub front-push : {X : Type 0} (xs : List X) (x : X) → front (xs ++ x ∷ []) ≡ xs
front-push xs x = take_at xs (x ∷ []) (length (xs ++ x ∷ []) - 1) (omega (arith, length_push xs x))

-- ---- each mark leads back
pub back-point : (p : Point) (m : Parts) → undone PointMade (point_made p m) ≡ m
back-point p m = ap (λ (ps : List Point). record m { points = ps }) (front-push m.points p)

pub can-point : (p : Point) (m : Parts) → IsUnused (length m.points) m.slots → CanUndo PointMade (point_made p m)
can-point p m unused =
    let n : length (m.points ++ p ∷ []) - 1 ≡ length m.points = omega (arith, length_push m.points p) in
    (omega (arith, length_push m.points p), rw n unused)

pub back-tet : (x : List ℕ) (m : Parts) → undone TetMade (tet_made x m) ≡ m
back-tet x m = ap (λ (ss : List Slot). record m { slots = ss }) (front-push m.slots (live_slot x))

pub can-tet : (x : List ℕ) (m : Parts) → CanUndo TetMade (tet_made x m)
can-tet x m = omega (arith, length_push m.slots (live_slot x))

pub back-killed : (i : ℕ) (m : Parts) → i < length m.slots → (slot_at m.slots i).live ≡ true → undone (Killed i) (slot_killed i m) ≡ m
back-killed i m there live = ap (λ (ss : List Slot). record m { slots = ss }) (revived m.slots i there live)

pub can-killed : (i : ℕ) (m : Parts) → i < length m.slots → CanUndo (Killed i) (slot_killed i m)
can-killed i m there = (rw (killed-length m.slots false i) there, killed-dead m.slots i there)

pub back-out : (f : Face) (m : Parts) → state_of f m.keys ≡ Some true → undone (FaceOut f) (face_put f false m) ≡ m
back-out f m is = ap (λ (ks : Keys). record m { keys = ks }) (put-back f true false m.keys is)

back-in : (f : Face) (m : Parts) → state_of f m.keys ≡ Some false → undone (FaceIn f) (face_put f true m) ≡ m
back-in f m is = ap (λ (ks : Keys). record m { keys = ks }) (put-back f false true m.keys is)

back-new : (f : Face) (m : Parts) → state_of f m.keys ≡ None → undone FaceNew (face_put f true m) ≡ m
back-new f m is = ap (λ (ks : Keys). record m { keys = ks }) (ap front (put-new f true m.keys is) ∙ front-push m.keys (f, true))

can-new : (f : Face) (m : Parts) → state_of f m.keys ≡ None → CanUndo FaceNew (face_put f true m)
can-new f m is = omega (arith, ap length (put-new f true m.keys is), length_push m.keys (f, true))

-- ---- what `add` found
pub is-Restored : (o : Option Bool) → Restored ≡ added_for o → o ≡ Some false
is-Restored None e = cc
is-Restored (Some true) e = cc
is-Restored (Some false) e = refl

pub is-New : (o : Option Bool) → New ≡ added_for o → o ≡ None
is-New None e = refl
is-New (Some true) e = cc
is-New (Some false) e = cc

-- ---- marks that lead back from m to the parts before
pub record LeadBack (before : Parts) (more : List Mark) (m : Parts) : Type 0 where
  pub can : (marks : List Mark) → CanUndoAll marks before → CanUndoAll (marks ++ more) m
  pub leave : (side : ℤ) (marks : List Mark) → LeaveSound side marks before → IsSoundStore side before → LeaveSound side (marks ++ more) m
  pub gives : (marks : List Mark) → all_undone (marks ++ more) m ≡ all_undone marks before

pub lead-one : (before m : Parts) (x : Mark) → undone x m ≡ before → CanUndo x m → LeadBack before (x ∷ []) m
lead-one before m x back can = record {
  can = λ marks all. CanUndoAll-push marks x m (rw back all) can;
  leave = λ side marks all sound. LeaveSound-push side marks x m (rw back all) (rw back sound);
  gives = λ marks. all_undone-push marks x m ∙ ap (all_undone marks) back;
}

lead-none : (before m : Parts) → m ≡ before → LeadBack before [] m
lead-none before m e = record {
  can = λ marks all. rw (append-nil marks) (rw e all);
  leave = λ side marks all sound. rw (append-nil marks) (rw e all);
  gives = λ marks. ap (λ (xs : List Mark). all_undone xs m) (append-nil marks) ∙ ap (all_undone marks) e;
}

pub lead-track : (f : Face) (m : Parts) (o : Option Bool) → state_of f m.keys ≡ o → LeadBack m (track_marks f o) (face_put f true m)
lead-track f m None is = lead-one m (face_put f true m) FaceNew (back-new f m is) (can-new f m is)
lead-track f m (Some true) is = lead-none m (face_put f true m) (ap (λ (ks : Keys). record m { keys = ks }) (put-same f true m.keys is))
lead-track f m (Some false) is = lead-one m (face_put f true m) (FaceIn f) (back-in f m is) (state-put f false true m.keys is)

-- ---- an open store after a change whose marks lead back
pub record IsMarked (s t : Inside) (more : List Mark) (m : Parts) : Type 0 where
  pub parts_are : parts_now t ≡ m
  pub back : LeadBack (parts_now s) more m
  pub sound : IsSoundStore s.side m
  pub forget : CanForget s.undo s.slots → CanForget (s.undo ++ more) t.slots
  pub undo_is : t.undo ≡ s.undo ++ more
  pub opened_is : t.opened ≡ s.opened
  pub side_is : t.side ≡ s.side

opened-true : (b : Bool) (m : Parts) → IsSome (begun b m) → b ≡ true
opened-true true m h = refl
opened-true false m h = cc

pub marked-keeps : (s t : Inside) (more : List Mark) (m : Parts) → IsMarked s t more m → IsUndoable s → IsSome (store_view s).at_begin → IsUndoable t
marked-keeps s t more m marked h opened =
    let was : s.opened ≡ true = opened-true s.opened (all_undone s.undo (parts_now s)) opened in
    record {
      can = rw (marked.parts_are, marked.undo_is) (marked.back.can s.undo h.can);
      leave = rw (marked.parts_are, marked.undo_is, marked.side_is) (marked.back.leave s.side s.undo h.leave h.sound);
      forget = rw marked.undo_is (marked.forget h.forget);
      none = λ closed. cc (marked.opened_is, was, closed);
      sound = rw (marked.parts_are, marked.side_is) marked.sound;
    }

pub marked-view : (s t : Inside) (more : List Mark) (m : Parts) → IsMarked s t more m → store_view t ≡ with_parts (store_view s) m
marked-view s t more m marked = λ i. record {
  parts = marked.parts_are i;
  at_begin = (ap (λ (n : Parts). begun t.opened (all_undone t.undo n)) marked.parts_are ∙ (ap (λ (xs : List Mark). begun t.opened (all_undone xs m)) marked.undo_is ∙ (ap (begun t.opened) (marked.back.gives s.undo) ∙ ap (λ (b : Bool). begun b (all_undone s.undo (parts_now s))) marked.opened_is))) i;
  side = marked.side_is i;
}
