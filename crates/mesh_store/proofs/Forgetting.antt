-- Marks of killed slots, through each change of a store.
use Rattle.std.proofs.Common.{◌⊎◌, append-nil, zero, suc, Option, None, Some, ◌≡◌, ◌≢◌, ℕ, ◌+◌, ◌-◌, ◌<◌, ◌≤◌, Bool, true, false, cond, List, [], ◌∷◌, ◌++◌, length, set, take, refl, sym, ◌∙◌, ap, subst, inl, inr, arith}
use Rattle.std.proofs.lemmas.Bool.{cases_eq, eq-eqb, ne_eqb, true≢false}
use Rattle.std.proofs.lemmas.List.{get_or-set_other, get_or-set_same, get_or-take, get_or_append_left, length-set, length_push, length-take-le}
use Rattle.undo_record.specs.declared.mark.Mark.{Mark}
use Rattle.undo_record.specs.declared.mark.Mark.TheVariants.{PointMade, TetMade, Killed, FaceNew, FaceIn, FaceOut}
use Rattle.grid.specs.declared.shapes.Face.{Face}
use Rattle.grid.specs.declared.shapes.Point.{Point}
use Rattle.grid.specs.declared.shapes.Tet.{Tet}
use Rattle.tet_slots.specs.declared.slot.Slot.{Slot}
use Rattle.tet_slots.specs.Slots.{SlotLists, is_forgotten, slot_at, with_live, no_slot}
use Rattle.tet_slots.proofs.ForCallers.{killed-dead, killed-length}
use Rattle.mesh_store.specs.Undoing.{track_marks}
use Rattle.mesh_store.specs.Forgetting.{kill_of, kills, slots_undone, slots_forgotten, CanRevive, CanForget, IsForgettable, IsForgetting}
use Rattle.mesh_store.proofs.Killing.{dead-at}

kills-push : (i : ℕ) (marks : List Mark) (x : Mark) → kills i (marks ++ x ∷ []) ≡ kills i marks + kill_of i x
kills-push i [] x = omega arith
kills-push i (m ∷ marks) x = omega (arith, kills-push i marks x)

kill-itself : (i : ℕ) → kill_of i (Killed i) ≡ 1
kill-itself i = ap (λ (b : Bool). cond b 1 0) (eq-eqb i i refl)

kill-other : (s i : ℕ) → s ≢ i → kill_of i (Killed s) ≡ 0
kill-other s i n = ap (λ (b : Bool). cond b 1 0) (ne_eqb s i n)

-- ---- undoing the last mark
module _ (marks : List Mark) (x : Mark) (s : SlotLists) (can : CanRevive (marks ++ x ∷ []) s) where
  earlier : (i : ℕ) → 0 < kills i marks → 0 < kills i (marks ++ x ∷ [])
  earlier i h = omega (arith, h, kills-push i marks x)

  same-revived : (t : SlotLists) → t.slots ≡ s.slots → t.forgotten ≡ s.forgotten → CanRevive marks t
  same-revived t e f = record {
    one_each = ap length f ∙ (can.one_each ∙ sym (ap length e));
    known = λ i h l. ap (λ fs. is_forgotten fs i) f ∙ can.known i (earlier i h) (subst (λ (ss : List Slot). i < length ss) e l);
  }

pub CanRevive-undone : (marks : List Mark) (x : Mark) (s : SlotLists) → CanRevive (marks ++ x ∷ []) s → CanRevive marks (slots_undone x s)
CanRevive-undone marks PointMade s can = same-revived marks PointMade s can (slots_undone PointMade s) refl refl
CanRevive-undone marks FaceNew s can = same-revived marks FaceNew s can s refl refl
CanRevive-undone marks (FaceIn f) s can = same-revived marks (FaceIn f) s can s refl refl
CanRevive-undone marks (FaceOut f) s can = same-revived marks (FaceOut f) s can s refl refl
CanRevive-undone marks (Killed k) s can = record {
  one_each = can.one_each ∙ sym (killed-length s.slots true k);
  known = λ i h l. can.known i (earlier marks (Killed k) s can i h) (omega (arith, l, killed-length s.slots true k));
}
CanRevive-undone marks TetMade s can =
    let n = length s.slots in
    let fewer : length (take (n - 1) s.slots) ≡ n - 1 = length-take-le (n - 1) s.slots (omega arith) in
    record {
      one_each = length-take-le (n - 1) s.forgotten (omega (arith, can.one_each)) ∙ sym fewer;
      known = λ i h l.
          let below : i < n - 1 = omega (arith, l, fewer) in
          get_or-take (n - 1) s.forgotten i true below ∙ can.known i (earlier marks TetMade s can i h) (omega (arith, below));
    }

pub CanRevive-last : (marks : List Mark) (x : Mark) (s : SlotLists) → CanRevive (marks ++ x ∷ []) s → CanRevive (x ∷ []) s
CanRevive-last marks x s can = record {
  one_each = can.one_each;
  known = λ i h l. can.known i (omega (arith, h, kills-push i marks x)) l;
}

-- the slot of a mark can be made live again
pub revive-known : (k : ℕ) (s : SlotLists) → CanRevive (Killed k ∷ []) s → k < length s.slots → is_forgotten s.forgotten k ≡ false
revive-known k s can there = can.known k (omega (arith, kill-itself k)) there

-- ---- forgetting the slot of the last mark
module _ (marks : List Mark) (s : SlotLists) where
  front : (x : Mark) → CanForget (marks ++ x ∷ []) s → CanForget marks s
  front x can =
      let earlier : (i : ℕ) → 0 < kills i marks → 0 < kills i (marks ++ x ∷ []) = λ i h. omega (arith, h, kills-push i marks x) in
      record {
        can_revive = record { one_each = can.can_revive.one_each; known = λ i h l. can.can_revive.known i (earlier i h) l };
        there = λ i h. can.there i (earlier i h);
        dead = λ i h. can.dead i (earlier i h);
        once = λ i. omega (arith, can.once i, kills-push i marks x);
      }

  pub last-forgettable : (x : Mark) → CanForget (marks ++ x ∷ []) s → IsForgettable x s
  last-forgettable PointMade can = tt
  last-forgettable TetMade can = tt
  last-forgettable FaceNew can = tt
  last-forgettable (FaceIn f) can = tt
  last-forgettable (FaceOut f) can = tt
  last-forgettable (Killed k) can =
      let named : 0 < kills k (marks ++ Killed k ∷ []) = omega (arith, kills-push k marks (Killed k), kill-itself k) in
      (can.there k named, can.dead k named, can.can_revive.known k named (can.there k named))

  forgotten : (k : ℕ) → CanForget (marks ++ Killed k ∷ []) s → CanForget marks (slots_forgotten (Killed k) s)
  forgotten k can =
      let rest = front (Killed k) can in
      let once : kills k marks ≡ 0 = omega (arith, can.once k, kills-push k marks (Killed k), kill-itself k) in
      record {
        can_revive = record {
          one_each = length-set s.forgotten k true ∙ can.can_revive.one_each;
          known = λ i h l. get_or-set_other s.forgotten k i true true (λ e. absurd (omega (arith, h, subst (λ n. kills n marks ≡ 0) (sym e) once))) ∙ rest.can_revive.known i h l;
        };
        there = rest.there;
        dead = rest.dead;
        once = rest.once;
      }

  module _ (all : List Mark) (old : SlotLists) where
    passed-over : (x : Mark) → ((i : ℕ) → kill_of i x ≡ 0) → IsForgetting all old (marks ++ x ∷ []) s → IsForgetting all old marks s
    passed-over x other h = record {
      points = h.points;
      slots = h.slots;
      can = front x h.can;
      forgotten = λ i a z. h.forgotten i a (omega (arith, z, kills-push i marks x, other i));
    }

    pub goes_on : (x : Mark) → IsForgetting all old (marks ++ x ∷ []) s → IsForgetting all old marks (slots_forgotten x s)
    goes_on PointMade h = passed-over PointMade (λ i. refl) h
    goes_on TetMade h = passed-over TetMade (λ i. refl) h
    goes_on FaceNew h = passed-over FaceNew (λ i. refl) h
    goes_on (FaceIn f) h = passed-over (FaceIn f) (λ i. refl) h
    goes_on (FaceOut f) h = passed-over (FaceOut f) (λ i. refl) h
    goes_on (Killed k) h = record {
      points = h.points;
      slots = h.slots;
      can = forgotten k h.can;
      forgotten = λ i a z. elim (cases_eq i k) [
        | inl e ↦
            let there = (last-forgettable (Killed k) h.can).0 in
            subst (λ j. is_forgotten (set s.forgotten k true) j ≡ true) (sym e) (get_or-set_same s.forgotten k true true (omega (arith, there, h.can.can_revive.one_each)))
        | inr n ↦ get_or-set_other s.forgotten k i true true n ∙ h.forgotten i a (omega (arith, z, kills-push i marks (Killed k), kill-other k i (λ e. n (sym e))))
      ];
    }

pub starts : (marks : List Mark) (s : SlotLists) → CanForget marks s → IsForgetting marks s marks s
starts marks s can = record { points = refl; slots = refl; can = can; forgotten = λ i a z. absurd (omega (arith, a, z)) }

-- ---- no marks
pub CanRevive-none : (s : SlotLists) → length s.forgotten ≡ length s.slots → CanRevive [] s
CanRevive-none s e = record { one_each = e; known = λ i h. absurd (omega (arith, h)) }

pub CanForget-none : (s : SlotLists) → CanRevive [] s → CanForget [] s
CanForget-none s can = record {
  can_revive = can;
  there = λ i h. absurd (omega (arith, h));
  dead = λ i h. absurd (omega (arith, h));
  once = λ i. omega arith;
}

-- ---- one change more
module _ (marks : List Mark) (old : SlotLists) (can : CanForget marks old) where
  -- the mark of another change, after which the slots are the same
  forget-same : (x : Mark) → ((i : ℕ) → kill_of i x ≡ 0) → (new : SlotLists) → new.slots ≡ old.slots → new.forgotten ≡ old.forgotten → CanForget (marks ++ x ∷ []) new
  forget-same x other new e f =
      let before : (i : ℕ) → 0 < kills i (marks ++ x ∷ []) → 0 < kills i marks = λ i h. omega (arith, h, kills-push i marks x, other i) in
      record {
        can_revive = record {
          one_each = ap length f ∙ (can.can_revive.one_each ∙ sym (ap length e));
          known = λ i h l. ap (λ (fs : List Bool). is_forgotten fs i) f ∙ can.can_revive.known i (before i h) (subst (λ (ss : List Slot). i < length ss) e l);
        };
        there = λ i h. subst (λ (ss : List Slot). i < length ss) (sym e) (can.there i (before i h));
        dead = λ i h. ap (λ (ss : List Slot). (slot_at ss i).live) e ∙ can.dead i (before i h);
        once = λ i. omega (arith, can.once i, kills-push i marks x, other i);
      }

  pub forget-point : (p : Point) (new : SlotLists) → new ≡ record old { points = old.points ++ p ∷ [] } → CanForget (marks ++ PointMade ∷ []) new
  forget-point p new e = forget-same PointMade (λ i. refl) new (ap (λ (s : SlotLists). s.slots) e) (ap (λ (s : SlotLists). s.forgotten) e)

  pub forget-out : (f : Face) → CanForget (marks ++ FaceOut f ∷ []) old
  forget-out f = forget-same (FaceOut f) (λ i. refl) old refl refl

  pub forget-track : (f : Face) (o : Option Bool) → CanForget (marks ++ track_marks f o) old
  forget-track f None = forget-same FaceNew (λ i. refl) old refl refl
  forget-track f (Some true) = subst (λ (ms : List Mark). CanForget ms old) (sym (append-nil marks)) can
  forget-track f (Some false) = forget-same (FaceIn f) (λ i. refl) old refl refl

  made : (t : Tet) → CanForget (marks ++ TetMade ∷ []) (record old { slots = old.slots ++ record { tet = t; live = true } ∷ []; forgotten = old.forgotten ++ false ∷ [] })
  made t =
      let s : Slot = record { tet = t; live = true } in
      let before : (i : ℕ) → 0 < kills i (marks ++ TetMade ∷ []) → 0 < kills i marks = λ i h. omega (arith, h, kills-push i marks TetMade) in
      let longer = length_push old.slots s in
      record {
        can_revive = record {
          one_each = omega (arith, can.can_revive.one_each, longer, length_push old.forgotten false);
          known = λ i h l.
              let there = can.there i (before i h) in
              get_or_append_left old.forgotten (false ∷ []) true i (omega (arith, there, can.can_revive.one_each)) ∙ can.can_revive.known i (before i h) there;
        };
        there = λ i h. omega (arith, can.there i (before i h), longer);
        dead = λ i h. ap (λ (x : Slot). x.live) (get_or_append_left old.slots (s ∷ []) no_slot i (can.there i (before i h))) ∙ can.dead i (before i h);
        once = λ i. omega (arith, can.once i, kills-push i marks TetMade);
      }

  pub forget-tet : (t : Tet) (new : SlotLists) → new ≡ record old { slots = old.slots ++ record { tet = t; live = true } ∷ []; forgotten = old.forgotten ++ false ∷ [] } → CanForget (marks ++ TetMade ∷ []) new
  forget-tet t new e = subst (CanForget (marks ++ TetMade ∷ [])) (sym e) (made t)

  module _ (k : ℕ) (there : k < length old.slots) (live : (slot_at old.slots k).live ≡ true) where
    -- the slot was live, so no mark names it
    not-named : kills k marks ≡ 0
    not-named = elim (cases_zero (kills k marks)) [ inl e ↦ e | inr h ↦ absurd (true≢false (sym live ∙ can.dead k h)) ]
      where
        cases_zero : (n : ℕ) → (n ≡ 0) ⊎ (0 < n)
        cases_zero zero = inl refl
        cases_zero (suc n) = inr (omega arith)

    -- what holds of the slot, and of those that were named before
    of-named : (P : ℕ → Type 0) → P k → ((j : ℕ) → 0 < kills j marks → P j) → (i : ℕ) → 0 < kills i (marks ++ Killed k ∷ []) → P i
    of-named P p q i h = elim (cases_eq i k) [
      | inl e ↦ subst P (sym e) p
      | inr n ↦ q i (omega (arith, h, kills-push i marks (Killed k), kill-other k i (λ e. n (sym e))))
    ]

    killed : is_forgotten old.forgotten k ≡ false → CanForget (marks ++ Killed k ∷ []) (record old { slots = with_live false k old.slots })
    killed known = record {
      can_revive = record {
        one_each = can.can_revive.one_each ∙ sym (killed-length old.slots false k);
        known = λ i h l. of-named (λ j. is_forgotten old.forgotten j ≡ false) known (λ j g. can.can_revive.known j g (can.there j g)) i h;
      };
      there = λ i h. subst (λ n. i < n) (sym (killed-length old.slots false k)) (of-named (λ j. j < length old.slots) there can.there i h);
      dead = of-named (λ j. (slot_at (with_live false k old.slots) j).live ≡ false) (killed-dead old.slots k there) (λ j g. dead-at old.slots j k (can.there j g) (can.dead j g));
      once = λ i. elim (cases_eq i k) [
        | inl e ↦ subst (λ n. kills n (marks ++ Killed k ∷ []) ≤ 1) (sym e) (omega (arith, kills-push k marks (Killed k), kill-itself k, not-named))
        | inr n ↦ omega (arith, can.once i, kills-push i marks (Killed k), kill-other k i (λ e. n (sym e)))
      ];
    }

    pub forget-killed : (new : SlotLists) → new ≡ record old { slots = with_live false k old.slots } → is_forgotten new.forgotten k ≡ false → CanForget (marks ++ Killed k ∷ []) new
    forget-killed new e known =
        subst (CanForget (marks ++ Killed k ∷ [])) (sym e) (killed (ap (λ (s : SlotLists). is_forgotten s.forgotten k) (sym e) ∙ known))
