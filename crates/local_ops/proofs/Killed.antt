-- The tetrahedra of the slots that a change killed.
use Rattle.std.proofs.Common.{◌≡◌, ℕ, suc, ◌+◌, ◌<◌, ◌≤◌, Bool, true, false, not, ◌&&◌, cond, List, [], ◌∷◌, length, take, ℤ, ◌+ℤ◌, refl, ◌∙◌, ap, arith, inl, inr}
use Rattle.std.specs.List.{AllByRecursion as Each}
use Rattle.std.proofs.lemmas.Bool.{cases_Bool}
use Rattle.int_algebra.proofs.Laws.{linear}
use Rattle.grid.specs.Simplices.{has}
use Rattle.mesh_types.specs.declared.tries.Try.{Try}
use Rattle.mesh_types.specs.declared.tries.Try.TheVariants.{Split, Shift, Collapse, FaceSwap, EdgeSwap}
use Rattle.mesh_types.proofs.ForCallers.{total}
use Rattle.tet_slots.specs.declared.slot.Slot.{Slot}
use Rattle.tet_slots.specs.Slots.{slot_at}
use Rattle.tet_slots.specs.Searches.{numbers_of}
use Rattle.mesh_store.specs.Changes.{IsGrown}
use Rattle.mesh_store.specs.Parts.{Parts, live_tets}
use Rattle.local_ops.specs.Attempts.{may_go}
use Rattle.local_ops.specs.Measures.{corners_at, dead_tets}
use Rattle.local_ops.proofs.Replacing.{is_near}

-- the slots that were there have their tetrahedra, and what was dead is dead
abbrev Follow : List Slot → List Slot → Type 0
Follow [] new = Unit {0}
Follow (s ∷ old) [] = ⊥
Follow (s ∷ old) (n ∷ new) = (n.tet ≡ s.tet) × (s.live ≡ false → n.live ≡ false) × Follow old new

-- the tetrahedra of the slots that were live and are dead
abbrev pub killed : List Slot → List Slot → List (List ℕ)
killed [] new = []
killed (s ∷ old) [] = []
killed (s ∷ old) (n ∷ new) = cond (s.live && not n.live) (s.tet.0 ∷ killed old new) (killed old new)

follow : (old new : List Slot) → length old ≤ length new
    → ((i : ℕ) → i < length old → (slot_at new i).tet ≡ (slot_at old i).tet)
    → ((i : ℕ) → i < length old → (slot_at old i).live ≡ false → (slot_at new i).live ≡ false) → Follow old new
follow [] new l tets dead = tt
follow (s ∷ old) [] l tets dead = absurd (omega arith)
follow (s ∷ old) (n ∷ new) l tets dead =
    (tets 0 (omega arith), dead 0 (omega arith), follow old new (omega arith) (λ i k. tets (suc i) (omega arith)) (λ i k. dead (suc i) (omega arith)))

pub follow-grown : (old new : Parts) → IsGrown old new → Follow old.slots new.slots
follow-grown old new g = follow old.slots new.slots g.longer g.tets g.killed

-- what was live is live or was killed
pub sums-killed : (g : List ℕ → ℤ) (old new : List Slot) → Follow old new → total g (live_tets old) ≡ total g (live_tets (take (length old) new)) +ℤ total g (killed old new)
sums-killed g [] new f = omega (arith, linear)
sums-killed g (s ∷ old) [] f = absurd f
sums-killed g (s ∷ old) (n ∷ new) f =
    let rest = sums-killed g old new f.2 in
    let same : g n.tet.0 ≡ g s.tet.0 = ap (λ t. g t.0) f.0 in
    elim (cases_Bool s.live) [
      | inl e ↦ elim (cases_Bool n.live) [
        | inl d ↦ rw (e, d) (omega (arith, linear, rest, same))
        | inr d ↦ rw (e, d) (omega (arith, linear, rest))
      ]
      | inr e ↦ let d = f.1 e in rw (e, d) (omega (arith, linear, rest))
    ]

-- ---- the search for them
pub may_go-is : (t : Try) (s : Slot) → may_go t s ≡ (s.live && is_near t s.tet.0)
may_go-is (Split u v) s = three s.live (has s.tet.0 u) (has s.tet.0 v)
  where
    three : (a b c : Bool) → (a && b && c) ≡ (a && (b && c))
    three true b c = refl
    three false b c = refl
may_go-is (Shift u way) s = refl
may_go-is (Collapse u v) s = refl
may_go-is (FaceSwap a b c) s = three s.live (has s.tet.0 a) (has s.tet.0 b)
  where
    three : (a b c : Bool) → (a && b && c) ≡ (a && (b && c))
    three true b c = refl
    three false b c = refl
may_go-is (EdgeSwap u v) s = three s.live (has s.tet.0 u) (has s.tet.0 v)
  where
    three : (a b c : Bool) → (a && b && c) ≡ (a && (b && c))
    three true b c = refl
    three false b c = refl

module _ (passes : Slot → Bool) (near : List ℕ → Bool) (is : (s : Slot) → passes s ≡ (s.live && near s.tet.0)) (all : List Slot) where
  dead-from : (n : ℕ) (old new : List Slot) → Follow old new → ((i : ℕ) → i < length old → slot_at all (n + i) ≡ slot_at new i)
      → Each (λ x. near x ≡ true) (killed old new) → dead_tets all (numbers_of passes n old) ≡ killed old new
  dead-from n [] new f at e = refl
  dead-from n (s ∷ old) [] f at e = absurd f
  dead-from n (s ∷ old) (k ∷ new) f at e = by s.live k.live refl refl (dead-from (suc n) old new f.2 later (tail (s.live && not k.live) e))
    where
      here : slot_at all n ≡ k
      here = let z = at 0 (omega arith) in let i : n + 0 ≡ n = omega arith in rw i at z

      later : (i : ℕ) → i < length old → slot_at all (suc n + i) ≡ slot_at new i
      later i l = let z = at (suc i) (omega arith) in let j : n + suc i ≡ suc n + i = omega arith in rw j at z

      tail : (b : Bool) → Each (λ x. near x ≡ true) (cond b (s.tet.0 ∷ killed old new) (killed old new)) → Each (λ x. near x ≡ true) (killed old new)
      tail true h = h.1
      tail false h = h

      tet_here : corners_at all n ≡ s.tet.0
      tet_here = ap (λ (z : Slot). z.tet.0) here ∙ ap (λ z. z.0) f.0

      by : (a b : Bool) → s.live ≡ a → k.live ≡ b → dead_tets all (numbers_of passes (suc n) old) ≡ killed old new → dead_tets all (numbers_of passes n (s ∷ old)) ≡ killed (s ∷ old) (k ∷ new)
      by false b p q rest =
          let no : passes s ≡ false = is s ∙ ap (λ z. z && near s.tet.0) p in
          rw (no, p) rest
      by true true p q rest =
          let dead : not (slot_at all n).live ≡ false = ap (λ (z : Slot). not z.live) here ∙ ap not q in
          elim (cases_Bool (near s.tet.0)) [
            | inl y ↦ let yes : passes s ≡ true = is s ∙ ap (λ z. z && near s.tet.0) p ∙ y in rw (yes, dead, p, q) rest
            | inr y ↦ let no : passes s ≡ false = is s ∙ ap (λ z. z && near s.tet.0) p ∙ y in rw (no, p, q) rest
          ]
      by true false p q rest =
          let dead : not (slot_at all n).live ≡ true = ap (λ (z : Slot). not z.live) here ∙ ap not q in
          let e' : Each (λ x. near x ≡ true) (s.tet.0 ∷ killed old new) = rw (p, q) at e in
          let yes : passes s ≡ true = is s ∙ ap (λ z. z && near s.tet.0) p ∙ e'.0 in
          rw (yes, dead, p, q) (ap (λ (x : List ℕ). x ∷ dead_tets all (numbers_of passes (suc n) old)) tet_here ∙ ap (λ (xs : List (List ℕ)). s.tet.0 ∷ xs) rest)

pub dead-killed : (t : Try) (old new : List Slot) → Follow old new → Each (λ x. is_near t x ≡ true) (killed old new) → dead_tets new (numbers_of (may_go t) 0 old) ≡ killed old new
dead-killed t old new f e = dead-from (may_go t) (is_near t) (may_go-is t) new 0 old new f (λ i l. let z : 0 + i ≡ i = omega arith in ap (slot_at new) z) e
