-- The live slots of joined lists, of slots that are killed by a test, and after refining.
use Rattle.std.proofs.Common.{◌≡◌, ℕ, zero, suc, ◌+◌, ◌<◌, Bool, true, false, ◌&&◌, not, cond, List, [], ◌∷◌, ◌++◌, map, filter, length, refl, ◌∙◌, ap, arith, length-append}
use Rattle.std.specs.List.{AllByRecursion as Each}
use Rattle.std.proofs.lemmas.List.{length-map, get_or_append_left, get_or-map}
use Rattle.tet_slots.specs.declared.slot.Slot.{Slot}
use Rattle.tet_slots.specs.Slots.{slot_at, no_slot}
use Rattle.mesh_types.specs.declared.cut.Cut.{Cut}
use Rattle.mesh_types.specs.Refines.{is_touched}
use Rattle.mesh_store.specs.Parts.{live_slot, live_tets}
use Rattle.mesh_store.specs.Changes.{slot_pieces, slots_split, killed_if}

-- ---- live tetrahedra of joined lists
live-one : (x : List ℕ) (l : Bool) (rest more : List (List ℕ)) → cond l (x ∷ (rest ++ more)) (rest ++ more) ≡ cond l (x ∷ rest) rest ++ more
live-one x true rest more = refl
live-one x false rest more = refl

pub live-append : (xs ys : List Slot) → live_tets (xs ++ ys) ≡ live_tets xs ++ live_tets ys
live-append [] ys = refl
live-append (x ∷ xs) ys = ap (λ (ts : List (List ℕ)). cond x.live (x.tet.0 ∷ ts) ts) (live-append xs ys) ∙ live-one x.tet.0 x.live (live_tets xs) (live_tets ys)

pub live-made : (xs : List (List ℕ)) → live_tets (map live_slot xs) ≡ xs
live-made [] = refl
live-made (x ∷ xs) = ap (λ (ys : List (List ℕ)). x ∷ ys) (live-made xs)

-- ---- the live ones that are left where those that pass are killed
kept-one : (p : List ℕ → Bool) (x : List ℕ) (kept all : List (List ℕ)) (l t : Bool) → p x ≡ t → kept ≡ filter (λ y. not (p y)) all
    → cond (l && not (p x)) (x ∷ kept) kept ≡ filter (λ y. not (p y)) (cond l (x ∷ all) all)
kept-one p x kept all true true is e = rw is e
kept-one p x kept all true false is e = rw is (ap (λ (xs : List (List ℕ)). x ∷ xs) e)
kept-one p x kept all false t is e = e

pub live-killed : (p : List ℕ → Bool) (slots : List Slot) → live_tets (map (killed_if p) slots) ≡ filter (λ x. not (p x)) (live_tets slots)
live-killed p [] = refl
live-killed p (s ∷ slots) = kept-one p s.tet.0 (live_tets (map (killed_if p) slots)) (live_tets slots) s.live (p s.tet.0) refl (live-killed p slots)

-- ---- refining
module _ (cuts : List Cut) (k : ℕ) where
  pub split-length : (slots : List Slot) → length (slots_split cuts k slots) ≡ length slots + length (slot_pieces cuts k slots)
  split-length slots =
      omega (arith, length-append (map (killed_if (is_touched cuts)) slots) (map live_slot (slot_pieces cuts k slots)), length-map slots (killed_if (is_touched cuts)), length-map (slot_pieces cuts k slots) live_slot)

  -- what was there
  kept-at : (slots : List Slot) (i : ℕ) → i < length slots → slot_at (slots_split cuts k slots) i ≡ killed_if (is_touched cuts) (slot_at slots i)
  kept-at slots i h =
      get_or_append_left (map (killed_if (is_touched cuts)) slots) (map live_slot (slot_pieces cuts k slots)) no_slot i (omega (arith, h, length-map slots (killed_if (is_touched cuts))))
      ∙ get_or-map (killed_if (is_touched cuts)) slots i no_slot no_slot h

  pub split-tet : (slots : List Slot) (i : ℕ) → i < length slots → (slot_at (slots_split cuts k slots) i).tet ≡ (slot_at slots i).tet
  split-tet slots i h = ap (λ (s : Slot). s.tet) (kept-at slots i h)

  pub split-killed : (slots : List Slot) (i : ℕ) → i < length slots → (slot_at slots i).live ≡ false → (slot_at (slots_split cuts k slots) i).live ≡ false
  split-killed slots i h dead = ap (λ (s : Slot). s.live) (kept-at slots i h) ∙ ap (λ (b : Bool). b && not (is_touched cuts (slot_at slots i).tet.0)) dead

  -- the live ones are those that no cut touches, and then the pieces of the others
  pub split-live : (slots : List Slot) → live_tets (slots_split cuts k slots) ≡ filter (λ x. not (is_touched cuts x)) (live_tets slots) ++ slot_pieces cuts k slots
  split-live slots =
      live-append (map (killed_if (is_touched cuts)) slots) (map live_slot (slot_pieces cuts k slots))
      ∙ (ap (λ (xs : List (List ℕ)). xs ++ live_tets (map live_slot (slot_pieces cuts k slots))) (live-killed (is_touched cuts) slots)
      ∙ ap (λ (xs : List (List ℕ)). filter (λ x. not (is_touched cuts x)) (live_tets slots) ++ xs) (live-made (slot_pieces cuts k slots)))

live-step : (P : List ℕ → Type 0) (s : Slot) (xs : List (List ℕ)) (b : Bool) → s.live ≡ b → b ≡ true → Each P (cond b (s.tet.0 ∷ xs) xs) → P s.tet.0
live-step P s xs true e f h = h.0
live-step P s xs false e f h = cc f

tail-step : (P : List ℕ → Type 0) (x : List ℕ) (xs : List (List ℕ)) (b : Bool) → Each P (cond b (x ∷ xs) xs) → Each P xs
tail-step P x xs true h = h.1
tail-step P x xs false h = h

pub live-each : (P : List ℕ → Type 0) (slots : List Slot) → Each P (live_tets slots) → (j : ℕ) → j < length slots → (slot_at slots j).live ≡ true → P (slot_at slots j).tet.0
live-each P [] h j lt live = absurd (omega arith)
live-each P (s ∷ slots) h zero lt live = live-step P s (live_tets slots) s.live refl live h
live-each P (s ∷ slots) h (suc j) lt live = live-each P slots (tail-step P s.tet.0 (live_tets slots) s.live h) j (omega arith) live
