-- The store at begin, and the tests of a cut mesh.
use Rattle.std.proofs.Common.{◌≡◌, ◌⊎◌, ℕ, ◌<◌, ℤ, None, Some, unwrap_or, List, length, get_or, All, refl, sym, ap, ◌∙◌, subst, inl, inr, arith}
use Rattle.std.specs.List.{Contains}
use Rattle.std.proofs.lemmas.List.Elements.{All-contains}
use Rattle.std.proofs.lemmas.List.{take_all}
use Rattle.grid.specs.declared.shapes.Tri.{Tri}
use Rattle.grid.specs.Boxes.{IsTriInBox}
use Rattle.grid.specs.Determinants.{IsPositive}
use Rattle.grid.specs.Meshes.{Mesh, IsWithinLimits, IsTriple, IsWellFormed}
use Rattle.grid.specs.Planes.{IsDegenerate}
use Rattle.mesh_types.specs.Insertion.{IsUncovered}
use Rattle.cutting_rule.specs.Until.{until}
use Rattle.mesh_store.specs.Changes.{IsGrown}
use Rattle.mesh_store.specs.Parts.{Parts, StoreView, mesh_in, live_tets, rolled_back}
use Rattle.mesh_store.specs.Sound.{IsSoundStore}
use Rattle.grid.specs.declared.shapes.Point.{Point}
use Rattle.grid.specs.Limits.{largest_side}
use Rattle.insertion.specs.Bare.{IsBare, IsKept, HasNewCorner}
use Rattle.insertion.specs.Progress.{start_of, closed, IsOpenFrom, IsCutUntil}
use Rattle.cutting_rule.proofs.ForCallers.{all-has}

grown-refl : (m : Parts) → IsGrown m m
grown-refl m = record { points = take_all (length m.points) m.points (omega arith); longer = omega arith; tets = λ i lt. refl; killed = λ i lt e. e }

pub begun-open : (old begun : StoreView) → begun ≡ record old { at_begin = Some old.parts } → IsOpenFrom old.parts old.side begun
begun-open old begun b = subst (IsOpenFrom old.parts old.side) (sym b) (record { begin = refl; side_is = refl; grown = grown-refl old.parts })

pub start-is : (start : Parts) (side : ℤ) (v : StoreView) → IsOpenFrom start side v → start_of v ≡ start
start-is start side v h = ap (λ o. unwrap_or o v.parts) h.begin

pub closed-old : (old : StoreView) → old.at_begin ≡ None → closed old.parts old.side ≡ old
closed-old old e = λ i. record { parts = old.parts; at_begin = sym e i; side = old.side }

pub back-to : (old begun now : StoreView) → old.at_begin ≡ None → begun ≡ record old { at_begin = Some old.parts } → now ≡ rolled_back begun → now ≡ old
back-to old begun now e b r = r ∙ (ap rolled_back b ∙ closed-old old e)

-- what is known of a store that some phases cut
pub cut-from : (i : ℕ) (start : Parts) (side : ℤ) (now : StoreView) (t : Tri) → IsSoundStore side start → All (IsPositive start.points) (live_tets start.slots) → IsOpenFrom start side now → IsSoundStore now.side now.parts
    → mesh_in now.parts ≡ until (mesh_in start) t i → IsWithinLimits (mesh_in now.parts) → ¬ IsDegenerate t → IsTriInBox largest_side t → IsCutUntil t i now
cut-from i start side now t sound positive h sound_now mesh within area tri_in =
    let s : start_of now ≡ start = start-is start side now h in
    record {
      open_from = record { begin = h.begin ∙ ap Some (sym s); side_is = refl; grown = subst (λ p. IsGrown p now.parts) (sym s) h.grown };
      sound = subst (λ p. IsSoundStore now.side p) (sym s) (subst (λ z. IsSoundStore z start) (sym h.side_is) sound);
      sound_now = sound_now;
      positive = subst (λ (p : Parts). All (IsPositive p.points) (live_tets p.slots)) (sym s) positive;
      mesh = mesh ∙ ap (λ (p : Parts). until (mesh_in p) t i) (sym s);
      within = within;
      some_area = area;
      tri_in = tri_in;
    }

-- ---- bare and uncovered
pub kept-not : (points : List Point) (triangles : List Tri) (e n : ℕ) (f : List ℕ) → IsKept points triangles e n f → ¬ IsBare points triangles e n f
kept-not points triangles e n f k b = elim k [
  | inl old ↦ let low : b.new.corner < n = all-has (λ u. u < n) f b.new.corner old b.new.there in absurd (omega (arith, low, b.new.new))
  | inr cert ↦ b.bare cert
]

module _ (m n : Mesh) (triangles : List Tri) (e : ℕ) (w : IsWellFormed m) (f_all : All (λ f. Contains m.tracked f ⊎ HasNewCorner (length m.points) f) n.tracked) where
  not-old : (f : List ℕ) → HasNewCorner (length m.points) f → ¬ Contains m.tracked f
  not-old f h c =
      let r : IsTriple (length m.points) f = All-contains (IsTriple (length m.points)) m.tracked f w.triples_are c in
      let low : h.corner < length m.points = all-has (λ u. u < length m.points) f h.corner r.in_range h.there in
      absurd (omega (arith, low, h.new))

  pub bare-uncovered : All (λ f. (IsBare n.points triangles e (length m.points) f → IsUncovered n.points triangles e m.tracked f) × (IsUncovered n.points triangles e m.tracked f → IsBare n.points triangles e (length m.points) f)) n.tracked
  bare-uncovered k d lt = (
    (λ b. record { new = not-old (get_or n.tracked k d) b.new; bare = b.bare }),
    (λ u. record { new = elim (f_all k d lt) [ inl c ↦ absurd (u.new c) | inr h ↦ h ]; bare = u.bare }),
  )

  pub kept-covered : All (IsKept n.points triangles e (length m.points)) n.tracked → All (λ f. ¬ IsUncovered n.points triangles e m.tracked f) n.tracked
  kept-covered kept k d lt u = elim (kept k d lt) [
    | inr cert ↦ u.bare cert
    | inl low ↦ elim (f_all k d lt) [
      | inl c ↦ u.new c
      | inr h ↦ let below : h.corner < length m.points = all-has (λ u. u < length m.points) (get_or n.tracked k d) h.corner low h.there in absurd (omega (arith, below, h.new))
    ]
  ]
