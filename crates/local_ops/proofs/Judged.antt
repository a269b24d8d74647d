-- What the tests of a store in which a try was made mean.
use Rattle.std.proofs.Common.{◌≡◌, ◌⊎◌, ℕ, ◌<◌, true, false, List, length, drop, map, All, nat_abs, sym, ◌∙◌, ap, subst, inl, inr}
use Rattle.std.specs.List.{AllByRecursion as Each, Contains, list_all}
use Rattle.std.proofs.lemmas.List.Elements.{All-from_recursion, recursion_from_All}
use Rattle.grid.specs.declared.shapes.Tri.{Tri}
use Rattle.grid.specs.Determinants.{IsPositive}
use Rattle.grid.specs.Meshes.{Mesh}
use Rattle.grid.specs.Simplices.{has}
use Rattle.mesh_types.specs.declared.tries.Try.{Try}
use Rattle.mesh_types.specs.declared.tries.Why.TheVariants as why
use Rattle.mesh_types.specs.Journals.{setting}
use Rattle.mesh_types.specs.Results.{Result, result_of}
use Rattle.mesh_types.specs.Verdicts.{Setting, Passes, energy_at, largest, IsCovered}
use Rattle.grid.proofs.ForCallers.{Each-weaker, Each-both}
use Rattle.mesh_types.proofs.ForCallers.{Among, among-all, among-Each, among-filter, filter-among}
use Rattle.tet_slots.specs.Searches.{numbers_of}
use Rattle.mesh_store.specs.Parts.{StoreView, live_tets, mesh_in}
use Rattle.mesh_store.proofs.ForCallers.{well_formed}
use Rattle.local_ops.specs.Attempts.{IsMade, start_of, may_go, pivot_of}
use Rattle.local_ops.specs.Covering.{IsFine}
use Rattle.local_ops.specs.Measures.{dead_tets, is_positive, has_single_faces}
use Rattle.local_ops.specs.Surface.{at_point}
use Rattle.local_ops.proofs.Made.{fresh-is, points-are, largest-gone}
use Rattle.local_ops.proofs.Members.{contains-among, among-contains, listed-among, among-listed, filter-both}
use Rattle.local_ops.proofs.Pivots.{IsOldOrAt, anew}
use Rattle.local_ops.proofs.NewTets.{positive-passes, positive-fails, single-passes, single-fails}

module _ (triangles : List Tri) (e : ℕ) (t : Try) (v : StoreView) (h : IsMade t v) where
  abbrev s : Setting
  s = setting triangles e v.side

  abbrev m : Mesh
  m = mesh_in (start_of v)

  abbrev r : Result
  r = result_of (nat_abs v.side) m t

  abbrev first : ℕ
  first = length (start_of v).slots

  abbrev fresh : List (List ℕ)
  fresh = live_tets (drop first v.parts.slots)

  abbrev near : List ℕ
  near = numbers_of (may_go t) 0 (start_of v).slots

  fresh_are : fresh ≡ r.fresh
  fresh_are = fresh-is t v h

  points_are : v.parts.points ≡ r.mesh.points
  points_are = points-are t v h

  tets_are : live_tets v.parts.slots ≡ r.mesh.tets
  tets_are = ap (λ (x : Mesh). x.tets) h.mesh

  -- ---- positive
  pub passes-Inverted : list_all (is_positive v.parts.points) fresh ≡ true → Passes s m t why.Inverted
  passes-Inverted b = positive-passes r.mesh.points r.fresh (sym (λ i. list_all (is_positive (points_are i)) (fresh_are i)) ∙ b)

  pub fails-Inverted : list_all (is_positive v.parts.points) fresh ≡ false → ¬ Passes s m t why.Inverted
  fails-Inverted b = positive-fails r.mesh.points r.fresh (sym (λ i. list_all (is_positive (points_are i)) (fresh_are i)) ∙ b)

  pub fresh-positive : Passes s m t why.Inverted → All (IsPositive v.parts.points) fresh
  fresh-positive p = subst (λ ps. All (IsPositive ps) fresh) (sym points_are) (subst (All (IsPositive r.mesh.points)) (sym fresh_are) p)

  -- ---- single
  pub passes-Doubled : list_all (has_single_faces (live_tets v.parts.slots)) fresh ≡ true → Passes s m t why.Doubled
  passes-Doubled b = single-passes r (sym (λ i. list_all (has_single_faces (tets_are i)) (fresh_are i)) ∙ b)

  pub fails-Doubled : list_all (has_single_faces (live_tets v.parts.slots)) fresh ≡ false → ¬ Passes s m t why.Doubled
  fails-Doubled b = single-fails r (sym (λ i. list_all (has_single_faces (tets_are i)) (fresh_are i)) ∙ b)

  -- ---- better
  new_is : largest (map (energy_at v.parts.points) fresh) ≡ largest (map (energy_at r.mesh.points) r.fresh)
  new_is = λ i. largest (map (energy_at (points_are i)) (fresh_are i))

  gone_is : largest (map (energy_at v.parts.points) (dead_tets v.parts.slots near)) ≡ largest (map (energy_at r.mesh.points) r.gone)
  gone_is = largest-gone t v h (energy_at v.parts.points) ∙ (λ i. largest (map (energy_at (points_are i)) r.gone))

  pub passes-Worse : largest (map (energy_at v.parts.points) fresh) < largest (map (energy_at v.parts.points) (dead_tets v.parts.slots near)) → Passes s m t why.Worse
  passes-Worse l = subst (λ n. largest (map (energy_at r.mesh.points) r.fresh) < n) gone_is (subst (λ n. n < largest (map (energy_at v.parts.points) (dead_tets v.parts.slots near))) new_is l)

  pub worse-passed : Passes s m t why.Worse → largest (map (energy_at v.parts.points) fresh) < largest (map (energy_at v.parts.points) (dead_tets v.parts.slots near))
  worse-passed l = subst (λ n. largest (map (energy_at v.parts.points) fresh) < n) (sym gone_is) (subst (λ n. n < largest (map (energy_at r.mesh.points) r.gone)) (sym new_is) l)

  -- ---- covered
  abbrev pivot : ℕ
  pivot = pivot_of (length (start_of v).points) t

  abbrev tracked : List (List ℕ)
  tracked = (mesh_in v.parts).tracked

  tracked_are : tracked ≡ r.mesh.tracked
  tracked_are = ap (λ (x : Mesh). x.tracked) h.mesh

  old_or_at : Each (IsOldOrAt m.tracked pivot) tracked
  old_or_at = subst (Each (IsOldOrAt m.tracked pivot)) (sym tracked_are) (anew m (well_formed v.side (start_of v) h.sound) (nat_abs v.side) t)

  abbrev IsGood : List ℕ → Type 0
  IsGood x = Contains m.tracked x ⊎ IsCovered s v.parts.points x

  good_all : All IsGood tracked → Passes s m t why.Uncovered
  good_all a = subst (λ ps. All (λ x. Contains m.tracked x ⊎ IsCovered s ps x) r.mesh.tracked) points_are (subst (All IsGood) tracked_are a)

  all_good : Passes s m t why.Uncovered → All IsGood tracked
  all_good a = subst (λ ps. All (λ x. Contains m.tracked x ⊎ IsCovered s ps x) tracked) (sym points_are) (subst (All (λ x. Contains m.tracked x ⊎ IsCovered s r.mesh.points x)) (sym tracked_are) a)

  pub passes-Uncovered : All (IsFine triangles e (at_point pivot m.tracked) v.parts.points) (at_point pivot tracked) → Passes s m t why.Uncovered
  passes-Uncovered a = good_all (All-from_recursion IsGood tracked (Each-weaker (λ x. Among tracked x × IsOldOrAt m.tracked pivot x) IsGood good tracked (Each-both (Among tracked) (IsOldOrAt m.tracked pivot) tracked (among-all tracked) old_or_at)))
    where
      good : (x : List ℕ) → Among tracked x × IsOldOrAt m.tracked pivot x → IsGood x
      good x i = elim (i.1) [
        | inl o ↦ inl (among-contains m.tracked x o)
        | inr p ↦ elim (among-Each (IsFine triangles e (at_point pivot m.tracked) v.parts.points) (at_point pivot tracked) x (recursion_from_All (IsFine triangles e (at_point pivot m.tracked) v.parts.points) (at_point pivot tracked) a) (among-filter (λ y. has y pivot) tracked x i.0 p)) [
          | inl l ↦ inl (among-contains m.tracked x (filter-both (λ y. has y pivot) m.tracked x (listed-among (at_point pivot m.tracked) x l)).0)
          | inr k ↦ inr k
        ]
      ]

  pub uncovered-passed : Passes s m t why.Uncovered → All (IsFine triangles e (at_point pivot m.tracked) v.parts.points) (at_point pivot tracked)
  uncovered-passed a = All-from_recursion (IsFine triangles e (at_point pivot m.tracked) v.parts.points) (at_point pivot tracked)
      (Each-weaker (λ x. Among tracked x × (has x pivot ≡ true)) (IsFine triangles e (at_point pivot m.tracked) v.parts.points) fine (at_point pivot tracked) (filter-among (λ y. has y pivot) tracked))
    where
      fine : (x : List ℕ) → Among tracked x × (has x pivot ≡ true) → IsFine triangles e (at_point pivot m.tracked) v.parts.points x
      fine x i = elim (among-Each IsGood tracked x (recursion_from_All IsGood tracked (all_good a)) i.0) [
        | inl c ↦ inl (among-listed (at_point pivot m.tracked) x (among-filter (λ y. has y pivot) m.tracked x (contains-among m.tracked x c) i.1))
        | inr k ↦ inr k
      ]
