-- What is seen of a try before it is made.
use Rattle.std.proofs.Common.{◌≡◌, ◌≢◌, ℕ, suc, ◌+◌, ◌*◌, ◌<◌, ◌≤◌, Bool, true, false, ◌&&◌, List, [], ◌∷◌, map, length, ℤ, nat_abs, refl, sym, ◌∙◌, ap, ap₂, subst, inl, inr, arith, length-append}
use Rattle.std.specs.Prelude.{nat_lt}
use Rattle.std.specs.List.{flat_map, list_all, AllByRecursion as Each}
use Rattle.std.proofs.lemmas.Bool.{cases_Bool, and_from, and_parts, ltb-true, lt-ltb, true≢false}
use Rattle.std.proofs.lemmas.List.{length-map}
use Rattle.std.proofs.lemmas.List.Folds.{list_all-append}
use Rattle.grid.specs.declared.shapes.Point.{Point}
use Rattle.grid.specs.declared.shapes.Tri.{Tri}
use Rattle.grid.specs.Determinants.{point_at}
use Rattle.grid.specs.Energy.{energy}
use Rattle.grid.specs.Meshes.{Mesh, IsWellFormed}
use Rattle.grid.specs.Simplices.{has}
use Rattle.grid.specs.Limits.{most_points, most_made}
use Rattle.mesh_types.specs.declared.tries.Try.{Try}
use Rattle.mesh_types.specs.declared.tries.Try.TheVariants.{Split, Shift, Collapse, FaceSwap, EdgeSwap}
use Rattle.mesh_types.specs.declared.tries.Why.TheVariants as why
use Rattle.mesh_types.specs.Journals.{setting}
use Rattle.mesh_types.specs.Results.{Result, result_of}
use Rattle.mesh_types.specs.Verdicts.{Setting, Passes, energy_at, largest}
use Rattle.grid.proofs.ForCallers.{Each-weaker}
use Rattle.mesh_types.proofs.ForCallers.{Cornered, Each-filter, longer_result, IsLonger, cornered_tets}
use Rattle.mesh_store.specs.Parts.{Parts, live_tets, mesh_in}
use Rattle.mesh_store.specs.Sound.{IsSoundStore}
use Rattle.mesh_store.proofs.ForCallers.{well_formed}
use Rattle.tet_slots.specs.Searches.{numbers_of}
use Rattle.local_ops.specs.Attempts.{may_go}
use Rattle.local_ops.specs.Foreseen.{IsAim, are_lower, become_lower, become_positive, near_tets, pieces_of, points_with}
use Rattle.local_ops.specs.Measures.{corners_at, is_positive}
use Rattle.local_ops.proofs.Aims.{near-is}
use Rattle.local_ops.proofs.Lower.{largest-below, below-largest}
use Rattle.local_ops.proofs.Moved.{same_four}
use Rattle.local_ops.proofs.NewTets.{positive-passes, positive-fails}
use Rattle.local_ops.proofs.Replacing.{is_near, replacement}

-- ---- lists
list_all-flat : (q : List ℕ → Bool) (f : List ℕ → List (List ℕ)) (xs : List (List ℕ)) → list_all (λ x. list_all q (f x)) xs ≡ list_all q (flat_map f xs)
list_all-flat q f [] = refl
list_all-flat q f (x ∷ xs) = ap (λ b. list_all q (f x) && b) (list_all-flat q f xs) ∙ sym (list_all-append q (f x) (flat_map f xs))

map-same : (f g : List ℕ → ℕ) (xs : List (List ℕ)) → Each (λ x. f x ≡ g x) xs → map f xs ≡ map g xs
map-same f g [] h = refl
map-same f g (x ∷ xs) h = ap₂ ◌∷◌ h.0 (map-same f g xs h.1)

few-pieces : (t : Try) (n : ℕ) (x : List ℕ) → length (pieces_of t n x) ≤ 2
few-pieces (Split u v) n x = omega arith
few-pieces (Shift u way) n x = omega arith
few-pieces (Collapse u v) n x = elim (cases_Bool (has x v)) [ inl e ↦ rw e (omega arith) | inr e ↦ rw e (omega arith) ]
few-pieces (FaceSwap a b c) n x = omega arith
few-pieces (EdgeSwap u v) n x = omega arith

few-flat : (t : Try) (n : ℕ) (xs : List (List ℕ)) → length (flat_map (pieces_of t n) xs) ≤ 2 * length xs
few-flat t n [] = omega arith
few-flat t n (x ∷ xs) = let one = few-pieces t n x in let rest = few-flat t n xs in let all = length-append (pieces_of t n x) (flat_map (pieces_of t n) xs) in omega (arith, one, rest, all)

few-points : (t : Try) (p : Point) (points : List Point) → length (points_with t p points) ≤ suc (length points)
few-points (Split u v) p points = let e = length-append points (p ∷ []) in omega (arith, e)
few-points (Shift u way) p points = let e = length-append points (p ∷ []) in omega (arith, e)
few-points (Collapse u v) p points = omega arith
few-points (FaceSwap a b c) p points = omega arith
few-points (EdgeSwap u v) p points = omega arith

-- the energy is that among more points
energy-longer : (points points' : List Point) → IsLonger points points' → (x : List ℕ) → Cornered (length points) x → energy_at points x ≡ energy_at points' x
energy-longer points points' g x t =
    ap (energy_at points) t.is
    ∙ (same_four energy (point_at points) (point_at points') (length points) x t (λ c l. sym (g.agree c (other c (length points) l)))
    ∙ sym (ap (energy_at points') t.is))
  where
    other : (c n : ℕ) → c < n → c ≢ n
    other c n l e = omega arith

module _ (triangles : List Tri) (e : ℕ) (side : ℤ) (parts : Parts) (t : Try) (p : Point) (sound : IsSoundStore side parts) (aim : IsAim (nat_abs side) parts t p) where
  abbrev s : Setting
  s = setting triangles e side

  abbrev m : Mesh
  m = mesh_in parts

  abbrev r : Result
  r = result_of (nat_abs side) m t

  abbrev near : List (List ℕ)
  near = near_tets t parts.slots

  well : IsWellFormed m
  well = well_formed side parts sound

  -- a test of all pieces is one of all new tetrahedra
  all-pieces : (q : List ℕ → Bool) → list_all (λ x. list_all q (pieces_of t (length parts.points) x)) near ≡ list_all q r.fresh
  all-pieces q = list_all-flat q (pieces_of t (length parts.points)) near ∙ ap (list_all q) aim.fresh

  -- ---- the limits
  pub passes-Full : length parts.points < most_points → length parts.slots + 2 * length (numbers_of (may_go t) 0 parts.slots) ≤ most_made → Passes s m t why.Full
  passes-Full some room = record {
    points_few = let few = few-points t p parts.points in let is = ap length aim.points in omega (arith, few, is, some);
    made_few =
        let made = (replacement m (nat_abs side) t).made in
        let few = few-flat t (length parts.points) near in
        let is = ap length aim.fresh in
        let as_many = length-map (numbers_of (may_go t) 0 parts.slots) (corners_at parts.slots) in
        omega (arith, made, few, is, as_many, room);
  }

  -- ---- positive
  positive_is : list_all (become_positive t p parts.points) near ≡ list_all (is_positive r.mesh.points) r.fresh
  positive_is = all-pieces (is_positive (points_with t p parts.points)) ∙ ap (λ ps. list_all (is_positive ps) r.fresh) aim.points

  pub passes-Inverted : list_all (become_positive t p parts.points) near ≡ true → Passes s m t why.Inverted
  passes-Inverted b = positive-passes r.mesh.points r.fresh (sym positive_is ∙ b)

  pub fails-Inverted : list_all (become_positive t p parts.points) near ≡ false → ¬ Passes s m t why.Inverted
  fails-Inverted b = positive-fails r.mesh.points r.fresh (sym positive_is ∙ b)

  -- ---- better
  abbrev most : ℕ
  most = largest (map (energy_at parts.points) near)

  cornered : Each (Cornered (length parts.points)) near
  cornered = subst (Each (Cornered (length parts.points))) (sym (near-is t parts.slots)) (Each-filter (Cornered (length parts.points)) (is_near t) (live_tets parts.slots) (cornered_tets m well))

  most_is : most ≡ largest (map (energy_at r.mesh.points) r.gone)
  most_is = ap largest (map-same (energy_at parts.points) (energy_at r.mesh.points) near
      (Each-weaker (Cornered (length parts.points)) (λ x. energy_at parts.points x ≡ energy_at r.mesh.points x) (energy-longer parts.points r.mesh.points (longer_result (nat_abs side) m t)) near cornered)
      ∙ ap (map (energy_at r.mesh.points)) aim.gone)

  lower_is : (n : ℕ) → list_all (become_lower t p parts.points n) near ≡ list_all (λ y. nat_lt (energy_at r.mesh.points y) n) r.fresh
  lower_is n = all-pieces (λ y. nat_lt (energy_at (points_with t p parts.points) y) n) ∙ ap (λ ps. list_all (λ y. nat_lt (energy_at ps y) n) r.fresh) aim.points

  pub passes-Worse : are_lower t p parts.points near ≡ true → Passes s m t why.Worse
  passes-Worse b =
      let both = and_parts (nat_lt 0 most) (list_all (become_lower t p parts.points most) near) b in
      subst (λ n. largest (map (energy_at r.mesh.points) r.fresh) < n) most_is
      (largest-below (energy_at r.mesh.points) most r.fresh (ltb-true 0 most both.0) (sym (lower_is most) ∙ both.1))

  pub fails-Worse : are_lower t p parts.points near ≡ false → ¬ Passes s m t why.Worse
  fails-Worse b k =
      let below = subst (λ n. largest (map (energy_at r.mesh.points) r.fresh) < n) (sym most_is) k in
      let some : 0 < most = omega (arith, below) in
      true≢false (sym (and_from (nat_lt 0 most) (list_all (become_lower t p parts.points most) near) (lt-ltb 0 most some) (lower_is most ∙ below-largest (energy_at r.mesh.points) most r.fresh below)) ∙ b)
