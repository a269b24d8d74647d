-- Pieces are tetrahedra and rising triples again.
use Rattle.std.proofs.Common.{◌≡◌, ℕ, ◌+◌, ◌<◌, true, List, [], ◌∷◌, ◌++◌, map, length, replicate, pos, All, refl, sym, ◌∙◌, subst, inl, inr, arith, append-nil}
use Rattle.std.specs.List.{AllByRecursion as Each}
use Rattle.std.proofs.lemmas.Bool.{or_cases, or_left, or_right, true≢false}
use Rattle.std.proofs.lemmas.List.{get_or-map, length-map, length-append, length-replicate}
use Rattle.std.proofs.lemmas.List.Elements.{All-from_recursion, recursion_from_All}
use Rattle.grid.specs.declared.shapes.Point.{Point}
use Rattle.grid.specs.Meshes.{Mesh, IsTriple, IsWellFormed}
use Rattle.grid.specs.Simplices.{rising, IsTet, same_triple}
use Rattle.mesh_types.specs.declared.cut.Cut.{Cut}
use Rattle.mesh_types.specs.CutLists.{IsCutBelow, AreCuts}
use Rattle.mesh_types.specs.Refines.{sub_all, is_touched, in_order, refine}
use Rattle.grid.proofs.ForCallers.{Each-weaker}
use Rattle.mesh_types.proofs.ForCallers.{refine-IsTet, is_among, equal_from, equal_to, is_among-in_order, IsEdge, refine-well_formed}

-- what holds of all mapped elements
pub All-unmap : {X Y : Type 0} (P : Y → Type 0) (f : X → Y) (xs : List X) → All P (map f xs) → All (λ x. P (f x)) xs
All-unmap P f xs h = λ i d l. subst P (get_or-map f xs i d (f d) l) (h i (f d) (omega (arith, l, length-map xs f)))

-- the edges of a list of cuts
pub edges_of : (n : ℕ) (cuts : List Cut) → AreCuts n cuts → Each (IsEdge n) cuts
edges_of n cuts h = Each-weaker (IsCutBelow n) (IsEdge n) (edge n) cuts (recursion_from_All (IsCutBelow n) cuts h.each)
  where
    edge : (n : ℕ) (e : Cut) → IsCutBelow n e → IsEdge n e
    edge n e c = let p = c.ends_rise in let q = c.in_range in record { ends_differ = λ f. absurd (same e.u e.v p f); first_in = omega arith; second_in = q }
      where
        same : (a b : ℕ) → a < b → a ≡ b → ⊥
        same a b h e = omega arith

-- a mesh of one tetrahedron or of one triple, among points that are enough
abbrev one_tet : List Point → List ℕ → Mesh
one_tet points x = record { points = points; tets = x ∷ []; tracked = []; made = 1 }

abbrev one_triple : List Point → List ℕ → Mesh
one_triple points t = record { points = points; tets = []; tracked = t ∷ []; made = 0 }

module _ (points : List Point) (cuts : List Cut) where
  abbrev many : ℕ
  many = length (points ++ map (λ e. e.at) cuts)

  -- the pieces of a tetrahedron that some cut touches
  pub pieces-IsTet : (x : List ℕ) → is_touched cuts x ≡ true → IsTet (length points) x → Each (IsTet many) (sub_all (length points) cuts x)
  unfolding refine
  pieces-IsTet x e h =
      let all = recursion_from_All (IsTet many) (refine (one_tet points x) cuts).tets (refine-IsTet (one_tet points x) cuts (All-from_recursion (IsTet (length points)) (x ∷ []) (h, tt))) in
      let is : (refine (one_tet points x) cuts).tets ≡ sub_all (length points) cuts x = rw e (append-nil (sub_all (length points) cuts x)) in
      subst (Each (IsTet many)) is all

  among-each : (P : List ℕ → Type 0) (t : List ℕ) (xs : List (List ℕ)) → Each P xs → is_among t xs ≡ true → P t
  among-each P t [] h e = absurd (true≢false (sym e))
  among-each P t (x ∷ xs) h e = elim (or_cases (same_triple t x) (is_among t xs) e) [
    | inl f ↦ subst P (sym (equal_from t x f)) h.0
    | inr f ↦ among-each P t xs h.1 f
  ]

  each-among : (P : List ℕ → Type 0) (xs : List (List ℕ)) → ((t : List ℕ) → is_among t xs ≡ true → P t) → Each P xs
  each-among P [] h = tt
  each-among P (x ∷ xs) h = (h x (or_left (same_triple x x) (is_among x xs) (equal_to x x refl)), each-among P xs (λ t e. h t (or_right (same_triple t x) (is_among t xs) e)))

  Each-from_in_order : (P : List ℕ → Type 0) (xs : List (List ℕ)) → Each P (in_order xs) → Each P xs
  Each-from_in_order P xs h = each-among P xs (λ t e. among-each P t (in_order xs) h (is_among-in_order t xs ∙ e))

  -- the rising pieces of a rising triple
  pub pieces-IsTriple : (t : List ℕ) → AreCuts (length points) cuts → IsTriple (length points) t → Each (IsTriple many) (map rising (sub_all (length points) cuts t))
  unfolding refine
  pieces-IsTriple t are h =
      let k = length points in
      let well : IsWellFormed (refine (one_triple points t) cuts) = refine-well_formed (one_triple points t) cuts (edges_of k cuts are)
      (record { tets_are = All-from_recursion (IsTet k) [] tt; triples_are = All-from_recursion (IsTriple k) (t ∷ []) (h, tt); ordered = (tt, tt); made_is = omega arith }) in
      let all = Each-from_in_order (IsTriple many) (map rising (sub_all k cuts t ++ [])) (recursion_from_All (IsTriple many) (refine (one_triple points t) cuts).tracked well.triples_are) in
      subst (λ xs. Each (IsTriple many) (map rising xs)) (append-nil (sub_all k cuts t)) all

-- ---- by the number of points
points_of : ℕ → List Point
points_of k = replicate k (record { x = pos 0; y = pos 0; z = pos 0 })

many-is : (k n : ℕ) (cuts : List Cut) → k + length cuts ≡ n → length (points_of k ++ map (λ (e : Cut). e.at) cuts) ≡ n
unfolding points_of
many-is k n cuts e =
    let origin : Point = record { x = pos 0; y = pos 0; z = pos 0 } in
    omega (arith, e, length-append (replicate k origin) (map (λ (e : Cut). e.at) cuts), length-replicate k origin, length-map cuts (λ (e : Cut). e.at))

few-is : (k : ℕ) → length (points_of k) ≡ k
unfolding points_of
few-is k = length-replicate k (record { x = pos 0; y = pos 0; z = pos 0 })

pub numbered-IsTet : (k n : ℕ) (cuts : List Cut) (x : List ℕ) → k + length cuts ≡ n → is_touched cuts x ≡ true → IsTet k x → All (IsTet n) (sub_all k cuts x)
numbered-IsTet k n cuts x e touched h =
    let all : Each (IsTet (many (points_of k) cuts)) (sub_all (length (points_of k)) cuts x) = pieces-IsTet (points_of k) cuts x touched (subst (λ m. IsTet m x) (sym (few-is k)) h) in
    All-from_recursion (IsTet n) (sub_all k cuts x) (subst (λ m. Each (IsTet n) (sub_all m cuts x)) (few-is k) (subst (λ m. Each (IsTet m) (sub_all (length (points_of k)) cuts x)) (many-is k n cuts e) all))

pub numbered-IsTriple : (k n : ℕ) (cuts : List Cut) (t : List ℕ) → k + length cuts ≡ n → AreCuts k cuts → IsTriple k t → All (IsTriple n) (map rising (sub_all k cuts t))
numbered-IsTriple k n cuts t e are h =
    let all : Each (IsTriple (many (points_of k) cuts)) (map rising (sub_all (length (points_of k)) cuts t)) =
    pieces-IsTriple (points_of k) cuts t (subst (λ m. AreCuts m cuts) (sym (few-is k)) are) (subst (λ m. IsTriple m t) (sym (few-is k)) h) in
    All-from_recursion (IsTriple n) (map rising (sub_all k cuts t)) (subst (λ m. Each (IsTriple n) (map rising (sub_all m cuts t))) (few-is k) (subst (λ m. Each (IsTriple m) (map rising (sub_all (length (points_of k)) cuts t))) (many-is k n cuts e) all))
