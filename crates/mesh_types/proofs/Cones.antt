-- The determinants of a point and the faces of tetrahedra.
use Rattle.std.proofs.Common.{◌≡◌, ℕ, List, [], ◌∷◌, true, ap, refl, sym, ◌∙◌, arith, inl, inr, ℤ, pos, ◌+ℤ◌, neg_ℤ}
use Rattle.std.proofs.lemmas.Bool.{true≢false}
use Rattle.grid.specs.declared.shapes.Point.{Point}
use Rattle.grid.specs.Simplices.{has, faces, all_faces}
use Rattle.grid.specs.Determinants.{det, point_at, det_at, volume}
use Rattle.grid.specs.Boxes.{Axis, along_x, along_y, along_z, coordinate}
use Rattle.mesh_types.proofs.Sums.{total, total-append}
use Rattle.grid.proofs.ForCallers.{has_cases}
use Rattle.mesh_types.proofs.Opened.{IsOfFaces}
use Rattle.int_algebra.proofs.Laws.{linear}
use Rattle.int_algebra.proofs.Ring.{Expression, constant, ◌⊕◌, ◌⊖◌, ◌⊗◌, minus, ring, ring_from, ◌≈◌}
use Rattle.int_algebra.proofs.Corners.{corner, less, det as det_expression}

abbrev pub coordinates : List Point → List ℤ
coordinates [] = []
coordinates (p ∷ ps) = p.x ∷ p.y ∷ p.z ∷ coordinates ps

-- a point splits the volume into those over the four faces
pub det-faces : (a b c d k : Point) → det a b c d ≡ det k a c b +ℤ (det k a b d +ℤ (det k a d c +ℤ (det k b c d +ℤ pos 0)))
unfolding det
det-faces a b c d k =
    let a' = corner 0 in
    let b' = corner 1 in
    let c' = corner 2 in
    let d' = corner 3 in
    let k' = corner 4 in
    ring (coordinates (a ∷ b ∷ c ∷ d ∷ k ∷ [])) (det_expression a' b' c' d') (det_expression k' a' c' b' ⊕ (det_expression k' a' b' d' ⊕ (det_expression k' a' d' c' ⊕ (det_expression k' b' c' d' ⊕ constant (pos 0))))) refl

pub det-turned : (k a b c : Point) → det k b c a ≡ det k a b c
unfolding det
det-turned k a b c = ring (coordinates (k ∷ a ∷ b ∷ c ∷ [])) (det_expression (corner 0) (corner 2) (corner 3) (corner 1)) (det_expression (corner 0) (corner 1) (corner 2) (corner 3)) refl

pub det-reversed : (k a b c : Point) → det k a c b ≡ neg_ℤ (det k a b c)
unfolding det
det-reversed k a b c = ring (coordinates (k ∷ a ∷ b ∷ c ∷ [])) (det_expression (corner 0) (corner 1) (corner 3) (corner 2)) (minus (det_expression (corner 0) (corner 1) (corner 2) (corner 3))) refl

pub det-first : (k b c : Point) → det k k b c ≡ pos 0
unfolding det
det-first k b c = ring (coordinates (k ∷ b ∷ c ∷ [])) (det_expression (corner 0) (corner 0) (corner 1) (corner 2)) (constant (pos 0)) refl

-- the product of three differences by the other two coordinates
abbrev cofactor : Expression → Expression → Expression → Expression → Expression
cofactor p q r s = p ⊗ s ⊖ q ⊗ r

flat_x : (k a b c : Point) → a.x ≡ k.x → b.x ≡ k.x → c.x ≡ k.x → det k a b c ≡ pos 0
unfolding det
flat_x k a b c e f g =
    let p = less (corner 1) (corner 0) in
    let q = less (corner 2) (corner 0) in
    let r = less (corner 3) (corner 0) in
    ring_from (coordinates (k ∷ a ∷ b ∷ c ∷ [])) (((corner 1).x ≈ (corner 0).x) ∷ ((corner 2).x ≈ (corner 0).x) ∷ ((corner 3).x ≈ (corner 0).x) ∷ [])
    (cofactor q.y q.z r.y r.z ∷ cofactor p.z p.y r.z r.y ∷ cofactor p.y p.z q.y q.z ∷ []) (det_expression (corner 0) (corner 1) (corner 2) (corner 3)) (constant (pos 0)) refl (e, (f, (g, tt)))

flat_y : (k a b c : Point) → a.y ≡ k.y → b.y ≡ k.y → c.y ≡ k.y → det k a b c ≡ pos 0
unfolding det
flat_y k a b c e f g =
    let p = less (corner 1) (corner 0) in
    let q = less (corner 2) (corner 0) in
    let r = less (corner 3) (corner 0) in
    ring_from (coordinates (k ∷ a ∷ b ∷ c ∷ [])) (((corner 1).y ≈ (corner 0).y) ∷ ((corner 2).y ≈ (corner 0).y) ∷ ((corner 3).y ≈ (corner 0).y) ∷ [])
    (cofactor q.z q.x r.z r.x ∷ cofactor p.x p.z r.x r.z ∷ cofactor p.z p.x q.z q.x ∷ []) (det_expression (corner 0) (corner 1) (corner 2) (corner 3)) (constant (pos 0)) refl (e, (f, (g, tt)))

flat_z : (k a b c : Point) → a.z ≡ k.z → b.z ≡ k.z → c.z ≡ k.z → det k a b c ≡ pos 0
unfolding det
flat_z k a b c e f g =
    let p = less (corner 1) (corner 0) in
    let q = less (corner 2) (corner 0) in
    let r = less (corner 3) (corner 0) in
    ring_from (coordinates (k ∷ a ∷ b ∷ c ∷ [])) (((corner 1).z ≈ (corner 0).z) ∷ ((corner 2).z ≈ (corner 0).z) ∷ ((corner 3).z ≈ (corner 0).z) ∷ [])
    (cofactor q.x q.y r.x r.y ∷ cofactor p.y p.x r.y r.x ∷ cofactor p.x p.y q.x q.y ∷ []) (det_expression (corner 0) (corner 1) (corner 2) (corner 3)) (constant (pos 0)) refl (e, (f, (g, tt)))

-- four points of one coordinate have no volume
pub det-flat : (axis : Axis) (k a b c : Point) → coordinate axis a ≡ coordinate axis k → coordinate axis b ≡ coordinate axis k → coordinate axis c ≡ coordinate axis k → det k a b c ≡ pos 0
det-flat along_x k a b c e f g = flat_x k a b c e f g
det-flat along_y k a b c e f g = flat_y k a b c e f g
det-flat along_z k a b c e f g = flat_z k a b c e f g

-- ---- the cone of the point k over a face
abbrev pub cone : List Point → ℕ → List ℕ → ℤ
cone points k (a ∷ b ∷ c ∷ []) = det (point_at points k) (point_at points a) (point_at points b) (point_at points c)
cone points k f = pos 0

pub cone-turned : (points : List Point) (k : ℕ) → IsOfFaces (cone points k)
cone-turned points k = record { turned = λ a b c. det-turned (point_at points k) (point_at points a) (point_at points b) (point_at points c) }

-- a cone over a face that has k is flat
pub cone-has : (points : List Point) (k : ℕ) (f : List ℕ) → has f k ≡ true → cone points k f ≡ pos 0
cone-has points k [] h = refl
cone-has points k (a ∷ []) h = refl
cone-has points k (a ∷ b ∷ []) h = refl
cone-has points k (a ∷ b ∷ c ∷ d ∷ f) h = refl
cone-has points k (a ∷ b ∷ c ∷ []) h =
    let at : ℕ → Point = λ i. point_at points i in
    elim (has_cases a (b ∷ c ∷ []) k h) [
      | inl e ↦ ap (λ i. det (at k) (at i) (at b) (at c)) e ∙ det-first (at k) (at b) (at c)
      | inr g ↦ elim (has_cases b (c ∷ []) k g) [
        | inl e ↦ ap (λ i. det (at k) (at a) (at i) (at c)) e ∙ sym (det-turned (at k) (at a) (at k) (at c)) ∙ det-first (at k) (at c) (at a)
        | inr g ↦ elim (has_cases c [] k g) [
          | inl e ↦ ap (λ i. det (at k) (at a) (at b) (at i)) e ∙ det-turned (at k) (at k) (at a) (at b) ∙ det-first (at k) (at a) (at b)
          | inr e ↦ absurd (true≢false (sym e))
        ]
      ]
    ]

det_at-faces : (points : List Point) (k : ℕ) (x : List ℕ) → det_at points x ≡ total (cone points k) (faces x)
det_at-faces points k [] = refl
det_at-faces points k (a ∷ []) = refl
det_at-faces points k (a ∷ b ∷ []) = refl
det_at-faces points k (a ∷ b ∷ c ∷ []) = refl
det_at-faces points k (a ∷ b ∷ c ∷ d ∷ e ∷ x) = refl
det_at-faces points k (a ∷ b ∷ c ∷ d ∷ []) = det-faces (point_at points a) (point_at points b) (point_at points c) (point_at points d) (point_at points k)

-- the volume is that of the cones over all faces
pub volume-cones : (points : List Point) (k : ℕ) (ts : List (List ℕ)) → volume points ts ≡ total (cone points k) (all_faces ts)
volume-cones points k [] = refl
volume-cones points k (x ∷ ts) = omega (arith, linear, det_at-faces points k x, volume-cones points k ts, total-append (cone points k) (faces x) (all_faces ts))
