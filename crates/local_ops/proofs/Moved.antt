-- Tetrahedra with a corner at another point, and with another number in its place.
use Rattle.std.proofs.Common.{◌≡◌, ◌≢◌, ℕ, ◌<◌, true, List, [], ◌∷◌, ◌++◌, length, get_or, refl, sym, ◌∙◌, ap, inl, inr, arith}
use Rattle.std.proofs.lemmas.Bool.{cases_Bool}
use Rattle.std.specs.Prelude.{nat_eq}
use Rattle.grid.specs.declared.shapes.Point.{Point}
use Rattle.grid.specs.Determinants.{point_at, det, det_at}
use Rattle.grid.specs.Energy.{energy}
use Rattle.grid.specs.Simplices.{has, put, replaced, IsTet}
use Rattle.mesh_types.specs.Verdicts.{energy_at}
use Rattle.grid.proofs.ForCallers.{has_first}
use Rattle.mesh_types.proofs.ForCallers.{Cornered, second, third, fourth, cornered_of, point_at-append, point_at-new}
use Rattle.local_ops.specs.Foreseen.{moved_at, det_with, energy_with}

-- what is told of four points, where they agree below n
pub same_four : {R : Type 0} (F : Point → Point → Point → Point → R) (f g : ℕ → Point) (n : ℕ) (x : List ℕ) (t : Cornered n x) → ((c : ℕ) → c < n → f c ≡ g c)
    → F (f t.a) (f t.b) (f t.c) (f t.d) ≡ F (g t.a) (g t.b) (g t.c) (g t.d)
same_four F f g n x t h =
    let it : (o : ℕ) → has (t.a ∷ t.b ∷ t.c ∷ t.d ∷ []) o ≡ true → f o ≡ g o = λ o e. h o (t.below o (ap (λ y. has y o) t.is ∙ e)) in
    let a = it t.a (has_first t.a (t.b ∷ t.c ∷ t.d ∷ [])) in
    let b = it t.b (second t.a t.b (t.c ∷ t.d ∷ [])) in
    let c = it t.c (third t.a t.b t.c (t.d ∷ [])) in
    let d = it t.d (fourth t.a t.b t.c t.d []) in
    λ i. F (a i) (b i) (c i) (d i)

module _ (points : List Point) (u : ℕ) (p : Point) where
  point-new : (c : ℕ) → c < length points → point_at (points ++ p ∷ []) (put u (length points) c) ≡ moved_at points u p c
  point-new c l = elim (cases_Bool (nat_eq c u)) [
    | inl e ↦ rw e (point_at-new points p)
    | inr e ↦ rw e (point_at-append points p c (other c (length points) l))
  ]
    where
      other : (c n : ℕ) → c < n → c ≢ n
      other c n l e = omega arith

  point-old : (v c : ℕ) → p ≡ point_at points v → point_at points (put u v c) ≡ moved_at points u p c
  point-old v c h = elim (cases_Bool (nat_eq c u)) [
    | inl e ↦ rw e (sym h)
    | inr e ↦ rw e refl
  ]

  -- a new number for the point
  pub det-new : (x : List ℕ) → IsTet (length points) x → det_at (points ++ p ∷ []) (replaced u (length points) x) ≡ det_with points u p x
  det-new x is =
      let t = cornered_of (length points) x is in
      ap (λ y. det_at (points ++ p ∷ []) (replaced u (length points) y)) t.is
      ∙ (same_four det (λ c. point_at (points ++ p ∷ []) (put u (length points) c)) (moved_at points u p) (length points) x t point-new
      ∙ sym (ap (det_with points u p) t.is))

  pub energy-new : (x : List ℕ) → IsTet (length points) x → energy_at (points ++ p ∷ []) (replaced u (length points) x) ≡ energy_with points u p x
  energy-new x is =
      let t = cornered_of (length points) x is in
      ap (λ y. energy_at (points ++ p ∷ []) (replaced u (length points) y)) t.is
      ∙ (same_four energy (λ c. point_at (points ++ p ∷ []) (put u (length points) c)) (moved_at points u p) (length points) x t point-new
      ∙ sym (ap (energy_with points u p) t.is))

  -- for `search`: the number of another point
  pub det-old : (v : ℕ) (x : List ℕ) → p ≡ point_at points v → IsTet (length points) x → det_at points (replaced u v x) ≡ det_with points u p x
  det-old v x h is =
      let t = cornered_of (length points) x is in
      ap (λ y. det_at points (replaced u v y)) t.is
      ∙ (same_four det (λ c. point_at points (put u v c)) (moved_at points u p) (length points) x t (λ c l. point-old v c h)
      ∙ sym (ap (det_with points u p) t.is))

  -- for `search`
  pub energy-old : (v : ℕ) (x : List ℕ) → p ≡ point_at points v → IsTet (length points) x → energy_at points (replaced u v x) ≡ energy_with points u p x
  energy-old v x h is =
      let t = cornered_of (length points) x is in
      ap (λ y. energy_at points (replaced u v y)) t.is
      ∙ (same_four energy (λ c. point_at points (put u v c)) (moved_at points u p) (length points) x t (λ c l. point-old v c h)
      ∙ sym (ap (energy_with points u p) t.is))

  -- at its places
  pub det_with-four : (x : List ℕ) → length x ≡ 4 → det_with points u p x ≡ det (moved_at points u p (get_or x 0 0)) (moved_at points u p (get_or x 1 0)) (moved_at points u p (get_or x 2 0)) (moved_at points u p (get_or x 3 0))
  det_with-four [] e = cc e
  det_with-four (a ∷ []) e = cc e
  det_with-four (a ∷ b ∷ []) e = cc e
  det_with-four (a ∷ b ∷ c ∷ []) e = cc e
  det_with-four (a ∷ b ∷ c ∷ d ∷ []) e = refl
  det_with-four (a ∷ b ∷ c ∷ d ∷ f ∷ x) e = cc e

  -- for `search`
  pub energy_with-four : (x : List ℕ) → length x ≡ 4 → energy_with points u p x ≡ energy (moved_at points u p (get_or x 0 0)) (moved_at points u p (get_or x 1 0)) (moved_at points u p (get_or x 2 0)) (moved_at points u p (get_or x 3 0))
  energy_with-four [] e = cc e
  energy_with-four (a ∷ []) e = cc e
  energy_with-four (a ∷ b ∷ []) e = cc e
  energy_with-four (a ∷ b ∷ c ∷ []) e = cc e
  energy_with-four (a ∷ b ∷ c ∷ d ∷ []) e = refl
  energy_with-four (a ∷ b ∷ c ∷ d ∷ f ∷ x) e = cc e
