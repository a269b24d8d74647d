use Rattle.std.proofs.Common.{◌≡◌, ◌∙◌, ◌<ℤ◌, pos, ap, sym, subst, arith, rules, SFits, IsTrue, ℕ, ℤ, List, [], ◌∷◌, length, get_or}
use mir.Syntax.{w128}
use Rattle.std.proofs.Common.{to_z-of_z}
use Rattle.std.specs.Int.Signed.{lt_z}
use Rattle.std.proofs.lemmas.Int.{ints}
use Rattle.std.proofs.lemmas.List.{length-map}
use Rattle.grid.specs.declared.shapes.Point.{Point}
use Rattle.grid.specs.Determinants.{det, det_at, origin, point_at}
use Rattle.mesh_types.specs.Phases.{points_of}
use Rattle.insertion.proofs.first.is_positive_at.Goals as goal

above : (z : ℤ) → (IsTrue (lt_z (pos 0) z) → pos 0 <ℤ z) × (pos 0 <ℤ z → IsTrue (lt_z (pos 0) z))
above z = (λ h. grind (arith, ints), λ h. grind (arith, ints))

det-of : (points ps : List Point) (x : List ℕ) → ps ≡ points_of points x → length x ≡ 4 → det_at points x ≡ det (get_or ps 0 origin) (get_or ps 1 origin) (get_or ps 2 origin) (get_or ps 3 origin)
det-of points ps [] e l = absurd (omega (arith, l))
det-of points ps (a ∷ []) e l = absurd (omega (arith, l))
det-of points ps (a ∷ b ∷ []) e l = absurd (omega (arith, l))
det-of points ps (a ∷ b ∷ c ∷ []) e l = absurd (omega (arith, l))
det-of points ps (a ∷ b ∷ c ∷ d ∷ []) e l =
    let at = λ (qs : List Point). det (get_or qs 0 origin) (get_or qs 1 origin) (get_or qs 2 origin) (get_or qs 3 origin) in
    ap at (sym e)
det-of points ps (a ∷ b ∷ c ∷ d ∷ f ∷ x) e l = absurd (omega (arith, l))

pub returns : goal.returns
returns c = λ points x e.
    let long : length c.args.corners.now ≡ 4 = search rules in
    let four : length x ≡ 4 = sym (length-map x (point_at points)) ∙ (sym (ap length e) ∙ long) in
    let fits : SFits w128 c.det.result = search rules in
    let is : det_at points x ≡ c.det.result = det-of points c.args.corners.now x e four ∙ sym c.det.ensures in
    let at = above (det_at points x) in
    subst (λ z. (IsTrue (lt_z (pos 0) z) → pos 0 <ℤ det_at points x) × (pos 0 <ℤ det_at points x → IsTrue (lt_z (pos 0) z))) (is ∙ sym (to_z-of_z fits)) at
