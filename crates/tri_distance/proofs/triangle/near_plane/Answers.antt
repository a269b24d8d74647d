use Rattle.std.proofs.Common.{rules, ◌≡◌, ◌^◌, [], ◌∷◌, ℤ, pos, ◌*ℤ◌, ◌≤ℤ◌, ◌<ℤ◌, ap, ◌∙◌, arith, SFits, to_z, of_z, to_z-of_z, lit≤}
use Rattle.int_algebra.proofs.Laws.{linear}
use Rattle.int_algebra.proofs.Kept.{Code, variable, ◌⊗◌, kept, kept-value, fits_code}
use Rattle.grid.specs.Vectors.{dot, cross}
use Rattle.vectors.specs.Bounded.{vector_of}
use Rattle.tri_distance.proofs.Truths.{at_most_is, never_is}
use mir.Syntax.{w128}
use lib.Signed.{clash_ℤ}
use Rattle.tri_distance.proofs.triangle.near_plane.Goals as goal

abbrev square : Code
square = kept w128 (variable 0) ⊗ kept w128 (variable 0)

abbrev product : Code
product = kept w128 (variable 0) ⊗ kept w128 (variable 1)

pub returns-then-n-le0 : goal.returns-then-n-le0
returns-then-n-le0 c =
    let k_n : SFits w128 c.dot-n.result = search rules in
    let e_n : to_z w128 (of_z w128 c.dot-n.result) ≡ dot (vector_of c.args.m) (vector_of c.args.m) = to_z-of_z k_n ∙ c.dot-n.ensures.value in
    let t = c.if-n-le0.true in
    let h : dot (vector_of c.args.m) (vector_of c.args.m) ≤ℤ pos 0 = omega (arith, linear, t, e_n) in
    never_is (λ n. clash_ℤ n.some h)

pub returns-then-f-lt0 : goal.returns-then-f-lt0
returns-then-f-lt0 c =
    let k_f : SFits w128 c.dot-f.result = search rules in
    let e_f : to_z w128 (of_z w128 c.dot-f.result) ≡ dot (vector_of c.args.m) (cross (vector_of c.args.y) (vector_of c.args.z)) = to_z-of_z k_f ∙ c.dot-f.ensures.value ∙ ap (dot (vector_of c.args.m)) c.cross.ensures.value in
    let t = c.if-f-lt0.true in
    let h : dot (vector_of c.args.m) (cross (vector_of c.args.y) (vector_of c.args.z)) <ℤ pos 0 = omega (arith, linear, t, e_f) in
    never_is (λ n. clash_ℤ h n.x_in)

pub returns-then-g-lt0 : goal.returns-then-g-lt0
returns-then-g-lt0 c =
    let k_g : SFits w128 c.dot-g.result = search rules in
    let e_g : to_z w128 (of_z w128 c.dot-g.result) ≡ dot (vector_of c.args.m) (cross (vector_of c.args.z) (vector_of c.args.x)) = to_z-of_z k_g ∙ c.dot-g.ensures.value ∙ ap (dot (vector_of c.args.m)) c.cross-2.ensures.value in
    let t = c.if-g-lt0.true in
    let h : dot (vector_of c.args.m) (cross (vector_of c.args.z) (vector_of c.args.x)) <ℤ pos 0 = omega (arith, linear, t, e_g) in
    never_is (λ n. clash_ℤ h n.y_in)

pub returns-then-h-lt0 : goal.returns-then-h-lt0
returns-then-h-lt0 c =
    let k_h : SFits w128 c.dot-h.result = search rules in
    let e_h : to_z w128 (of_z w128 c.dot-h.result) ≡ dot (vector_of c.args.m) (cross (vector_of c.args.x) (vector_of c.args.y)) = to_z-of_z k_h ∙ c.dot-h.ensures.value ∙ ap (dot (vector_of c.args.m)) c.cross-3.ensures.value in
    let t = c.if-h-lt0.true in
    let h : dot (vector_of c.args.m) (cross (vector_of c.args.x) (vector_of c.args.y)) <ℤ pos 0 = omega (arith, linear, t, e_h) in
    never_is (λ n. clash_ℤ h n.z_in)

pub overflow_mul-result : goal.overflow_mul-result
overflow_mul-result c = fits_code (2 ^ 63 ∷ []) (c.dot-t.result ∷ []) (c.dot-t.ensures.within (2 ^ 37) (2 ^ 24) (2 ^ 63) c.requires.m_in c.requires.x_in (lit≤ tt), tt) w128 square tt

pub overflow_mul-result-2 : goal.overflow_mul-result-2
overflow_mul-result-2 c = fits_code (2 ^ 36 ∷ 2 ^ 76 ∷ []) (c.args.reach ∷ c.dot-n.result ∷ []) (c.requires.reach_in, (c.dot-n.ensures.within (2 ^ 37) (2 ^ 37) (2 ^ 76) c.requires.m_in c.requires.m_in (lit≤ tt), tt)) w128 product tt

pub returns : goal.returns
returns c =
    let k_n : SFits w128 c.dot-n.result = search rules in
    let e_n : to_z w128 (of_z w128 c.dot-n.result) ≡ dot (vector_of c.args.m) (vector_of c.args.m) = to_z-of_z k_n ∙ c.dot-n.ensures.value in
    let k_f : SFits w128 c.dot-f.result = search rules in
    let e_f : to_z w128 (of_z w128 c.dot-f.result) ≡ dot (vector_of c.args.m) (cross (vector_of c.args.y) (vector_of c.args.z)) = to_z-of_z k_f ∙ c.dot-f.ensures.value ∙ ap (dot (vector_of c.args.m)) c.cross.ensures.value in
    let k_g : SFits w128 c.dot-g.result = search rules in
    let e_g : to_z w128 (of_z w128 c.dot-g.result) ≡ dot (vector_of c.args.m) (cross (vector_of c.args.z) (vector_of c.args.x)) = to_z-of_z k_g ∙ c.dot-g.ensures.value ∙ ap (dot (vector_of c.args.m)) c.cross-2.ensures.value in
    let k_h : SFits w128 c.dot-h.result = search rules in
    let e_h : to_z w128 (of_z w128 c.dot-h.result) ≡ dot (vector_of c.args.m) (cross (vector_of c.args.x) (vector_of c.args.y)) = to_z-of_z k_h ∙ c.dot-h.ensures.value ∙ ap (dot (vector_of c.args.m)) c.cross-3.ensures.value in
    let t = c.if-n-le0.false in
    let some : pos 0 <ℤ dot (vector_of c.args.m) (vector_of c.args.m) = omega (arith, linear, t, e_n) in
    let t_f = c.if-f-lt0.false in
    let i_f : pos 0 ≤ℤ dot (vector_of c.args.m) (cross (vector_of c.args.y) (vector_of c.args.z)) = omega (arith, linear, t_f, e_f) in
    let t_g = c.if-g-lt0.false in
    let i_g : pos 0 ≤ℤ dot (vector_of c.args.m) (cross (vector_of c.args.z) (vector_of c.args.x)) = omega (arith, linear, t_g, e_g) in
    let t_h = c.if-h-lt0.false in
    let i_h : pos 0 ≤ℤ dot (vector_of c.args.m) (cross (vector_of c.args.x) (vector_of c.args.y)) = omega (arith, linear, t_h, e_h) in
    at_most_is _ _ (dot (vector_of c.args.m) (vector_of c.args.x) *ℤ dot (vector_of c.args.m) (vector_of c.args.x)) (c.args.reach *ℤ dot (vector_of c.args.m) (vector_of c.args.m))
    (kept-value (2 ^ 63 ∷ []) (c.dot-t.result ∷ []) (c.dot-t.ensures.within (2 ^ 37) (2 ^ 24) (2 ^ 63) c.requires.m_in c.requires.x_in (lit≤ tt), tt) (kept w128 square) tt ∙ ap (λ (q : ℤ). q *ℤ q) c.dot-t.ensures.value)
    (kept-value (2 ^ 36 ∷ 2 ^ 76 ∷ []) (c.args.reach ∷ c.dot-n.result ∷ []) (c.requires.reach_in, (c.dot-n.ensures.within (2 ^ 37) (2 ^ 37) (2 ^ 76) c.requires.m_in c.requires.m_in (lit≤ tt), tt)) (kept w128 product) tt ∙ ap (λ (q : ℤ). c.args.reach *ℤ q) c.dot-n.ensures.value)
    (λ h. record { some = some; x_in = i_f; y_in = i_g; z_in = i_h; close = h }, λ n. n.close)
