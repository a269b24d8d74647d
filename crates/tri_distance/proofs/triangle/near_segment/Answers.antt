use Rattle.std.proofs.Common.{rules, ◌≡◌, ◌^◌, [], ◌∷◌, ℤ, pos, ◌*ℤ◌, ◌≤ℤ◌, ◌<ℤ◌, ap, ap₂, ◌∙◌, arith, SFits, to_z, of_z, to_z-of_z, lit≤}
use Rattle.int_algebra.proofs.Laws.{linear}
use Rattle.int_algebra.proofs.Kept.{Code, variable, ◌⊗◌, kept, kept-value, fits_code}
use Rattle.grid.specs.Vectors.{dot, cross, minus}
use Rattle.vectors.specs.Bounded.{vector_of}
use Rattle.tri_distance.proofs.Truths.{at_most_is}
use Rattle.tri_distance.proofs.Segments.{first-NearSegment, last-NearSegment, middle-NearSegment}
use mir.Syntax.{w128}
use Rattle.tri_distance.proofs.triangle.near_segment.Goals as goal

-- the product of the reach with a squared length
abbrev product : Code
product = kept w128 (variable 0) ⊗ kept w128 (variable 1)

pub overflow_mul-result : goal.overflow_mul-result
overflow_mul-result c = fits_code (2 ^ 36 ∷ 2 ^ 52 ∷ []) (c.args.reach ∷ c.dot-else-dot-ge0-2.result ∷ []) (c.requires.reach_in, (c.dot-else-dot-ge0-2.ensures.within (2 ^ 25) (2 ^ 25) (2 ^ 52) c.minus-d.ensures.within c.minus-d.ensures.within (lit≤ tt), tt)) w128 product tt

pub returns-then-dot-le0 : goal.returns-then-dot-le0
returns-then-dot-le0 c =
    let f : SFits w128 c.dot.result = search rules in
    let e : to_z w128 (of_z w128 c.dot.result) ≡ dot (vector_of c.args.x) (minus (vector_of c.args.x) (vector_of c.args.y)) = to_z-of_z f ∙ c.dot.ensures.value ∙ ap (dot (vector_of c.args.x)) c.minus-d.ensures.value in
    let t = c.if-dot-le0.true in
    let h : dot (vector_of c.args.x) (minus (vector_of c.args.x) (vector_of c.args.y)) ≤ℤ pos 0 = omega (arith, linear, t, e) in
    let k : SFits w128 c.dot-then-dot-le0.result = search rules in
    at_most_is _ _ (dot (vector_of c.args.x) (vector_of c.args.x)) c.args.reach (to_z-of_z k ∙ c.dot-then-dot-le0.ensures.value) (to_z-of_z c.ranges.reach) (first-NearSegment (vector_of c.args.x) (vector_of c.args.y) c.args.reach h)

pub returns-then-dot-ge0 : goal.returns-then-dot-ge0
returns-then-dot-ge0 c =
    let f2 : SFits w128 c.dot-else-dot-le0.result = search rules in
    let e2 : to_z w128 (of_z w128 c.dot-else-dot-le0.result) ≡ dot (vector_of c.args.y) (minus (vector_of c.args.x) (vector_of c.args.y)) = to_z-of_z f2 ∙ c.dot-else-dot-le0.ensures.value ∙ ap (dot (vector_of c.args.y)) c.minus-d.ensures.value in
    let t = c.if-dot-ge0.true in
    let h : pos 0 ≤ℤ dot (vector_of c.args.y) (minus (vector_of c.args.x) (vector_of c.args.y)) = omega (arith, linear, t, e2) in
    let k : SFits w128 c.dot-then-dot-ge0.result = search rules in
    at_most_is _ _ (dot (vector_of c.args.y) (vector_of c.args.y)) c.args.reach (to_z-of_z k ∙ c.dot-then-dot-ge0.ensures.value) (to_z-of_z c.ranges.reach) (last-NearSegment (vector_of c.args.x) (vector_of c.args.y) c.args.reach h)

pub returns-else-dot-ge0 : goal.returns-else-dot-ge0
returns-else-dot-ge0 c =
    let f : SFits w128 c.dot.result = search rules in
    let e : to_z w128 (of_z w128 c.dot.result) ≡ dot (vector_of c.args.x) (minus (vector_of c.args.x) (vector_of c.args.y)) = to_z-of_z f ∙ c.dot.ensures.value ∙ ap (dot (vector_of c.args.x)) c.minus-d.ensures.value in
    let f2 : SFits w128 c.dot-else-dot-le0.result = search rules in
    let e2 : to_z w128 (of_z w128 c.dot-else-dot-le0.result) ≡ dot (vector_of c.args.y) (minus (vector_of c.args.x) (vector_of c.args.y)) = to_z-of_z f2 ∙ c.dot-else-dot-le0.ensures.value ∙ ap (dot (vector_of c.args.y)) c.minus-d.ensures.value in
    let t = c.if-dot-le0.false in
    let t2 = c.if-dot-ge0.false in
    let h : pos 0 <ℤ dot (vector_of c.args.x) (minus (vector_of c.args.x) (vector_of c.args.y)) = omega (arith, linear, t, e) in
    let h2 : dot (vector_of c.args.y) (minus (vector_of c.args.x) (vector_of c.args.y)) <ℤ pos 0 = omega (arith, linear, t2, e2) in
    let k : SFits w128 c.dot-else-dot-ge0.result = search rules in
    let d = c.minus-d.ensures.value in
    let n = c.cross-n.ensures.value in
    at_most_is _ _ (dot (cross (vector_of c.args.x) (vector_of c.args.y)) (cross (vector_of c.args.x) (vector_of c.args.y))) (c.args.reach *ℤ dot (minus (vector_of c.args.x) (vector_of c.args.y)) (minus (vector_of c.args.x) (vector_of c.args.y)))
    (to_z-of_z k ∙ c.dot-else-dot-ge0.ensures.value ∙ ap₂ dot n n)
    (kept-value (2 ^ 36 ∷ 2 ^ 52 ∷ []) (c.args.reach ∷ c.dot-else-dot-ge0-2.result ∷ []) (c.requires.reach_in, (c.dot-else-dot-ge0-2.ensures.within (2 ^ 25) (2 ^ 25) (2 ^ 52) c.minus-d.ensures.within c.minus-d.ensures.within (lit≤ tt), tt)) (kept w128 product) tt ∙ ap (λ (q : ℤ). c.args.reach *ℤ q) (c.dot-else-dot-ge0-2.ensures.value ∙ ap₂ dot d d))
    (middle-NearSegment (vector_of c.args.x) (vector_of c.args.y) c.args.reach h h2)
