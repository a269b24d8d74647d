use Rattle.std.proofs.Common.{rules, ◌≡◌, ◌^◌, ◌*◌, pos, ◌∙◌, SFits, subst, to_z, of_z, to_z-of_z, w64}
use mir.Syntax.{w128}
use Rattle.vectors.specs.Bounded.{gap_of}
use Rattle.tri_distance.specs.Apart.{AreFar}
use Rattle.tri_distance.proofs.Beyond.{far_away}
use Rattle.tri_distance.proofs.Truths.{never_is}
use Rattle.tri_distance.proofs.Scales.{normal_is, corners_is}
use Rattle.tri_distance.proofs.distance.near_corners.Goals as goal

pub near_vectors-requires-clause-normal : goal.near_vectors-requires-clause-normal
near_vectors-requires-clause-normal c =
    normal_is c.args.p c.args.a c.args.b c.args.c c.args.k _ _ _ _ c.gap-x.ensures.value c.gap-y.ensures.value c.gap-z.ensures.value c.normal.ensures.value

pub returns-then-is_outside : goal.returns-then-is_outside
returns-then-is_outside c =
    let fits : SFits w64 c.far_of.result = search rules in
    let far : to_z w64 (of_z w64 c.far_of.result) ≡ pos (c.args.e * 2 ^ c.args.k) = to_z-of_z fits ∙ c.far_of.ensures.value in
    let apart : AreFar (gap_of c.args.p (pos (2 ^ c.args.k)) c.args.a) (gap_of c.args.p (pos (2 ^ c.args.k)) c.args.b) (gap_of c.args.p (pos (2 ^ c.args.k)) c.args.c) (pos (c.args.e * 2 ^ c.args.k)) =
    subst (λ (A : Type 0). A) (λ i. AreFar (c.gap-x.ensures.value i) (c.gap-y.ensures.value i) (c.gap-z.ensures.value i) (far i)) (c.is_outside.ensures c.if-is_outside.true) in
    never_is (far_away c.args.p c.args.k c.args.e c.args.a c.args.b c.args.c apart)

pub returns : goal.returns
returns c =
    let fits : SFits w128 c.reach_of-reach.result = search rules in
    let reach : to_z w128 (of_z w128 c.reach_of-reach.result) ≡ pos (c.args.e * 2 ^ c.args.k * (c.args.e * 2 ^ c.args.k)) = to_z-of_z fits ∙ c.reach_of-reach.ensures.value in
    corners_is c.args.p c.args.k c.args.e c.args.a c.args.b c.args.c _ _ _ _ c.near_vectors.result c.gap-x.ensures.value c.gap-y.ensures.value c.gap-z.ensures.value reach c.near_vectors.ensures
