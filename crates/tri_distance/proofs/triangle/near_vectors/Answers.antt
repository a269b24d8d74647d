use Rattle.std.proofs.Common.{inl, inr, ◌↔◌, ◌⊎◌, ◌≡◌, Bool, true, false, ℤ, subst, sym, ◌∙◌, to_z-of_z, T}
use Rattle.grid.specs.Vectors.{Vector}
use Rattle.vectors.specs.Bounded.{vector_of}
use Rattle.tri_distance.specs.Parts.{NearSegment, NearPlane, NearTriangle, IsNormal}
use Rattle.tri_distance.proofs.Moves.{NearEdge}
use Rattle.tri_distance.proofs.Triangles.{triangle_is}
use Rattle.tri_distance.proofs.Truths.{always_is}
use Rattle.tri_distance.proofs.triangle.near_vectors.Goals as goal

no_part : {C : Type 0} (b : Bool) → b ≡ false → (C → b ≡ true) → C → ⊥
no_part b e h c = subst T (sym (h c) ∙ e) tt

-- no edge is near, so the plane decides
plane_decides : (x y z m : Vector) (r : ℤ) → IsNormal x y z m → (i j k l : Bool) → i ≡ false → j ≡ false → k ≡ false
    → (NearSegment x y r → i ≡ true) → (NearSegment y z r → j ≡ true) → (NearSegment z x r → k ≡ true) → (l ≡ true) ↔ NearPlane x y z m r → (l ≡ true) ↔ NearTriangle x y z r
plane_decides x y z m r h i j k l e f g p q s t =
    let all = triangle_is x y z m h.factor r h.positive h.same in
    (λ b. all.0 (inr (t.0 b)), λ n. part (all.1 n))
  where
    part : NearEdge x y z r ⊎ NearPlane x y z m r → l ≡ true
    part (inl (inl n)) = absurd (no_part i e p n)
    part (inl (inr (inl n))) = absurd (no_part j f q n)
    part (inl (inr (inr n))) = absurd (no_part k g s n)
    part (inr n) = t.1 n

pub returns-then-near_segment : goal.returns-then-near_segment
returns-then-near_segment c =
    let n = subst (NearSegment (vector_of c.args.x) (vector_of c.args.y)) (to_z-of_z c.ranges.reach) (c.near_segment.ensures.0 c.if-near_segment.true) in
    always_is ((triangle_is (vector_of c.args.x) (vector_of c.args.y) (vector_of c.args.z) (vector_of c.args.m) c.requires.normal.factor c.args.reach c.requires.normal.positive c.requires.normal.same).0 (inl (inl n)))

pub returns-then-near_segment-2 : goal.returns-then-near_segment-2
returns-then-near_segment-2 c =
    let n = subst (NearSegment (vector_of c.args.y) (vector_of c.args.z)) (to_z-of_z c.ranges.reach) (c.near_segment-2.ensures.0 c.if-near_segment-2.true) in
    always_is ((triangle_is (vector_of c.args.x) (vector_of c.args.y) (vector_of c.args.z) (vector_of c.args.m) c.requires.normal.factor c.args.reach c.requires.normal.positive c.requires.normal.same).0 (inl (inr (inl n))))

pub returns-then-near_segment-3 : goal.returns-then-near_segment-3
returns-then-near_segment-3 c =
    let n = subst (NearSegment (vector_of c.args.z) (vector_of c.args.x)) (to_z-of_z c.ranges.reach) (c.near_segment-3.ensures.0 c.if-near_segment-3.true) in
    always_is ((triangle_is (vector_of c.args.x) (vector_of c.args.y) (vector_of c.args.z) (vector_of c.args.m) c.requires.normal.factor c.args.reach c.requires.normal.positive c.requires.normal.same).0 (inl (inr (inr n))))

pub returns : goal.returns
returns c =
    plane_decides (vector_of c.args.x) (vector_of c.args.y) (vector_of c.args.z) (vector_of c.args.m) c.args.reach c.requires.normal c.near_segment.result c.near_segment-2.result c.near_segment-3.result c.near_plane.result
    c.if-near_segment.false c.if-near_segment-2.false c.if-near_segment-3.false
    (λ n. c.near_segment.ensures.1 (subst (NearSegment (vector_of c.args.x) (vector_of c.args.y)) (sym (to_z-of_z c.ranges.reach)) n))
    (λ n. c.near_segment-2.ensures.1 (subst (NearSegment (vector_of c.args.y) (vector_of c.args.z)) (sym (to_z-of_z c.ranges.reach)) n))
    (λ n. c.near_segment-3.ensures.1 (subst (NearSegment (vector_of c.args.z) (vector_of c.args.x)) (sym (to_z-of_z c.ranges.reach)) n))
    (subst (λ (r : ℤ). (c.near_plane.result ≡ true) ↔ NearPlane (vector_of c.args.x) (vector_of c.args.y) (vector_of c.args.z) (vector_of c.args.m) r) (to_z-of_z c.ranges.reach) c.near_plane.ensures)
