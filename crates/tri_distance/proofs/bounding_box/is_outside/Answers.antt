use Rattle.std.proofs.Common.{rules, ℤ, inl, inr, SFits, subst, to_z, of_z, to_z-of_z, w64, ◌≡◌}
use Rattle.tri_distance.specs.Apart.{AreBeyond}
use Rattle.tri_distance.proofs.bounding_box.is_outside.Goals as goal

-- numbers as the code keeps them are the plain ones
plain : (r x y z : ℤ) → SFits w64 r → SFits w64 x → SFits w64 y → SFits w64 z
    → AreBeyond (to_z w64 (of_z w64 r)) (to_z w64 (of_z w64 x)) (to_z w64 (of_z w64 y)) (to_z w64 (of_z w64 z)) → AreBeyond r x y z
plain r x y z d f g h all =
    let same : AreBeyond (to_z w64 (of_z w64 r)) (to_z w64 (of_z w64 x)) (to_z w64 (of_z w64 y)) (to_z w64 (of_z w64 z)) ≡ AreBeyond r x y z = λ i. AreBeyond (to_z-of_z d i) (to_z-of_z f i) (to_z-of_z g i) (to_z-of_z h i) in
    subst (λ (A : Type 0). A) same all

pub returns-then-are_beyond : goal.returns-then-are_beyond
returns-then-are_beyond c t =
    let x : SFits w64 c.args.x.x = search rules in
    let y : SFits w64 c.args.y.x = search rules in
    let z : SFits w64 c.args.z.x = search rules in
    inl (plain _ _ _ _ c.ranges.far x y z (c.are_beyond.ensures c.if-are_beyond.true))

pub returns-then-are_beyond-2 : goal.returns-then-are_beyond-2
returns-then-are_beyond-2 c t =
    let x : SFits w64 c.args.x.y = search rules in
    let y : SFits w64 c.args.y.y = search rules in
    let z : SFits w64 c.args.z.y = search rules in
    inr (inl (plain _ _ _ _ c.ranges.far x y z (c.are_beyond-2.ensures c.if-are_beyond-2.true)))

pub returns : goal.returns
returns c t =
    let x : SFits w64 c.args.x.z = search rules in
    let y : SFits w64 c.args.y.z = search rules in
    let z : SFits w64 c.args.z.z = search rules in
    inr (inr (plain _ _ _ _ c.ranges.far x y z (c.are_beyond-3.ensures t)))
