use Rattle.std.proofs.Common.{All, ℤ, nat_abs, refl, sym, subst, to_z-of_z}
use Rattle.std.proofs.lemmas.Bool.{true≢false}
use Rattle.grid.specs.Boxes.{IsInBox}
use Rattle.grid.specs.Determinants.{IsPositive}
use Rattle.grid.specs.Meshes.{Mesh, IsWithinLimits}
use Rattle.mesh_types.specs.declared.tries.Why.TheVariants as why
use Rattle.mesh_types.specs.Journals.{setting}
use Rattle.mesh_types.specs.Results.{Result}
use Rattle.mesh_types.specs.Verdicts.{Setting, PassesBox, IsSingle, IsBetter, AreCovered}
use Rattle.mesh_types.specs.Views.{mesh_of}
use Rattle.mesh_types.proofs.ForCallers.{inside_law}
use Rattle.plain_ops.proofs.GoneTets.{gone-positive}
use Rattle.plain_ops.proofs.Meshes.{on-grid}
use Rattle.plain_ops.proofs.Reasons.{first, next, all}
use Rattle.plain_ops.proofs.attempting.verdict_of.Goals as goal

pub is_upright-requires : goal.is_upright-requires
is_upright-requires c =
    let l = nat_abs c.args.side in
    record {
      in_box = on-grid c.args.side c.args.made.now.mesh.points c.requires.side_low c.requires.side_high
          (subst (λ (r : Result). All (IsInBox l) r.mesh.points) (sym c.requires.made) (inside_law l (mesh_of c.args.mesh.now) c.args.attempt c.requires.in_box));
    }

pub is_better-requires-clause-in_box : goal.is_better-requires-clause-in_box
is_better-requires-clause-in_box c =
    let l = nat_abs c.args.side in
    on-grid c.args.side c.args.made.now.mesh.points c.requires.side_low c.requires.side_high
    (subst (λ (r : Result). All (IsInBox l) r.mesh.points) (sym c.requires.made) (inside_law l (mesh_of c.args.mesh.now) c.args.attempt c.requires.in_box))

pub is_inside-requires-clause-in_box : goal.is_inside-requires-clause-in_box
is_inside-requires-clause-in_box c =
    let l = nat_abs c.args.side in
    on-grid c.args.side c.args.made.now.mesh.points c.requires.side_low c.requires.side_high
    (subst (λ (r : Result). All (IsInBox l) r.mesh.points) (sym c.requires.made) (inside_law l (mesh_of c.args.mesh.now) c.args.attempt c.requires.in_box))

pub returns-then-not-passes_box : goal.returns-then-not-passes_box
returns-then-not-passes_box c =
    let s : Setting = setting c.args.env.now c.args.e c.args.side in
    let m : Mesh = mesh_of c.args.mesh.now in
    let t = c.args.attempt in
    let k = c.requires.made in
    let side = to_z-of_z c.ranges.side in
    let p0 = first s m t in
    ((λ p. true≢false (sym (c.if-not-passes_box.ensures.1 (subst (λ (z : ℤ). PassesBox (nat_abs z) m t) (sym side) p)))), p0)

pub returns-then-not-passes_rim : goal.returns-then-not-passes_rim
returns-then-not-passes_rim c =
    let s : Setting = setting c.args.env.now c.args.e c.args.side in
    let m : Mesh = mesh_of c.args.mesh.now in
    let t = c.args.attempt in
    let k = c.requires.made in
    let side = to_z-of_z c.ranges.side in
    let p0 = first s m t in
    let p1 = next s m t why.Box p0 (subst (λ (z : ℤ). PassesBox (nat_abs z) m t) side (c.if-not-passes_box.ensures.0 refl)) in
    ((λ p. true≢false (sym (c.if-not-passes_rim.ensures.1 p))), p1)

pub returns-then-not-passes_tracked : goal.returns-then-not-passes_tracked
returns-then-not-passes_tracked c =
    let s : Setting = setting c.args.env.now c.args.e c.args.side in
    let m : Mesh = mesh_of c.args.mesh.now in
    let t = c.args.attempt in
    let k = c.requires.made in
    let side = to_z-of_z c.ranges.side in
    let p0 = first s m t in
    let p1 = next s m t why.Box p0 (subst (λ (z : ℤ). PassesBox (nat_abs z) m t) side (c.if-not-passes_box.ensures.0 refl)) in
    let p2 = next s m t why.Rim p1 (c.if-not-passes_rim.ensures.0 refl) in
    ((λ p. true≢false (sym (c.if-not-passes_tracked.ensures.1 p))), p2)

pub returns-then-not-is_within_limits : goal.returns-then-not-is_within_limits
returns-then-not-is_within_limits c =
    let s : Setting = setting c.args.env.now c.args.e c.args.side in
    let m : Mesh = mesh_of c.args.mesh.now in
    let t = c.args.attempt in
    let k = c.requires.made in
    let side = to_z-of_z c.ranges.side in
    let p0 = first s m t in
    let p1 = next s m t why.Box p0 (subst (λ (z : ℤ). PassesBox (nat_abs z) m t) side (c.if-not-passes_box.ensures.0 refl)) in
    let p2 = next s m t why.Rim p1 (c.if-not-passes_rim.ensures.0 refl) in
    let p3 = next s m t why.Tracked p2 (c.if-not-passes_tracked.ensures.0 refl) in
    ((λ p. c.if-not-is_within_limits.ensures.no refl (subst (λ (r : Result). IsWithinLimits r.mesh) (sym k) p)), p3)

pub returns-then-not-is_upright : goal.returns-then-not-is_upright
returns-then-not-is_upright c =
    let s : Setting = setting c.args.env.now c.args.e c.args.side in
    let m : Mesh = mesh_of c.args.mesh.now in
    let t = c.args.attempt in
    let k = c.requires.made in
    let side = to_z-of_z c.ranges.side in
    let p0 = first s m t in
    let p1 = next s m t why.Box p0 (subst (λ (z : ℤ). PassesBox (nat_abs z) m t) side (c.if-not-passes_box.ensures.0 refl)) in
    let p2 = next s m t why.Rim p1 (c.if-not-passes_rim.ensures.0 refl) in
    let p3 = next s m t why.Tracked p2 (c.if-not-passes_tracked.ensures.0 refl) in
    let p4 = next s m t why.Full p3 (subst (λ (r : Result). IsWithinLimits r.mesh) k (c.if-not-is_within_limits.ensures.yes refl)) in
    ((λ p. true≢false (sym (c.if-not-is_upright.ensures.1 (subst (λ (r : Result). All (IsPositive r.mesh.points) r.fresh) (sym k) p)))), p4)

pub returns-then-not-is_single : goal.returns-then-not-is_single
returns-then-not-is_single c =
    let s : Setting = setting c.args.env.now c.args.e c.args.side in
    let m : Mesh = mesh_of c.args.mesh.now in
    let t = c.args.attempt in
    let k = c.requires.made in
    let side = to_z-of_z c.ranges.side in
    let p0 = first s m t in
    let p1 = next s m t why.Box p0 (subst (λ (z : ℤ). PassesBox (nat_abs z) m t) side (c.if-not-passes_box.ensures.0 refl)) in
    let p2 = next s m t why.Rim p1 (c.if-not-passes_rim.ensures.0 refl) in
    let p3 = next s m t why.Tracked p2 (c.if-not-passes_tracked.ensures.0 refl) in
    let p4 = next s m t why.Full p3 (subst (λ (r : Result). IsWithinLimits r.mesh) k (c.if-not-is_within_limits.ensures.yes refl)) in
    let p5 = next s m t why.Inverted p4 (subst (λ (r : Result). All (IsPositive r.mesh.points) r.fresh) k (c.if-not-is_upright.ensures.0 refl)) in
    ((λ p. true≢false (sym (c.if-not-is_single.ensures.1 (subst IsSingle (sym k) p)))), p5)

pub returns-then-not-is_better : goal.returns-then-not-is_better
returns-then-not-is_better c =
    let s : Setting = setting c.args.env.now c.args.e c.args.side in
    let m : Mesh = mesh_of c.args.mesh.now in
    let t = c.args.attempt in
    let k = c.requires.made in
    let side = to_z-of_z c.ranges.side in
    let p0 = first s m t in
    let p1 = next s m t why.Box p0 (subst (λ (z : ℤ). PassesBox (nat_abs z) m t) side (c.if-not-passes_box.ensures.0 refl)) in
    let p2 = next s m t why.Rim p1 (c.if-not-passes_rim.ensures.0 refl) in
    let p3 = next s m t why.Tracked p2 (c.if-not-passes_tracked.ensures.0 refl) in
    let p4 = next s m t why.Full p3 (subst (λ (r : Result). IsWithinLimits r.mesh) k (c.if-not-is_within_limits.ensures.yes refl)) in
    let p5 = next s m t why.Inverted p4 (subst (λ (r : Result). All (IsPositive r.mesh.points) r.fresh) k (c.if-not-is_upright.ensures.0 refl)) in
    let p6 = next s m t why.Doubled p5 (subst IsSingle k (c.if-not-is_single.ensures.0 refl)) in
    ((λ p. true≢false (sym (c.if-not-is_better.ensures.1 (subst IsBetter (sym k) p)))), p6)

pub returns-then-not-is_inside : goal.returns-then-not-is_inside
returns-then-not-is_inside c =
    let s : Setting = setting c.args.env.now c.args.e c.args.side in
    let m : Mesh = mesh_of c.args.mesh.now in
    let t = c.args.attempt in
    let k = c.requires.made in
    let side = to_z-of_z c.ranges.side in
    let p0 = first s m t in
    let p1 = next s m t why.Box p0 (subst (λ (z : ℤ). PassesBox (nat_abs z) m t) side (c.if-not-passes_box.ensures.0 refl)) in
    let p2 = next s m t why.Rim p1 (c.if-not-passes_rim.ensures.0 refl) in
    let p3 = next s m t why.Tracked p2 (c.if-not-passes_tracked.ensures.0 refl) in
    let p4 = next s m t why.Full p3 (subst (λ (r : Result). IsWithinLimits r.mesh) k (c.if-not-is_within_limits.ensures.yes refl)) in
    let p5 = next s m t why.Inverted p4 (subst (λ (r : Result). All (IsPositive r.mesh.points) r.fresh) k (c.if-not-is_upright.ensures.0 refl)) in
    let p6 = next s m t why.Doubled p5 (subst IsSingle k (c.if-not-is_single.ensures.0 refl)) in
    let p7 = next s m t why.Worse p6 (subst IsBetter k (c.if-not-is_better.ensures.0 refl)) in
    ((λ p. true≢false (sym (c.if-not-is_inside.ensures.1 (subst (λ (r : Result). AreCovered s m r) (sym k) p)))), p7)

pub returns : goal.returns
returns c =
    let s : Setting = setting c.args.env.now c.args.e c.args.side in
    let m : Mesh = mesh_of c.args.mesh.now in
    let t = c.args.attempt in
    let k = c.requires.made in
    let side = to_z-of_z c.ranges.side in
    let p0 = first s m t in
    let p1 = next s m t why.Box p0 (subst (λ (z : ℤ). PassesBox (nat_abs z) m t) side (c.if-not-passes_box.ensures.0 refl)) in
    let p2 = next s m t why.Rim p1 (c.if-not-passes_rim.ensures.0 refl) in
    let p3 = next s m t why.Tracked p2 (c.if-not-passes_tracked.ensures.0 refl) in
    let p4 = next s m t why.Full p3 (subst (λ (r : Result). IsWithinLimits r.mesh) k (c.if-not-is_within_limits.ensures.yes refl)) in
    let p5 = next s m t why.Inverted p4 (subst (λ (r : Result). All (IsPositive r.mesh.points) r.fresh) k (c.if-not-is_upright.ensures.0 refl)) in
    let p6 = next s m t why.Doubled p5 (subst IsSingle k (c.if-not-is_single.ensures.0 refl)) in
    let p7 = next s m t why.Worse p6 (subst IsBetter k (c.if-not-is_better.ensures.0 refl)) in
    let p8 = next s m t why.Uncovered p7 (subst (λ (r : Result). AreCovered s m r) k (c.if-not-is_inside.ensures.0 refl)) in
    all s m t p8

pub is_better-requires-clause-fresh_positive : goal.is_better-requires-clause-fresh_positive
is_better-requires-clause-fresh_positive c = c.if-not-is_upright.ensures.0 refl

pub is_better-requires-clause-gone_positive : goal.is_better-requires-clause-gone_positive
is_better-requires-clause-gone_positive c =
    subst (λ (r : Result). All (IsPositive r.mesh.points) r.gone) (sym c.requires.made) (gone-positive (nat_abs c.args.side) (mesh_of c.args.mesh.now) c.args.attempt c.requires.well_formed c.requires.positive)
