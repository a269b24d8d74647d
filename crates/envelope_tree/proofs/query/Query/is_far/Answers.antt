use Rattle.std.proofs.Common.{◌≡◌, ◌↔◌, ◌*◌, ◌^◌, ℤ, pos, ◌<ℤ◌, IsTrue, ap, subst, sym, ◌∙◌, lit<, to_z, of_z, w64}
use mir.Syntax.{w128}
use Rattle.std.specs.Int.Signed.{lt_z}
use Rattle.int_algebra.specs.Within.{IsWithin}
use Rattle.int_algebra.proofs.Orders.{less_test}
use Rattle.tri_distance.proofs.ForCallers.{power_at_most, box_at_most, wider-IsInBox, reach-IsWithin}
use Rattle.envelope_tree.specs.declared.query.Query.{Query}
use Rattle.envelope_tree.specs.Gaps.{sq_gap_of}
use Rattle.envelope_tree.specs.Queries.{IsQuery}
use Rattle.envelope_tree.proofs.Kept.{kept_is}
use Rattle.envelope_tree.proofs.query.Query.is_far.Goals as goal

module _ (q : Query) (h : IsQuery q) where
  scale_in : IsWithin (2 ^ 6) q.scale
  scale_in = subst (IsWithin (2 ^ 6)) (sym h.scale) (record { within = power_at_most q.k h.k_in })

  scale_is : to_z w64 (of_z w64 q.scale) ≡ q.scale
  scale_is = kept_is w64 (2 ^ 6) q.scale scale_in (lit< tt)

  reach_is : to_z w128 (of_z w128 q.reach) ≡ pos (q.e * 2 ^ q.k * (q.e * 2 ^ q.k))
  reach_is = kept_is w128 (2 ^ 36) q.reach (subst (IsWithin (2 ^ 36)) (sym h.reach) (reach-IsWithin q.k q.e h.k_in h.e_in)) (lit< tt) ∙ h.reach

pub sq_gap-requires-clause-p_in : goal.sq_gap-requires-clause-p_in
sq_gap-requires-clause-p_in c = wider-IsInBox (2 ^ 24) c.args.p c.requires.p_in (box_at_most c.args.self.now.k c.requires.query.k_in)

pub sq_gap-requires-clause-scale_in : goal.sq_gap-requires-clause-scale_in
sq_gap-requires-clause-scale_in c =
    subst (IsWithin (2 ^ 6)) (sym (scale_is c.args.self.now c.requires.query)) (scale_in c.args.self.now c.requires.query)

pub returns : goal.returns
returns c =
    let q = c.args.self.now in
    let reach = reach_is q c.requires.query in
    let gap = kept_is w128 (2 ^ 52) c.sq_gap.result c.sq_gap.ensures.within (lit< tt) ∙ c.sq_gap.ensures.value
    ∙ ap (λ (s : ℤ). sq_gap_of c.args.p s c.args.bounds) (scale_is q c.requires.query ∙ c.requires.query.scale) in
    subst (λ (z : ℤ). IsTrue (lt_z (to_z w128 (of_z w128 q.reach)) (to_z w128 (of_z w128 c.sq_gap.result))) ↔ (z <ℤ sq_gap_of c.args.p (pos (2 ^ q.k)) c.args.bounds)) reach
    (subst (λ (z : ℤ). IsTrue (lt_z (to_z w128 (of_z w128 q.reach)) (to_z w128 (of_z w128 c.sq_gap.result))) ↔ (to_z w128 (of_z w128 q.reach) <ℤ z)) gap (less_test _ _))
