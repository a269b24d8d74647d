use Rattle.std.proofs.Common.{◌≡◌, ℕ, ◌<◌, true, length, slice_index_or, sym, ap, ◌∙◌, subst, inl, inr, arith}
use Rattle.std.proofs.lemmas.Bool.{cases_lt}
use Rattle.std.proofs.lemmas.List.{get_or_read}
use Rattle.flood.specs.Floods.{IsBehind, IsListed, IsOn, IsReachable, State, goes_on, starts, is_marked}
use Rattle.flood.proofs.ReachLemmas.{AreReachable-ends, FillsFacets-still, FillsFacets-then, Reaches-then}
use Rattle.flood.proofs.flood.Flood.reach_all.Goals as goal

abbrev AreListed : State → Type 0
AreListed s = IsListed s.marks s.order

pub loop-done-preserved : goal.loop-done-preserved
loop-done-preserved c =
    let old = c.args.self.now in
    let now = c.loop-done.self in
    let new = c.reach_from.new.self in
    let of = old.facet_of in
    let done = c.loop-done.done in
    let tet = c.index.result.now in
    let so_far = c.loop-done.invariant in
    let step = c.in_ok-reach_from.ensures in
    let same = so_far.reaches.same_facets in
    let order_is = ap (λ (s : State). s.order) c.self.view_is in
    let length_is = ap (λ (s : State). length s.order) c.self.view_is in
    let below : done < length now.order = omega arith in
    let is = get_or_read c.self.inside.order.items done tet (omega arith) c.index.ensures 0 ∙ ap (λ x. slice_index_or x done 0) order_is in
    let First : ℕ → Type 0 = λ i. is_marked old.marks i ≡ true in
    let Reachable : ℕ → Type 0 = IsReachable of old.waiting First in
    let Behind : ℕ → Type 0 = IsBehind now.facet_of now.waiting tet in
    let listed = subst AreListed c.self.view_is c.self.invariant.listed in
    let marked = subst (λ i. is_marked now.marks i ≡ true) (sym is) (listed.marked done below) in
    let reachable : Reachable tet = elim (so_far.reaches.new_ones tet marked) [ inl s ↦ starts tet s | inr r ↦ r ] in
    let longer = step.reaches.longer in
    record {
      reaches = Reaches-then Reachable Behind Reachable old now new so_far.reaches step.reaches (λ i r. r)
          (λ i b. goes_on tet i b.facet reachable (subst (λ x. IsOn x b.facet tet) same b.beside) (subst (λ x. IsOn x b.facet i) same b.passes.on) (so_far.fills.fewer b.facet b.passes.waits));
      fills = FillsFacets-then Reachable Behind old now new so_far.reaches step.reaches so_far.fills step.fills;
      up_to = omega arith;
      passed = λ k before facet on. elim (cases_lt k done) [
        | inl e ↦ FillsFacets-still now new facet step.fills (so_far.passed k e facet (subst (IsOn of facet) (step.reaches.front k (omega arith)) on))
        | inr e ↦ let here : k ≡ done = omega arith in
            step.done facet (subst (λ x. IsOn x facet tet) (sym same) (subst (IsOn of facet) (step.reaches.front k (omega arith) ∙ ap (λ j. slice_index_or now.order j 0) here ∙ sym is) on))
      ];
    }

pub returns-clause-reachable : goal.returns-clause-reachable
returns-clause-reachable c =
    let so_far = c.loop-done.invariant in
    let listed = subst AreListed c.self.view_is c.self.invariant.listed in
    let length_is = ap (λ (s : State). length s.order) c.self.view_is in
    AreReachable-ends c.args.self.now c.loop-done.self listed so_far.reaches so_far.fills (λ k below. so_far.passed k (omega arith))
