use Rattle.std.proofs.Common.{◌≡◌, ℕ, ◌/◌, ◌<◌, Option, None, List, length, sym, ap, ◌∙◌, subst, arith}
use Rattle.std.proofs.lemmas.List.{get_or_read}
use Rattle.flood.specs.HalfFaces.{facet_at}
use Rattle.flood.specs.Chains.{IsLast}
use Rattle.flood.specs.Floods.{IsOn, State}
use Rattle.flood.proofs.ReachLemmas.{Reaches-then}
use Rattle.flood.proofs.Walks.{IsWalked, IsWalked-on, IsWalked-goes_on}
use Rattle.flood.proofs.flood.Flood.reach_facet.Goals as goal

pub loop-next-preserved : goal.loop-next-preserved
loop-next-preserved c =
    let facet = c.args.facet in
    let h = c.in-Some.h in
    let old = c.args.self.now in
    let now = c.loop-next.self in
    let new = c.reach.new.self in
    let of = old.facet_of in
    let chains = c.self-in-Some.inside.chains in
    let before = chains.before.items in
    let next = c.index-next-in-Some.result.now in
    let so_far = c.loop-next.invariant in
    let step = c.in_ok-reach.ensures in
    let P : Option ℕ → Type 0 = IsWalked of facet now.marks in
    let walked = subst P c.in-Some.is so_far.walked in
    let on = IsWalked-on of facet now.marks h walked in
    let of_is = ap (λ (s : State). s.facet_of) c.self-in-Some.view_is ∙ step.reaches.same_facets ∙ so_far.reaches.same_facets in
    let length_is = ap (λ (x : List ℕ). length x) of_is in
    let chained = c.self-in-Some.invariant.chained in
    let one_before = chained.one_before in
    let back = walked.next_is.below in
    let within = walked.within in
    let below : h < length chains.of.items = omega arith in
    let read = get_or_read before h next (omega arith) c.index-next-in-Some.ensures None in
    let R : ℕ → Type 0 = IsOn of facet in
    let S : List ℕ → Type 0 = λ x. IsLast x (facet_at x h) h next in
    let T : Option ℕ → Type 0 = IsLast chains.of.items (facet_at chains.of.items h) h in
    record {
      reaches = Reaches-then R (λ i. i ≡ h / 4) R old now new so_far.reaches step.reaches (λ i x. x) (λ i x. subst R (sym x) on);
      waiting = step.waiting ∙ so_far.waiting;
      walked = IsWalked-goes_on of facet now.marks new.marks h next walked step.reaches.kept step.marked (subst S of_is (subst T (sym read) (chained.before_is h below)));
    }
