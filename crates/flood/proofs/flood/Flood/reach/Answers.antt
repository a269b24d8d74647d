use Rattle.std.proofs.Common.{◌<◌, true, false, length, sym, subst, ◌∙◌, arith}
use Rattle.std.proofs.lemmas.List.{get_or_read, length-set}
use Rattle.flood.specs.Floods.{State}
use Rattle.flood.proofs.ReachLemmas.{IsListed-more}
use Rattle.flood.proofs.flood.Flood.reach.Goals as goal

pub invariant_of-self-2 : goal.invariant_of-self-2
invariant_of-self-2 c =
    let marks = c.self.inside.marks.items in
    let order = c.self.inside.order.items in
    let so_far = c.self.invariant in
    let four_each = so_far.four_each in
    let few = so_far.few in
    let same_length = length-set marks c.args.tet true in
    let there = subst (λ (s : State). c.args.tet < length s.marks) (sym c.self.view_is) c.requires in
    let unmarked = sym (get_or_read marks c.args.tet c.index.result.now there c.index.ensures false) ∙ c.if-index.false in
    rw c.in_ok-push.ensures.items (record {
      chained = so_far.chained;
      one_each = so_far.one_each;
      four_each = omega arith;
      few = omega arith;
      listed = IsListed-more marks order c.args.tet so_far.listed there unmarked;
    })
