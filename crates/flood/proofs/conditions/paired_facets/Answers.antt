use Rattle.std.proofs.Common.{◌≡◌, ℕ, ◌+◌, ◌*◌, ◌<◌, Option, None, cond, length, set, slice_index_or, ap, sym, subst, ◌∙◌, arith, true, rules}
use Rattle.std.proofs.lemmas.List.{get_or_read}
use Rattle.grid.specs.Views.{corners_of}
use Rattle.flood.specs.HalfFaces.{ArePaired, is_mate, IsBelow}
use Rattle.flood.proofs.ConditionLemmas.{ArePaired-starts, ArePaired-goes_on, IsBelow-last}
use Rattle.flood.proofs.conditions.paired_facets.Goals as goal

pub is_mate-requires : goal.is_mate-requires
is_mate-requires c =
    let of = c.args.chains.now.of.items in
    let last = c.args.chains.now.last.items in
    let h = c.loop-h.h in
    let facet = c.index.result.now in
    let four_each = c.requires.four_each in
    let below : h < length of = omega arith in
    let is = get_or_read of h facet below c.index.ensures 0 in
    let in_range = c.requires.chained.in_range h below in
    let there : facet < length last = omega arith in
    let read = get_or_read last facet c.index-in-loop-h.result.now there c.index-in-loop-h.ensures None in
    let P : Option ℕ → Type 0 = IsBelow (4 * length c.args.tets.now) in
    record {
      there = omega arith;
      other_there = subst P (sym read) (IsBelow-last of facet (length of) (4 * length c.args.tets.now) (slice_index_or last facet None) four_each (c.requires.chained.last_is facet there));
    }

pub loop-h-init : goal.loop-h-init
loop-h-init c =
    let last = c.args.chains.now.last.items in
    let count_is : c.len.result ≡ length last = omega arith in
    rw (c.in_ok-is_paired.ensures.items_if_clones_equal (search rules), count_is) (ArePaired-starts (corners_of c.args.tets.now) c.args.chains.now.of.items last)

pub loop-h-preserved : goal.loop-h-preserved
loop-h-preserved c =
    let tets = corners_of c.args.tets.now in
    let of = c.args.chains.now.of.items in
    let last = c.args.chains.now.last.items in
    let h = c.loop-h.h in
    let facet = c.index.result.now in
    let paired = c.loop-h.is_paired.items in
    let below : h < length of = omega arith in
    let is = get_or_read of h facet below c.index.ensures 0 in
    let in_range = c.requires.chained.in_range h below in
    let there : facet < length last = omega arith in
    let read = get_or_read last facet c.index-in-loop-h.result.now there c.index-in-loop-h.ensures None in
    let mate = c.is_mate.ensures ∙ ap (is_mate tets h) (read ∙ ap (λ f. slice_index_or last f None) is) in
    let P : ℕ → Type 0 = λ f. ArePaired tets of (h + 1) last (cond c.is_mate.result (set paired f true) paired) in
    rw c.pair.ensures (subst P (sym is) (ArePaired-goes_on tets of h last paired c.is_mate.result c.loop-h.invariant in_range mate))
