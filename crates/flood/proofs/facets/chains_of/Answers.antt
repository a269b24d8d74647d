use Rattle.std.proofs.Common.{Some, None, ℕ, ◌+◌, ◌<◌, [], ◌∷◌, ◌++◌, length, set, slice_index_or, sym, subst, arith, rules}
use Rattle.std.proofs.lemmas.List.{get_or_read}
use Rattle.flood.specs.Chains.{AreChains}
use Rattle.flood.proofs.ChainLemmas.{AreChains-starts, AreChains-goes_on}
use Rattle.flood.proofs.facets.chains_of.Goals as goal

pub loop-h-init : goal.loop-h-init
loop-h-init c = rw (c.in_ok-last.ensures.items_if_clones_equal (search rules), c.in_ok-before.ensures.items) (AreChains-starts c.args.facets c.args.of.items)

pub loop-h-preserved : goal.loop-h-preserved
loop-h-preserved c =
    let of = c.args.of.items in
    let h = c.loop-h.h in
    let last = c.loop-h.last.items in
    let before = c.loop-h.before.items in
    let facet = c.index.result.now in
    let one_last = c.loop-h.invariant.one_last in
    let here : h < length of = omega arith in
    let in_range = c.requires.in_range h 0 here in
    let facet_is = get_or_read of h facet here c.index.ensures 0 in
    let P : ℕ → Type 0 = λ f. AreChains c.args.facets of (h + 1) (set last f (Some h)) (before ++ slice_index_or last f None ∷ []) in
    let read = get_or_read last facet c.index-in-loop-h.result.now (omega arith) c.index-in-loop-h.ensures None in
    rw (c.in_ok-push.ensures.items, read) (subst P (sym facet_is) (AreChains-goes_on c.args.facets of h last before c.loop-h.invariant in_range))
