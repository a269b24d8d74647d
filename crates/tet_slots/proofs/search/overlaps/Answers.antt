use Rattle.std.proofs.Common.{rules, ◌≡◌, length, ap, sym, ◌∙◌}
use Rattle.tet_slots.specs.Searches.{overlaps}
use Rattle.tet_slots.proofs.PlaceLemmas.{four-is}
use Rattle.tet_slots.proofs.search.overlaps.Goals as goal

pub returns-then-any_at_most : goal.returns-then-any_at_most
unfolding overlaps
returns-then-any_at_most c =
    let four : length c.args.values ≡ 4 = search rules in
    let is = ap (overlaps c.args.lo c.args.hi) (sym (four-is c.args.values four)) in
    search rules ∙ is

pub returns-else-any_at_most : goal.returns-else-any_at_most
unfolding overlaps
returns-else-any_at_most c =
    let four : length c.args.values ≡ 4 = search rules in
    let is = ap (overlaps c.args.lo c.args.hi) (sym (four-is c.args.values four)) in
    search rules ∙ is
