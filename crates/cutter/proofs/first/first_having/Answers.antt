use Rattle.std.proofs.Common.{◌∙◌, sym, ap, [], ◌∷◌}
use Rattle.tet_slots.specs.Searches.{has_edge, numbers_of}
use Rattle.cutter.specs.First.{has_one_of, head}
use Rattle.cutter.proofs.FirstSlots.{first-same, first-found, has_edge-one}
use Rattle.cutter.proofs.first.first_having.Goals as goal

pub returns : goal.returns
returns c =
    let slots = c.args.slots.now.slots in
    first-same (has_edge c.args.u c.args.v) (has_one_of ((c.args.u ∷ c.args.v ∷ []) ∷ [])) slots (head (numbers_of (has_edge c.args.u c.args.v) 0 slots)) c.head.result
    (has_edge-one c.args.u c.args.v) (sym (c.head.ensures ∙ ap head (c.deref.ensures.value ∙ c.in_ok-having2.ensures))) (first-found (has_edge c.args.u c.args.v) slots)
