use Rattle.std.proofs.Common.{false, sym, ◌∙◌, arith, rules}
use Rattle.std.proofs.lemmas.Bool.{true≢false}
use Rattle.grid.specs.Views.{triples_of}
use Rattle.tracked.specs.Keys.{faces_in}
use Rattle.tracked.proofs.RimLemmas.{IsRim-from_edge, finds-from_IsRim}
use Rattle.tracked.proofs.PointLemmas.{none_found}
use Rattle.tracked.proofs.table.Tracked.is_rim.Goals as goal

pub returns-then-has_rim_edge : goal.returns-then-has_rim_edge
returns-then-has_rim_edge c =
    (λ _. IsRim-from_edge (triples_of (faces_in c.args.self.now)) c.args.u c.key.result.0 (search rules), λ _. search rules)

pub returns : goal.returns
returns c =
    let none = none_found c.args.u c.loop-place.place-index c.args.self.now c.places-places.result.now (omega arith) c.places-places.ensures.value false c.loop-place.invariant in
    (λ e. search rules, λ r. absurd (true≢false (sym (finds-from_IsRim (triples_of (faces_in c.args.self.now)) c.args.u r) ∙ none)))
