use Rattle.std.proofs.Common.{◌≡◌, ◌∙◌, ℕ, List, Bool, true, sym, ap, subst}
use Rattle.flood.specs.Floods.{AreReachable, IsLoose, Reaches, State, is_marked}
use Rattle.flood.proofs.ReachLemmas.{AreReachable-loose}
use Rattle.flood.proofs.flood.mark_reachable.Goals as goal

pub returns-clause-reachable : goal.returns-clause-reachable
returns-clause-reachable c =
    let of = c.args.chains.of.items in
    let is_open = c.args.is_open.items in
    let paired = c.args.is_paired.now in
    let start_is = c.in_ok-flood.ensures in
    let first = c.reach_loose.new.self in
    let loose = c.in_ok-reach_loose.ensures in
    let all = c.in_ok-reach_all.ensures.reachable in
    let First : ℕ → Type 0 = λ i. is_marked first.marks i ≡ true in
    let P : State → Type 0 = λ s. Reaches (IsLoose s.facet_of paired) s first in
    let Q : State → Type 0 = λ s. (i : ℕ) → IsLoose s.facet_of paired i → First i in
    let R : List ℕ → Type 0 = λ x. AreReachable x first.waiting First c.reach_all.new.self.marks in
    let S : List Bool → Type 0 = λ w. AreReachable of w First c.reach_all.new.self.marks in
    let T : List Bool → Type 0 = AreReachable of is_open (IsLoose of paired) in
    let of_is = loose.reaches.same_facets ∙ ap (λ (s : State). s.facet_of) start_is in
    let waiting_is = loose.waiting ∙ ap (λ (s : State). s.waiting) start_is in
    subst T (sym c.into_marks.ensures) (AreReachable-loose of is_open paired c.args.tets first c.reach_all.new.self.marks (subst P start_is loose.reaches) (subst Q start_is loose.marked) (subst S waiting_is (subst R of_is all)))
