use Rattle.std.proofs.Common.{List, ℕ, All, ◌<◌, ◌^◌, length, subst, sym, ◌∙◌}
use Rattle.tracked.specs.Keys.{Keys}
use Rattle.tracked.proofs.PointLemmas.{places-in_range, places-few}
use Rattle.tracked.proofs.table.Tracked.places.Goals as goal

pub returns-clause-within : goal.returns-clause-within
returns-clause-within c =
    let keys = c.self.inside.keys.entries in
    let is = c.find.ensures ∙ c.self.invariant.places c.args.u in
    subst (λ (ks : Keys). All (λ i. i < length ks) c.find.result.now) c.self.view_is (subst (λ (xs : List ℕ). All (λ i. i < length keys) xs) (sym is) (places-in_range c.args.u keys))

pub returns-clause-few : goal.returns-clause-few
returns-clause-few c =
    let keys = c.self.inside.keys.entries in
    let is = c.find.ensures ∙ c.self.invariant.places c.args.u in
    subst (λ (xs : List ℕ). length xs < 2 ^ 32) (sym is) (places-few c.args.u keys c.self.invariant.few)
