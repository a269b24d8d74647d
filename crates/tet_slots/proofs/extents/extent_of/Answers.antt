use Rattle.std.proofs.Common.{rules}
use Rattle.tet_slots.proofs.ExtentLemmas.{IsExtent-four}
use Rattle.tet_slots.proofs.extents.extent_of.Goals as goal

pub returns : goal.returns
returns c =
    IsExtent-four _ c.args.values c.least.result c.least-2.result c.greatest.result c.greatest-2.result (search rules)
    (λ x. search (rules, c.least.ensures x))
    (λ x. search (rules, c.least-2.ensures x))
    (λ x. search (rules, c.least-3.ensures x))
    (λ x. search (rules, c.greatest.ensures x))
    (λ x. search (rules, c.greatest-2.ensures x))
    (λ x. search (rules, c.greatest-3.ensures x))
