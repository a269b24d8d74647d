use Rattle.std.proofs.Common.{rules, ◌∙◌, ap}
use Rattle.std.proofs.lemmas.List.Filters.{dedup_is}
use Rattle.cutting_rule.specs.Edges.{numbers_of}
use Rattle.cutting_rule.specs.declared.edge.Edge.{Edge}
use Rattle.cutting_rule.proofs.Sorting.{same, sorted-by, sorted-once}
use Rattle.cutting_rule.proofs.edge.sort_edges_once.Goals as goal

pub returns : goal.returns
returns c =
    ap numbers_of (dedup_is (same (λ (e : Edge). e.0)) c.sort_unstable_by.new.self.items c.dedup.new.self.items c.dedup.ensures.filtered)
    ∙ sorted-once (λ (e : Edge). e.0) c.args.edges.now.items c.sort_unstable_by.new.self.items c.sort_unstable_by.ensures.permutation (sorted-by (λ (e : Edge). e.0) _ c.sort_unstable_by.ensures.sorted (λ k a r l called. search rules))
