use Rattle.std.proofs.Common.{rules, ◌∙◌, ap}
use Rattle.std.proofs.lemmas.List.Filters.{dedup_is}
use Rattle.grid.specs.declared.shapes.Face.{Face}
use Rattle.grid.specs.Views.{triples_of}
use Rattle.cutting_rule.proofs.Sorting.{same, sorted-by, sorted-once}
use Rattle.cutting_rule.proofs.section.sort_faces_once.Goals as goal

pub returns : goal.returns
returns c =
    ap triples_of (dedup_is (same (λ (f : Face). f.0)) c.sort_unstable_by.new.self.items c.dedup.new.self.items c.dedup.ensures.filtered)
    ∙ sorted-once (λ (f : Face). f.0) c.args.faces.now.items c.sort_unstable_by.new.self.items c.sort_unstable_by.ensures.permutation (sorted-by (λ (f : Face). f.0) _ c.sort_unstable_by.ensures.sorted (λ k a r l called. search rules))
