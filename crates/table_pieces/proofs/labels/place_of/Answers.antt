use Rattle.std.proofs.Common.{List, drop, length, map, rules, subst, sym, take, ◌-◌}
use Rattle.std.proofs.lemmas.List.{take_rest}
use Rattle.std.proofs.lemmas.List.Sorted.{IsPartitionPoint-from_clause}
use Rattle.grid.specs.Meshes.{Ordered}
use Rattle.mesh_types.specs.declared.cut.Cut.{Cut}
use Rattle.mesh_types.specs.CutLists.{ends_of}
use Rattle.table_pieces.specs.Labels.{is_before, IsPlace}
use Rattle.table_pieces.proofs.Searches.{parted, place-beyond, rest-rises}
use Rattle.table_pieces.proofs.labels.place_of.Goals as goal

pub returns-clause-place : goal.returns-clause-place
returns-clause-place c =
    let u = c.args.u in
    let v = c.args.v in
    let cuts = c.args.cuts.now in
    let rest = take (length cuts - c.args.from) (drop c.args.from cuts) in
    let is = take_rest cuts c.args.from in
    let ordered : Ordered (map ends_of rest) = subst (λ (es : List Cut). Ordered (map ends_of es)) (sym is) (rest-rises cuts c.args.from c.requires.ordered) in
    place-beyond u v cuts c.args.from c.partition_point.result c.requires.passed
    (subst (λ (es : List Cut). IsPlace u v es c.partition_point.result) is
    (IsPartitionPoint-from_clause (is_before u v) rest _ c.partition_point.ensures.partitioned (parted u v rest ordered) (λ a r q k. search rules)))
