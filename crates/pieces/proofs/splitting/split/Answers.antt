use Rattle.std.proofs.Common.{List, map, sym, ◌∙◌, arith}
use Rattle.std.specs.List.{flat_map}
use Rattle.std.proofs.lemmas.List.{at_drop_all}
use Rattle.mesh_types.specs.declared.cut.Cut.{Cut}
use Rattle.mesh_types.specs.Refines.{sub_all}
use Rattle.mesh_types.proofs.ForCallers.{flat_map-none}
use Rattle.pieces.proofs.SplitLemmas.{split-step, no_cut}
use Rattle.pieces.proofs.splitting.split.Goals as goal

pub loop-cut-preserved : goal.loop-cut-preserved
loop-cut-preserved g c = record {
  number = omega arith;
  pieces = split-step c.args.cuts.now c.loop-cut.cut-index c.loop-cut.k (map g.S.Simplex.corners c.loop-cut.pieces.items) (map g.S.Simplex.corners c.split_each.new.pieces.items) (sub_all c.args.first c.args.cuts.now (g.S.Simplex.corners c.args.simplex)) no_cut c.loop-cut-test.true c.in_ok-split_each.ensures c.loop-cut.invariant.pieces;
}

pub returns : goal.returns
returns g c =
    sym (flat_map-none (map g.S.Simplex.corners c.loop-cut.pieces.items))
    ∙ (sym (at_drop_all (λ (cs : List Cut). flat_map (sub_all c.loop-cut.k cs) (map g.S.Simplex.corners c.loop-cut.pieces.items)) c.args.cuts.now c.loop-cut.cut-index c.loop-cut-test.false)
    ∙ c.loop-cut.invariant.pieces)
