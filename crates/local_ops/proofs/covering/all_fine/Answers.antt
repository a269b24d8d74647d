use Rattle.std.proofs.Common.{[], refl, arith, below_more}
use Rattle.grid.specs.declared.shapes.Face.{Face}
use Rattle.grid.specs.Views.{triples_of}
use Rattle.local_ops.specs.Covering.{IsFine}
use Rattle.local_ops.proofs.FaceLists.{all-triples, triple-at}
use Rattle.local_ops.proofs.covering.all_fine.Goals as goal

pub returns-then-not-is_fine : goal.returns-then-not-is_fine
returns-then-not-is_fine c =
    let none : Face = record { 0 = [] } in
    (λ t. absurd (cc t), λ all. c.if-not-is_fine.ensures.1 (triple-at (IsFine c.args.env.now c.args.e (triples_of c.args.old.now) c.args.slots.now.points) c.args.faces.now none c.loop-face.face-index all (omega arith)))

pub loop-face-preserved : goal.loop-face-preserved
loop-face-preserved c = below_more _ _ c.loop-face.invariant (c.if-not-is_fine.ensures.0 refl)

pub returns : goal.returns
returns c =
    (λ t. all-triples (IsFine c.args.env.now c.args.e (triples_of c.args.old.now) c.args.slots.now.points) c.args.faces.now (record { 0 = [] }) (λ k lt. c.loop-face.invariant k (omega arith)), λ all. refl)
