use Rattle.std.proofs.Common.{◌≡◌, ◌∙◌}
use Rattle.grid.specs.Vectors.{cross, difference}
use Rattle.vectors.specs.Bounded.{vector_of}
use Rattle.planes.specs.Sides.{turned, side_of}
use Rattle.planes.proofs.triangle.side_through.Goals as goal

pub returns : goal.returns
unfolding side_of
returns c =
    let across : vector_of c.cross-across.result ≡ cross (difference c.args.v c.args.u) (vector_of c.args.axis) = c.cross-across.ensures.value ∙ (λ i. cross (c.difference.ensures.value i) (vector_of c.args.axis)) in
    let normal = c.turn.ensures.value ∙ (λ i. turned (across i) (c.difference-2.ensures.value i)) in
    c.new.ensures ∙ (λ i. record { normal = normal i; origin = c.args.u; snap = 1 })
