use Rattle.std.proofs.Common.{◌++◌, ap₂, ◌∙◌}
use Rattle.soup.specs.HeightField.{square_at}
use Rattle.soup.proofs.Places.{so_far-more}
use Rattle.soup.proofs.terrain.faces.Goals as goal

pub loop-i-preserved : goal.loop-i-preserved
loop-i-preserved c =
    c.in_ok-extend_from_slice.ensures.items
    ∙ ap₂ ◌++◌ c.loop-i.invariant c.square.ensures
    ∙ so_far-more (square_at c.args.k) c.args.k c.loop-i.i c.loop-j.j
