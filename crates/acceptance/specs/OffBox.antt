-- Triples off the box.
use Rattle.std.specs.Prelude.{◌≡◌, ℕ, true, List}
use Rattle.grid.specs.declared.shapes.Point.{Point}
use Rattle.grid.specs.Boxes.{Side, IsOn}
use Rattle.grid.specs.Determinants.{point_at}
use Rattle.grid.specs.Simplices.{has}

-- no corner of the triple lies on a side of the box from 0 to l
pub record IsOffBox (points : List Point) (l : ℕ) (t : List ℕ) : Type 0 where
  pub off : (c : ℕ) → has t c ≡ true → (s : Side) → ¬ IsOn l s (point_at points c)
