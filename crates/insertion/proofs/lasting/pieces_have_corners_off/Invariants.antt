use Rattle.std.proofs.Common.{◌≡◌, false, pos, All, take}
use Rattle.std.specs.List.{list_all}
use Rattle.std.specs.Ordering.{int_eq}
use Rattle.cutting_rule.specs.Touching.{signs_at}
use Rattle.mesh_types.specs.Phases.{points_of}
use Rattle.insertion.specs.Lasting.{points_with}
use Rattle.insertion.proofs.lasting.pieces_have_corners_off.Given as goal

abbrev pub invariant-loop-tet : goal.invariant-loop-tet
invariant-loop-tet l = All (λ t. list_all (λ s. int_eq s (pos 0)) (signs_at l.triangle (points_of (points_with l.slots.points l.cuts) t.0)) ≡ false) (take l.tet-index l.pieces)
