use Rattle.std.proofs.Common.{◌<◌, ℕ, [], get_or}
use Rattle.insertion.specs.Lasting.{IsLastingFault, points_with}
use Rattle.insertion.proofs.lasting.first_lasting.Given as goal

abbrev pub invariant-loop-tet : goal.invariant-loop-tet
invariant-loop-tet l = (k : ℕ) → k < l.tet-index → ¬ IsLastingFault (points_with l.slots.points l.cuts) l.triangle (get_or l.pieces k (record { 0 = [] })).0
