use Rattle.std.proofs.Common.{◌≡◌, false, pos, All, take}
use Rattle.std.specs.List.{list_all}
use Rattle.std.specs.Ordering.{int_eq}
use Rattle.insertion.proofs.lasting.have_corners_off.Given as goal

abbrev pub invariant-loop-touched : goal.invariant-loop-touched
invariant-loop-touched l = All (λ e. list_all (λ s. int_eq s (pos 0)) e.touch.signs ≡ false) (take l.touched-index l.near)
