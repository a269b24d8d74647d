use Rattle.std.proofs.Common.{◌≡◌, ◌||◌, drop, pos}
use Rattle.std.specs.Int.Signed.{lt_z}
use Rattle.std.specs.List.{list_any}
use Rattle.std.specs.Ordering.{int_eq}
use Rattle.cutting_rule.proofs.signs.sides_of.Given as goal

abbrev pub invariant-loop-sign : goal.invariant-loop-sign
invariant-loop-sign l = record {
  below : (l.all.below || list_any (λ s. lt_z s (pos 0)) (drop l.sign-index l.sign-items)) ≡ list_any (λ s. lt_z s (pos 0)) l.sign-items;
  on : (l.all.on || list_any (λ s. int_eq s (pos 0)) (drop l.sign-index l.sign-items)) ≡ list_any (λ s. int_eq s (pos 0)) l.sign-items;
  above : (l.all.above || list_any (λ s. lt_z (pos 0) s) (drop l.sign-index l.sign-items)) ≡ list_any (λ s. lt_z (pos 0) s) l.sign-items;
}
