use Rattle.std.proofs.Common.{◌≡◌, ◌≤◌, ◌*◌, ◌^◌, true, min, drop}
use Rattle.std.specs.List.{list_all}
use Rattle.std.specs.Char.{is_ascii_digit}
use Rattle.off_text.specs.Numbers.{decimal, decimal_from}
use Rattle.off_text.proofs.number.decimal.Given as goal

abbrev pub invariant-loop-d : goal.invariant-loop-d
invariant-loop-d l = record {
  value : min (decimal_from l.n (drop l.d-index l.digits)) (2 * 10 ^ 9) ≡ min (decimal l.digits) (2 * 10 ^ 9);
  high : l.n ≤ 2 * 10 ^ 9;
  left : list_all is_ascii_digit (drop l.d-index l.digits) ≡ true;
}
