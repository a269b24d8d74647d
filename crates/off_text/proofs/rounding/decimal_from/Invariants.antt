use Rattle.std.proofs.Common.{◌≡◌, true, drop}
use Rattle.std.specs.List.{list_all}
use Rattle.std.specs.Char.{is_ascii_digit}
use Rattle.off_text.specs.Numbers.{decimal_from}
use Rattle.off_text.proofs.rounding.decimal_from.Given as goal

abbrev pub invariant-loop-d : goal.invariant-loop-d
invariant-loop-d l = record {
  value : decimal_from l.n (drop l.d-index l.digits) ≡ decimal_from l.fn.n l.digits;
  left : list_all is_ascii_digit (drop l.d-index l.digits) ≡ true;
}
