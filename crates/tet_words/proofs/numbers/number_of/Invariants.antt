use Rattle.std.proofs.Common.{◌≡◌, ◌^◌, ◌<◌, ◌≤◌, length, drop}
use Rattle.tet_words.specs.Numbers.{number_from}
use Rattle.tet_words.proofs.numbers.number_of.Given as goal

abbrev pub invariant-loop-digit : goal.invariant-loop-digit
invariant-loop-digit l = record {
  value : number_from l.number (drop l.digit-index l.digits) ≡ number_from 0 l.digits;
  few : length l.digits ≤ 10;
  below : l.number < 10 ^ l.digit-index;
}
