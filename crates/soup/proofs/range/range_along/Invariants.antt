use Rattle.std.proofs.Common.{◌≡◌, map, drop}
use Rattle.std.specs.Int.{int_min, int_max}
use Rattle.std.specs.Prelude.{fold}
use Rattle.soup.specs.Placement.{along, least, greatest}
use Rattle.soup.proofs.range.range_along.Given as goal

abbrev pub invariant-loop-v : goal.invariant-loop-v
invariant-loop-v l = record {
  least_is : fold int_min l.range.least (map (along l.axis) (drop l.v-index l.rest)) ≡ least l.axis l.vertices;
  greatest_is : fold int_max l.range.greatest (map (along l.axis) (drop l.v-index l.rest)) ≡ greatest l.axis l.vertices;
}
