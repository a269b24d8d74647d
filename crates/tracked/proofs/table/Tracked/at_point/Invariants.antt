use Rattle.std.proofs.Common.{◌≡◌, map, filter, take}
use Rattle.tracked.specs.Keys.{entry_at}
use Rattle.tracked.proofs.table.Tracked.at_point.Given as goal

abbrev pub invariant-loop-place : goal.invariant-loop-place
invariant-loop-place l = l.into.items ≡ map (λ i. (entry_at l.self i).0) (filter (λ i. (entry_at l.self i).1) (take l.place-index l.places))
