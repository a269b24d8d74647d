use Rattle.std.proofs.Common.{◌≡◌, ◌≤◌, ◌&&◌, count_by, take}
use Rattle.grid.specs.Simplices.{has}
use Rattle.tracked.specs.Keys.{entry_at}
use Rattle.tracked.proofs.table.Tracked.count2.Given as goal

abbrev pub invariant-loop-place : goal.invariant-loop-place
invariant-loop-place l =
    (l.count ≤ l.place-index) × (l.count ≡ count_by (λ i. (entry_at l.self i).1 && has (entry_at l.self i).0.0 l.v) (take l.place-index l.places))
