use Rattle.std.proofs.Common.{◌≡◌, ◌+◌, ◌-◌, ◌≤◌, ◌<◌, length, drop}
use Rattle.off_text.specs.Scans.{rest_at, beyond_at}
use Rattle.off_text.specs.Grammar.{several, index, beyond_line}
use Rattle.off_text.specs.Gives.{with_fan}
use Rattle.off_text.proofs.body.read_fan.Given as goal

abbrev pub invariant-loop : goal.invariant-loop
invariant-loop l = record {
  high : l.at ≤ length l.bytes;
  total : with_fan l.triangles.items l.first l.last (several (index l.vertices) (length l.bytes) (l.more - l.counter) (rest_at l.bytes l.at)) ≡ with_fan l.fn.triangles.items l.first l.second (several (index l.vertices) (length l.bytes) l.more (rest_at l.bytes l.from));
  left : rest_at l.bytes l.at ≡ drop l.counter (rest_at l.bytes l.from);
  beyond : 0 < l.counter → beyond_at l.bytes l.at ≡ beyond_line (drop (l.counter - 1) (rest_at l.bytes l.from));
  len : length l.triangles.items ≡ length l.fn.triangles.items + l.counter;
}
