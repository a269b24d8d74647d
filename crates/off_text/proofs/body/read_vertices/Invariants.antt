use Rattle.std.proofs.Common.{◌≡◌, ◌-◌, ◌≤◌, length}
use Rattle.off_text.specs.Scans.{rest_at}
use Rattle.off_text.specs.Grammar.{vertices}
use Rattle.off_text.specs.Gives.{with_front}
use Rattle.off_text.proofs.body.read_vertices.Given as goal

abbrev pub invariant-loop : goal.invariant-loop
invariant-loop l = record {
  high : l.at ≤ length l.bytes;
  total : with_front l.points.items (vertices l.digits (length l.bytes) (l.count - l.counter) (rest_at l.bytes l.at)) ≡ vertices l.digits (length l.bytes) l.count (rest_at l.bytes l.from);
}
