use Rattle.std.proofs.Common.{◌≡◌, ◌-◌, ◌≤◌, length}
use Rattle.grid.specs.Limits.{most_input}
use Rattle.off_text.specs.Scans.{rest_at}
use Rattle.off_text.specs.Grammar.{faces}
use Rattle.off_text.specs.Gives.{joined_to}
use Rattle.off_text.proofs.body.read_faces.Given as goal

abbrev pub invariant-loop : goal.invariant-loop
invariant-loop l = record {
  high : l.at ≤ length l.bytes;
  made : length l.triangles.items ≤ most_input;
  total : joined_to l.triangles.items (faces (length l.bytes) l.vertices (l.count - l.counter) (length l.triangles.items) (rest_at l.bytes l.at)) ≡ faces (length l.bytes) l.vertices l.count 0 (rest_at l.bytes l.from);
}
