use Rattle.std.proofs.Common.{◌≡◌, ◌≤◌, None, length}
use Rattle.std.specs.List.{range_with_len}
use Rattle.mesh_store.specs.Parts.{mesh_in}
use Rattle.insertion.specs.InTurn.{AreTurns}
use Rattle.mesher.proofs.turns.insert_all.Given as goal

abbrev pub invariant-loop-t : goal.invariant-loop-t
invariant-loop-t l = record {
  at_most : l.t ≤ length l.env;
  closed : l.store.at_begin ≡ None;
  side : l.store.side ≡ l.initial.store.side;
  turns : AreTurns l.env l.e (range_with_len 0 l.t) (mesh_in l.initial.store.parts) l.outcomes.items (mesh_in l.store.parts);
}
