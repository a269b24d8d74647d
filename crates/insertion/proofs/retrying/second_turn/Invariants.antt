use Rattle.std.proofs.Common.{◌≡◌, ◌≤◌, None, length, take}
use Rattle.mesh_types.specs.Turns.{rolled_back}
use Rattle.mesh_store.specs.Parts.{mesh_in}
use Rattle.insertion.specs.InTurn.{AreTurns, outcomes_of, triangles_of}
use Rattle.insertion.proofs.retrying.second_turn.Given as goal

abbrev pub invariant-loop-t : goal.invariant-loop-t
invariant-loop-t l = record {
  at_most : l.t ≤ length l.env;
  closed : l.store.at_begin ≡ None;
  side : l.store.side ≡ l.initial.store.side;
  triangles : triangles_of l.again.items ≡ rolled_back 0 (take l.t l.outcomes);
  turns : AreTurns l.env l.e (rolled_back 0 (take l.t l.outcomes)) (mesh_in l.initial.store.parts) (outcomes_of l.again.items) (mesh_in l.store.parts);
}
