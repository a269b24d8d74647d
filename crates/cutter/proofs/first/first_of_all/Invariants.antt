use Rattle.std.proofs.Common.{take}
use Rattle.cutting_rule.specs.Edges.{numbers_of}
use Rattle.cutter.specs.First.{IsFirstSlot, has_one_of}
use Rattle.cutter.proofs.first.first_of_all.Given as goal

abbrev pub invariant-loop-edge : goal.invariant-loop-edge
invariant-loop-edge l = IsFirstSlot (has_one_of (numbers_of (take l.edge-index l.edges))) l.slots.slots l.first
