use Rattle.std.proofs.Common.{◌≡◌, ◌++◌, drop, map}
use Rattle.std.specs.List.{flat_map}
use Rattle.mesh_types.specs.Phases.{wanted_in}
use Rattle.cutting_rule.specs.Edges.{numbers_of}
use Rattle.tet_slots.specs.Slots.{slot_at}
use Rattle.cutter.proofs.wanted.near_wanted.Given as goal

abbrev pub invariant-loop-touched : goal.invariant-loop-touched
invariant-loop-touched l =
    numbers_of l.edges.items ++ flat_map (wanted_in l.slots.points l.triangle l.i) (map (λ e. (slot_at l.slots.slots e.slot).tet.0) (drop l.touched-index l.touched-items))
    ≡ flat_map (wanted_in l.slots.points l.triangle l.i) (map (λ e. (slot_at l.slots.slots e.slot).tet.0) l.touched-items)
