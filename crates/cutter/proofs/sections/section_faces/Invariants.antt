use Rattle.std.proofs.Common.{◌≡◌, ◌++◌, drop, map}
use Rattle.std.specs.List.{flat_map}
use Rattle.grid.specs.Views.{triples_of}
use Rattle.tet_slots.specs.Slots.{slot_at}
use Rattle.cutting_rule.specs.Section.{section_in}
use Rattle.cutter.proofs.sections.section_faces.Given as goal

abbrev pub invariant-loop-touched : goal.invariant-loop-touched
invariant-loop-touched l =
    triples_of l.faces.items ++ flat_map (section_in l.slots.points l.triangle) (map (λ e. (slot_at l.slots.slots e.slot).tet.0) (drop l.touched-index l.touched-items))
    ≡ flat_map (section_in l.slots.points l.triangle) (map (λ e. (slot_at l.slots.slots e.slot).tet.0) l.touched-items)
