use Rattle.std.proofs.Common.{◌≡◌, ◌++◌, drop}
use Rattle.std.specs.List.{filter}
use Rattle.tet_slots.specs.Slots.{slot_at}
use Rattle.cutter.proofs.touching.push_live.Given as goal

abbrev pub invariant-loop-touched : goal.invariant-loop-touched
invariant-loop-touched l =
    l.into.items ++ filter (λ e. (slot_at l.slots.slots e.slot).live) (drop l.touched-index l.before)
    ≡ l.initial.into.items ++ filter (λ e. (slot_at l.slots.slots e.slot).live) l.before
