use Rattle.std.proofs.Common.{false}
use Rattle.std.proofs.lemmas.Bool.{false≢true}
use Rattle.tet_slots.proofs.WholeLemmas.{IsWhole-live}
use Rattle.tet_slots.proofs.slots.Slots.kill.Goals as goal

pub invariant_of-self : goal.invariant_of-self
invariant_of-self c =
    IsWhole-live c.self.inside.points.items c.self.inside.slots.items c.self.inside.forgotten.items c.self.inside.lists.items c.self.inside.places.items c.self.inside.levels.items c.args.slot c.index_mut.result.now false (rw (← c.self.view_is) at c.requires.there) c.index_mut.ensures.value (λ e. absurd (false≢true e)) c.self.invariant

pub returns-clause-known : goal.returns-clause-known
returns-clause-known c = c.self.invariant.kept.sound.kept c.args.slot (rw (← c.self.view_is) at c.requires.live)
