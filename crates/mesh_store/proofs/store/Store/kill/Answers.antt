use Rattle.std.proofs.Common.{ap, [], ◌∷◌, refl}
use Rattle.undo_record.specs.declared.mark.Mark.TheVariants.{Killed}
use Rattle.mesh_store.specs.Changes.{slot_killed}
use Rattle.mesh_store.specs.Parts.{parts_of}
use Rattle.mesh_store.specs.Store.{parts_now}
use Rattle.mesh_store.proofs.Forgetting.{forget-killed}
use Rattle.mesh_store.proofs.SoundLemmas.{sound-killed}
use Rattle.mesh_store.proofs.Steps.{IsMarked, lead-one, back-killed, can-killed, marked-keeps, marked-view}
use Rattle.mesh_store.proofs.store.Store.kill.Goals as goal
use Rattle.mesh_store.proofs.store.Store.kill.Goals.{After-kill}

step : (c : After-kill) → IsMarked c.self.inside (record c.self.inside { slots = c.kill.new.self; undo = c.push.new.self }) (Killed c.args.slot ∷ []) (slot_killed c.args.slot (parts_now c.self.inside))
step c = record {
  parts_are = ap (λ z. parts_of z c.self.inside.tracked) c.kill.ensures.slots;
  back = lead-one _ _ _ (back-killed c.args.slot (parts_now c.self.inside) (rw (← c.self.view_is) at c.requires.there) (rw (← c.self.view_is) at c.requires.live)) (can-killed c.args.slot (parts_now c.self.inside) (rw (← c.self.view_is) at c.requires.there));
  sound = sound-killed c.self.inside.side c.args.slot (parts_now c.self.inside) (rw (← c.self.view_is) at c.requires.there) c.self.invariant.sound;
  forget = λ h. forget-killed c.self.inside.undo c.self.inside.slots h c.args.slot (rw (← c.self.view_is) at c.requires.there) (rw (← c.self.view_is) at c.requires.live) c.kill.new.self c.kill.ensures.slots c.kill.ensures.known;
  undo_is = c.in_ok-push.ensures.ok;
  opened_is = refl;
  side_is = refl;
}

pub invariant_of-self-2 : goal.invariant_of-self-2
invariant_of-self-2 c = marked-keeps c.self.inside _ (Killed c.args.slot ∷ []) (slot_killed c.args.slot (parts_now c.self.inside)) (step c) c.self.invariant (rw (← c.self.view_is) at c.requires.open)

pub returns-clause-ok : goal.returns-clause-ok
returns-clause-ok c = rw (← c.self.view_is) (marked-view c.self.inside _ (Killed c.args.slot ∷ []) (slot_killed c.args.slot (parts_now c.self.inside)) (step c))
