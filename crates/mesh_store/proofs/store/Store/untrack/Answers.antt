use Rattle.std.proofs.Common.{ap, false, true, [], ◌∷◌, refl}
use Rattle.undo_record.specs.declared.mark.Mark.TheVariants.{FaceOut}
use Rattle.tracked.proofs.ForCallers.{state-put}
use Rattle.mesh_store.specs.Changes.{face_put}
use Rattle.mesh_store.specs.Parts.{parts_of}
use Rattle.mesh_store.specs.Store.{parts_now}
use Rattle.mesh_store.proofs.Forgetting.{forget-out}
use Rattle.mesh_store.proofs.SoundLemmas.{sound-put, triple-key}
use Rattle.mesh_store.proofs.Steps.{IsMarked, lead-one, back-out, marked-keeps, marked-view}
use Rattle.mesh_store.proofs.store.Store.untrack.Goals as goal
use Rattle.mesh_store.proofs.store.Store.untrack.Goals.{After-take_out}

step : (c : After-take_out) → IsMarked c.self.inside (record c.self.inside { tracked = c.take_out.new.self; undo = c.push.new.self }) (FaceOut c.args.f ∷ []) (face_put c.args.f false (parts_now c.self.inside))
step c = record {
  parts_are = ap (λ z. parts_of c.self.inside.slots z) c.take_out.ensures;
  back = lead-one _ _ _ (back-out c.args.f (parts_now c.self.inside) (rw (← c.self.view_is) at c.requires.tracked)) (state-put c.args.f true false (parts_now c.self.inside).keys (rw (← c.self.view_is) at c.requires.tracked));
  sound = sound-put c.self.inside.side c.args.f false (parts_now c.self.inside) (triple-key c.self.inside.side c.args.f true (parts_now c.self.inside) (rw (← c.self.view_is) at c.requires.tracked) c.self.invariant.sound) c.self.invariant.sound;
  forget = λ h. forget-out c.self.inside.undo c.self.inside.slots h c.args.f;
  undo_is = c.in_ok-push.ensures.ok;
  opened_is = refl;
  side_is = refl;
}

pub invariant_of-self-2 : goal.invariant_of-self-2
invariant_of-self-2 c = marked-keeps c.self.inside _ (FaceOut c.args.f ∷ []) (face_put c.args.f false (parts_now c.self.inside)) (step c) c.self.invariant (rw (← c.self.view_is) at c.requires.open)

pub returns-clause-ok : goal.returns-clause-ok
returns-clause-ok c = rw (← c.self.view_is) (marked-view c.self.inside _ (FaceOut c.args.f ∷ []) (face_put c.args.f false (parts_now c.self.inside)) (step c))
