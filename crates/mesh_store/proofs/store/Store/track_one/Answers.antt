use Rattle.std.proofs.Common.{ap, true, refl}
use Rattle.tracked.specs.Keys.{state_of}
use Rattle.mesh_store.specs.Undoing.{track_marks}
use Rattle.mesh_store.specs.Changes.{face_put}
use Rattle.mesh_store.specs.Parts.{parts_of}
use Rattle.mesh_store.specs.Store.{parts_now}
use Rattle.mesh_store.proofs.Forgetting.{forget-track}
use Rattle.mesh_store.proofs.SoundLemmas.{sound-put}
use Rattle.mesh_store.proofs.Steps.{IsMarked, lead-track, marked-keeps, marked-view}
use Rattle.mesh_store.proofs.store.Store.track_one.Goals as goal
use Rattle.mesh_store.proofs.store.Store.track_one.Goals.{In_ok-track_marked}

step : (c : In_ok-track_marked) → IsMarked c.self.inside (record c.self.inside { tracked = c.track_marked.new.tracked; undo = c.track_marked.new.undo }) (track_marks c.args.f (state_of c.args.f c.self.inside.tracked)) (face_put c.args.f true (parts_now c.self.inside))
step c = record {
  parts_are = ap (λ z. parts_of c.self.inside.slots z) c.in_ok-track_marked.ensures.keys;
  back = lead-track c.args.f (parts_now c.self.inside) _ refl;
  sound = sound-put c.self.inside.side c.args.f true (parts_now c.self.inside) (rw (← c.self.view_is) at c.requires.triple) c.self.invariant.sound;
  forget = λ h. forget-track c.self.inside.undo c.self.inside.slots h c.args.f (state_of c.args.f c.self.inside.tracked);
  undo_is = c.in_ok-track_marked.ensures.marks;
  opened_is = refl;
  side_is = refl;
}

pub invariant_of-self-2 : goal.invariant_of-self-2
invariant_of-self-2 c = marked-keeps c.self.inside _ (track_marks c.args.f (state_of c.args.f c.self.inside.tracked)) (face_put c.args.f true (parts_now c.self.inside)) (step c) c.self.invariant (rw (← c.self.view_is) at c.requires.open)

pub returns-clause-ok : goal.returns-clause-ok
returns-clause-ok c = rw (← c.self.view_is) (marked-view c.self.inside _ (track_marks c.args.f (state_of c.args.f c.self.inside.tracked)) (face_put c.args.f true (parts_now c.self.inside)) (step c))
