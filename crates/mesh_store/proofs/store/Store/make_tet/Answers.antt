use Rattle.std.proofs.Common.{ap, [], ◌∷◌, refl}
use Rattle.undo_record.specs.declared.mark.Mark.TheVariants.{TetMade}
use Rattle.mesh_store.specs.Changes.{tet_made}
use Rattle.mesh_store.specs.Parts.{parts_of}
use Rattle.mesh_store.specs.Store.{parts_now}
use Rattle.mesh_store.proofs.Forgetting.{forget-tet}
use Rattle.mesh_store.proofs.SoundLemmas.{sound-tet}
use Rattle.mesh_store.proofs.Steps.{IsMarked, lead-one, back-tet, can-tet, marked-keeps, marked-view}
use Rattle.mesh_store.proofs.store.Store.make_tet.Goals as goal
use Rattle.mesh_store.proofs.store.Store.make_tet.Goals.{In-Ok}

step : (c : In-Ok) → IsMarked c.self.inside (record c.self.inside { slots = c.add_tet.new.self; undo = c.push.new.self }) (TetMade ∷ []) (tet_made c.args.t.0 (parts_now c.self.inside))
step c = record {
  parts_are = ap (λ z. parts_of z c.self.inside.tracked) c.in-Ok.ensures.ok;
  back = lead-one _ _ _ (back-tet c.args.t.0 (parts_now c.self.inside)) (can-tet c.args.t.0 (parts_now c.self.inside));
  sound = sound-tet c.self.inside.side c.args.t.0 (parts_now c.self.inside) (rw (← c.self.view_is) at c.requires.room) (rw (← c.self.view_is) at c.requires.corners) c.self.invariant.sound;
  forget = λ h. forget-tet c.self.inside.undo c.self.inside.slots h c.args.t c.add_tet.new.self c.in-Ok.ensures.ok;
  undo_is = c.in_ok-push.ensures.ok;
  opened_is = refl;
  side_is = refl;
}

pub invariant_of-self-in-Ok : goal.invariant_of-self-in-Ok
invariant_of-self-in-Ok c = marked-keeps c.self.inside _ (TetMade ∷ []) (tet_made c.args.t.0 (parts_now c.self.inside)) (step c) c.self.invariant (rw (← c.self.view_is) at c.requires.open)

pub returns-clause-ok : goal.returns-clause-ok
returns-clause-ok c = rw (← c.self.view_is) (marked-view c.self.inside _ (TetMade ∷ []) (tet_made c.args.t.0 (parts_now c.self.inside)) (step c))
