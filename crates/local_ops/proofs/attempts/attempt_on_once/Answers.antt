use Rattle.mesh_store.specs.Parts.{mesh_in}
use Rattle.local_ops.proofs.Attempted.{sound_of, gone_of}
use Rattle.local_ops.proofs.attempts.attempt_on_once.Goals as goal

pub returns-clause-sound : goal.returns-clause-sound
returns-clause-sound c =
    sound_of c.args.env.now c.args.e c.args.store.now (mesh_in c.try_out.new.store.parts) c.args.attempt c.slots.ensures.sound c.requires.candidate c.try_out.result c.try_out.ensures.verdict c.try_out.ensures.mesh c.try_out.ensures.memory

pub returns-clause-gone : goal.returns-clause-gone
returns-clause-gone c =
    gone_of c.args.env.now c.args.e c.args.store.now (mesh_in c.try_out.new.store.parts) c.args.attempt c.slots.ensures.sound c.requires.candidate c.try_out.result c.try_out.ensures.verdict c.try_out.ensures.mesh c.requires.once
