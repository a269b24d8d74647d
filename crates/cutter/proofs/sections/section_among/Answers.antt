use Rattle.std.proofs.Common.{ap, refl}
use Rattle.mesh_store.specs.Parts.{mesh_in, live_tets}
use Rattle.cutting_rule.proofs.ForCallers.{section-is}
use Rattle.cutter.proofs.sections.section_among.Goals as goal

pub returns : goal.returns
returns c =
    section-is _ _ (mesh_in c.args.store.now.parts) c.args.triangle.now c.args.triangle.now _ _ c.sort_faces_once.ensures c.in_ok-faces.ensures c.slots.ensures.points (ap live_tets c.slots.ensures.slots) refl
