use Rattle.std.proofs.Common.{subst, arith}
use Rattle.std.proofs.lemmas.Grind.{common_steps}
use Rattle.mesh_io.specs.MemFolder.{mem_state}
use Rattle.mesh_io.specs.MemPlace.{HasName}
use Rattle.mesh_io.proofs.MemFails.{open_fails}
use Rattle.mesh_io.proofs.MemSteps.{open_there}
use Rattle.mesh_io.proofs.mem_folder.MemFolderFolder.open.Goals as goal

pub returns-then-is_listed-clause-folder : goal.returns-then-is_listed-clause-folder
returns-then-is_listed-clause-folder c =
    rw (← c.self.view_is) (open_fails (mem_state c.self.inside) c.saturating_add-self-inside.result c.saturating_add-self-inside-then-is_listed.result c.args.name.now (grind (arith, common_steps)) (grind (arith, common_steps)) (grind (arith, common_steps)))

pub returns-in-Some-clause-folder : goal.returns-in-Some-clause-folder
returns-in-Some-clause-folder c =
    let has : HasName c.self.inside.files.items c.in-Some.file c.args.name.now = subst (λ fs. HasName fs c.in-Some.file c.args.name.now) c.deref-2.ensures.value c.in-Some.ensures in
    rw (← c.self.view_is) (open_there (mem_state c.self.inside) c.in-Some.file c.saturating_add-self-inside.result c.args.name.now tt has c.self.invariant.names)
