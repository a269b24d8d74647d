use Rattle.std.proofs.Common.{◌≡◌, ◌<◌, IfSome, length, arith, ◌∙◌, ap, sym, subst}
use Rattle.std.proofs.lemmas.Grind.{common_steps}
use Rattle.std.specs.Option.{option_map}
use Rattle.mesh_io.specs.MemFolder.{mem_state}
use Rattle.mesh_io.specs.MemPlace.{place_of}
use Rattle.mesh_io.proofs.MemNames.{length-put, AllNamesDiffer-put}
use Rattle.mesh_io.proofs.MemSteps.{write_some}
use Rattle.mesh_io.proofs.mem_folder.MemFolderFolder.write.Goals as goal

pub invariant_of-self-in-Ok : goal.invariant_of-self-in-Ok
invariant_of-self-in-Ok c =
    let files = c.self.inside.files.items in
    let within : c.in-Some.file < length files = rw c.in-Some.is at c.self.invariant.writing in
    let same : length files ≡ length c.append.new.files.items = sym (ap length c.in-Ok.ensures.ok ∙ length-put files c.in-Some.file _) in
    record {
      chunk = c.self.invariant.chunk;
      names = rw c.in-Ok.ensures.ok (AllNamesDiffer-put files c.in-Some.file _ c.self.invariant.names within);
      reading = subst (λ n. IfSome (option_map place_of c.self.inside.reading) (λ p. p.0 < n)) same c.self.invariant.reading;
      writing = subst (λ n. IfSome c.self.inside.writing (λ i. i < n)) same c.self.invariant.writing;
    }

pub returns-in-Ok-clause-folder : goal.returns-in-Ok-clause-folder
returns-in-Ok-clause-folder c =
    let within : c.in-Some.file < length c.self.inside.files.items = rw c.in-Some.is at c.self.invariant.writing in
    rw (← c.self.view_is) (write_some (mem_state c.self.inside) c.append.new.files.items c.in-Some.file c.min-count.result c.saturating_add-self-inside.result c.args.bytes.now c.in-Some.is within c.self.invariant.names c.in-Ok.ensures.ok (grind (arith, common_steps)) (grind (arith, common_steps, c.self.invariant.chunk)))
