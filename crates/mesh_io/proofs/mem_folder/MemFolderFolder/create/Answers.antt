use Rattle.std.proofs.Common.{◌≡◌, ◌<◌, ◌+◌, length, arith, ◌∙◌, ap, subst, sym, None, IfSome, [], ◌∷◌, length-append}
use Rattle.std.specs.Option.{option_map}
use Rattle.mesh_io.specs.MemFiles.{lookup}
use Rattle.mesh_io.specs.MemFolder.{mem_state}
use Rattle.mesh_io.specs.MemPlace.{HasName, place_of}
use Rattle.mesh_io.specs.declared.mem_file.MemFile.{MemFile}
use Rattle.mesh_io.proofs.MemNames.{length-put, AllNamesDiffer-put, AllNamesDiffer-add}
use Rattle.mesh_io.proofs.MemSteps.{create_there, create_new, inside-restart, inside-more}
use Rattle.mesh_io.proofs.mem_folder.MemFolderFolder.create.Goals as goal

pub invariant_of-self-in-Some : goal.invariant_of-self-in-Some
invariant_of-self-in-Some c =
    let files = c.self.inside.files.items in
    let has : HasName files c.in-Some.file c.args.name.now = subst (λ fs. HasName fs c.in-Some.file c.args.name.now) c.deref-2.ensures.value c.in-Some.ensures in
    let same : length files ≡ length c.empty.new.files.items = sym (ap length c.empty.ensures ∙ length-put files c.in-Some.file _) in
    record {
      chunk = c.self.invariant.chunk;
      names = rw c.empty.ensures (AllNamesDiffer-put files c.in-Some.file _ c.self.invariant.names has.0);
      reading = subst (λ n. IfSome (option_map place_of c.restart-self-inside.result) (λ p. p.0 < n)) same (rw c.restart-self-inside.ensures (inside-restart (option_map place_of c.self.inside.reading) c.in-Some.file (length files) has.0 c.self.invariant.reading));
      writing = subst (λ n. c.in-Some.file < n) same has.0;
    }

pub invariant_of-self-in-Ok : goal.invariant_of-self-in-Ok
invariant_of-self-in-Ok c =
    let files = c.self.inside.files.items in
    let file : MemFile = record { name = c.args.name.now; bytes = [] } in
    let none : lookup files c.args.name.now ≡ None = subst (λ fs. lookup fs c.args.name.now ≡ None) c.deref-2.ensures.value c.in-None.ensures in
    let longer : length c.add.new.files.items ≡ length files + 1 = omega (arith, ap length c.in-Ok.ensures.ok, length-append files (file ∷ [])) in
    let last : c.len-file.result ≡ length files = omega (arith, c.len-file.ensures, c.self.inside.files.ok.0) in
    record {
      chunk = c.self.invariant.chunk;
      names = rw c.in-Ok.ensures.ok (AllNamesDiffer-add files file c.self.invariant.names none);
      reading = inside-more (option_map place_of c.self.inside.reading) (λ p. p.0) (length files) (length c.add.new.files.items) (omega arith) c.self.invariant.reading;
      writing = omega arith;
    }

pub returns-in-Some-clause-folder : goal.returns-in-Some-clause-folder
returns-in-Some-clause-folder c =
    let has : HasName c.self.inside.files.items c.in-Some.file c.args.name.now = subst (λ fs. HasName fs c.in-Some.file c.args.name.now) c.deref-2.ensures.value c.in-Some.ensures in
    rw (← c.self.view_is) (create_there (mem_state c.self.inside) c.empty.new.files.items (option_map place_of c.restart-self-inside.result) c.in-Some.file c.saturating_add-self-inside.result c.args.name.now tt has c.self.invariant.names c.self.invariant.reading c.empty.ensures c.restart-self-inside.ensures)

pub returns-in-Ok-clause-folder : goal.returns-in-Ok-clause-folder
returns-in-Ok-clause-folder c =
    let files = c.self.inside.files.items in
    let none : lookup files c.args.name.now ≡ None = subst (λ fs. lookup fs c.args.name.now ≡ None) c.deref-2.ensures.value c.in-None.ensures in
    let last : c.len-file.result ≡ length files = omega (arith, c.len-file.ensures, c.self.inside.files.ok.0) in
    rw (← c.self.view_is) (create_new (mem_state c.self.inside) c.add.new.files.items c.len-file.result c.saturating_add-self-inside.result c.args.name.now tt none c.self.invariant.names c.self.invariant.reading c.in-Ok.ensures.ok last)
