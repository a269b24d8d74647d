use Rattle.std.proofs.Common.{◌≡◌, ◌<◌, ℕ, List, length, take, drop, min, arith, ◌∙◌, ap, subst, sym, IfSome}
use Rattle.std.proofs.lemmas.Grind.{common_steps}
use Rattle.std.specs.Option.{option_map}
use Rattle.mesh_io.specs.MemFiles.{bytes_at}
use Rattle.mesh_io.specs.MemFolder.{mem_state}
use Rattle.mesh_io.specs.MemPlace.{place_of}
use Rattle.mesh_io.proofs.MemFails.{read_fails}
use Rattle.mesh_io.proofs.MemNames.{bytes_at-get_or}
use Rattle.mesh_io.proofs.MemSteps.{read_some, left-reading}
use Rattle.mesh_io.proofs.mem_folder.MemFolderFolder.read.Goals as goal

pub returns-then-is_listed-clause-folder : goal.returns-then-is_listed-clause-folder
returns-then-is_listed-clause-folder c =
    rw (← c.self.view_is) (read_fails (mem_state c.self.inside) c.saturating_add-self-inside.result c.saturating_add-self-inside-then-is_listed.result c.args.into.now _ (grind (arith, common_steps)) (grind (arith, common_steps)) (grind (arith, common_steps)))

pub returns-clause-folder : goal.returns-clause-folder
returns-clause-folder c =
    let files = c.self.inside.files.items in
    let within : c.in-Some.place.file < length files = subst (λ r. IfSome (option_map place_of r) (λ p. p.0 < length files)) c.in-Some.is c.self.invariant.reading in
    let bytes_is : c.as_slice-content.result.now ≡ bytes_at files c.in-Some.place.file =
    c.as_slice-content.ensures ∙ ap (λ f. f.bytes) c.index.ensures ∙ sym (bytes_at-get_or files c.in-Some.place.file c.index.result.now within) in
    rw (← c.self.view_is) (read_some (mem_state c.self.inside) c.in-Some.place.file c.in-Some.place.at c.copy_some-count.result c.saturating_add-self-inside.result c.copy_some-count.new.into (ap (option_map place_of) c.in-Some.is) c.self.invariant.names within c.self.invariant.chunk
    (subst (λ (xs : List ℕ). c.copy_some-count.result ≡ min (min (length (drop c.in-Some.place.at xs)) (length c.copy_some-count.new.into)) c.self.inside.chunk) bytes_is c.copy_some-count.ensures.count)
    (subst (λ (xs : List ℕ). take c.copy_some-count.result c.copy_some-count.new.into ≡ take c.copy_some-count.result (drop c.in-Some.place.at xs)) bytes_is c.copy_some-count.ensures.bytes))

pub returns-clause-given : goal.returns-clause-given
returns-clause-given c =
    let files = c.self.inside.files.items in
    let within : c.in-Some.place.file < length files = subst (λ r. IfSome (option_map place_of r) (λ p. p.0 < length files)) c.in-Some.is c.self.invariant.reading in
    let bytes_is : c.as_slice-content.result.now ≡ bytes_at files c.in-Some.place.file =
    c.as_slice-content.ensures ∙ ap (λ f. f.bytes) c.index.ensures ∙ sym (bytes_at-get_or files c.in-Some.place.file c.index.result.now within) in
    let left_is = left-reading (mem_state c.self.inside) c.in-Some.place.file c.in-Some.place.at (ap (option_map place_of) c.in-Some.is) c.self.invariant.names within in
    rw (← c.self.view_is) (c.copy_some-count.ensures.count ∙ ap (λ xs. min (min (length (drop c.in-Some.place.at xs)) (length c.copy_some-count.new.into)) c.self.inside.chunk) bytes_is ∙ ap (λ xs. min (min (length xs) (length c.copy_some-count.new.into)) c.self.inside.chunk) (sym left_is))
