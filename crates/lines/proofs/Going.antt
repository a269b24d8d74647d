-- What is read goes on with what is left of a form.
use Rattle.std.proofs.Common.{ℕ, List}
use Rattle.std.specs.Prelude.{Result, Ok, Err}
use Rattle.std.specs.Borrow.{Bor}
use Rattle.lines.specs.declared.stop.Stop.{Stop}
use Rattle.lines.specs.declared.stop.Stop.TheVariants as stops
use Rattle.lines.specs.Forms.{Form, field, Reads}
use Rattle.lines.specs.Gives.{Fails, Gives}
use Rattle.lines.proofs.Laws.{Continues, ends_with}

pub gives_on : {R X : Type 0} (view : R → X) {form later : Form X} {bytes rest : List ℕ} (result : Result (R × Bor (List ℕ)) Stop) → Continues form bytes later rest → Gives view later rest result → Gives view form bytes result
gives_on view (Ok r) so_far h = ends_with (view r.0) r.1.now so_far h
gives_on view (Err (stops.At left)) so_far h = so_far.breaks left h
gives_on view (Err stops.Memory) so_far h = tt

-- an error of what is left
pub fails_last : {X : Type 0} {form later : Form X} {bytes rest : List ℕ} (e : Stop) → Continues form bytes later rest → Fails later rest e → Fails form bytes e
fails_last (stops.At left) so_far h = so_far.breaks left h
fails_last stops.Memory so_far h = tt

pub field_allowed : {X : Type 0} (spelled : X → List ℕ) (Allowed : X → Type 0) (bytes : List ℕ) (x : X) (rest : List ℕ) → Reads (field spelled Allowed) bytes x rest → Allowed x
unfolding Reads
field_allowed spelled Allowed bytes x rest h = h.allowed
