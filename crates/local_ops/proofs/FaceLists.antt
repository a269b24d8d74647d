-- What holds of faces and of their triples.
use Rattle.std.proofs.Common.{ℕ, zero, suc, ◌<◌, List, [], ◌∷◌, length, get_or, All, arith}
use Rattle.std.specs.List.{AllByRecursion as Each}
use Rattle.std.proofs.lemmas.List.Elements.{All-from_recursion, recursion_from_All}
use Rattle.grid.specs.declared.shapes.Face.{Face}
use Rattle.grid.specs.Views.{triples_of}
use Rattle.grid.proofs.ForCallers.{Each-face}

each-triple : (P : List ℕ → Type 0) (fs : List Face) (d : Face) → ((k : ℕ) → k < length fs → P (get_or fs k d).0) → Each P (triples_of fs)
each-triple P [] d h = tt
each-triple P (f ∷ fs) d h = (h 0 (omega arith), each-triple P fs d (λ k lt. h (suc k) (omega arith)))

pub all-triples : (P : List ℕ → Type 0) (fs : List Face) (d : Face) → ((k : ℕ) → k < length fs → P (get_or fs k d).0) → All P (triples_of fs)
all-triples P fs d h = All-from_recursion P (triples_of fs) (each-triple P fs d h)

triple-each : (P : List ℕ → Type 0) (fs : List Face) (d : Face) (k : ℕ) → Each P (triples_of fs) → k < length fs → P (get_or fs k d).0
triple-each P [] d k h lt = absurd (omega arith)
triple-each P (f ∷ fs) d zero h lt = h.0
triple-each P (f ∷ fs) d (suc k) h lt = triple-each P fs d k h.1 (omega arith)

pub triple-at : (P : List ℕ → Type 0) (fs : List Face) (d : Face) (k : ℕ) → All P (triples_of fs) → k < length fs → P (get_or fs k d).0
triple-at P fs d k h lt = triple-each P fs d k (recursion_from_All P (triples_of fs) h) lt

pub all-faces : (P : List ℕ → Type 0) (fs : List Face) → Each P (triples_of fs) → All (λ (f : Face). P f.0) fs
all-faces P fs h = All-from_recursion (λ (f : Face). P f.0) fs (Each-face P fs h)
