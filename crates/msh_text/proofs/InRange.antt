-- Corners in range, of the tetrahedra and faces of the code.
use Rattle.std.proofs.Common.{ℕ, ◌<◌, ◌≤◌, List, map, subst, All, arith}
use Rattle.std.proofs.lemmas.List.{length-map}
use Rattle.std.proofs.Math.ListN.{get_or-map}
use Rattle.msh_text.specs.FileMesh.{AreInRange}

pub AreInRange-each : {X : Type 0} (corners : X → List ℕ) (n m : ℕ) (xs : List X) → n ≤ m → AreInRange n (map corners xs) → All (λ x. All (λ c. c < m) (corners x)) xs
AreInRange-each corners n m xs few h k d lt i e below =
    let P : List ℕ → Type 0 = λ x. All (λ c. c < n) x in
    let all = subst P (get_or-map corners xs k d) (h k (corners d) (omega (arith, length-map xs corners))) in
    omega (arith, all i e below)
