-- Tracked triples are triples of points.
use Rattle.std.proofs.Common.{◌≡◌, ℕ, ◌<◌, Bool, List, All, filter}
use Rattle.grid.specs.declared.shapes.Face.{Face}
use Rattle.grid.specs.Meshes.{IsTriple}
use Rattle.grid.specs.Views.{triples_of}
use Rattle.mesh_types.proofs.ForCallers.{Each-filter}
use Rattle.mesh_store.specs.Parts.{tracked_in}
use Rattle.mesh_store.proofs.ForCallers.{tracked-triples}
use Rattle.tracked.specs.Keys.{Keys}
use Rattle.cutting_rule.proofs.ForCallers.{code-all, lower}

pub listed-low : (n : ℕ) (p : List ℕ → Bool) (keys : Keys) (fs : List Face) → triples_of fs ≡ filter p (tracked_in keys) → All (λ (k : Face × Bool). IsTriple n k.0.0) keys → All (λ (f : Face). All (λ u. u < n) f.0) fs
listed-low n p keys fs e h =
    code-all (λ t. All (λ u. u < n) t) fs (filter p (tracked_in keys)) e
    (Each-filter (λ (t : List ℕ). All (λ u. u < n) t) p (tracked_in keys) (lower n (tracked_in keys) (tracked-triples n keys h)))
