-- Tracked triples at an edge, and the rim of the tracked faces.
use Rattle.std.specs.Prelude.{◌≡◌, ◌≢◌, ℕ, ◌&&◌, List, count_by}
use Rattle.grid.specs.Simplices.{has}

-- how many of the triples have both u and v
abbrev pub triples_at : List (List ℕ) → ℕ → ℕ → ℕ
triples_at tracked u v = count_by (λ t. has t u && has t v) tracked

-- with some other point, u is in exactly one of the triples
pub record IsRim (tracked : List (List ℕ)) (u : ℕ) : Type 0 where
  pub other : ℕ
  pub differs : other ≢ u
  pub one : triples_at tracked u other ≡ 1
