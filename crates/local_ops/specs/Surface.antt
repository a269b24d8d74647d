-- Tests of the tracked triples.
use Rattle.std.specs.Prelude.{ℕ, Bool, not, ◌||◌, List}
use Rattle.std.specs.List.{filter, list_any}
use Rattle.grid.specs.Simplices.{has, replaced, rising, same_triple}

-- those that have u
abbrev pub at_point : ℕ → List (List ℕ) → List (List ℕ)
at_point u triples = filter (λ t. has t u) triples

-- t has v, or is not tracked with v in place of u
abbrev pub is_moved_apart : List (List ℕ) → (u v : ℕ) → List ℕ → Bool
is_moved_apart tracked u v t = has t v || not (list_any (same_triple (rising (replaced u v t))) tracked)
