-- The test for a rim point, edge by edge.
use Rattle.std.specs.Prelude.{ℕ, Bool, not, ◌&&◌, nat_eq, List}
use Rattle.std.specs.List.{list_any}
use Rattle.grid.specs.Rims.{triples_at}

-- u and another point v are in exactly one of the triples
abbrev pub is_rim_edge : List (List ℕ) → ℕ → ℕ → Bool
is_rim_edge tracked u v = not (nat_eq u v) && nat_eq (triples_at tracked u v) 1

-- such an edge leads to a corner of t
abbrev pub has_rim_edge : List (List ℕ) → ℕ → List ℕ → Bool
has_rim_edge tracked u t = list_any (is_rim_edge tracked u) t
