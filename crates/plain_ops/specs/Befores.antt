-- Tests of the mesh before a try, axis by axis and face by face.
use Rattle.std.specs.Prelude.{◌≡◌, ℕ, ◌<◌, Bool, true, false, not, ◌&&◌, nat_eq, ℤ, List, count_by}
use Rattle.std.specs.List.{Contains}
use Rattle.grid.specs.declared.shapes.Point.{Point}
use Rattle.grid.specs.Boxes.{Axis, coordinate}
use Rattle.grid.specs.Rims.{triples_at}
use Rattle.grid.specs.Simplices.{has, replaced, rising}

-- ---- the ends of the axes of the box
-- q is at this end of each axis that p is at it of
abbrev pub StaysAtEnd : ℤ → Point → Point → Type 0
StaysAtEnd end p q = (a : Axis) → coordinate a p ≡ end → coordinate a q ≡ end

-- p and q are at this end of no axis both
abbrev pub IsApartAtEnd : ℤ → Point → Point → Type 0
IsApartAtEnd end p q = (a : Axis) → coordinate a p ≡ end → ¬ (coordinate a q ≡ end)

-- ---- tracked triples
-- u and another point w are in exactly one of the triples
abbrev pub is_rim_edge : List (List ℕ) → ℕ → ℕ → Bool
is_rim_edge tracked u w = not (nat_eq w u) && nat_eq (triples_at tracked u w) 1

-- where some has u some has u and v
abbrev pub StaysOnSurface : List (List ℕ) → (u v : ℕ) → Type 0
StaysOnSurface tracked u v = 0 < count_by (λ t. has t u) tracked → 0 < triples_at tracked u v

-- t has u and not v, and is tracked already with v in place of u
pub record FallsOnAnother (tracked : List (List ℕ)) (u v : ℕ) (t : List ℕ) : Type 0 where
  pub moves : has t u ≡ true
  pub stays_whole : has t v ≡ false
  pub falls : Contains tracked (rising (replaced u v t))

-- no triple falls on another
abbrev pub AreApart : List (List ℕ) → (u v : ℕ) → Type 0
AreApart tracked u v = (t : List ℕ) → Contains tracked t → ¬ FallsOnAnother tracked u v t
