-- The candidates at a point, as they are listed.
use Rattle.std.specs.Prelude.{◌≡◌, ℕ, Bool, true, None, List}
use Rattle.std.specs.List.{flat_map, filter}
use Rattle.grid.specs.Simplices.{has}
use Rattle.mesh_types.specs.declared.tries.Try.{Try}
use Rattle.mesh_types.specs.Tries.{is_candidate}
use Rattle.improve.specs.declared.kind.Kind.{Kind}
use Rattle.improve.specs.declared.listed.Listed.{Listed}
use Rattle.improve.specs.Search.{lowest, tries_at_tet}

-- the candidates of a kind that begin with u, as the tetrahedra that have u propose them
abbrev pub candidates_at : List (List ℕ) → Kind → ℕ → List Try
candidates_at tets kind u =
    let star : List (List ℕ) = filter (λ x. has x u) tets in
    filter (is_candidate star) (flat_map (tries_at_tet kind u) star)

-- whatever test they have to pass, the lowest of the one list is that of the other
abbrev pub HasSameLowest : List Try → List Try → Type 0
HasSameLowest ts others = (p : Try → Bool) → lowest p None ts ≡ lowest p None others

-- so it is where tries are added to others
abbrev pub HaveSameLowestWith : (news olds added : List Try) → Type 0
HaveSameLowestWith news olds added = (p : Try → Bool) → lowest p None news ≡ lowest p (lowest p None olds) added

-- what is listed and counts is so among the tetrahedra
abbrev pub IsCurrent : List (List ℕ) → Listed → Type 0
IsCurrent tets listed = listed.is_current ≡ true → HasSameLowest listed.tries.items (candidates_at tets listed.kind listed.point)
