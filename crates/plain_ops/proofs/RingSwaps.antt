-- The tetrahedra at an edge, the first apart.
use Rattle.std.proofs.Common.{◌≡◌, ℕ, ◌<◌, Option, List, [], ◌∷◌, length, get_or, drop, refl, ap, arith}
use Rattle.std.specs.List.{flat_map}
use Rattle.grid.specs.declared.shapes.Tet.{Tet}
use Rattle.grid.specs.Meshes.{Mesh}
use Rattle.grid.specs.Views.{corners_of}
use Rattle.mesh_types.specs.Results.{unchanged, first_outside, unhinged_at, unhinged}

module _ (m : Mesh) (u v : ℕ) where
  pub ring-none : (gone : List Tet) → length gone ≡ 0 → unchanged m ≡ unhinged m u v (corners_of gone)
  ring-none [] e = refl
  ring-none (x ∷ gone) e = absurd (omega (arith, e))

  pub ring-some : (gone : List Tet) (d : Tet) (found : Option ℕ) → 0 < length gone → found ≡ first_outside (get_or gone 0 d).0 (flat_map (λ y. y) (corners_of (drop 1 gone)))
      → unhinged_at m u v (corners_of gone) (get_or gone 0 d).0 found ≡ unhinged m u v (corners_of gone)
  ring-some [] d found l e = absurd (omega arith)
  ring-some (x ∷ gone) d found l e = ap (unhinged_at m u v (x.0 ∷ corners_of gone) x.0) e
