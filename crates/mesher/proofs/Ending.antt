-- The mesh after both parts, and its tracked faces.
use Rattle.std.proofs.Common.{◌≡◌, ◌-◌, ℕ, ℤ, nat_abs, List, [], ◌∷◌, length, All, refl, sym, subst}
use Rattle.std.specs.List.{range_with_len, AllByRecursion as Each}
use Rattle.std.proofs.lemmas.List.Elements.{All-from_recursion, recursion_from_All}
use Rattle.grid.specs.declared.shapes.Point.{Point}
use Rattle.grid.specs.declared.shapes.Tri.{Tri}
use Rattle.grid.specs.Boxes.{IsInBox}
use Rattle.grid.specs.Meshes.{Mesh, IsWellFormed, IsWithinLimits, Tiles}
use Rattle.mesh_types.specs.declared.outcome.Outcome.{Outcome}
use Rattle.mesh_types.specs.declared.tries.End.{End}
use Rattle.mesh_types.specs.declared.tries.TryLine.{TryLine}
use Rattle.mesh_types.specs.Lattice.{lattice}
use Rattle.mesh_types.specs.Turns.{rolled_back}
use Rattle.mesh_types.specs.Journals.{AllCovered, setting}
use Rattle.mesh_types.specs.Verdicts.{Setting, IsCovered}
use Rattle.mesh_types.specs.Views.{mesh_of}
use Rattle.mesh_store.specs.Parts.{Parts, mesh_in}
use Rattle.mesh_store.specs.Sound.{IsSoundStore}
use Rattle.mesh_store.proofs.ForCallers.{well_formed, within}
use Rattle.soup.specs.declared.raw.Soup.{Soup}
use Rattle.mesher.specs.declared.mesh.Meshed.{Meshed}
use Rattle.mesher.specs.Meshed.{HasItsCertificate, AreCoverings, IsMeshed, IsPart, IsSecondOrNone}

-- ---- certificates
-- the lattice tracks nothing
tracks_nothing : (l n : ℕ) → (lattice l n).tracked ≡ []
unfolding lattice
tracks_nothing l n = refl

lattice-covered : (s : Setting) (l n : ℕ) → AllCovered s (lattice l n)
lattice-covered s l n =
    subst (λ ts. All (IsCovered s (lattice l n).points) ts) (sym (tracks_nothing l n)) (All-from_recursion (IsCovered s (lattice l n).points) [] tt)

wrapped : (s : Setting) (points : List Point) (ts : List (List ℕ)) → Each (IsCovered s points) ts → Each (HasItsCertificate s.triangles s.epsilon points) ts
wrapped s points [] c = tt
wrapped s points (t ∷ ts) c = (record { certificate = c.0 }, wrapped s points ts c.1)

-- each tracked face of what the parts make of the lattice has a certificate
pub have-certificates : (s : Setting) (l n : ℕ) (start middle last : Mesh) → start ≡ lattice l n → (AllCovered s start → AllCovered s middle) → (AllCovered s middle → AllCovered s last)
    → All (HasItsCertificate s.triangles s.epsilon last.points) last.tracked
have-certificates s l n start middle last is first second =
    All-from_recursion (HasItsCertificate s.triangles s.epsilon last.points) last.tracked
    (wrapped s last.points last.tracked (recursion_from_All (IsCovered s last.points) last.tracked (second (first (subst (AllCovered s) (sym is) (lattice-covered s l n))))))

-- what tiles, by another name and another side
pub tiles-as : (side z : ℤ) (n m : Mesh) → side ≡ z → n ≡ m → Tiles m (nat_abs z) → Tiles n (nat_abs side)
tiles-as side z n m is same tiles = subst (λ y. Tiles n (nat_abs y)) (sym is) (subst (λ x. Tiles x (nat_abs z)) (sym same) tiles)

-- what holds in a setting of the triangles and the side by other names
pub in-setting : (P : Setting → Type 0) (env triangles : List Tri) (e : ℕ) (z side : ℤ) → env ≡ triangles → z ≡ side → P (setting env e z) → P (setting triangles e side)
in-setting P env triangles e z side ts same p = subst (λ us. P (setting us e side)) ts (subst (λ y. P (setting env e y)) same p)

-- the first part of a list of triangles, a side and a first mesh that have another name
pub part-of : (env triangles : List Tri) (e budget : ℕ) (z side : ℤ) (start first m : Mesh) (outcomes : List Outcome) (lines : List TryLine) (end : End) → env ≡ triangles → z ≡ side → start ≡ first
    → IsPart (setting env e z) (range_with_len 0 (length env)) budget start outcomes lines end m → IsPart (setting triangles e side) (range_with_len 0 (length triangles)) budget first outcomes lines end m
part-of env triangles e budget z side start first m outcomes lines end ts same is part =
    subst (λ us. IsPart (setting us e side) (range_with_len 0 (length us)) budget first outcomes lines end m) ts
    (subst (λ y. IsPart (setting env e y) (range_with_len 0 (length env)) budget first outcomes lines end m) same
    (subst (λ n. IsPart (setting env e z) (range_with_len 0 (length env)) budget n outcomes lines end m) is part))

-- ---- the whole
pub meshed-is : (soup : Soup) (e cells budget : ℕ) (middle : Mesh) (m : Parts) (made : Meshed)
    → IsSoundStore soup.side m
    → IsPart (setting soup.triangles e soup.side) (range_with_len 0 (length soup.triangles)) budget (lattice (nat_abs soup.side) cells) made.outcomes made.journal.lines made.end middle
    → IsSecondOrNone (setting soup.triangles e soup.side) (rolled_back 0 made.outcomes) (budget - length made.journal.lines) middle made.second (mesh_in m)
    → Tiles (mesh_in m) (nat_abs soup.side)
    → mesh_of made.mesh ≡ mesh_in m
    → AreCoverings soup.triangles e made.mesh.points (mesh_of made.mesh).tracked made.faces
    → IsMeshed soup e cells budget made
meshed-is soup e cells budget middle m made sound first second tiles same coverings = record {
  middle = middle;
  first = first;
  second = subst (λ n. IsSecondOrNone (setting soup.triangles e soup.side) (rolled_back 0 made.outcomes) (budget - length made.journal.lines) middle made.second n) (sym same) second;
  covered = coverings;
  tiles = subst (λ n. Tiles n (nat_abs soup.side)) (sym same) tiles;
  in_box = subst (λ (n : Mesh). All (IsInBox (nat_abs soup.side)) n.points) (sym same) sound.in_box;
  well_formed = subst IsWellFormed (sym same) (well_formed soup.side m sound);
  within = subst IsWithinLimits (sym same) (within soup.side m sound);
}
