-- Which defect is the first.
use Rattle.std.proofs.Common.{◌≡◌, ℕ, ◌<◌, true, false, List, get_or, All, sym, ◌∙◌, arith}
use Rattle.std.proofs.lemmas.Bool.{true≢false}
use Rattle.grid.specs.declared.shapes.Point.{Point}
use Rattle.grid.specs.declared.shapes.Tri.{Tri}
use Rattle.grid.specs.Determinants.{point_at, IsPositive}
use Rattle.grid.specs.Envelopes.{triangle_at}
use Rattle.grid.specs.Meshes.{Mesh, IsWithinLimits}
use Rattle.grid.specs.Near.{Near}
use Rattle.grid.specs.Planes.{IsDegenerate}
use Rattle.mesh_types.specs.declared.outcome.Defect.{Defect}
use Rattle.mesh_types.specs.declared.outcome.Defect.TheVariants.{Degenerate, Full, Inverted, Unresolved, Stray, Uncovered}
use Rattle.mesh_types.specs.Insertion.{NamesFirst, IsStray, IsUncovered, Has, rank, IsFirstDefect}
use Rattle.mesh_types.specs.Phases.{is_unresolved, section}
use Rattle.cutting_rule.proofs.Naming.{none-names, all-has}

pub degenerate-first : (triangles : List Tri) (t e : ℕ) (m n : Mesh) → IsDegenerate (triangle_at triangles t) → IsFirstDefect triangles t e m n Degenerate
degenerate-first triangles t e m n h = record { holds = h; none_earlier = λ other lt. absurd (omega arith) }

module _ (triangles : List Tri) (t e : ℕ) (m n : Mesh) (area : ¬ IsDegenerate (triangle_at triangles t)) where
  abbrev tri : Tri
  tri = triangle_at triangles t

  pub full-first : ¬ IsWithinLimits n → IsFirstDefect triangles t e m n Full
  full-first h = record { holds = h; none_earlier = earlier }
    where
      earlier : (other : Defect) → rank other < 1 → ¬ Has triangles t e m n other
      earlier Degenerate lt = area
      earlier Full lt = absurd (omega arith)
      earlier (Inverted x) lt = absurd (omega arith)
      earlier (Unresolved x) lt = absurd (omega arith)
      earlier (Stray x) lt = absurd (omega arith)
      earlier (Uncovered x) lt = absurd (omega arith)

  module _ (within : IsWithinLimits n) where
    pub inverted-first : (named : List Point) → NamesFirst n.points (λ x. ¬ IsPositive n.points x) n.tets named → IsFirstDefect triangles t e m n (Inverted named)
    inverted-first named h = record { holds = h; none_earlier = earlier }
      where
        earlier : (other : Defect) → rank other < 2 → ¬ Has triangles t e m n other
        earlier Degenerate lt = area
        earlier Full lt = λ f. f within
        earlier (Inverted x) lt = absurd (omega arith)
        earlier (Unresolved x) lt = absurd (omega arith)
        earlier (Stray x) lt = absurd (omega arith)
        earlier (Uncovered x) lt = absurd (omega arith)

    module _ (positive : All (IsPositive n.points) n.tets) where
      no-inverted : (named : List Point) → ¬ NamesFirst n.points (λ x. ¬ IsPositive n.points x) n.tets named
      no-inverted named = none-names n.points (λ x. ¬ IsPositive n.points x) n.tets named (λ k d lt no_p. no_p (positive k d lt))

      pub unresolved-first : (named : List Point) → NamesFirst n.points (λ x. is_unresolved n tri x ≡ true) n.tets named → IsFirstDefect triangles t e m n (Unresolved named)
      unresolved-first named h = record { holds = h; none_earlier = earlier }
        where
          earlier : (other : Defect) → rank other < 3 → ¬ Has triangles t e m n other
          earlier Degenerate lt = area
          earlier Full lt = λ f. f within
          earlier (Inverted x) lt = no-inverted x
          earlier (Unresolved x) lt = absurd (omega arith)
          earlier (Stray x) lt = absurd (omega arith)
          earlier (Uncovered x) lt = absurd (omega arith)

      module _ (resolved : All (λ x. is_unresolved n tri x ≡ false) n.tets) where
        no-unresolved : (named : List Point) → ¬ NamesFirst n.points (λ x. is_unresolved n tri x ≡ true) n.tets named
        no-unresolved named = none-names n.points (λ x. is_unresolved n tri x ≡ true) n.tets named (λ k d lt u. true≢false (sym u ∙ resolved k d lt))

        pub stray-first : (named : List Point) → NamesFirst n.points (IsStray n.points tri e) (section n tri) named → IsFirstDefect triangles t e m n (Stray named)
        stray-first named h = record { holds = h; none_earlier = earlier }
          where
            earlier : (other : Defect) → rank other < 4 → ¬ Has triangles t e m n other
            earlier Degenerate lt = area
            earlier Full lt = λ f. f within
            earlier (Inverted x) lt = no-inverted x
            earlier (Unresolved x) lt = no-unresolved x
            earlier (Stray x) lt = absurd (omega arith)
            earlier (Uncovered x) lt = absurd (omega arith)

        module _ (near : All (λ f. All (λ u. Near (point_at n.points u) 0 tri e) f) (section n tri)) where
          no-stray : (named : List Point) → ¬ NamesFirst n.points (IsStray n.points tri e) (section n tri) named
          no-stray named = none-names n.points (IsStray n.points tri e) (section n tri) named (λ k d lt s. s.far (all-has (λ u. Near (point_at n.points u) 0 tri e) (get_or (section n tri) k d) s.corner (near k d lt) s.of_face))

          pub uncovered-first : (named : List Point) → NamesFirst n.points (IsUncovered n.points triangles e m.tracked) n.tracked named → IsFirstDefect triangles t e m n (Uncovered named)
          uncovered-first named h = record { holds = h; none_earlier = earlier }
            where
              earlier : (other : Defect) → rank other < 5 → ¬ Has triangles t e m n other
              earlier Degenerate lt = area
              earlier Full lt = λ f. f within
              earlier (Inverted x) lt = no-inverted x
              earlier (Unresolved x) lt = no-unresolved x
              earlier (Stray x) lt = no-stray x
              earlier (Uncovered x) lt = absurd (omega arith)

          pub none-first : All (λ f. ¬ IsUncovered n.points triangles e m.tracked f) n.tracked → (other : Defect) → ¬ Has triangles t e m n other
          none-first covered Degenerate = area
          none-first covered Full = λ f. f within
          none-first covered (Inverted x) = no-inverted x
          none-first covered (Unresolved x) = no-unresolved x
          none-first covered (Stray x) = no-stray x
          none-first covered (Uncovered x) = none-names n.points (IsUncovered n.points triangles e m.tracked) n.tracked x covered
