-- Coverings of tracked faces: one more.
use Rattle.std.proofs.Common.{◌≡◌, ℕ, zero, suc, ◌+◌, ◌<◌, List, [], ◌∷◌, ◌++◌, length, take, get_or, All, refl, ap, ◌∙◌, arith}
use Rattle.std.specs.List.{AllByRecursion as Each}
use Rattle.std.proofs.lemmas.List.Elements.{recursion_from_All}
use Rattle.grid.specs.declared.shapes.Face.{Face}
use Rattle.grid.specs.Views.{triples_of}
use Rattle.grid.specs.declared.shapes.Point.{Point}
use Rattle.grid.specs.declared.shapes.Tri.{Tri}
use Rattle.report_text.specs.declared.report.Covering.{Covering}
use Rattle.mesher.specs.Meshed.{AreCoverings, IsCoveringOf}

pub coverings-push : (triangles : List Tri) (e : ℕ) (points : List Point) (ts : List (List ℕ)) (cs : List Covering) (t : List ℕ) (c : Covering)
    → AreCoverings triangles e points ts cs → IsCoveringOf triangles e points t c → AreCoverings triangles e points (ts ++ t ∷ []) (cs ++ c ∷ [])
coverings-push triangles e points [] (d ∷ cs) t c are is = elim are [ ]
coverings-push triangles e points (u ∷ ts) [] t c are is = elim are [ ]
coverings-push triangles e points [] [] t c are is = (is, tt)
coverings-push triangles e points (u ∷ ts) (d ∷ cs) t c are is = (are.0, coverings-push triangles e points ts cs t c are.1 is)

-- the triples of the first faces, and one more
pub triples-more : (faces : List Face) (i : ℕ) (d : Face) → i < length faces → triples_of (take (i + 1) faces) ≡ triples_of (take i faces) ++ (get_or faces i d).0 ∷ []
triples-more [] i d lt = absurd (omega (arith, lt))
triples-more (f ∷ faces) zero d lt = refl
triples-more (f ∷ faces) (suc i) d lt =
    let further : suc i + 1 ≡ suc (i + 1) = omega arith in
    ap (λ k. triples_of (take k (f ∷ faces))) further ∙ ap (λ ts. f.0 ∷ ts) (triples-more faces i d (omega (arith, lt)))

pub at_face : (P : List ℕ → Type 0) (faces : List Face) (i : ℕ) (d : Face) → All P (triples_of faces) → i < length faces → P (get_or faces i d).0
at_face P faces i d all lt = elim_at faces i d (recursion_from_All P (triples_of faces) all) lt
  where
    elim_at : (fs : List Face) (k : ℕ) (e : Face) → Each P (triples_of fs) → k < length fs → P (get_or fs k e).0
    elim_at [] k e each l = absurd (omega (arith, l))
    elim_at (f ∷ fs) zero e each l = each.0
    elim_at (f ∷ fs) (suc k) e each l = elim_at fs k e each.1 (omega (arith, l))
