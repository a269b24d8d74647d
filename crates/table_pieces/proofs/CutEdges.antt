-- A list of cuts as a list of edges with numbered new points.
use Rattle.std.proofs.Common.{◌≡◌, ℕ, ◌+◌, ◌<◌, ◌≤◌, true, List, [], ◌∷◌, ◌++◌, map, refl, sym, ◌∙◌, arith, inl, inr}
use Rattle.std.specs.List.{flat_map, AllByRecursion as Each}
use Rattle.std.proofs.lemmas.Bool.{true≢false}
use Rattle.std.proofs.lemmas.List.Elements.{recursion_from_All}
use Rattle.grid.specs.Simplices.{sub}
use Rattle.grid.specs.Meshes.{is_below, Ordered}
use Rattle.mesh_types.specs.declared.cut.Cut.{Cut}
use Rattle.mesh_types.specs.CutLists.{IsCutBelow, AreCuts, ends_of}
use Rattle.mesh_types.specs.Refines.{sub_all}
use Rattle.mesh_types.proofs.ForCallers.{below_cases}
use Rattle.cut_tables.specs.Cutting.{RankEdge, pieces_of, split_in_turn}
use Rattle.table_pieces.specs.Labels.{arranged, numbered}
use Rattle.table_pieces.proofs.Untouched.{IsNumbered}
use Rattle.table_pieces.proofs.ByEdge.{RisesBy, IsBefore}
use Rattle.table_pieces.proofs.Lookups.{IsLookup, pieces-by_lookup}

everywhere : {X Y : Type 0} (f g : X → List Y) → ((x : X) → f x ≡ g x) → (xs : List X) → flat_map f xs ≡ flat_map g xs
everywhere f g same [] = refl
everywhere f g same (x ∷ xs) = (λ i. same x i ++ everywhere f g same xs i)

pub sub_all-numbered : (k : ℕ) (es : List Cut) (x : List ℕ) → sub_all k es x ≡ split_in_turn (numbered k es) x
sub_all-numbered k [] x = refl
sub_all-numbered k (e ∷ es) x = everywhere (sub_all (k + 1) es) (split_in_turn (numbered (k + 1) es)) (sub_all-numbered (k + 1) es) (sub e.u e.v k x)

numbers : (n k : ℕ) (es : List Cut) → n ≤ k → Each (IsCutBelow n) es → Each (IsNumbered n) (numbered k es)
numbers n k [] le c = tt
numbers n k (e ∷ es) le c = (
  record { first_below = omega (arith, c.0.ends_rise, c.0.in_range); second_below = c.0.in_range; label_not = le },
  numbers n (k + 1) es (omega (arith, le)) c.1,
)

pub numbered-IsNumbered : (n : ℕ) (es : List Cut) → AreCuts n es → Each (IsNumbered n) (numbered n es)
numbered-IsNumbered n es c = numbers n n es (omega arith) (recursion_from_All (IsCutBelow n) es c.each)

ups : (n k : ℕ) (es : List Cut) → Each (IsCutBelow n) es → Each (λ e. e.first < e.second) (numbered k es)
ups n k [] c = tt
ups n k (e ∷ es) c = (c.0.ends_rise, ups n (k + 1) es c.1)

pub numbered-up : (n : ℕ) (es : List Cut) → AreCuts n es → Each (λ e. e.first < e.second) (numbered n es)
numbered-up n es c = ups n n es (recursion_from_All (IsCutBelow n) es c.each)

before-from : (d e : RankEdge) → is_below (d.first ∷ d.second ∷ []) (e.first ∷ e.second ∷ []) ≡ true → IsBefore d e
before-from d e h = elim (below_cases d.first e.first (d.second ∷ []) (e.second ∷ []) h) [
  | inl t ↦ inl t
  | inr p ↦ inr (p.0, elim (below_cases d.second e.second [] [] p.1) [ inl t ↦ t | inr q ↦ absurd (true≢false (sym q.1)) ])
]

befores : (d : RankEdge) (k : ℕ) (es : List Cut) → Each (λ y. is_below (d.first ∷ d.second ∷ []) y ≡ true) (map ends_of es) → Each (IsBefore d) (numbered k es)
befores d k [] b = tt
befores d k (e ∷ es) b = (before-from d (record { first = e.u; second = e.v; label = k }) b.0, befores d (k + 1) es b.1)

pub numbered-rises : (k : ℕ) (es : List Cut) → Ordered (map ends_of es) → RisesBy IsBefore (numbered k es)
numbered-rises k [] o = tt
numbered-rises k (e ∷ es) o = (befores (record { first = e.u; second = e.v; label = k }) (k + 1) es o.0, numbered-rises (k + 1) es o.1)

-- the pieces of a tetrahedron by cuts, from the table
pub sub_all-by_lookup : (n : ℕ) (f : ℕ → ℕ) (places : List ℕ) (mask : ℕ) (es : List Cut) (x : List ℕ) → AreCuts n es → IsLookup f places mask (numbered n es) x
    → sub_all n es x ≡ map (arranged places) (map (map f) (pieces_of mask))
sub_all-by_lookup n f places mask es x c l =
    sub_all-numbered n es x
    ∙ pieces-by_lookup n f places mask (numbered n es) x (numbered-IsNumbered n es c) (numbered-up n es c) (numbered-rises n es c.ordered) l
