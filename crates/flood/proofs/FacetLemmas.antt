-- The facets of half-faces, one half-face after the other.
use Rattle.std.proofs.Common.{◌≡◌, ◌≢◌, ℕ, ◌+◌, ◌%◌, ◌<◌, ◌≤◌, Bool, true, false, cond, List, [], ◌∷◌, ◌++◌, length, sym, ap, ◌∙◌, subst, inl, inr, refl, arith}
use Rattle.std.specs.Prelude.{AllPairs}
use Rattle.std.specs.Bool.{Decides}
use Rattle.std.proofs.lemmas.Slice.Eq.{bytes_eq-Decides}
use Rattle.std.proofs.Math.ListN.{get_or-append}
use Rattle.std.proofs.Math.Seq.{get_or-append_seam}
use Rattle.std.proofs.lemmas.Bool.{cases_lt}
use Rattle.std.proofs.lemmas.List.{length_push}
use Rattle.grid.specs.declared.shapes.Face.{Face}
use Rattle.grid.specs.Simplices.{faces, rising, same_triple}
use Rattle.flood.specs.HalfFaces.{AreFacets, facet_at, half_face, tet_of, triple_at}

-- equal triples of corners are equal faces
pub same_face : (f g : Face) → Decides (same_triple f.0 g.0) (f ≡ g)
same_face f g = (λ e. let same = (bytes_eq-Decides f.0 g.0).0 e in ap (λ (l : List ℕ). record { 0 = l }) same, λ e. (bytes_eq-Decides f.0 g.0).1 (ap (λ (x : Face). x.0) e))

-- the keys of old stand at the same places in new, which has at most one more
pub record Extends (old new : List Face) : Type 0 where
  pub longer : length old ≤ length new
  pub one_more : length new ≤ length old + 1
  pub kept : (c : ℕ) → c < length old → triple_at new c ≡ triple_at old c

-- a list, with one more element or without
pub Extends-cond : (b : Bool) (keys : List Face) (f : Face) → Extends keys (cond b keys (keys ++ f ∷ []))
Extends-cond true keys f = record { longer = omega arith; one_more = omega arith; kept = λ c below. refl }
Extends-cond false keys f = record {
  longer = omega (arith, length_push keys f);
  one_more = omega (arith, length_push keys f);
  kept = λ c below. ap (λ g. g.0) (get_or-append keys (f ∷ []) (record { 0 = [] }) c below);
}

pub AreFacets-goes_on : (tets : List (List ℕ)) (n : ℕ) (old new : List Face) (facet_of : List ℕ) (c : ℕ) → AreFacets tets n old facet_of → Extends old new → n % 4 < length (faces (tet_of tets n)) → c < length new → triple_at new c ≡ rising (half_face tets n) → AllPairs (λ f g. f ≢ g) new → AreFacets tets (n + 1) new (facet_of ++ c ∷ [])
AreFacets-goes_on tets n old new facet_of c so_far more there in_range is apart =
    let one_each = so_far.one_each in
    let old_at : (h : ℕ) → h < n → facet_at (facet_of ++ c ∷ []) h ≡ facet_at facet_of h = λ h below. get_or-append facet_of (c ∷ []) 0 h (omega arith) in
    let new_at : facet_at (facet_of ++ c ∷ []) n ≡ c = ap (facet_at (facet_of ++ c ∷ [])) (sym one_each) ∙ get_or-append_seam facet_of c [] 0 in
    record {
      one_each = length_push facet_of c ∙ ap (λ m. m + 1) one_each;
      there = λ h below. elim (cases_lt h n) [
        | inl k ↦ so_far.there h k
        | inr k ↦ let same : n ≡ h = omega arith in subst (λ m. m % 4 < length (faces (tet_of tets m))) same there
      ];
      in_range = λ h below. elim (cases_lt h n) [
        | inl k ↦ let e = old_at h k in let i = so_far.in_range h k in let longer = more.longer in omega arith
        | inr k ↦ let same : n ≡ h = omega arith in let e = ap (facet_at (facet_of ++ c ∷ [])) (sym same) ∙ new_at in omega arith
      ];
      triple_is = λ h below. elim (cases_lt h n) [
        | inl k ↦ ap (triple_at new) (old_at h k) ∙ more.kept (facet_at facet_of h) (so_far.in_range h k) ∙ so_far.triple_is h k
        | inr k ↦ let same : n ≡ h = omega arith in
            subst (λ m. triple_at new (facet_at (facet_of ++ c ∷ []) m) ≡ rising (half_face tets m)) same (ap (triple_at new) new_at ∙ is)
      ];
      apart = apart;
    }

pub AreFacets-starts : (tets : List (List ℕ)) → AreFacets tets 0 [] []
AreFacets-starts tets = record {
  one_each = refl;
  there = λ h none. absurd (omega arith);
  in_range = λ h none. absurd (omega arith);
  triple_is = λ h none. absurd (omega arith);
  apart = λ i j d before none. absurd (omega arith);
}
