-- What a journal keeps of a mesh, and that its tries are plain.
use Rattle.std.proofs.Common.{◌≡◌, ℕ, zero, suc, ◌+◌, ◌<◌, ◌≤◌, Bool, true, ◌&&◌, eqb, List, [], ◌∷◌, length, take, sym, ap, ◌∙◌, subst, inl, inr, arith}
use Rattle.std.specs.List.{count_by, AllByRecursion as Each}
use Rattle.std.proofs.lemmas.Bool.{cases_Bool, and_parts, or_right}
use Rattle.std.proofs.lemmas.List.{take_more, take_all}
use Rattle.std.proofs.lemmas.List.Elements.{All-from_get_or, recursion_from_All}
use Rattle.grid.proofs.ForCallers.{count_by-cons_no, Each-weaker, has_first}
use Rattle.grid.specs.Meshes.{Mesh, IsWellFormed}
use Rattle.grid.specs.Simplices.{has, count, IsTet}
use Rattle.mesh_types.specs.declared.tries.Try.{Try}
use Rattle.mesh_types.specs.declared.tries.Try.TheVariants.{Split, Shift, Collapse, FaceSwap, EdgeSwap}
use Rattle.mesh_types.specs.declared.tries.Verdict.{Verdict}
use Rattle.mesh_types.specs.declared.tries.Verdict.TheVariants.{Kept, Refused}
use Rattle.mesh_types.specs.declared.tries.Why.TheVariants as why
use Rattle.mesh_types.specs.declared.tries.TryLine.{TryLine}
use Rattle.mesh_types.specs.Journals.{line, after, last_mesh, line_at, try_at, mesh_at, FollowRule}
use Rattle.mesh_types.specs.Tries.{is_candidate, tets_at_edge, tets_at_point}
use Rattle.mesh_types.specs.Verdicts.{Setting, IsVerdict}
use Rattle.mesh_types.proofs.ForCallers.{split_is, collapse_is, edge_swap_is, face_swap_is, shift_is, inside_law, tries_law, below_each, last-push, candidate-at}
use Rattle.report_text.specs.Plain.{IsPlainTry, ArePlainTries}
use Rattle.acceptance.proofs.Insertions.{IsGoodMesh}
use Rattle.acceptance.proofs.Corners.{corner_present}

-- ---- points of candidates
present : (p : List ℕ → Bool) (n v : ℕ) → ((x : List ℕ) → p x ≡ true → has x v ≡ true) → (ts : List (List ℕ)) → Each (λ x. (o : ℕ) → has x o ≡ true → o < n) ts → 0 < count_by p ts → v < n
present p n v f [] h some = absurd (omega (arith, some))
present p n v f (x ∷ ts) h some = elim (cases_Bool (p x)) [
  | inl e ↦ h.0 v (f x e)
  | inr e ↦ present p n v f ts h.1 (omega (arith, some, count_by-cons_no p x ts e))
]

corners_low : (m : Mesh) → IsWellFormed m → Each (λ x. (o : ℕ) → has x o ≡ true → o < length m.points) m.tets
corners_low m w = Each-weaker (IsTet (length m.points)) (λ x. (o : ℕ) → has x o ≡ true → o < length m.points) (λ x h o there. below_each (length m.points) x (recursion_from_All (λ c. c < length m.points) x h.in_range) o there) m.tets (recursion_from_All (IsTet (length m.points)) m.tets w.tets_are)

module _ (m : Mesh) (w : IsWellFormed m) where
  abbrev n : ℕ
  n = length m.points

  first_low : (u v : ℕ) → 0 < tets_at_edge m.tets u v → u < n
  first_low u v h = present (λ x. has x u && has x v) n u (λ x e. (and_parts (has x u) (has x v) e).0) m.tets (corners_low m w) h

  second_low : (u v : ℕ) → 0 < tets_at_edge m.tets u v → v < n
  second_low u v h = present (λ x. has x u && has x v) n v (λ x e. (and_parts (has x u) (has x v) e).1) m.tets (corners_low m w) h

  point_low : (u : ℕ) → 0 < tets_at_point m.tets u → u < n
  point_low u h = present (λ x. has x u) n u (λ x e. e) m.tets (corners_low m w) h

  corner_low : (a b c : ℕ) → 0 < count (a ∷ c ∷ b ∷ []) m.tets → c < n
  corner_low a b c h = corner_present (λ o. o < n) (a ∷ c ∷ b ∷ []) c (third a b c) m.tets (corners_low m w) h
    where
      third : (a b c : ℕ) → has (a ∷ c ∷ b ∷ []) c ≡ true
      third a b c = or_right (eqb a c) (has (c ∷ b ∷ []) c) (has_first c (b ∷ []))

three_some : (k : ℕ) → k ≡ 3 → 0 < k
three_some k e = omega (arith, e)

pub plain_try : (l : ℕ) (m : Mesh) → IsGoodMesh l m → (t : Try) → is_candidate m.tets t ≡ true → IsPlainTry t
plain_try l m h (Split u v) e =
    let is = split_is m.tets u v e in
    let low = second_low m h.well_formed u v is.1 in
    let few = h.within.points_few in
    (is.0, omega (arith, low, few))
plain_try l m h (Shift u way) e =
    let is = shift_is m.tets u way e in
    let low = point_low m h.well_formed u is.1 in
    let few = h.within.points_few in
    let two = is.0 in
    (omega (arith, low, few), omega (arith, two))
plain_try l m h (Collapse u v) e =
    let is = collapse_is m.tets u v e in
    let low = first_low m h.well_formed u v is.1 in
    let other = second_low m h.well_formed u v is.1 in
    let few = h.within.points_few in
    (omega (arith, low, few), omega (arith, other, few), is.0)
plain_try l m h (FaceSwap a b c) e =
    let is = face_swap_is m.tets a b c e in
    let low = corner_low m h.well_formed a b c is.3 in
    let few = h.within.points_few in
    (is.0, is.1, omega (arith, low, few))
plain_try l m h (EdgeSwap u v) e =
    let is = edge_swap_is m.tets u v e in
    let low = second_low m h.well_formed u v (three_some (tets_at_edge m.tets u v) is.1) in
    let few = h.within.points_few in
    (is.0, omega (arith, low, few))

-- ---- one try
pub try_good : (s : Setting) (m : Mesh) (t : Try) (v : Verdict) → IsGoodMesh s.side m → is_candidate m.tets t ≡ true → IsVerdict s m t v → IsGoodMesh s.side (after s.side m (line t v))
try_good s m t (Refused w) h c is = h
try_good s m t Kept h c is =
    let both = tries_law s m t h.well_formed h.tiles c is in
    record { well_formed = both.0; tiles = both.1; inside = inside_law s.side m t h.inside; within = is why.Full }

-- ---- the journal
module _ (s : Setting) (m : Mesh) (budget : ℕ) (lines : List TryLine) (follow : FollowRule s m budget lines) (good : IsGoodMesh s.side m) where
  mesh-next : (i : ℕ) → i < length lines → mesh_at s.side m lines (i + 1) ≡ after s.side (mesh_at s.side m lines i) (line_at lines i)
  mesh-next i lt = ap (last_mesh s.side m) (take_more lines i (line (Split 0 0) Kept) lt) ∙ last-push s.side m (take i lines) (line_at lines i)

  good_at : (i : ℕ) → i ≤ length lines → IsGoodMesh s.side (mesh_at s.side m lines i)
  good_at zero le = good
  good_at (suc i) le =
      let lt : i < length lines = omega (arith, le) in
      let next : i + 1 ≡ suc i = omega arith in
      let here = good_at i (omega (arith, le)) in
      subst (λ k. IsGoodMesh s.side (mesh_at s.side m lines k)) next
      (subst (IsGoodMesh s.side) (sym (mesh-next i lt)) (try_good s (mesh_at s.side m lines i) (try_at lines i) (line_at lines i).verdict here (candidate-at s m budget lines follow i lt) (follow.verdicts i lt)))

  pub journal_mesh : IsGoodMesh s.side (last_mesh s.side m lines)
  journal_mesh = subst (λ ts. IsGoodMesh s.side (last_mesh s.side m ts)) (take_all (length lines) lines (omega arith)) (good_at (length lines) (omega arith))

  pub journal_tries : ArePlainTries lines
  journal_tries = All-from_get_or (λ (t : TryLine). IsPlainTry t.attempt) lines (line (Split 0 0) Kept)
      (λ i lt. plain_try s.side (mesh_at s.side m lines i) (good_at i (omega (arith, lt))) (try_at lines i) (candidate-at s m budget lines follow i lt))
