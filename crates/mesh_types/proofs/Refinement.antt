-- Refinement keeps that a mesh weaves.
use Rattle.std.proofs.Common.{◌≡◌, ℕ, ◌+◌, ◌<◌, List, [], ◌∷◌, ◌++◌, map, length, append_assoc, true, false, not, ◌&&◌, ap, refl, sym, subst, ◌∙◌, arith, inl, inr}
use Rattle.std.specs.List.{flat_map, filter, All, AllByRecursion as Each}
use Rattle.std.proofs.lemmas.Bool.{cases_Bool, or_parts, true≢false}
use Rattle.std.proofs.lemmas.List.{append-nil, length-append}
use Rattle.std.proofs.lemmas.List.Concat.{flat_map-append}
use Rattle.std.proofs.lemmas.List.Elements.{All-from_recursion, recursion_from_All}
use native.Mathlib.Nat.{ne_of_lt}
use mathlib.Core.Logic.{Ne-symm}
use Rattle.grid.specs.declared.shapes.Point.{Point}
use Rattle.grid.specs.Simplices.{rising, has, sub, all_faces, same_corners, AreDifferent, IsTet}
use Rattle.grid.specs.Boxes.{IsOn}
use Rattle.grid.specs.Meshes.{Mesh, is_below}
use Rattle.mesh_types.proofs.Woven.{Woven}
use Rattle.mesh_types.specs.declared.cut.Cut.{Cut}
use Rattle.mesh_types.specs.Refines.{sub_all, is_touched, insert_triple, in_order, refine, IsCutOf}
use Rattle.grid.proofs.ForCallers.{Each-weaker, same_bools, has_cases, has_none, has-rising}
use Rattle.mesh_types.proofs.Pieces.{sub-untouched}
use Rattle.mesh_types.proofs.Same.{same_corners_at, same_corners_from}
use Rattle.mesh_types.proofs.Between.{Cornered}
use Rattle.mesh_types.proofs.Step.{point_at-append}
use Rattle.mesh_types.proofs.Tracked.{IsFaceOf}
use Rattle.mesh_types.proofs.OneEdge.{cornered-split, weaves-split}
use Rattle.mesh_types.proofs.Transfer.{count_by-agree, weaves-same, sums-parted}

-- ---- the list of edges is one edge after the other
pub flat_map-flat_map : {X Y Z : Type 0} (f : X → List Y) (g : Y → List Z) (xs : List X) → flat_map g (flat_map f xs) ≡ flat_map (λ x. flat_map g (f x)) xs
flat_map-flat_map f g [] = refl
flat_map-flat_map f g (x ∷ xs) = flat_map-append g (f x) (flat_map f xs) ∙ ap (λ t. flat_map g (f x) ++ t) (flat_map-flat_map f g xs)

pub flat_map-none : {X : Type 0} (xs : List X) → flat_map (λ x. x ∷ []) xs ≡ xs
flat_map-none [] = refl
flat_map-none (x ∷ xs) = ap (λ t. x ∷ t) (flat_map-none xs)

pub sub_all-untouched : (k : ℕ) (es : List Cut) (x : List ℕ) → is_touched es x ≡ false → sub_all k es x ≡ x ∷ []
sub_all-untouched k [] x h = refl
sub_all-untouched k (e ∷ es) x h =
    let p = or_parts (has x e.u && has x e.v) (is_touched es x) h in
    ap (flat_map (sub_all (k + 1) es)) (sub-untouched e.u e.v k x p.0) ∙ append-nil (sub_all (k + 1) es x) ∙ sub_all-untouched (k + 1) es x p.1

cut-append : (points : List Point) (p : Point) (l : ℕ) (e : Cut) → IsCutOf points l e → IsCutOf (points ++ p ∷ []) l e
cut-append points p l e c = record {
  ends_differ = c.ends_differ;
  first_in = omega (arith, length-append points (p ∷ []), c.first_in);
  second_in = omega (arith, length-append points (p ∷ []), c.second_in);
  on_sides = λ s g h. c.on_sides s (subst (IsOn l s) (point_at-append points p e.u (ne_of_lt c.first_in)) g) (subst (IsOn l s) (point_at-append points p e.v (ne_of_lt c.second_in)) h);
}

weaves-all : (points : List Point) (ts tracked : List (List ℕ)) (l : ℕ) (es : List Cut) → Each (Cornered (length points)) ts → Each (IsCutOf points l) es → Woven points ts tracked l
    → Woven (points ++ map (λ e. e.at) es) (flat_map (sub_all (length points) es) ts) (flat_map (sub_all (length points) es) tracked) l
weaves-all points ts tracked l [] c h w = rw (append-nil points, flat_map-none ts, flat_map-none tracked) w
weaves-all points ts tracked l (e ∷ es) c h w =
    let k = length points in
    let ps = points ++ e.at ∷ [] in
    let g = sub e.u e.v k in
    let n : length ps ≡ k + 1 = length-append points (e.at ∷ []) in
    let next = weaves-all ps (flat_map g ts) (flat_map g tracked) l es
    (subst (λ m. Each (Cornered m) (flat_map g ts)) (sym n) (cornered-split e.u e.v k ts c))
    (Each-weaker (IsCutOf points l) (IsCutOf ps l) (cut-append points e.at l) es h.1)
    (weaves-split points ts tracked l e c h.0 w) in
    moved (append_assoc points (e.at ∷ []) (map (λ e. e.at) es)) n next
  where
    moved : {points' ps' : List Point} {m k' : ℕ} → ps' ≡ points' → m ≡ k' → Woven ps' (flat_map (sub_all m es) (flat_map (sub e.u e.v (length points)) ts)) (flat_map (sub_all m es) (flat_map (sub e.u e.v (length points)) tracked)) l
        → Woven points' (flat_map (λ x. flat_map (sub_all k' es) (sub e.u e.v (length points) x)) ts) (flat_map (λ x. flat_map (sub_all k' es) (sub e.u e.v (length points) x)) tracked) l
    moved {points' = points'} {m = m} {k' = k'} p q w =
        rw (← flat_map-flat_map (sub e.u e.v (length points)) (sub_all k' es) ts, ← flat_map-flat_map (sub e.u e.v (length points)) (sub_all k' es) tracked)
        (subst (λ n. Woven points' (flat_map (sub_all n es) (flat_map (sub e.u e.v (length points)) ts)) (flat_map (sub_all n es) (flat_map (sub e.u e.v (length points)) tracked)) l) q
        (subst (λ ps. Woven ps (flat_map (sub_all m es) (flat_map (sub e.u e.v (length points)) ts)) (flat_map (sub_all m es) (flat_map (sub e.u e.v (length points)) tracked)) l) p w))

pub same_corners-rising : (x f : List ℕ) → same_corners (rising x) f ≡ same_corners x f
same_corners-rising x f = same_bools (same_corners (rising x) f) (same_corners x f)
    (λ h. same_corners_from x f (λ c. sym (has-rising x c) ∙ same_corners_at (rising x) f h c))
    (λ h. same_corners_from (rising x) f (λ c. has-rising x c ∙ same_corners_at x f h c))

pub rising-IsFaceOf : (ts : List (List ℕ)) (t : List ℕ) → IsFaceOf ts t → IsFaceOf ts (rising t)
rising-IsFaceOf ts t h = subst (λ n. 0 < n) (count_by-agree (same_corners t) (same_corners (rising t)) (λ f. sym (same_corners-rising t f)) (all_faces ts)) h

pub Each-map : {X Y : Type 0} (P : X → Type 0) (Q : Y → Type 0) (f : X → Y) (g : (x : X) → P x → Q (f x)) (xs : List X) → Each P xs → Each Q (map f xs)
Each-map P Q f g [] h = tt
Each-map P Q f g (x ∷ xs) h = (g x h.0, Each-map P Q f g xs h.1)

pub Each-insert_triple : (P : List ℕ → Type 0) (x : List ℕ) (ys : List (List ℕ)) → P x → Each P ys → Each P (insert_triple x ys)
Each-insert_triple P x [] p h = (p, tt)
Each-insert_triple P x (y ∷ ys) p h = elim (cases_Bool (is_below y x)) [
  | inl e ↦ rw e (h.0, Each-insert_triple P x ys p h.1)
  | inr e ↦ rw e (p, h)
]

pub Each-in_order : (P : List ℕ → Type 0) (xs : List (List ℕ)) → Each P xs → Each P (in_order xs)
Each-in_order P [] h = tt
Each-in_order P (x ∷ xs) h = Each-insert_triple P x (in_order xs) h.0 (Each-in_order P xs h.1)

-- ---- the four corners of a tetrahedron
pub cornered_of : (n : ℕ) (x : List ℕ) → IsTet n x → Cornered n x
cornered_of n x t = corners x t.four t.different (λ o h. below x (recursion_from_All (λ c. c < n) x t.in_range) o h)
  where
    below : (x : List ℕ) → Each (λ c. c < n) x → (o : ℕ) → has x o ≡ true → o < n
    below [] h o g = absurd (true≢false (sym g))
    below (a ∷ x) h o g = elim (has_cases a x o g) [ inl e ↦ subst (λ m. m < n) e h.0 | inr e ↦ below x h.1 o e ]

    corners : (x : List ℕ) → length x ≡ 4 → AreDifferent x → ((o : ℕ) → has x o ≡ true → o < n) → Cornered n x
    corners (a ∷ b ∷ c ∷ d ∷ []) e f g =
        let p = has_none b (c ∷ d ∷ []) a f.0 in
        let q = has_none c (d ∷ []) a p.1 in
        let r = has_none c (d ∷ []) b f.1.0 in
        record {
          a = a;
          b = b;
          c = c;
          d = d;
          is = refl;
          different = record {
            ab = Ne-symm p.0;
            ac = Ne-symm q.0;
            ad = Ne-symm (has_none d [] a q.1).0;
            bc = Ne-symm r.0;
            bd = Ne-symm (has_none d [] b r.1).0;
            cd = Ne-symm (has_none d [] c f.1.1.0).0;
          };
          below = g;
        }
    corners [] e f g = absurd (omega arith)
    corners (a ∷ []) e f g = absurd (omega arith)
    corners (a ∷ b ∷ []) e f g = absurd (omega arith)
    corners (a ∷ b ∷ c ∷ []) e f g = absurd (omega arith)
    corners (a ∷ b ∷ c ∷ d ∷ o ∷ x) e f g = absurd (omega arith)

-- ---- refinement keeps that a mesh weaves
pub refine-Woven : (m : Mesh) (l : ℕ) (es : List Cut) → All (IsTet (length m.points)) m.tets → All (IsCutOf m.points l) es → Woven m.points m.tets m.tracked l → Woven (refine m es).points (refine m es).tets (refine m es).tracked l
unfolding refine
refine-Woven m l es tets cuts w =
    let k = length m.points in
    let g = sub_all k es in
    let step = weaves-all m.points m.tets m.tracked l es
    (Each-weaker (IsTet k) (Cornered k) (cornered_of k) m.tets (recursion_from_All (IsTet k) m.tets tets)) (recursion_from_All (IsCutOf m.points l) es cuts) w in
    let new = filter (λ x. not (is_touched es x)) m.tets ++ flat_map g (filter (λ x. is_touched es x) m.tets) in
    let parted = weaves-same (m.points ++ map (λ e. e.at) es) (flat_map g m.tets) new (flat_map g m.tracked) l
    (sums-parted (is_touched es) g (sub_all-untouched k es) m.tets) step in
    let faces_of = recursion_from_All (IsFaceOf new) (flat_map g m.tracked) parted.tracked_are_faces in
    record {
      once = parted.once;
      rim = parted.rim;
      volume_is = parted.volume_is;
      tracked_are_faces = All-from_recursion (IsFaceOf new) (in_order (map rising (flat_map g m.tracked)))
          (Each-in_order (IsFaceOf new) (map rising (flat_map g m.tracked)) (Each-map (IsFaceOf new) (IsFaceOf new) rising (rising-IsFaceOf new) (flat_map g m.tracked) faces_of));
      no_twins = parted.no_twins;
    }
