-- No oriented face of the lattice occurs twice.
use Rattle.std.proofs.Common.{◌≡◌, ℕ, ◌+◌, ◌<◌, ◌≤◌, ◌⊎◌, true, not, ◌&&◌, ◌||◌, List, map, count_by, nat_eq, nat_le, sym, subst, inl, inr, arith}
use Rattle.std.specs.List.{list_all}
use Rattle.std.proofs.lemmas.Bool.{and_parts, and_from, or_cases, or_left, or_right, eq-eqb, leb-true, cases_lt, both_ways, not-true}
use Rattle.grid.specs.Simplices.{faces, is_rotation, count, all_faces}
use Rattle.grid.proofs.ForCallers.{IsIn, count_by-found, count_by-le, count_by-map, IsRotation, rotation-from, Same3, rotations-same}
use Rattle.mesh_types.specs.Lattice.{cube, at_places, lattice_tets}
use Rattle.background.proofs.Gather.{flat_map-at_places, count_by-at_places-once, SameAt}
use Rattle.background.proofs.FaceKinds.{Place, place, Kind, at, face_at, kinds, same_step, is_moved, rotated, is_match, same_place, is_apart, all_apart, all_once}
use Rattle.background.proofs.Places.{IsBelow, IsSmallKind, kind-IsSmall, SamePoint, at-same, same_place-true}

same_step-from : (p a b q c d : Place) → SamePoint p a q c → SamePoint p b q d → same_step a b c d ≡ true
same_step-from p a b q c d s t =
    and_from (nat_eq (a.x + d.x) (c.x + b.x) && nat_eq (a.y + d.y) (c.y + b.y)) (nat_eq (a.z + d.z) (c.z + b.z))
    (and_from (nat_eq (a.x + d.x) (c.x + b.x)) (nat_eq (a.y + d.y) (c.y + b.y)) (eq-eqb (a.x + d.x) (c.x + b.x) (omega arith)) (eq-eqb (a.y + d.y) (c.y + b.y) (omega arith)))
    (eq-eqb (a.z + d.z) (c.z + b.z) (omega arith))

-- the kind k at p is the kind l at q
record Moved (p q : Place) (k l : Kind) : Type 0 where
  pub moved : is_moved k l ≡ true
  pub point : SamePoint p k.a q l.a

moved_from : (n : ℕ) (p q : Place) (k l : Kind) → IsBelow n p → IsBelow n q → IsSmallKind k → IsSmallKind l
    → Same3 (at n p k.a) (at n p k.b) (at n p k.c) (at n q l.a) (at n q l.b) (at n q l.c) → Moved p q k l
moved_from n p q k l hp hq hk hl s =
    let a = at-same n p k.a q l.a hp hq hk.a hl.a s.first in
    let b = at-same n p k.b q l.b hp hq hk.b hl.b s.second in
    let c = at-same n p k.c q l.c hp hq hk.c hl.c s.third in
    record { moved = and_from (same_step k.a k.b l.a l.b) (same_step k.a k.c l.a l.c) (same_step-from p k.a k.b q l.a l.b a b) (same_step-from p k.a k.c q l.a l.c a c); point = a }

-- one face at two places: a kind of the one is a kind of the other, moved and perhaps rotated
faces-moved : (n : ℕ) (f : List ℕ) (p q : Place) (k l : Kind) → IsBelow n p → IsBelow n q → IsSmallKind k → IsSmallKind l
    → IsRotation f (at n p k.a) (at n p k.b) (at n p k.c) → IsRotation f (at n q l.a) (at n q l.b) (at n q l.c)
    → Moved p q k l ⊎ (Moved p q k (rotated l) ⊎ Moved p q k (rotated (rotated l)))
faces-moved n f p q k l hp hq hk hl s t =
    let h : IsSmallKind (rotated l) = record { a = hl.b; b = hl.c; c = hl.a } in
    let g : IsSmallKind (rotated (rotated l)) = record { a = hl.c; b = hl.a; c = hl.b } in
    elim (rotations-same f (at n p k.a) (at n p k.b) (at n p k.c) (at n q l.a) (at n q l.b) (at n q l.c) s t) [
      | inl e ↦ inl (moved_from n p q k l hp hq hk hl e)
      | inr (inl e) ↦ inr (inl (moved_from n p q k (rotated l) hp hq hk h e))
      | inr (inr e) ↦ inr (inr (moved_from n p q k (rotated (rotated l)) hp hq hk g e))
    ]

faces-match : (n : ℕ) (f : List ℕ) (p : Place) (k l : Kind) → IsBelow n p → IsIn kinds k → IsIn kinds l
    → IsRotation f (at n p k.a) (at n p k.b) (at n p k.c) → IsRotation f (at n p l.a) (at n p l.b) (at n p l.c) → is_match k l ≡ true
faces-match n f p k l hp hk hl s t =
    elim (faces-moved n f p p k l hp hp (kind-IsSmall k hk) (kind-IsSmall l hl) s t) [
      | inl m ↦ or_left (is_moved k l) (is_moved k (rotated l) || is_moved k (rotated (rotated l))) m.moved
      | inr (inl m) ↦ or_right (is_moved k l) (is_moved k (rotated l) || is_moved k (rotated (rotated l))) (or_left (is_moved k (rotated l)) (is_moved k (rotated (rotated l))) m.moved)
      | inr (inr m) ↦ or_right (is_moved k l) (is_moved k (rotated l) || is_moved k (rotated (rotated l))) (or_right (is_moved k (rotated l)) (is_moved k (rotated (rotated l))) m.moved)
    ]

-- a face stands at one place alone
faces-one_place : (n : ℕ) (f : List ℕ) (p q : Place) (k l : Kind) → IsBelow n p → IsBelow n q → IsIn kinds k → IsIn kinds l
    → IsRotation f (at n p k.a) (at n p k.b) (at n p k.c) → IsRotation f (at n q l.a) (at n q l.b) (at n q l.c) → SameAt p.x p.y p.z q.x q.y q.z
faces-one_place n f p q k l hp hq hk hl s t =
    let e = hl (is_apart k) (hk (λ k. list_all (is_apart k) kinds) all_apart) in
    let w = and_parts (not (is_moved k l) || same_place k.a l.a) (not (is_moved k (rotated l)) && not (is_moved k (rotated (rotated l)))) e in
    let v = and_parts (not (is_moved k (rotated l))) (not (is_moved k (rotated (rotated l)))) w.1 in
    elim (faces-moved n f p q k l hp hq (kind-IsSmall k hk) (kind-IsSmall l hl) s t) [
      | inl m ↦ elim (or_cases (not (is_moved k l)) (same_place k.a l.a) w.0) [
        | inl no_move ↦ absurd (both_ways (is_moved k l) (not-true (is_moved k l) no_move) m.moved)
        | inr same ↦ let u = same_place-true k.a l.a same in let o = m.point in record { first = omega arith; second = omega arith; third = omega arith }
      ]
      | inr (inl m) ↦ absurd (both_ways (is_moved k (rotated l)) (not-true (is_moved k (rotated l)) v.0) m.moved)
      | inr (inr m) ↦ absurd (both_ways (is_moved k (rotated (rotated l))) (not-true (is_moved k (rotated (rotated l))) v.1) m.moved)
    ]

abbrev pub faces_at : ℕ → ℕ → ℕ → ℕ → List (List ℕ)
faces_at n i j k = map (face_at n (place i j k)) kinds

pub all_faces-lattice : (n : ℕ) → all_faces (lattice_tets n) ≡ at_places n (faces_at n)
all_faces-lattice n = flat_map-at_places faces n (cube n)

-- the face is one of the cube at p
pub record KindAt (f : List ℕ) (n : ℕ) (p : Place) : Type 0 where
  pub kind : Kind
  pub in_kinds : IsIn kinds kind
  pub rotation : IsRotation f (at n p kind.a) (at n p kind.b) (at n p kind.c)

pub kind_at : (f : List ℕ) (n : ℕ) (p : Place) → 0 < count_by (λ g. is_rotation f g) (map (face_at n p) kinds) → KindAt f n p
kind_at f n p h =
    let e = count_by-map (λ g. is_rotation f g) (face_at n p) kinds in
    let r = count_by-found (λ k. is_rotation f (face_at n p k)) kinds (subst (λ m. 0 < m) e h) in
    record { kind = r.0; in_kinds = r.1; rotation = rotation-from f (at n p r.0.a) (at n p r.0.b) (at n p r.0.c) r.2 }

cube-once : (f : List ℕ) (n : ℕ) (p : Place) → IsBelow n p → count_by (λ g. is_rotation f g) (map (face_at n p) kinds) ≤ 1
cube-once f n p hp = elim (cases_lt 0 (count_by (λ g. is_rotation f g) (map (face_at n p) kinds))) [
  | inl l ↦ let r = kind_at f n p l in
      let e = count_by-map (λ g. is_rotation f g) (face_at n p) kinds in
      let m = count_by-le (λ k. is_rotation f (face_at n p k)) (is_match r.kind) kinds
      (λ k i t. faces-match n f p r.kind k hp r.in_kinds i r.rotation (rotation-from f (at n p k.a) (at n p k.b) (at n p k.c) t)) in
      let o = leb-true (count_by (is_match r.kind) kinds) 1 (r.in_kinds (λ k. nat_le (count_by (is_match k) kinds) 1) all_once) in
      omega (arith, e, m, o)
  | inr l ↦ omega (arith, l)
]

pub lattice-once : (n : ℕ) (f : List ℕ) → count f (lattice_tets n) ≤ 1
lattice-once n f =
    subst (λ gs. count_by (λ g. is_rotation f g) gs ≤ 1) (sym (all_faces-lattice n))
    (count_by-at_places-once (λ g. is_rotation f g) n (faces_at n)
    (λ i j k a b c. cube-once f n (place i j k) (record { x = a; y = b; z = c }))
    (λ u v.
    let r = kind_at f n (place u.i u.j u.k) u.found in
    let s = kind_at f n (place v.i v.j v.k) v.found in
    faces-one_place n f (place u.i u.j u.k) (place v.i v.j v.k) r.kind s.kind
    (record { x = u.i_in; y = u.j_in; z = u.k_in }) (record { x = v.i_in; y = v.j_in; z = v.k_in }) r.in_kinds s.in_kinds r.rotation s.rotation))
