-- Each face of the lattice has its reverse, or lies on a side of the box.
use Rattle.std.proofs.Common.{◌≡◌, ◌≢◌, ℕ, ◌+◌, ◌-◌, ◌*◌, ◌<◌, ◌≤◌, Bool, true, false, ◌&&◌, ◌||◌, cond, List, pos, count_by, nat_eq, refl, sym, ap, ◌∙◌, subst, inl, inr, arith}
use Rattle.std.specs.List.{list_all, list_any}
use Rattle.std.proofs.lemmas.Bool.{and_parts, or_cases, eqb-true, cases_lt, cases_eq}
use Rattle.grid.specs.Boxes.{Axis, along_x, along_y, along_z, coordinate, IsOnOneSide}
use Rattle.grid.specs.Determinants.{point_at}
use Rattle.grid.specs.Simplices.{is_rotation, reversed, count}
use Rattle.grid.proofs.ForCallers.{count_by-any, count_by-map, IsRotation, rotation-to, rotation-back, rotation-reversed, rotation-corner}
use Rattle.mesh_types.specs.Lattice.{number_at, lattice_tets, lattice_points}
use Rattle.background.proofs.Gather.{count_by-at_places-found, count_by-at_places-le}
use Rattle.background.proofs.FaceKinds.{Place, place, along, Kind, at, face_at, kinds, same_place, rotated}
use Rattle.background.proofs.Places.{IsBelow, IsSmall, IsSmallKind, SamePoint, kind-IsSmall, same_place-true}
use Rattle.background.proofs.Once.{faces_at, all_faces-lattice, kind_at}
use Rattle.background.proofs.Volume.{point_at-lattice}

abbrev raised : Place → Place → Place
raised d c = place (c.x + d.x) (c.y + d.y) (c.z + d.z)

-- the kind l, raised by d, is the reverse of the kind k, raised by e
abbrev is_mate : Place → Place → Kind → Kind → Bool
is_mate d e k l = same_place (raised d l.a) (raised e k.a) && same_place (raised d l.b) (raised e k.c) && same_place (raised d l.c) (raised e k.b)

-- as it stands or rotated
abbrev is_mate_rotated : Place → Place → Kind → Kind → Bool
is_mate_rotated d e k l = is_mate d e k l || (is_mate d e k (rotated l) || is_mate d e k (rotated (rotated l)))

abbrev has_mate_at : Place → Place → Kind → Bool
has_mate_at d e k = list_any (is_mate_rotated d e k) kinds

-- ---- tests of kinds
abbrev still : Place
still = place 0 0 0

abbrev step : Axis → Place
step along_x = place 1 0 0
step along_y = place 0 1 0
step along_z = place 0 0 1

abbrev is_at : Axis → ℕ → Kind → Bool
is_at axis v k = nat_eq (along axis k.a) v && nat_eq (along axis k.b) v && nat_eq (along axis k.c) v

-- the kind lies on a side of its cube across the axis, and its mate in the cube beyond
abbrev is_across : Axis → Kind → Bool
is_across axis k = (is_at axis 0 k && has_mate_at still (step axis) k) || (is_at axis 1 k && has_mate_at (step axis) still k)

abbrev has_mate : Kind → Bool
has_mate k = has_mate_at still still k || (is_across along_x k || (is_across along_y k || is_across along_z k))

all_mates : list_all has_mate kinds ≡ true
all_mates = refl

record IsAt (axis : Axis) (v : ℕ) (k : Kind) : Type 0 where
  pub a : along axis k.a ≡ v
  pub b : along axis k.b ≡ v
  pub c : along axis k.c ≡ v

is_at-true : (axis : Axis) (v : ℕ) (k : Kind) → is_at axis v k ≡ true → IsAt axis v k
is_at-true axis v k h =
    let g = and_parts (nat_eq (along axis k.a) v && nat_eq (along axis k.b) v) (nat_eq (along axis k.c) v) h in
    let f = and_parts (nat_eq (along axis k.a) v) (nat_eq (along axis k.b) v) g.0 in
    record { a = eqb-true (along axis k.a) v f.0; b = eqb-true (along axis k.b) v f.1; c = eqb-true (along axis k.c) v g.1 }

-- ---- the reverse occurs
same_number : (n : ℕ) (p q d e c b : Place) → SamePoint q e p d → same_place (raised d b) (raised e c) ≡ true → at n p c ≡ at n q b
same_number n p q d e c b s t =
    let r = same_place-true (raised d b) (raised e c) t in
    let x : p.x + c.x ≡ q.x + b.x = cancelled p.x c.x q.x b.x d.x e.x s.x r.first in
    let y : p.y + c.y ≡ q.y + b.y = cancelled p.y c.y q.y b.y d.y e.y s.y r.second in
    let z : p.z + c.z ≡ q.z + b.z = cancelled p.z c.z q.z b.z d.z e.z s.z r.third in
    λ i. number_at n (x i) (y i) (z i)
  where
    cancelled : (p c q b d e : ℕ) → q + e ≡ p + d → b + d ≡ c + e → p + c ≡ q + b
    cancelled p c q b d e s t = omega arith

mate-rotation : (n : ℕ) (f : List ℕ) (p q d e : Place) (k l : Kind) → SamePoint q e p d → IsRotation f (at n p k.a) (at n p k.b) (at n p k.c)
    → is_mate d e k l ≡ true → IsRotation (reversed f) (at n q l.a) (at n q l.b) (at n q l.c)
mate-rotation n f p q d e k l s t w =
    let u = and_parts (same_place (raised d l.a) (raised e k.a) && same_place (raised d l.b) (raised e k.c)) (same_place (raised d l.c) (raised e k.b)) w in
    let v = and_parts (same_place (raised d l.a) (raised e k.a)) (same_place (raised d l.b) (raised e k.c)) u.0 in
    moved (at n p k.a) (at n p k.b) (at n p k.c) t (at n q l.a) (at n q l.b) (at n q l.c)
    (same_number n p q d e k.a l.a s v.0) (same_number n p q d e k.c l.b s v.1) (same_number n p q d e k.b l.c s u.1)
  where
    moved : (a b c : ℕ) → IsRotation f a b c → (u v w : ℕ) → a ≡ u → c ≡ v → b ≡ w → IsRotation (reversed f) u v w
    moved a b c t u v w h i j = subst (λ x. IsRotation (reversed f) x v w) h (subst (λ x. IsRotation (reversed f) a x w) i (subst (λ x. IsRotation (reversed f) a c x) j (rotation-reversed f a b c t)))

mate_rotated-rotation : (n : ℕ) (f : List ℕ) (p q d e : Place) (k l : Kind) → SamePoint q e p d → IsRotation f (at n p k.a) (at n p k.b) (at n p k.c)
    → is_mate_rotated d e k l ≡ true → IsRotation (reversed f) (at n q l.a) (at n q l.b) (at n q l.c)
mate_rotated-rotation n f p q d e k l s t w =
    elim (or_cases (is_mate d e k l) (is_mate d e k (rotated l) || is_mate d e k (rotated (rotated l))) w) [
      | inl u ↦ mate-rotation n f p q d e k l s t u
      | inr u ↦ elim (or_cases (is_mate d e k (rotated l)) (is_mate d e k (rotated (rotated l))) u) [
        | inl v ↦ rotation-back (reversed f) (at n q l.a) (at n q l.b) (at n q l.c) (mate-rotation n f p q d e k (rotated l) s t v)
        | inr v ↦ rotation-back (reversed f) (at n q l.a) (at n q l.b) (at n q l.c)
            (rotation-back (reversed f) (at n q l.b) (at n q l.c) (at n q l.a) (mate-rotation n f p q d e k (rotated (rotated l)) s t v))
      ]
    ]

-- the mate of a face makes its reverse occur
mate-found : (n : ℕ) (f : List ℕ) (p q d e : Place) (k : Kind) → IsBelow n q → SamePoint q e p d → IsRotation f (at n p k.a) (at n p k.b) (at n p k.c)
    → has_mate_at d e k ≡ true → 0 < count (reversed f) (lattice_tets n)
mate-found n f p q d e k hq s t m =
    let r = count_by-any (λ l. is_rotation (reversed f) (face_at n q l)) (is_mate_rotated d e k) kinds m
    (λ l w. rotation-to (reversed f) (at n q l.a) (at n q l.b) (at n q l.c) (mate_rotated-rotation n f p q d e k l s t w)) in
    let g = count_by-map (λ g. is_rotation (reversed f) g) (face_at n q) kinds in
    let h = count_by-at_places-le (λ g. is_rotation (reversed f) g) n q.x q.y q.z (faces_at n) hq.x hq.y hq.z in
    subst (λ gs. 0 < count_by (λ g. is_rotation (reversed f) g) gs) (sym (all_faces-lattice n)) (omega (arith, r, g, h))

-- ---- the places beyond the sides of a cube
abbrev before : Axis → Place → Place
before along_x p = place (p.x - 1) p.y p.z
before along_y p = place p.x (p.y - 1) p.z
before along_z p = place p.x p.y (p.z - 1)

abbrev after : Axis → Place → Place
after along_x p = place (p.x + 1) p.y p.z
after along_y p = place p.x (p.y + 1) p.z
after along_z p = place p.x p.y (p.z + 1)

before-IsBelow : (axis : Axis) (n : ℕ) (p : Place) → IsBelow n p → IsBelow n (before axis p)
before-IsBelow along_x n p h = record { x = omega arith; y = omega arith; z = omega arith }
before-IsBelow along_y n p h = record { x = omega arith; y = omega arith; z = omega arith }
before-IsBelow along_z n p h = record { x = omega arith; y = omega arith; z = omega arith }

before-same : (axis : Axis) (p : Place) → along axis p ≢ 0 → SamePoint (before axis p) (step axis) p still
before-same along_x p h = record { x = omega arith; y = omega arith; z = omega arith }
before-same along_y p h = record { x = omega arith; y = omega arith; z = omega arith }
before-same along_z p h = record { x = omega arith; y = omega arith; z = omega arith }

after-IsBelow : (axis : Axis) (n : ℕ) (p : Place) → IsBelow n p → along axis p + 1 < n → IsBelow n (after axis p)
after-IsBelow along_x n p h l = record { x = omega arith; y = omega arith; z = omega arith }
after-IsBelow along_y n p h l = record { x = omega arith; y = omega arith; z = omega arith }
after-IsBelow along_z n p h l = record { x = omega arith; y = omega arith; z = omega arith }

after-same : (axis : Axis) (p : Place) → SamePoint (after axis p) still p (step axis)
after-same along_x p = record { x = omega arith; y = omega arith; z = omega arith }
after-same along_y p = record { x = omega arith; y = omega arith; z = omega arith }
after-same along_z p = record { x = omega arith; y = omega arith; z = omega arith }

along-below : (axis : Axis) (n : ℕ) (p : Place) → IsBelow n p → along axis p < n
along-below along_x n p h = h.x
along-below along_y n p h = h.y
along-below along_z n p h = h.z

-- ---- the sides of the box
coordinate-at : (axis : Axis) (h n : ℕ) (p c : Place) → IsBelow n p → IsSmall c → coordinate axis (point_at (lattice_points h n) (at n p c)) ≡ pos ((along axis p + along axis c) * h)
coordinate-at axis h n p c hp hc = ap (coordinate axis) (point_at-lattice h n (p.x + c.x) (p.y + c.y) (p.z + c.z) (omega arith) (omega arith) (omega arith)) ∙ by axis
  where
    by : (axis : Axis) → coordinate axis (record { x = pos ((p.x + c.x) * h); y = pos ((p.y + c.y) * h); z = pos ((p.z + c.z) * h) }) ≡ pos ((along axis p + along axis c) * h)
    by along_x = refl
    by along_y = refl
    by along_z = refl

-- a face whose corners have that coordinate lies on that side
on_side : (axis : Axis) (is_far : Bool) (h n v : ℕ) (f : List ℕ) (p : Place) (k : Kind) → IsBelow n p → IsSmallKind k → IsRotation f (at n p k.a) (at n p k.b) (at n p k.c)
    → IsAt axis v k → pos ((along axis p + v) * h) ≡ cond is_far (pos (n * h)) (pos 0) → IsOnOneSide (lattice_points h n) (n * h) f
on_side axis is_far h n v f p k hp hk t at_v e =
    record {
      side = record { axis = axis; is_far = is_far };
      corners = λ c w. elim (rotation-corner f (at n p k.a) (at n p k.b) (at n p k.c) c t w) [
        | inl i ↦ one k.a hk.a at_v.a c i
        | inr (inl i) ↦ one k.b hk.b at_v.b c i
        | inr (inr i) ↦ one k.c hk.c at_v.c c i
      ];
    }
  where
    one : (d : Place) → IsSmall d → along axis d ≡ v → (c : ℕ) → at n p d ≡ c → coordinate axis (point_at (lattice_points h n) c) ≡ cond is_far (pos (n * h)) (pos 0)
    one d hd i c j = subst (λ m. coordinate axis (point_at (lattice_points h n) m) ≡ cond is_far (pos (n * h)) (pos 0)) j (coordinate-at axis h n p d hp hd ∙ ap (λ m. pos ((along axis p + m) * h)) i ∙ e)

across-rim : (axis : Axis) (h n : ℕ) (f : List ℕ) (p : Place) (k : Kind) → IsBelow n p → IsSmallKind k → IsRotation f (at n p k.a) (at n p k.b) (at n p k.c)
    → count (reversed f) (lattice_tets n) ≡ 0 → is_across axis k ≡ true → IsOnOneSide (lattice_points h n) (n * h) f
across-rim axis h n f p k hp hk t none m = elim (or_cases (is_at axis 0 k && has_mate_at still (step axis) k) (is_at axis 1 k && has_mate_at (step axis) still k) m) [
  | inl w ↦ let r = and_parts (is_at axis 0 k) (has_mate_at still (step axis) k) w in
      elim (cases_eq (along axis p) 0) [
        | inl e ↦ on_side axis false h n 0 f p k hp hk t (is_at-true axis 0 k r.0) (ap pos (first (along axis p) e))
        | inr e ↦ absurd (omega (arith, none, mate-found n f p (before axis p) still (step axis) k (before-IsBelow axis n p hp) (before-same axis p e) t r.1))
      ]
  | inr w ↦ let r = and_parts (is_at axis 1 k) (has_mate_at (step axis) still k) w in
      elim (cases_lt (along axis p + 1) n) [
        | inl e ↦ absurd (omega (arith, none, mate-found n f p (after axis p) (step axis) still k (after-IsBelow axis n p hp e) (after-same axis p) t r.1))
        | inr e ↦ on_side axis true h n 1 f p k hp hk t (is_at-true axis 1 k r.0) (ap (λ m. pos (m * h)) (last (along axis p) (along-below axis n p hp) e))
      ]
]
  where
    first : (a : ℕ) → a ≡ 0 → (a + 0) * h ≡ 0
    first a e = ap (λ m. (m + 0) * h) e ∙ omega arith

    last : (a : ℕ) → a < n → n ≤ a + 1 → a + 1 ≡ n
    last a l m = omega arith

pub lattice-rim : (h n : ℕ) (f : List ℕ) → 0 < count f (lattice_tets n) → count (reversed f) (lattice_tets n) ≡ 0 → IsOnOneSide (lattice_points h n) (n * h) f
lattice-rim h n f some none =
    let u = count_by-at_places-found (λ g. is_rotation f g) n (faces_at n) (subst (λ gs. 0 < count_by (λ g. is_rotation f g) gs) (all_faces-lattice n) some) in
    let p = place u.i u.j u.k in
    let hp : IsBelow n p = record { x = u.i_in; y = u.j_in; z = u.k_in } in
    let r = kind_at f n p u.found in
    let k = r.kind in
    let hk = kind-IsSmall k r.in_kinds in
    elim (or_cases (has_mate_at still still k) (is_across along_x k || (is_across along_y k || is_across along_z k)) (r.in_kinds has_mate all_mates)) [
      | inl m ↦ absurd (omega (arith, none, mate-found n f p p still still k hp (record { x = refl; y = refl; z = refl }) r.rotation m))
      | inr m ↦ elim (or_cases (is_across along_x k) (is_across along_y k || is_across along_z k) m) [
        | inl x ↦ across-rim along_x h n f p k hp hk r.rotation none x
        | inr v ↦ elim (or_cases (is_across along_y k) (is_across along_z k) v) [
          | inl y ↦ across-rim along_y h n f p k hp hk r.rotation none y
          | inr z ↦ across-rim along_z h n f p k hp hk r.rotation none z
        ]
      ]
    ]
