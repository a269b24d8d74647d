-- What the conditions give: the side, points in the box, and corners that are points.
use Rattle.std.proofs.Common.{◌≡◌, ℕ, ◌+◌, ◌-◌, ◌*◌, ◌^◌, ◌<◌, ◌≤◌, ◌==◌, ◌||◌, max, true, List, [], ◌∷◌, length, replicate, map, get_or, ap, sym, subst, ◌∙◌, inl, inr, ℤ, pos, suc, arith, lit≤, mul-le-mul, All, length-append, SFits, w32, to_z, of_z, to_z-of_z, true≢false}
use Rattle.std.specs.Prelude.{unsigned_abs}
use Rattle.std.proofs.lemmas.Bool.{cases_lt, cases_Bool}
use Rattle.std.proofs.lemmas.Bool.Decides.{Decides-eqb}
use Rattle.std.proofs.lemmas.Int.{ints}
use Rattle.std.proofs.lemmas.List.{get_or_default, length-replicate, length-map}
use Rattle.std.proofs.lemmas.List.Elements.{All-append, All-cons, All-map, All-nil, All-replicate}
use Rattle.std.proofs.Math.ListN.{get_or-map}
use Rattle.soup.proofs.ForCallers.{IsInBox-wider}
use native.Mathlib.Nat.{pow-le-pow_right}
use mir.Syntax.{w128}
use Rattle.int_algebra.proofs.Bounds.{fits_within, within_natural}
use Rattle.grid.specs.declared.shapes.Point.{Point}
use Rattle.grid.specs.declared.shapes.Tet.{Tet}
use Rattle.grid.specs.Views.{corners_of}
use Rattle.grid.specs.Boxes.{IsUpTo, IsInBox}
use Rattle.grid.specs.Determinants.{origin}
use Rattle.grid.specs.Limits.{IsSide, largest_side}
use Rattle.msh_text.specs.declared.file_mesh.MshNode.{MshNode}
use Rattle.msh_text.specs.Rules.{is_node}
use Rattle.msh_text.specs.declared.file_mesh.MshTet.{MshTet}
use Rattle.cert_check.specs.FileMesh.{file_tets, node_at, node_point, points_from}

-- ---- lists
pub All-from_places : {X : Type 0} (P : X → Type 0) (xs : List X) (e : X) → ((i : ℕ) → i < length xs → P (get_or xs i e)) → All P xs
All-from_places P xs e h k d lt = subst P (get_or_default xs k e d lt) (h k lt)

-- what holds of the images holds of the elements
pub All-from_map : {X Y : Type 0} (P : Y → Type 0) (f : X → Y) (xs : List X) (ys : List Y) → map f xs ≡ ys → All P ys → All (λ x. P (f x)) xs
All-from_map P f xs ys e h k d lt =
    let size : length (map f xs) ≡ length ys = ap length e in
    subst P (ap (λ zs. get_or zs k (f d)) (sym e) ∙ get_or-map f xs k d) (h k (f d) (omega (arith, size, length-map xs f)))

pub equal_lengths : (m n : ℕ) → ((i : ℕ) → i < max m n → i < m) → ((i : ℕ) → i < max m n → i < n) → n ≡ m
equal_lengths m n f g = elim (cases_lt m n) [
  | inl a ↦ let h = f m (omega (arith, a)) in absurd (omega (arith, h))
  | inr a ↦ elim (cases_lt n m) [
    | inl b ↦ let h = g n (omega (arith, b)) in absurd (omega (arith, h))
    | inr b ↦ omega (arith, a, b)
  ]
]

-- ---- the side
pub side-nat : (side : ℤ) (s : IsSide side) → unsigned_abs side ≡ 2 ^ s.power
side-nat side s = ap unsigned_abs s.is

pub side-is : (side : ℤ) → IsSide side → side ≡ pos (unsigned_abs side)
side-is side s = s.is ∙ ap pos (sym (side-nat side s))

pub side-few : (side : ℤ) → IsSide side → unsigned_abs side ≤ largest_side
side-few side s = let most : 2 ^ s.power ≤ largest_side = pow-le-pow_right (lit≤ tt) s.power_most in omega (arith, side-nat side s, most)

pub kept-side : (side : ℤ) → IsSide side → to_z w32 (of_z w32 side) ≡ pos (unsigned_abs side)
kept-side side s =
    let is = side-is side s in
    let few = side-few side s in
    let f : SFits w32 side = fits_within w32 (within_natural largest_side side (omega (arith, ints, is)) (omega (arith, ints, is, few))) (omega arith) in
    to_z-of_z f ∙ is

pub kept-same : (side : ℤ) → IsSide side → to_z w32 (of_z w32 side) ≡ side
kept-same side s = kept-side side s ∙ sym (side-is side s)

pub cube-few : (n : ℕ) → n ≤ largest_side → n * n * n ≤ 18014398509481984
cube-few n h = mul-le-mul (mul-le-mul h h) h

pub kept-cube : (n : ℕ) → n ≤ largest_side → to_z w128 (6 * (n * n * n)) ≡ pos (6 * (n * n * n))
kept-cube n h = let few = cube-few n h in omega (arith, ints, few)

-- ---- points in the box
origin-in : IsInBox largest_side origin
origin-in =
    let zero_in : IsUpTo largest_side (pos 0) = record { low = omega (arith, ints); high = omega (arith, ints) } in
    record { x_in = zero_in; y_in = zero_in; z_in = zero_in }

pub points-in : (shift : List ℤ) (k : ℕ) (nodes : List MshNode) → All (λ n. IsInBox largest_side (node_point shift n)) nodes → All (IsInBox largest_side) (points_from shift k nodes)
points-in shift k [] h = All-nil (IsInBox largest_side)
points-in shift k (node ∷ nodes) h =
    All-append (IsInBox largest_side) (replicate (node.number - k) origin) (node_point shift node ∷ points_from shift (max k node.number + 1) nodes)
    (All-replicate (IsInBox largest_side) (node.number - k) origin origin-in)
    (All-cons (IsInBox largest_side) (node_point shift node) (points_from shift (max k node.number + 1) nodes) (h 0 node (omega arith))
    (points-in shift (max k node.number + 1) nodes (λ i d lt. h (suc i) d (omega (arith, lt)))))

-- the number of a node is that of a point
pub number-in : (shift : List ℤ) (k : ℕ) (nodes : List MshNode) (c : ℕ) → is_node nodes c ≡ true → c < k + length (points_from shift k nodes)
number-in shift k [] c e = absurd (true≢false (sym e))
number-in shift k (node ∷ nodes) c e =
    let rest = points_from shift (max k node.number + 1) nodes in
    let size = length-append (replicate (node.number - k) origin) (node_point shift node ∷ rest) in
    let gap = length-replicate (node.number - k) origin in
    elim (cases_Bool (node.number == c)) [
      | inl same ↦ let is = (Decides-eqb node.number c).0 same in omega (arith, size, gap, is)
      | inr other ↦ let later = number-in shift (max k node.number + 1) nodes c (sym (ap (λ b. b || is_node nodes c) other) ∙ e) in omega (arith, size, gap, later)
    ]

pub corners-in : {X : Type 0} (corners : X → List ℕ) (shift : List ℤ) (nodes : List MshNode) (xs : List X) → All (λ x. All (λ c. is_node nodes c ≡ true) (corners x)) xs → All (λ x. All (λ c. c < length (points_from shift 0 nodes)) (corners x)) xs
corners-in corners shift nodes xs h k d lt j e b = let in_range = number-in shift 0 nodes _ (h k d lt j e b) in omega (arith, in_range)

-- ---- what was read or made is what the files have
pub both : {A B : Type 0} (P : A → B → Type 0) (a x : A) (b y : B) → a ≡ x → b ≡ y → P a b → P x y
both P a x b y e f h = subst (λ z. P x z) f (subst (λ z. P z b) e h)

pub points-all : (shift : List ℤ) (given : List MshNode) (points : List Point) → points ≡ points_from shift 0 given → ((i : ℕ) → i < length given → IsInBox largest_side (node_point shift (node_at given i))) → All (IsInBox largest_side) points
points-all shift given points e h =
    subst (All (IsInBox largest_side)) (sym e) (points-in shift 0 given (All-from_places (λ n. IsInBox largest_side (node_point shift n)) given (record { number = 0; at = [] }) h))

-- nodes in the box of the side lie in the largest box
pub nodes-in : (l : ℕ) (shift : List ℤ) (given nodes : List MshNode) → given ≡ nodes → l ≤ largest_side → ((i : ℕ) → i < length nodes → IsInBox l (node_point shift (node_at nodes i)))
    → (i : ℕ) → i < length given → IsInBox largest_side (node_point shift (node_at given i))
nodes-in l shift given nodes e few h = subst (λ ns. (i : ℕ) → i < length ns → IsInBox largest_side (node_point shift (node_at ns i))) (sym e) (λ i lt. IsInBox-wider l largest_side _ few (h i lt))

pub corners-all : {X : Type 0} (corners : X → List ℕ) (shift : List ℤ) (nodes : List MshNode) (points : List Point) (xs ys : List X) → points ≡ points_from shift 0 nodes → ys ≡ xs → All (λ x. All (λ c. is_node nodes c ≡ true) (corners x)) xs → All (λ x. All (λ c. c < length points) (corners x)) ys
corners-all corners shift nodes points xs ys e f h =
    subst (λ zs. All (λ x. All (λ c. c < length points) (corners x)) zs) (sym f) (subst (λ q. All (λ x. All (λ c. c < length q) (corners x)) xs) (sym e) (corners-in corners shift nodes xs h))

pub tets-all : (tets : List Tet) (tagged : List MshTet) (n : ℕ) → corners_of tets ≡ file_tets tagged → All (λ t. All (λ c. c < n) t.corners) tagged → All (λ t. All (λ c. c < n) t.0) tets
tets-all tets tagged n e h =
    let in_range = λ (x : List ℕ). All (λ c. c < n) x in
    All-from_map in_range (λ (t : Tet). t.0) tets (file_tets tagged) e (All-map in_range (λ (t : MshTet). t.corners) tagged h)
