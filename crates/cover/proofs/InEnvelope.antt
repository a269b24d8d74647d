-- A face with a certificate lies in the envelope: at a leaf by the law of the hull, at a split by the piece that a mean lies in.
use Rattle.std.proofs.Common.{◌≡◌, ℕ, zero, suc, ◌+◌, ◌-◌, ◌*◌, ◌<◌, ◌≤◌, List, ℤ, pos, ◌⊎◌, inl, inr, refl, arith, subst, sym, ap}
use Rattle.std.proofs.lemmas.Bool.{cases_lt}
use Rattle.grid.specs.declared.shapes.Point.{Point}
use Rattle.grid.specs.declared.shapes.Tri.{Tri}
use Rattle.grid.specs.Boxes.{corner_of}
use Rattle.grid.specs.Envelopes.{triangle_at}
use Rattle.mesh_types.specs.declared.cert.Cert.{Cert, out-Cert}
use Rattle.mesh_types.specs.declared.cert.Cert.TheOpen.{Cert-F}
use Rattle.mesh_types.specs.declared.cert.Cert.TheOpen as open_cert
use Rattle.mesh_types.specs.Certificates.{midpoint, triangle, pieces, Each, IsFaceNear, Covers, CoversLevel}
use Rattle.mesh_types.specs.Hull.{weighted_sum}
use Rattle.mesh_types.proofs.ForCallers.{hull_law}
use Rattle.cover.specs.Envelope.{IsMeanNearTo, IsInEnvelope, EnvelopeLaw}
use Rattle.cover.proofs.Parts.{HaveParts, piece_at, parts_of_four}
use Rattle.cover.proofs.Means.{doubled, mean_at_piece, weights_first, weights_second, weights_third, weights_middle}

-- a mean of the face that is one of the piece p q r
of_piece : (triangles : List Tri) (e k : ℕ) (f : Tri) (p q r : Point) (x y z g h i : ℕ) → x + y + z ≡ g + h + i → weighted_sum x y z p q r ≡ doubled (weighted_sum g h i (corner_of f 0) (corner_of f 1) (corner_of f 2)) → 0 < g + h + i
    → IsInEnvelope triangles e (k + 1) (triangle p q r) → (t : ℕ) × IsMeanNearTo triangles e k f g h i t
of_piece triangles e k f p q r x y z g h i sum same some piece =
    let found = piece x y z (subst (λ (n : ℕ). 0 < n) (sym sum) some) in (
      found.0,
      record {
        in_range = found.1.in_range;
        near = mean_at_piece p q r (corner_of f 0) (corner_of f 1) (corner_of f 2) x y z g h i k (triangle_at triangles found.0) e sum same found.1.near;
      },
    )

-- the pieces of a face lie in the envelope
module _ (triangles : List Tri) (e k : ℕ) (f : Tri) (g h i : ℕ) (some : 0 < g + h + i) where
  at_first : h + i ≤ g → IsInEnvelope triangles e (k + 1) (piece_at (pieces f) 0) → (t : ℕ) × IsMeanNearTo triangles e k f g h i t
  at_first le piece =
      let sum : g - (h + i) + h + i ≡ g = omega (arith, le) in
      let is = λ (a b c : ℤ). weights_first (pos (g - (h + i))) (pos g) (pos h) (pos i) a b c (ap pos sum) in
      let same : weighted_sum (g - (h + i)) (2 * h) (2 * i) (midpoint (corner_of f 0) (corner_of f 0)) (midpoint (corner_of f 0) (corner_of f 1)) (midpoint (corner_of f 0) (corner_of f 2)) ≡ doubled (weighted_sum g h i (corner_of f 0) (corner_of f 1) (corner_of f 2)) =
      λ o. record { x = is (corner_of f 0).x (corner_of f 1).x (corner_of f 2).x o; y = is (corner_of f 0).y (corner_of f 1).y (corner_of f 2).y o; z = is (corner_of f 0).z (corner_of f 1).z (corner_of f 2).z o } in
      of_piece triangles e k f (midpoint (corner_of f 0) (corner_of f 0)) (midpoint (corner_of f 0) (corner_of f 1)) (midpoint (corner_of f 0) (corner_of f 2)) (g - (h + i)) (2 * h) (2 * i) g h i (omega (arith, le)) same some piece

  at_second : g + i ≤ h → IsInEnvelope triangles e (k + 1) (piece_at (pieces f) 1) → (t : ℕ) × IsMeanNearTo triangles e k f g h i t
  at_second le piece =
      let sum : h - (g + i) + g + i ≡ h = omega (arith, le) in
      let is = λ (a b c : ℤ). weights_second (pos (h - (g + i))) (pos g) (pos h) (pos i) a b c (ap pos sum) in
      let same : weighted_sum (2 * g) (h - (g + i)) (2 * i) (midpoint (corner_of f 0) (corner_of f 1)) (midpoint (corner_of f 1) (corner_of f 1)) (midpoint (corner_of f 1) (corner_of f 2)) ≡ doubled (weighted_sum g h i (corner_of f 0) (corner_of f 1) (corner_of f 2)) =
      λ o. record { x = is (corner_of f 0).x (corner_of f 1).x (corner_of f 2).x o; y = is (corner_of f 0).y (corner_of f 1).y (corner_of f 2).y o; z = is (corner_of f 0).z (corner_of f 1).z (corner_of f 2).z o } in
      of_piece triangles e k f (midpoint (corner_of f 0) (corner_of f 1)) (midpoint (corner_of f 1) (corner_of f 1)) (midpoint (corner_of f 1) (corner_of f 2)) (2 * g) (h - (g + i)) (2 * i) g h i (omega (arith, le)) same some piece

  at_third : g + h ≤ i → IsInEnvelope triangles e (k + 1) (piece_at (pieces f) 2) → (t : ℕ) × IsMeanNearTo triangles e k f g h i t
  at_third le piece =
      let sum : i - (g + h) + g + h ≡ i = omega (arith, le) in
      let is = λ (a b c : ℤ). weights_third (pos (i - (g + h))) (pos g) (pos h) (pos i) a b c (ap pos sum) in
      let same : weighted_sum (2 * g) (2 * h) (i - (g + h)) (midpoint (corner_of f 0) (corner_of f 2)) (midpoint (corner_of f 1) (corner_of f 2)) (midpoint (corner_of f 2) (corner_of f 2)) ≡ doubled (weighted_sum g h i (corner_of f 0) (corner_of f 1) (corner_of f 2)) =
      λ o. record { x = is (corner_of f 0).x (corner_of f 1).x (corner_of f 2).x o; y = is (corner_of f 0).y (corner_of f 1).y (corner_of f 2).y o; z = is (corner_of f 0).z (corner_of f 1).z (corner_of f 2).z o } in
      of_piece triangles e k f (midpoint (corner_of f 0) (corner_of f 2)) (midpoint (corner_of f 1) (corner_of f 2)) (midpoint (corner_of f 2) (corner_of f 2)) (2 * g) (2 * h) (i - (g + h)) g h i (omega (arith, le)) same some piece

  in_middle : g < h + i → h < g + i → i < g + h → IsInEnvelope triangles e (k + 1) (piece_at (pieces f) 3) → (t : ℕ) × IsMeanNearTo triangles e k f g h i t
  in_middle g_in h_in i_in piece =
      let m : g + h - i + i ≡ g + h = omega (arith, i_in) in
      let n : h + i - g + g ≡ h + i = omega (arith, g_in) in
      let l : g + i - h + h ≡ g + i = omega (arith, h_in) in
      let is = λ (a b c : ℤ). weights_middle (pos (g + h - i)) (pos (h + i - g)) (pos (g + i - h)) (pos g) (pos h) (pos i) a b c (ap pos m) (ap pos n) (ap pos l) in
      let same : weighted_sum (g + h - i) (h + i - g) (g + i - h) (midpoint (corner_of f 0) (corner_of f 1)) (midpoint (corner_of f 1) (corner_of f 2)) (midpoint (corner_of f 0) (corner_of f 2)) ≡ doubled (weighted_sum g h i (corner_of f 0) (corner_of f 1) (corner_of f 2)) =
      λ o. record { x = is (corner_of f 0).x (corner_of f 1).x (corner_of f 2).x o; y = is (corner_of f 0).y (corner_of f 1).y (corner_of f 2).y o; z = is (corner_of f 0).z (corner_of f 1).z (corner_of f 2).z o } in
      of_piece triangles e k f (midpoint (corner_of f 0) (corner_of f 1)) (midpoint (corner_of f 1) (corner_of f 2)) (midpoint (corner_of f 0) (corner_of f 2)) (g + h - i) (h + i - g) (g + i - h) g h i (omega (arith, g_in, h_in, i_in)) same some piece

  -- the largest weight decides, or none is above the sum of the others
  at_some : (g < h + i) ⊎ (h + i ≤ g) → (h < g + i) ⊎ (g + i ≤ h) → (i < g + h) ⊎ (g + h ≤ i) → ((j : ℕ) → j < 4 → IsInEnvelope triangles e (k + 1) (piece_at (pieces f) j)) → (t : ℕ) × IsMeanNearTo triangles e k f g h i t
  at_some (inr p) q r each = at_first p (each 0 (omega arith))
  at_some (inl p) (inr q) r each = at_second q (each 1 (omega arith))
  at_some (inl p) (inl q) (inr r) each = at_third r (each 2 (omega arith))
  at_some (inl p) (inl q) (inl r) each = in_middle p q r (each 3 (omega arith))

-- ---- by levels
leaf_in : (triangles : List Tri) (e k : ℕ) (f : Tri) (t : ℕ) → IsFaceNear triangles e k f t → IsInEnvelope triangles e k f
leaf_in triangles e k f t near g h i some =
    (t, record { in_range = near.in_range; near = hull_law (corner_of f 0) (corner_of f 1) (corner_of f 2) k (triangle_at triangles t) e near.near g h i some })

split_in : (triangles : List Tri) (e k : ℕ) (f : Tri) (P : Tri → Cert → Type 0) → ((j : Tri) (c : Cert) → P j c → IsInEnvelope triangles e (k + 1) j) → HaveParts P (pieces f) → IsInEnvelope triangles e k f
split_in triangles e k f P below parts g h i some =
    at_some triangles e k f g h i some (cases_lt g (h + i)) (cases_lt h (g + i)) (cases_lt i (g + h)) each
  where
    each : (j : ℕ) → j < 4 → IsInEnvelope triangles e (k + 1) (piece_at (pieces f) j)
    each zero l = below _ parts.first.0 parts.first.1
    each (suc zero) l = below _ parts.second.0 parts.second.1
    each (suc (suc zero)) l = below _ parts.third.0 parts.third.1
    each (suc (suc (suc zero))) l = below _ parts.middle.0 parts.middle.1
    each (suc (suc (suc (suc j)))) l = let no : ⊥ = omega (arith, l) in absurd no

last_in : (triangles : List Tri) (e k : ℕ) (f : Tri) (x : Cert-F Cert) → CoversLevel triangles e k f (λ parts. ⊥) x → IsInEnvelope triangles e k f
last_in triangles e k f (open_cert.Leaf t) h = leaf_in triangles e k f t h
last_in triangles e k f (open_cert.Split parts) h = absurd h

level_in : (triangles : List Tri) (e k : ℕ) (f : Tri) (P : Tri → Cert → Type 0) → ((j : Tri) (c : Cert) → P j c → IsInEnvelope triangles e (k + 1) j) → (x : Cert-F Cert) → CoversLevel triangles e k f (Each P (pieces f)) x → IsInEnvelope triangles e k f
level_in triangles e k f P below (open_cert.Leaf t) h = leaf_in triangles e k f t h
level_in triangles e k f P below (open_cert.Split parts) h = split_in triangles e k f P below (parts_of_four P f (pieces f) refl parts h)

pub envelope_law : EnvelopeLaw
envelope_law triangles e zero k f c h = last_in triangles e k f (out-Cert c) h
envelope_law triangles e (suc levels) k f c h =
    level_in triangles e k f (Covers triangles e levels (k + 1)) (λ j d i. envelope_law triangles e levels (k + 1) j d i) (out-Cert c) h
