-- Places of the lattice from their numbers.
use Rattle.std.proofs.Common.{◌≡◌, ℕ, ◌+◌, ◌*◌, ◌<◌, ◌≤◌, true, ◌&&◌, nat_eq, nat_le, arith}
use Rattle.std.proofs.lemmas.Bool.{and_parts, and_from, eqb-true, leb-true, eq-eqb}
use Rattle.std.proofs.lemmas.Nat.{same_from_place}
use Rattle.mesh_types.specs.Lattice.{number_at}
use Rattle.grid.proofs.ForCallers.{IsIn}
use Rattle.background.proofs.Gather.{number_is, SameAt}
use Rattle.background.proofs.FaceKinds.{Place, Kind, at, kinds, small, is_small, all_small, same_place}

-- equal numbers are equal places
pub number_at-same : (n i j k i' j' k' : ℕ) → i ≤ n → j ≤ n → i' ≤ n → j' ≤ n → number_at n i j k ≡ number_at n i' j' k' → SameAt i j k i' j' k'
number_at-same n i j k i' j' k' a b a' b' e =
    let f = same_from_place (k * (n + 1) + j) i (k' * (n + 1) + j') i' (n + 1) (omega arith) (omega arith) (omega (arith, e, number_is n i j k, number_is n i' j' k')) in
    let g = same_from_place k j k' j' (n + 1) (omega arith) (omega arith) f.0 in
    record { first = f.1; second = g.1; third = g.0 }

-- the place of a cube
pub record IsBelow (n : ℕ) (p : Place) : Type 0 where
  pub x : p.x < n
  pub y : p.y < n
  pub z : p.z < n

-- the place of a corner in its cube
pub record IsSmall (c : Place) : Type 0 where
  pub x : c.x ≤ 1
  pub y : c.y ≤ 1
  pub z : c.z ≤ 1

pub small-IsSmall : (c : Place) → small c ≡ true → IsSmall c
small-IsSmall c e =
    let h = and_parts (nat_le c.x 1 && nat_le c.y 1) (nat_le c.z 1) e in
    let k = and_parts (nat_le c.x 1) (nat_le c.y 1) h.0 in
    record { x = leb-true c.x 1 k.0; y = leb-true c.y 1 k.1; z = leb-true c.z 1 h.1 }

pub record IsSmallKind (k : Kind) : Type 0 where
  pub a : IsSmall k.a
  pub b : IsSmall k.b
  pub c : IsSmall k.c

pub kind-IsSmall : (k : Kind) → IsIn kinds k → IsSmallKind k
kind-IsSmall k i =
    let h = and_parts (small k.a && small k.b) (small k.c) (i is_small all_small) in
    let g = and_parts (small k.a) (small k.b) h.0 in
    record { a = small-IsSmall k.a g.0; b = small-IsSmall k.b g.1; c = small-IsSmall k.c h.1 }

-- the corner c at p stands where the corner d at q does
pub record SamePoint (p c q d : Place) : Type 0 where
  pub x : p.x + c.x ≡ q.x + d.x
  pub y : p.y + c.y ≡ q.y + d.y
  pub z : p.z + c.z ≡ q.z + d.z

pub at-same : (n : ℕ) (p c q d : Place) → IsBelow n p → IsBelow n q → IsSmall c → IsSmall d → at n p c ≡ at n q d → SamePoint p c q d
at-same n p c q d hp hq hc hd e =
    let r = number_at-same n (p.x + c.x) (p.y + c.y) (p.z + c.z) (q.x + d.x) (q.y + d.y) (q.z + d.z) (omega arith) (omega arith) (omega arith) (omega arith) e in
    record { x = r.first; y = r.second; z = r.third }

pub same_place-true : (c d : Place) → same_place c d ≡ true → SameAt c.x c.y c.z d.x d.y d.z
same_place-true c d e =
    let h = and_parts (nat_eq c.x d.x && nat_eq c.y d.y) (nat_eq c.z d.z) e in
    let k = and_parts (nat_eq c.x d.x) (nat_eq c.y d.y) h.0 in
    record { first = eqb-true c.x d.x k.0; second = eqb-true c.y d.y k.1; third = eqb-true c.z d.z h.1 }

pub same_place-from : (c d : Place) → c.x ≡ d.x → c.y ≡ d.y → c.z ≡ d.z → same_place c d ≡ true
same_place-from c d a b e =
    and_from (nat_eq c.x d.x && nat_eq c.y d.y) (nat_eq c.z d.z) (and_from (nat_eq c.x d.x) (nat_eq c.y d.y) (eq-eqb c.x d.x a) (eq-eqb c.y d.y b)) (eq-eqb c.z d.z e)
