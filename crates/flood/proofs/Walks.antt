-- Walks along the half-faces on a facet, from the last one back.
use Rattle.std.proofs.Common.{◌≡◌, ℕ, ◌+◌, ◌/◌, ◌<◌, ◌≤◌, Bool, true, Option, Some, None, List, length, subst, inl, inr, arith}
use Rattle.std.proofs.lemmas.Bool.{cases_lt}
use Rattle.flood.specs.HalfFaces.{facet_at}
use Rattle.flood.specs.Chains.{IsLast}
use Rattle.flood.specs.Floods.{IsOn, is_marked}

-- how far back a walk still goes
abbrev pub rank : Option ℕ → ℕ
rank None = 0
rank (Some p) = p + 1

-- the tetrahedra of the half-faces behind `bound` are marked, and the next half-face is the last below it
pub record IsWalked (facet_of : List ℕ) (c : ℕ) (marks : List Bool) (next : Option ℕ) : Type 0 where
  pub bound : ℕ
  pub within : bound ≤ length facet_of
  pub next_is : IsLast facet_of c bound next
  pub marked : (h : ℕ) → bound ≤ h → h < length facet_of → facet_at facet_of h ≡ c → is_marked marks (h / 4) ≡ true

-- the half-face that comes next
pub IsWalked-on : (facet_of : List ℕ) (c : ℕ) (marks : List Bool) (p : ℕ) → IsWalked facet_of c marks (Some p) → IsOn facet_of c (p / 4)
IsWalked-on facet_of c marks p w =
    let below = w.next_is.below in
    let within = w.within in
    record { half_face = p; there = omega arith; facet_is = w.next_is.on; tet_is = omega arith }

pub IsWalked-goes_on : (facet_of : List ℕ) (c : ℕ) (marks new_marks : List Bool) (p : ℕ) (next : Option ℕ) → IsWalked facet_of c marks (Some p) → ((i : ℕ) → is_marked marks i ≡ true → is_marked new_marks i ≡ true) → is_marked new_marks (p / 4) ≡ true → IsLast facet_of (facet_at facet_of p) p next → IsWalked facet_of c new_marks next
IsWalked-goes_on facet_of c marks new_marks p next w kept here is =
    let below = w.next_is.below in
    let within = w.within in
    record {
      bound = p;
      within = omega arith;
      next_is = let P : ℕ → Type 0 = λ d. IsLast facet_of d p next in subst P w.next_is.on is;
      marked = λ h after below_end on. elim (cases_lt h w.bound) [
        | inl k ↦ elim (cases_lt p h) [
          | inl later ↦ absurd (w.next_is.last h later k on)
          | inr k' ↦ let same : p ≡ h = omega arith in subst (λ q. is_marked new_marks (q / 4) ≡ true) same here
        ]
        | inr k ↦ kept (h / 4) (w.marked h k below_end on)
      ];
    }
