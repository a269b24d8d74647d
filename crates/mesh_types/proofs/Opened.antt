-- The faces of the pieces of a tetrahedron are the pieces of its faces, and the two between.
use Rattle.std.proofs.Common.{◌≡◌, ◌≢◌, ℕ, List, [], ◌∷◌, Bool, true, false, ◌&&◌, ◌||◌, eqb, refl, sym, subst, ◌∙◌, arith, inl, inr, ℤ, pos, ◌+ℤ◌, ◌-ℤ◌}
use Rattle.std.specs.List.{flat_map}
use Rattle.std.proofs.lemmas.Bool.{eq-eqb, ne_eqb, and_parts, and_from, false_from_ne_true, true≢false}
use Rattle.grid.specs.Simplices.{has, sub, faces, all_faces, same_corners}
use Rattle.mesh_types.proofs.Sums.{total}
use Rattle.grid.proofs.ForCallers.{has_cases}
use Rattle.mesh_types.proofs.Pieces.{sub-untouched}
use Rattle.int_algebra.proofs.Laws.{linear}
use mathlib.Core.Logic.{Ne-symm}

-- a function of oriented faces
pub record IsOfFaces (f : List ℕ → ℤ) : Type 0 where
  pub turned : (a b c : ℕ) → f (b ∷ c ∷ a ∷ []) ≡ f (a ∷ b ∷ c ∷ [])

-- the sum over the faces of the pieces, less that over the pieces of the faces
abbrev pub excess : (List ℕ → ℤ) → ℕ → ℕ → ℕ → List ℕ → ℤ
excess f u v k x = total f (all_faces (sub u v k x)) -ℤ total f (flat_map (sub u v k) (faces x))

-- four different corners
pub record AreFour (a b c d : ℕ) : Type 0 where
  pub ab : a ≢ b
  pub ac : a ≢ c
  pub ad : a ≢ d
  pub bc : b ≢ c
  pub bd : b ≢ d
  pub cd : c ≢ d

-- x is u, v and two more corners, and has its new faces at these
pub record Opened (u v k : ℕ) (x : List ℕ) : Type 0 where
  pub w : ℕ
  pub z : ℕ
  pub excess_is : (f : List ℕ → ℤ) → IsOfFaces f → excess f u v k x ≡ f (k ∷ w ∷ z ∷ []) +ℤ f (k ∷ z ∷ w ∷ [])
  pub corners_are : same_corners (u ∷ v ∷ w ∷ z ∷ []) x ≡ true
  pub wz : w ≢ z
  pub no_u : has (w ∷ z ∷ []) u ≡ false
  pub no_v : has (w ∷ z ∷ []) v ≡ false

one : (a : ℕ) → eqb a a ≡ true
one a = eq-eqb a a refl

open_ab : (a b c d k : ℕ) → AreFour a b c d → Opened a b k (a ∷ b ∷ c ∷ d ∷ [])
open_ab a b c d k n = record {
  w = c;
  z = d;
  excess_is = λ f t. simp (one a, one b, ne_eqb b a (Ne-symm n.ab), ne_eqb c a (Ne-symm n.ac), ne_eqb d a (Ne-symm n.ad), ne_eqb a b n.ab, ne_eqb c b (Ne-symm n.bc), ne_eqb d b (Ne-symm n.bd)) (omega (arith, linear, t.turned k c d, t.turned c d k, t.turned k d c, t.turned d c k));
  corners_are = simp (one a, one b, one c, one d, ne_eqb a b n.ab, ne_eqb a c n.ac, ne_eqb a d n.ad, ne_eqb b a (Ne-symm n.ab), ne_eqb b c n.bc, ne_eqb b d n.bd, ne_eqb c a (Ne-symm n.ac), ne_eqb c b (Ne-symm n.bc), ne_eqb c d n.cd, ne_eqb d a (Ne-symm n.ad), ne_eqb d b (Ne-symm n.bd), ne_eqb d c (Ne-symm n.cd));
  wz = n.cd;
  no_u = simp (ne_eqb c a (Ne-symm n.ac), ne_eqb d a (Ne-symm n.ad));
  no_v = simp (ne_eqb c b (Ne-symm n.bc), ne_eqb d b (Ne-symm n.bd));
}

open_ac : (a b c d k : ℕ) → AreFour a b c d → Opened a c k (a ∷ b ∷ c ∷ d ∷ [])
open_ac a b c d k n = record {
  w = d;
  z = b;
  excess_is = λ f t. simp (one a, one c, ne_eqb b a (Ne-symm n.ab), ne_eqb c a (Ne-symm n.ac), ne_eqb d a (Ne-symm n.ad), ne_eqb a c n.ac, ne_eqb b c n.bc, ne_eqb d c (Ne-symm n.cd)) (omega (arith, linear, t.turned k d b, t.turned d b k, t.turned k b d, t.turned b d k));
  corners_are = simp (one a, one b, one c, one d, ne_eqb a b n.ab, ne_eqb a c n.ac, ne_eqb a d n.ad, ne_eqb b a (Ne-symm n.ab), ne_eqb b c n.bc, ne_eqb b d n.bd, ne_eqb c a (Ne-symm n.ac), ne_eqb c b (Ne-symm n.bc), ne_eqb c d n.cd, ne_eqb d a (Ne-symm n.ad), ne_eqb d b (Ne-symm n.bd), ne_eqb d c (Ne-symm n.cd));
  wz = Ne-symm n.bd;
  no_u = simp (ne_eqb d a (Ne-symm n.ad), ne_eqb b a (Ne-symm n.ab));
  no_v = simp (ne_eqb d c (Ne-symm n.cd), ne_eqb b c n.bc);
}

open_ad : (a b c d k : ℕ) → AreFour a b c d → Opened a d k (a ∷ b ∷ c ∷ d ∷ [])
open_ad a b c d k n = record {
  w = b;
  z = c;
  excess_is = λ f t. simp (one a, one d, ne_eqb b a (Ne-symm n.ab), ne_eqb c a (Ne-symm n.ac), ne_eqb d a (Ne-symm n.ad), ne_eqb a d n.ad, ne_eqb b d n.bd, ne_eqb c d n.cd) (omega (arith, linear, t.turned k b c, t.turned b c k, t.turned k c b, t.turned c b k));
  corners_are = simp (one a, one b, one c, one d, ne_eqb a b n.ab, ne_eqb a c n.ac, ne_eqb a d n.ad, ne_eqb b a (Ne-symm n.ab), ne_eqb b c n.bc, ne_eqb b d n.bd, ne_eqb c a (Ne-symm n.ac), ne_eqb c b (Ne-symm n.bc), ne_eqb c d n.cd, ne_eqb d a (Ne-symm n.ad), ne_eqb d b (Ne-symm n.bd), ne_eqb d c (Ne-symm n.cd));
  wz = n.bc;
  no_u = simp (ne_eqb b a (Ne-symm n.ab), ne_eqb c a (Ne-symm n.ac));
  no_v = simp (ne_eqb b d n.bd, ne_eqb c d n.cd);
}

open_ba : (a b c d k : ℕ) → AreFour a b c d → Opened b a k (a ∷ b ∷ c ∷ d ∷ [])
open_ba a b c d k n = record {
  w = d;
  z = c;
  excess_is = λ f t. simp (one b, one a, ne_eqb a b n.ab, ne_eqb c b (Ne-symm n.bc), ne_eqb d b (Ne-symm n.bd), ne_eqb b a (Ne-symm n.ab), ne_eqb c a (Ne-symm n.ac), ne_eqb d a (Ne-symm n.ad)) (omega (arith, linear, t.turned k d c, t.turned d c k, t.turned k c d, t.turned c d k));
  corners_are = simp (one a, one b, one c, one d, ne_eqb a b n.ab, ne_eqb a c n.ac, ne_eqb a d n.ad, ne_eqb b a (Ne-symm n.ab), ne_eqb b c n.bc, ne_eqb b d n.bd, ne_eqb c a (Ne-symm n.ac), ne_eqb c b (Ne-symm n.bc), ne_eqb c d n.cd, ne_eqb d a (Ne-symm n.ad), ne_eqb d b (Ne-symm n.bd), ne_eqb d c (Ne-symm n.cd));
  wz = Ne-symm n.cd;
  no_u = simp (ne_eqb d b (Ne-symm n.bd), ne_eqb c b (Ne-symm n.bc));
  no_v = simp (ne_eqb d a (Ne-symm n.ad), ne_eqb c a (Ne-symm n.ac));
}

open_bc : (a b c d k : ℕ) → AreFour a b c d → Opened b c k (a ∷ b ∷ c ∷ d ∷ [])
open_bc a b c d k n = record {
  w = a;
  z = d;
  excess_is = λ f t. simp (one b, one c, ne_eqb a b n.ab, ne_eqb c b (Ne-symm n.bc), ne_eqb d b (Ne-symm n.bd), ne_eqb a c n.ac, ne_eqb b c n.bc, ne_eqb d c (Ne-symm n.cd)) (omega (arith, linear, t.turned k a d, t.turned a d k, t.turned k d a, t.turned d a k));
  corners_are = simp (one a, one b, one c, one d, ne_eqb a b n.ab, ne_eqb a c n.ac, ne_eqb a d n.ad, ne_eqb b a (Ne-symm n.ab), ne_eqb b c n.bc, ne_eqb b d n.bd, ne_eqb c a (Ne-symm n.ac), ne_eqb c b (Ne-symm n.bc), ne_eqb c d n.cd, ne_eqb d a (Ne-symm n.ad), ne_eqb d b (Ne-symm n.bd), ne_eqb d c (Ne-symm n.cd));
  wz = n.ad;
  no_u = simp (ne_eqb a b n.ab, ne_eqb d b (Ne-symm n.bd));
  no_v = simp (ne_eqb a c n.ac, ne_eqb d c (Ne-symm n.cd));
}

open_bd : (a b c d k : ℕ) → AreFour a b c d → Opened b d k (a ∷ b ∷ c ∷ d ∷ [])
open_bd a b c d k n = record {
  w = c;
  z = a;
  excess_is = λ f t. simp (one b, one d, ne_eqb a b n.ab, ne_eqb c b (Ne-symm n.bc), ne_eqb d b (Ne-symm n.bd), ne_eqb a d n.ad, ne_eqb b d n.bd, ne_eqb c d n.cd) (omega (arith, linear, t.turned k c a, t.turned c a k, t.turned k a c, t.turned a c k));
  corners_are = simp (one a, one b, one c, one d, ne_eqb a b n.ab, ne_eqb a c n.ac, ne_eqb a d n.ad, ne_eqb b a (Ne-symm n.ab), ne_eqb b c n.bc, ne_eqb b d n.bd, ne_eqb c a (Ne-symm n.ac), ne_eqb c b (Ne-symm n.bc), ne_eqb c d n.cd, ne_eqb d a (Ne-symm n.ad), ne_eqb d b (Ne-symm n.bd), ne_eqb d c (Ne-symm n.cd));
  wz = Ne-symm n.ac;
  no_u = simp (ne_eqb c b (Ne-symm n.bc), ne_eqb a b n.ab);
  no_v = simp (ne_eqb c d n.cd, ne_eqb a d n.ad);
}

open_ca : (a b c d k : ℕ) → AreFour a b c d → Opened c a k (a ∷ b ∷ c ∷ d ∷ [])
open_ca a b c d k n = record {
  w = b;
  z = d;
  excess_is = λ f t. simp (one c, one a, ne_eqb a c n.ac, ne_eqb b c n.bc, ne_eqb d c (Ne-symm n.cd), ne_eqb b a (Ne-symm n.ab), ne_eqb c a (Ne-symm n.ac), ne_eqb d a (Ne-symm n.ad)) (omega (arith, linear, t.turned k b d, t.turned b d k, t.turned k d b, t.turned d b k));
  corners_are = simp (one a, one b, one c, one d, ne_eqb a b n.ab, ne_eqb a c n.ac, ne_eqb a d n.ad, ne_eqb b a (Ne-symm n.ab), ne_eqb b c n.bc, ne_eqb b d n.bd, ne_eqb c a (Ne-symm n.ac), ne_eqb c b (Ne-symm n.bc), ne_eqb c d n.cd, ne_eqb d a (Ne-symm n.ad), ne_eqb d b (Ne-symm n.bd), ne_eqb d c (Ne-symm n.cd));
  wz = n.bd;
  no_u = simp (ne_eqb b c n.bc, ne_eqb d c (Ne-symm n.cd));
  no_v = simp (ne_eqb b a (Ne-symm n.ab), ne_eqb d a (Ne-symm n.ad));
}

open_cb : (a b c d k : ℕ) → AreFour a b c d → Opened c b k (a ∷ b ∷ c ∷ d ∷ [])
open_cb a b c d k n = record {
  w = d;
  z = a;
  excess_is = λ f t. simp (one c, one b, ne_eqb a c n.ac, ne_eqb b c n.bc, ne_eqb d c (Ne-symm n.cd), ne_eqb a b n.ab, ne_eqb c b (Ne-symm n.bc), ne_eqb d b (Ne-symm n.bd)) (omega (arith, linear, t.turned k d a, t.turned d a k, t.turned k a d, t.turned a d k));
  corners_are = simp (one a, one b, one c, one d, ne_eqb a b n.ab, ne_eqb a c n.ac, ne_eqb a d n.ad, ne_eqb b a (Ne-symm n.ab), ne_eqb b c n.bc, ne_eqb b d n.bd, ne_eqb c a (Ne-symm n.ac), ne_eqb c b (Ne-symm n.bc), ne_eqb c d n.cd, ne_eqb d a (Ne-symm n.ad), ne_eqb d b (Ne-symm n.bd), ne_eqb d c (Ne-symm n.cd));
  wz = Ne-symm n.ad;
  no_u = simp (ne_eqb d c (Ne-symm n.cd), ne_eqb a c n.ac);
  no_v = simp (ne_eqb d b (Ne-symm n.bd), ne_eqb a b n.ab);
}

open_cd : (a b c d k : ℕ) → AreFour a b c d → Opened c d k (a ∷ b ∷ c ∷ d ∷ [])
open_cd a b c d k n = record {
  w = a;
  z = b;
  excess_is = λ f t. simp (one c, one d, ne_eqb a c n.ac, ne_eqb b c n.bc, ne_eqb d c (Ne-symm n.cd), ne_eqb a d n.ad, ne_eqb b d n.bd, ne_eqb c d n.cd) (omega (arith, linear, t.turned k a b, t.turned a b k, t.turned k b a, t.turned b a k));
  corners_are = simp (one a, one b, one c, one d, ne_eqb a b n.ab, ne_eqb a c n.ac, ne_eqb a d n.ad, ne_eqb b a (Ne-symm n.ab), ne_eqb b c n.bc, ne_eqb b d n.bd, ne_eqb c a (Ne-symm n.ac), ne_eqb c b (Ne-symm n.bc), ne_eqb c d n.cd, ne_eqb d a (Ne-symm n.ad), ne_eqb d b (Ne-symm n.bd), ne_eqb d c (Ne-symm n.cd));
  wz = n.ab;
  no_u = simp (ne_eqb a c n.ac, ne_eqb b c n.bc);
  no_v = simp (ne_eqb a d n.ad, ne_eqb b d n.bd);
}

open_da : (a b c d k : ℕ) → AreFour a b c d → Opened d a k (a ∷ b ∷ c ∷ d ∷ [])
open_da a b c d k n = record {
  w = c;
  z = b;
  excess_is = λ f t. simp (one d, one a, ne_eqb a d n.ad, ne_eqb b d n.bd, ne_eqb c d n.cd, ne_eqb b a (Ne-symm n.ab), ne_eqb c a (Ne-symm n.ac), ne_eqb d a (Ne-symm n.ad)) (omega (arith, linear, t.turned k c b, t.turned c b k, t.turned k b c, t.turned b c k));
  corners_are = simp (one a, one b, one c, one d, ne_eqb a b n.ab, ne_eqb a c n.ac, ne_eqb a d n.ad, ne_eqb b a (Ne-symm n.ab), ne_eqb b c n.bc, ne_eqb b d n.bd, ne_eqb c a (Ne-symm n.ac), ne_eqb c b (Ne-symm n.bc), ne_eqb c d n.cd, ne_eqb d a (Ne-symm n.ad), ne_eqb d b (Ne-symm n.bd), ne_eqb d c (Ne-symm n.cd));
  wz = Ne-symm n.bc;
  no_u = simp (ne_eqb c d n.cd, ne_eqb b d n.bd);
  no_v = simp (ne_eqb c a (Ne-symm n.ac), ne_eqb b a (Ne-symm n.ab));
}

open_db : (a b c d k : ℕ) → AreFour a b c d → Opened d b k (a ∷ b ∷ c ∷ d ∷ [])
open_db a b c d k n = record {
  w = a;
  z = c;
  excess_is = λ f t. simp (one d, one b, ne_eqb a d n.ad, ne_eqb b d n.bd, ne_eqb c d n.cd, ne_eqb a b n.ab, ne_eqb c b (Ne-symm n.bc), ne_eqb d b (Ne-symm n.bd)) (omega (arith, linear, t.turned k a c, t.turned a c k, t.turned k c a, t.turned c a k));
  corners_are = simp (one a, one b, one c, one d, ne_eqb a b n.ab, ne_eqb a c n.ac, ne_eqb a d n.ad, ne_eqb b a (Ne-symm n.ab), ne_eqb b c n.bc, ne_eqb b d n.bd, ne_eqb c a (Ne-symm n.ac), ne_eqb c b (Ne-symm n.bc), ne_eqb c d n.cd, ne_eqb d a (Ne-symm n.ad), ne_eqb d b (Ne-symm n.bd), ne_eqb d c (Ne-symm n.cd));
  wz = n.ac;
  no_u = simp (ne_eqb a d n.ad, ne_eqb c d n.cd);
  no_v = simp (ne_eqb a b n.ab, ne_eqb c b (Ne-symm n.bc));
}

open_dc : (a b c d k : ℕ) → AreFour a b c d → Opened d c k (a ∷ b ∷ c ∷ d ∷ [])
open_dc a b c d k n = record {
  w = b;
  z = a;
  excess_is = λ f t. simp (one d, one c, ne_eqb a d n.ad, ne_eqb b d n.bd, ne_eqb c d n.cd, ne_eqb a c n.ac, ne_eqb b c n.bc, ne_eqb d c (Ne-symm n.cd)) (omega (arith, linear, t.turned k b a, t.turned b a k, t.turned k a b, t.turned a b k));
  corners_are = simp (one a, one b, one c, one d, ne_eqb a b n.ab, ne_eqb a c n.ac, ne_eqb a d n.ad, ne_eqb b a (Ne-symm n.ab), ne_eqb b c n.bc, ne_eqb b d n.bd, ne_eqb c a (Ne-symm n.ac), ne_eqb c b (Ne-symm n.bc), ne_eqb c d n.cd, ne_eqb d a (Ne-symm n.ad), ne_eqb d b (Ne-symm n.bd), ne_eqb d c (Ne-symm n.cd));
  wz = Ne-symm n.ab;
  no_u = simp (ne_eqb b d n.bd, ne_eqb a d n.ad);
  no_v = simp (ne_eqb b c n.bc, ne_eqb a c n.ac);
}

-- the place of a corner
pub data Place (a b c d u : ℕ) : Type 0 where
  first : a ≡ u → Place a b c d u
  second : b ≡ u → Place a b c d u
  third : c ≡ u → Place a b c d u
  fourth : d ≡ u → Place a b c d u

pub place_of : (a b c d u : ℕ) → has (a ∷ b ∷ c ∷ d ∷ []) u ≡ true → Place a b c d u
place_of a b c d u h = elim (has_cases a (b ∷ c ∷ d ∷ []) u h) [
  | inl e ↦ first e
  | inr e ↦ elim (has_cases b (c ∷ d ∷ []) u e) [
    | inl e ↦ second e
    | inr e ↦ elim (has_cases c (d ∷ []) u e) [
      | inl e ↦ third e
      | inr e ↦ elim (has_cases d [] u e) [
        | inl e ↦ fourth e
        | inr e ↦ absurd (true≢false (sym e))
      ]
    ]
  ]
]

pub opened_of : (u v k a b c d : ℕ) → AreFour a b c d → u ≢ v → Place a b c d u → Place a b c d v → Opened u v k (a ∷ b ∷ c ∷ d ∷ [])
opened_of u v k a b c d n m (first e) (first g) = absurd (m (sym e ∙ g))
opened_of u v k a b c d n m (first e) (second g) = subst (λ x. Opened x v k (a ∷ b ∷ c ∷ d ∷ [])) e (subst (λ y. Opened a y k (a ∷ b ∷ c ∷ d ∷ [])) g (open_ab a b c d k n))
opened_of u v k a b c d n m (first e) (third g) = subst (λ x. Opened x v k (a ∷ b ∷ c ∷ d ∷ [])) e (subst (λ y. Opened a y k (a ∷ b ∷ c ∷ d ∷ [])) g (open_ac a b c d k n))
opened_of u v k a b c d n m (first e) (fourth g) = subst (λ x. Opened x v k (a ∷ b ∷ c ∷ d ∷ [])) e (subst (λ y. Opened a y k (a ∷ b ∷ c ∷ d ∷ [])) g (open_ad a b c d k n))
opened_of u v k a b c d n m (second e) (first g) = subst (λ x. Opened x v k (a ∷ b ∷ c ∷ d ∷ [])) e (subst (λ y. Opened b y k (a ∷ b ∷ c ∷ d ∷ [])) g (open_ba a b c d k n))
opened_of u v k a b c d n m (second e) (second g) = absurd (m (sym e ∙ g))
opened_of u v k a b c d n m (second e) (third g) = subst (λ x. Opened x v k (a ∷ b ∷ c ∷ d ∷ [])) e (subst (λ y. Opened b y k (a ∷ b ∷ c ∷ d ∷ [])) g (open_bc a b c d k n))
opened_of u v k a b c d n m (second e) (fourth g) = subst (λ x. Opened x v k (a ∷ b ∷ c ∷ d ∷ [])) e (subst (λ y. Opened b y k (a ∷ b ∷ c ∷ d ∷ [])) g (open_bd a b c d k n))
opened_of u v k a b c d n m (third e) (first g) = subst (λ x. Opened x v k (a ∷ b ∷ c ∷ d ∷ [])) e (subst (λ y. Opened c y k (a ∷ b ∷ c ∷ d ∷ [])) g (open_ca a b c d k n))
opened_of u v k a b c d n m (third e) (second g) = subst (λ x. Opened x v k (a ∷ b ∷ c ∷ d ∷ [])) e (subst (λ y. Opened c y k (a ∷ b ∷ c ∷ d ∷ [])) g (open_cb a b c d k n))
opened_of u v k a b c d n m (third e) (third g) = absurd (m (sym e ∙ g))
opened_of u v k a b c d n m (third e) (fourth g) = subst (λ x. Opened x v k (a ∷ b ∷ c ∷ d ∷ [])) e (subst (λ y. Opened c y k (a ∷ b ∷ c ∷ d ∷ [])) g (open_cd a b c d k n))
opened_of u v k a b c d n m (fourth e) (first g) = subst (λ x. Opened x v k (a ∷ b ∷ c ∷ d ∷ [])) e (subst (λ y. Opened d y k (a ∷ b ∷ c ∷ d ∷ [])) g (open_da a b c d k n))
opened_of u v k a b c d n m (fourth e) (second g) = subst (λ x. Opened x v k (a ∷ b ∷ c ∷ d ∷ [])) e (subst (λ y. Opened d y k (a ∷ b ∷ c ∷ d ∷ [])) g (open_db a b c d k n))
opened_of u v k a b c d n m (fourth e) (third g) = subst (λ x. Opened x v k (a ∷ b ∷ c ∷ d ∷ [])) e (subst (λ y. Opened d y k (a ∷ b ∷ c ∷ d ∷ [])) g (open_dc a b c d k n))
opened_of u v k a b c d n m (fourth e) (fourth g) = absurd (m (sym e ∙ g))

-- a face has no corner that its tetrahedron has not
within_acb : (a b c d : Bool) → (a || (c || (b || false))) ≡ true → (a || (b || (c || (d || false)))) ≡ true
within_acb true b c d h = refl
within_acb false true c d h = refl
within_acb false false true d h = refl
within_acb false false false d h = absurd (true≢false (sym h))

within_abd : (a b c d : Bool) → (a || (b || (d || false))) ≡ true → (a || (b || (c || (d || false)))) ≡ true
within_abd true b c d h = refl
within_abd false true c d h = refl
within_abd false false true d h = refl
within_abd false false false d h = h

within_adc : (a b c d : Bool) → (a || (d || (c || false))) ≡ true → (a || (b || (c || (d || false)))) ≡ true
within_adc true b c d h = refl
within_adc false true c d h = refl
within_adc false false true d h = refl
within_adc false false false true h = refl
within_adc false false false false h = h

within_bcd : (a b c d : Bool) → (b || (c || (d || false))) ≡ true → (a || (b || (c || (d || false)))) ≡ true
within_bcd true b c d h = refl
within_bcd false b c d h = h

alone : (u v k : ℕ) (f x : List ℕ) → ((c : ℕ) → has f c ≡ true → has x c ≡ true) → (has x u && has x v) ≡ false → sub u v k f ≡ f ∷ []
alone u v k f x w h = sub-untouched u v k f (false_from_ne_true _ (λ e. true≢false (sym (and_from _ _ (w u (and_parts _ _ e).0) (w v (and_parts _ _ e).1)) ∙ h)))

pub shut : (u v k a b c d : ℕ) → (has (a ∷ b ∷ c ∷ d ∷ []) u && has (a ∷ b ∷ c ∷ d ∷ []) v) ≡ false → (f : List ℕ → ℤ) → excess f u v k (a ∷ b ∷ c ∷ d ∷ []) ≡ pos 0
shut u v k a b c d h f =
    let x : List ℕ = a ∷ b ∷ c ∷ d ∷ [] in
    rw (
      sub-untouched u v k x h,
      alone u v k (a ∷ c ∷ b ∷ []) x (λ o. within_acb (eqb a o) (eqb b o) (eqb c o) (eqb d o)) h,
      alone u v k (a ∷ b ∷ d ∷ []) x (λ o. within_abd (eqb a o) (eqb b o) (eqb c o) (eqb d o)) h,
      alone u v k (a ∷ d ∷ c ∷ []) x (λ o. within_adc (eqb a o) (eqb b o) (eqb c o) (eqb d o)) h,
      alone u v k (b ∷ c ∷ d ∷ []) x (λ o. within_bcd (eqb a o) (eqb b o) (eqb c o) (eqb d o)) h,
    ) (omega (arith, linear))
