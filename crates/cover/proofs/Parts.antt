-- Certificates by their parts, where a list holds the pieces of the face.
use Rattle.std.proofs.Common.{rules, ◌≡◌, ◌≢◌, ℕ, zero, suc, ◌+◌, ◌-◌, List, [], ◌∷◌, get_or, length, refl, sym, ap, ◌∙◌, ◌↔◌, subst, arith, Option, None, Some, Result, Ok, IfOk}
use Rattle.grid.specs.declared.shapes.Tri.{Tri}
use Rattle.mesh_types.specs.declared.cert.Cert.{Cert, out-Cert, the_lemmas}
use Rattle.mesh_types.specs.declared.cert.Cert.TheOpen.{Cert-F}
use Rattle.mesh_types.specs.declared.cert.Cert.TheOpen as open_cert
use Rattle.mesh_types.specs.declared.cert.Cert.TheVariants as made
use Rattle.mesh_types.specs.Certificates.{pieces, Each, IsFaceNear, IsLeastOfFace, HasNoneOfFace, Covers, CoversLevel, IsLeastCertificate, IsLeastLevel}
use Rattle.grid.specs.declared.memory.Memory.{Memory}
use Rattle.cover.specs.Levels.{HasCertificateAt, IsCovAt}

abbrev pub piece_at : List Tri → ℕ → Tri
piece_at fs i = get_or fs i (record { 0 = [] })

-- a certificate for each of four pieces
pub record HaveParts (P : Tri → Cert → Type 0) (fs : List Tri) : Type 0 where
  pub first : (c : Cert) × P (piece_at fs 0) c
  pub second : (c : Cert) × P (piece_at fs 1) c
  pub third : (c : Cert) × P (piece_at fs 2) c
  pub middle : (c : Cert) × P (piece_at fs 3) c

pub four_parts : (P : Tri → Cert → Type 0) (f : Tri) (fs : List Tri) → fs ≡ pieces f → (a b c d : Cert) → P (piece_at fs 0) a → P (piece_at fs 1) b → P (piece_at fs 2) c → P (piece_at fs 3) d → Each P (pieces f) (a ∷ b ∷ c ∷ d ∷ [])
four_parts P f fs e a b c d p q r s =
    let at : (i : ℕ) (x : Cert) → P (piece_at fs i) x → P (piece_at (pieces f) i) x = λ i x h. subst (λ (gs : List Tri). P (piece_at gs i) x) e h in
    (at 0 a p, (at 1 b q, (at 2 c r, (at 3 d s, tt))))

pub of_four_parts : (P : Tri → Cert → Type 0) (f : Tri) (fs : List Tri) → fs ≡ pieces f → (a b c d : Cert) → Each P (pieces f) (a ∷ b ∷ c ∷ d ∷ []) → P (piece_at fs 0) a × P (piece_at fs 1) b × P (piece_at fs 2) c × P (piece_at fs 3) d
of_four_parts P f fs e a b c d h =
    let at : (i : ℕ) (x : Cert) → P (piece_at (pieces f) i) x → P (piece_at fs i) x = λ i x h. subst (λ (gs : List Tri). P (piece_at gs i) x) (sym e) h in
    (at 0 a h.0, at 1 b h.1.0, at 2 c h.1.1.0, at 3 d h.1.1.1.0)

pub parts_of_four : (P : Tri → Cert → Type 0) (f : Tri) (fs : List Tri) → fs ≡ pieces f → (parts : List Cert) → Each P (pieces f) parts → HaveParts P fs
parts_of_four P f fs e [] h = absurd h
parts_of_four P f fs e (a ∷ []) h = absurd h.1
parts_of_four P f fs e (a ∷ b ∷ []) h = absurd h.1.1
parts_of_four P f fs e (a ∷ b ∷ c ∷ []) h = absurd h.1.1.1
parts_of_four P f fs e (a ∷ b ∷ c ∷ d ∷ x ∷ rest) h = absurd h.1.1.1.1
parts_of_four P f fs e (a ∷ b ∷ c ∷ d ∷ []) h =
    let all = of_four_parts P f fs e a b c d h in
    record { first = (a, all.0); second = (b, all.1); third = (c, all.2); middle = (d, all.3) }

-- ---- the top of a certificate that is made
out-Leaf : (t : ℕ) → out-Cert (made.Leaf t) ≡ open_cert.Leaf t
out-Leaf t = search (rules, the_lemmas)

out-Split : (parts : List Cert) → out-Cert (made.Split parts) ≡ open_cert.Split parts
out-Split parts = search (rules, the_lemmas)

-- ---- the certificate
leaf_level : (triangles : List Tri) (e k : ℕ) (f : Tri) (t : ℕ) (parts_are : List Cert → Type 0) → IsLeastOfFace triangles e k f t → IsLeastLevel triangles e k f parts_are (out-Cert (made.Leaf t))
leaf_level triangles e k f t parts_are h = subst (IsLeastLevel triangles e k f parts_are) (sym (out-Leaf t)) h

pub leaf-IsLeastCertificate : (triangles : List Tri) (e levels k : ℕ) (f : Tri) (t : ℕ) → IsLeastOfFace triangles e k f t → IsLeastCertificate triangles e levels k f (made.Leaf t)
leaf-IsLeastCertificate triangles e zero k f t h = leaf_level triangles e k f t (λ parts. ⊥) h
leaf-IsLeastCertificate triangles e (suc levels) k f t h = leaf_level triangles e k f t (Each (IsLeastCertificate triangles e levels (k + 1)) (pieces f)) h

no_leaf : (triangles : List Tri) (e k : ℕ) (f : Tri) (parts_are : List Cert → Type 0) (x : Cert-F Cert) → HasNoneOfFace triangles e k f → IsLeastLevel triangles e k f parts_are x → (parts : List Cert) × parts_are parts
no_leaf triangles e k f parts_are (open_cert.Leaf t) none h = absurd (none t h.is_near)
no_leaf triangles e k f parts_are (open_cert.Split parts) none h = (parts, h.1)

pub none-IsLeastCertificate : (triangles : List Tri) (e levels k : ℕ) (f : Tri) → levels ≡ 0 → HasNoneOfFace triangles e k f → HasCertificateAt triangles e levels k f → ⊥
none-IsLeastCertificate triangles e levels k f last none h =
    (no_leaf triangles e k f (λ parts. ⊥) (out-Cert h.0) none (subst (λ (n : ℕ). IsLeastCertificate triangles e n k f h.0) last h.1)).1

-- the face has no triangle and may be cut
module _ (triangles : List Tri) (e levels k : ℕ) (f : Tri) (fs : List Tri) (cut : levels ≢ 0) (none : HasNoneOfFace triangles e k f) (same : fs ≡ pieces f) where
  pub split-IsLeastCertificate : (a b c d : Cert) → IsLeastCertificate triangles e (levels - 1) (k + 1) (piece_at fs 0) a → IsLeastCertificate triangles e (levels - 1) (k + 1) (piece_at fs 1) b → IsLeastCertificate triangles e (levels - 1) (k + 1) (piece_at fs 2) c → IsLeastCertificate triangles e (levels - 1) (k + 1) (piece_at fs 3) d
      → IsLeastCertificate triangles e levels k f (made.Split (a ∷ b ∷ c ∷ d ∷ []))
  split-IsLeastCertificate a b c d p q r s =
      let next : suc (levels - 1) ≡ levels = omega (arith, cut) in
      subst (λ (n : ℕ). IsLeastCertificate triangles e n k f (made.Split (a ∷ b ∷ c ∷ d ∷ []))) next
      (subst (IsLeastLevel triangles e k f (Each (IsLeastCertificate triangles e (levels - 1) (k + 1)) (pieces f))) (sym (out-Split (a ∷ b ∷ c ∷ d ∷ []))) (none, four_parts (IsLeastCertificate triangles e (levels - 1) (k + 1)) f fs same a b c d p q r s))

  pub parts_of_certificate : HasCertificateAt triangles e levels k f → HaveParts (IsLeastCertificate triangles e (levels - 1) (k + 1)) fs
  parts_of_certificate h =
      let next : levels ≡ suc (levels - 1) = omega (arith, cut) in
      let parts = no_leaf triangles e k f (Each (IsLeastCertificate triangles e (levels - 1) (k + 1)) (pieces f)) (out-Cert h.0) none (subst (λ (n : ℕ). IsLeastCertificate triangles e n k f h.0) next h.1) in
      parts_of_four (IsLeastCertificate triangles e (levels - 1) (k + 1)) f fs same parts.0 parts.1

-- ---- any certificate
leaf_covers : (triangles : List Tri) (e k : ℕ) (f : Tri) (t : ℕ) (parts_are : List Cert → Type 0) (c : Cert) → c ≡ made.Leaf t → CoversLevel triangles e k f parts_are (out-Cert c) ≡ IsFaceNear triangles e k f t
leaf_covers triangles e k f t parts_are c is = ap (λ (d : Cert). CoversLevel triangles e k f parts_are (out-Cert d)) is ∙ ap (CoversLevel triangles e k f parts_are) (out-Leaf t)

pub leaf-Covers : (triangles : List Tri) (e levels k : ℕ) (f : Tri) (t : ℕ) (c : Cert) → c ≡ made.Leaf t → Covers triangles e levels k f c ≡ IsFaceNear triangles e k f t
leaf-Covers triangles e zero k f t c is = leaf_covers triangles e k f t (λ parts. ⊥) c is
leaf-Covers triangles e (suc levels) k f t c is = leaf_covers triangles e k f t (Each (Covers triangles e levels (k + 1)) (pieces f)) c is

split-Covers : (triangles : List Tri) (e levels k : ℕ) (f : Tri) (parts : List Cert) (c : Cert) → levels ≢ 0 → c ≡ made.Split parts → Covers triangles e levels k f c ≡ Each (Covers triangles e (levels - 1) (k + 1)) (pieces f) parts
split-Covers triangles e levels k f parts c cut is =
    let next : levels ≡ suc (levels - 1) = omega (arith, cut) in
    let parts_are = Each (Covers triangles e (levels - 1) (k + 1)) (pieces f) in
    ap (λ (n : ℕ). Covers triangles e n k f c) next ∙ ap (λ (d : Cert). CoversLevel triangles e k f parts_are (out-Cert d)) is ∙ ap (CoversLevel triangles e k f parts_are) (out-Split parts)

-- the four parts, as the code takes them out of an array: each with some default
four_items : (parts : List Cert) → length parts ≡ 4 → (p q r s : Cert) → parts ≡ get_or parts 0 p ∷ get_or parts 1 q ∷ get_or parts 2 r ∷ get_or parts 3 s ∷ []
four_items [] l p q r s = let no : ⊥ = omega (arith, l) in absurd no
four_items (x ∷ []) l p q r s = let no : ⊥ = omega (arith, l) in absurd no
four_items (x ∷ y ∷ []) l p q r s = let no : ⊥ = omega (arith, l) in absurd no
four_items (x ∷ y ∷ z ∷ []) l p q r s = let no : ⊥ = omega (arith, l) in absurd no
four_items (x ∷ y ∷ z ∷ w ∷ []) l p q r s = refl
four_items (x ∷ y ∷ z ∷ w ∷ v ∷ rest) l p q r s = let no : ⊥ = omega (arith, l) in absurd no

-- a split certificate is one exactly where its parts are
pub parts-Covers : (triangles : List Tri) (e levels k : ℕ) (f : Tri) (fs : List Tri) → levels ≢ 0 → fs ≡ pieces f → (found : Cert) (parts : List Cert) → found ≡ made.Split parts → length parts ≡ 4 → (p q r s : Cert)
    → (Covers triangles e (levels - 1) (k + 1) (piece_at fs 0) (get_or parts 0 p) × Covers triangles e (levels - 1) (k + 1) (piece_at fs 1) (get_or parts 1 q) × Covers triangles e (levels - 1) (k + 1) (piece_at fs 2) (get_or parts 2 r) × Covers triangles e (levels - 1) (k + 1) (piece_at fs 3) (get_or parts 3 s)) ↔ Covers triangles e levels k f found
parts-Covers triangles e levels k f fs cut same found parts is four p q r s =
    let part_is = Covers triangles e (levels - 1) (k + 1) in
    let whole : Covers triangles e levels k f found ≡ Each part_is (pieces f) (get_or parts 0 p ∷ get_or parts 1 q ∷ get_or parts 2 r ∷ get_or parts 3 s ∷ []) =
    split-Covers triangles e levels k f parts found cut is ∙ ap (Each part_is (pieces f)) (four_items parts four p q r s) in (
      λ h. subst (λ (A : Type 0). A) (sym whole) (four_parts part_is f fs same _ _ _ _ h.0 h.1 h.2 h.3),
      λ h. of_four_parts part_is f fs same _ _ _ _ (subst (λ (A : Type 0). A) whole h),
    )

-- ---- what a search gave
module _ (triangles : List Tri) (e levels k : ℕ) (f : Tri) (r : Result (Option Cert) Memory) (found : Option Cert) (searched : IfOk r (IsCovAt triangles e levels k f)) (gave : r ≡ Ok found) where
  pub none_of_search : found ≡ None → HasCertificateAt triangles e levels k f → ⊥
  none_of_search is =
      subst (IsCovAt triangles e levels k f) is (subst (λ (q : Result (Option Cert) Memory). IfOk q (IsCovAt triangles e levels k f)) gave searched)

  pub some_of_search : (c : Cert) → found ≡ Some c → IsLeastCertificate triangles e levels k f c
  some_of_search c is =
      subst (IsCovAt triangles e levels k f) is (subst (λ (q : Result (Option Cert) Memory). IfOk q (IsCovAt triangles e levels k f)) gave searched)
