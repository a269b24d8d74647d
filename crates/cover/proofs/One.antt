-- The certificate of a face is a certificate, and there is at most one.
use Rattle.std.proofs.Common.{◌≡◌, ℕ, zero, suc, ◌+◌, ◌<◌, ◌≤◌, ◌⊎◌, inl, inr, List, [], ◌∷◌, refl, sym, ap, ◌∙◌, arith}
use Rattle.std.proofs.lemmas.Bool.{cases_lt}
use Rattle.grid.specs.declared.shapes.Tri.{Tri}
use Rattle.mesh_types.specs.declared.cert.Cert.{Cert, out-Cert, roll-Cert, roll-out-Cert}
use Rattle.mesh_types.specs.declared.cert.Cert.TheOpen.{Cert-F}
use Rattle.mesh_types.specs.declared.cert.Cert.TheOpen as open_cert
use Rattle.mesh_types.specs.Certificates.{pieces, Each, IsLeastOfFace, Covers, CoversLevel, IsLeastCertificate, IsLeastLevel}
use Rattle.cover.specs.Envelope.{CertificateLaw}

-- ---- each part is a certificate
each_other : (P Q : Tri → Cert → Type 0) → ((f : Tri) (c : Cert) → P f c → Q f c) → (fs : List Tri) (cs : List Cert) → Each P fs cs → Each Q fs cs
each_other P Q to [] [] h = tt
each_other P Q to [] (c ∷ cs) h = absurd h
each_other P Q to (f ∷ fs) [] h = absurd h
each_other P Q to (f ∷ fs) (c ∷ cs) h = (to f c h.0, each_other P Q to fs cs h.1)

level_covers : (triangles : List Tri) (e k : ℕ) (f : Tri) (P Q : List Cert → Type 0) → ((parts : List Cert) → P parts → Q parts) → (x : Cert-F Cert) → IsLeastLevel triangles e k f P x → CoversLevel triangles e k f Q x
level_covers triangles e k f P Q to (open_cert.Leaf t) h = h.is_near
level_covers triangles e k f P Q to (open_cert.Split parts) h = to parts h.1

is_one : (triangles : List Tri) (e levels k : ℕ) (f : Tri) (c : Cert) → IsLeastCertificate triangles e levels k f c → Covers triangles e levels k f c
is_one triangles e zero k f c h = level_covers triangles e k f (λ parts. ⊥) (λ parts. ⊥) (λ parts no. no) (out-Cert c) h
is_one triangles e (suc levels) k f c h =
    level_covers triangles e k f (Each (IsLeastCertificate triangles e levels (k + 1)) (pieces f)) (Each (Covers triangles e levels (k + 1)) (pieces f))
    (λ parts all. each_other (IsLeastCertificate triangles e levels (k + 1)) (Covers triangles e levels (k + 1)) (λ g d i. is_one triangles e levels (k + 1) g d i) (pieces f) parts all) (out-Cert c) h

-- ---- two are equal
each_same : (P : Tri → Cert → Type 0) → ((f : Tri) (c d : Cert) → P f c → P f d → c ≡ d) → (fs : List Tri) (cs ds : List Cert) → Each P fs cs → Each P fs ds → cs ≡ ds
each_same P same [] [] [] h i = refl
each_same P same [] [] (d ∷ ds) h i = absurd i
each_same P same [] (c ∷ cs) ds h i = absurd h
each_same P same (f ∷ fs) [] ds h i = absurd h
each_same P same (f ∷ fs) (c ∷ cs) [] h i = absurd i
each_same P same (f ∷ fs) (c ∷ cs) (d ∷ ds) h i = λ o. same f c d h.0 i.0 o ∷ each_same P same fs cs ds h.1 i.1 o

least_same : (triangles : List Tri) (e k : ℕ) (f : Tri) (s t : ℕ) → IsLeastOfFace triangles e k f s → IsLeastOfFace triangles e k f t → (s < t) ⊎ (t ≤ s) → (t < s) ⊎ (s ≤ t) → s ≡ t
least_same triangles e k f s t h i (inl l) m = absurd (i.least s l h.is_near)
least_same triangles e k f s t h i (inr l) (inl m) = absurd (h.least t m i.is_near)
least_same triangles e k f s t h i (inr l) (inr m) = omega (arith, l, m)

level_same : (triangles : List Tri) (e k : ℕ) (f : Tri) (P : List Cert → Type 0) → ((ps qs : List Cert) → P ps → P qs → ps ≡ qs) → (x y : Cert-F Cert) → IsLeastLevel triangles e k f P x → IsLeastLevel triangles e k f P y → x ≡ y
level_same triangles e k f P same (open_cert.Leaf s) (open_cert.Leaf t) h i = ap open_cert.Leaf (least_same triangles e k f s t h i (cases_lt s t) (cases_lt t s))
level_same triangles e k f P same (open_cert.Leaf s) (open_cert.Split qs) h i = absurd (i.0 s h.is_near)
level_same triangles e k f P same (open_cert.Split ps) (open_cert.Leaf t) h i = absurd (h.0 t i.is_near)
level_same triangles e k f P same (open_cert.Split ps) (open_cert.Split qs) h i = ap open_cert.Split (same ps qs h.1 i.1)

of_tops : (c d : Cert) → out-Cert c ≡ out-Cert d → c ≡ d
of_tops c d e = sym (roll-out-Cert c) ∙ ap roll-Cert e ∙ roll-out-Cert d

is_same : (triangles : List Tri) (e levels k : ℕ) (f : Tri) (c d : Cert) → IsLeastCertificate triangles e levels k f c → IsLeastCertificate triangles e levels k f d → c ≡ d
is_same triangles e zero k f c d h i = of_tops c d (level_same triangles e k f (λ parts. ⊥) (λ ps qs no. absurd no) (out-Cert c) (out-Cert d) h i)
is_same triangles e (suc levels) k f c d h i =
    of_tops c d
    (level_same triangles e k f (Each (IsLeastCertificate triangles e levels (k + 1)) (pieces f))
    (λ ps qs. each_same (IsLeastCertificate triangles e levels (k + 1)) (λ g a b. is_same triangles e levels (k + 1) g a b) (pieces f) ps qs) (out-Cert c) (out-Cert d) h i)

pub certificate_law : CertificateLaw
certificate_law triangles e levels k f c h = (is_one triangles e levels k f c h, λ d i. is_same triangles e levels k f c d h i)
