-- The certificates of the mesher are certificates, and plain ones.
use Rattle.std.proofs.Common.{◌≡◌, ℕ, zero, suc, ◌+◌, ◌≤◌, List, [], ◌∷◌, length, All, refl, arith}
use Rattle.std.proofs.lemmas.List.Elements.{All-from_recursion}
use Rattle.grid.specs.declared.shapes.Tri.{Tri}
use Rattle.grid.specs.Limits.{most_input}
use Rattle.mesh_types.specs.declared.cert.Cert.{Cert, out-Cert}
use Rattle.mesh_types.specs.declared.cert.Cert.TheOpen.{Cert-F}
use Rattle.mesh_types.specs.declared.cert.Cert.TheOpen as open_cert
use Rattle.mesh_types.specs.Certificates.{pieces, Each, Covers, CoversLevel}
use Rattle.cover.proofs.ForCallers.{piece_at}
use Rattle.report_text.specs.Plain.{IsPlainTop, IsPlainCert}

four_plain : (P : Tri → Cert → Type 0) (Q : Cert → Type 0) → ((f : Tri) (c : Cert) → P f c → Q c) → (f : Tri) (parts : List Cert) → Each P (pieces f) parts → (length parts ≡ 4) × All Q parts
four_plain P Q g f [] h = absurd h
four_plain P Q g f (a ∷ []) h = absurd h.1
four_plain P Q g f (a ∷ b ∷ []) h = absurd h.1.1
four_plain P Q g f (a ∷ b ∷ c ∷ []) h = absurd h.1.1.1
four_plain P Q g f (a ∷ b ∷ c ∷ d ∷ x ∷ rest) h = absurd h.1.1.1.1
four_plain P Q g f (a ∷ b ∷ c ∷ d ∷ []) h =
    let at = λ (i : ℕ). piece_at (pieces f) i in
    (refl, All-from_recursion Q (a ∷ b ∷ c ∷ d ∷ []) (g (at 0) a h.0, (g (at 1) b h.1.0, (g (at 2) c h.1.1.0, (g (at 3) d h.1.1.1.0, tt)))))

module _ (triangles : List Tri) (e : ℕ) where
  module _ (few : length triangles ≤ most_input) where
    top_plain : (k : ℕ) (f : Tri) (P Q : List Cert → Type 0) → ((parts : List Cert) → P parts → Q parts) → (x : Cert-F Cert) → CoversLevel triangles e k f P x → IsPlainTop Q x
    top_plain k f P Q g (open_cert.Leaf t) h = let lt = h.in_range in omega (arith, lt, few)
    top_plain k f P Q g (open_cert.Split parts) h = g parts h

    pub covers_plain : (levels k : ℕ) (f : Tri) (c : Cert) → Covers triangles e levels k f c → IsPlainCert levels c
    covers_plain zero k f c h = top_plain k f (λ parts. ⊥) (λ parts. ⊥) (λ parts none. none) (out-Cert c) h
    covers_plain (suc levels) k f c h =
        let P = Covers triangles e levels (k + 1) in
        top_plain k f (Each P (pieces f)) (λ parts. (length parts ≡ 4) × All (IsPlainCert levels) parts) (four_plain P (IsPlainCert levels) (covers_plain levels (k + 1)) f) (out-Cert c) h
