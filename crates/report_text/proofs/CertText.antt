-- The text of a certificate, part by part.
use Rattle.std.proofs.Common.{◌≡◌, ◌≢◌, ℕ, zero, suc, ◌-◌, List, [], ◌∷◌, ◌++◌, length, get_or, refl, ap, ◌∙◌, append_assoc, arith}
use Rattle.std.specs.Prelude.{codes}
use Rattle.mesh_types.specs.declared.cert.Cert.{Cert, out-Cert}
use Rattle.mesh_types.specs.declared.cert.Cert.TheVariants as certs
use Rattle.mesh_types.specs.declared.cert.Cert.TheOpen as open_cert
use Rattle.lines.specs.Fields.{space, word}
use Rattle.lines.proofs.ForCallers.{four_items}
use Rattle.report_text.specs.Rules.{bracket}
use Rattle.report_text.specs.Text.{parts_text, top_text, cert_text}
use Rattle.report_text.proofs.SaysText.{out-Leaf, out-Split}

-- ---- certificates
pub leaf_text : (levels end t : ℕ) (c : Cert) → c ≡ certs.Leaf t → cert_text levels end c ≡ word end t
unfolding cert_text
leaf_text zero end t c is = ap (λ d. top_text (λ e x. []) end (out-Cert d)) is ∙ ap (top_text (λ e x. []) end) (out-Leaf t)
leaf_text (suc levels) end t c is = ap (λ d. top_text (cert_text levels) end (out-Cert d)) is ∙ ap (top_text (cert_text levels) end) (out-Leaf t)

nothing : (parts : List Cert) → parts_text (λ e d. []) parts ≡ []
nothing [] = refl
nothing (c ∷ []) = refl
nothing (c ∷ d ∷ cs) = nothing (d ∷ cs)

pub bottom_text : (levels end : ℕ) (parts : List Cert) (c : Cert) → levels ≡ 0 → c ≡ certs.Split parts → cert_text levels end c ≡ codes "(" ++ ((end ∷ []) ++ [])
unfolding cert_text
bottom_text zero end parts c none is = ap (λ d. top_text (λ e x. []) end (out-Cert d)) is ∙ ap (top_text (λ e x. []) end) (out-Split parts) ∙ ap (λ bs. codes "(" ++ (bs ++ ((end ∷ []) ++ []))) (nothing parts)
bottom_text (suc levels) end parts c none is = let no : ⊥ = omega (arith, none) in absurd no

-- the four parts, as the code takes them out of an array: each with some default
pub split_text : (levels end : ℕ) (parts : List Cert) (c : Cert) → levels ≢ 0 → length parts ≡ 4 → c ≡ certs.Split parts → (p q r s : Cert)
    → cert_text levels end c ≡ codes "(" ++ ((cert_text (levels - 1) space (get_or parts 0 p) ++ (cert_text (levels - 1) space (get_or parts 1 q) ++ (cert_text (levels - 1) space (get_or parts 2 r) ++ cert_text (levels - 1) bracket (get_or parts 3 s)))) ++ ((end ∷ []) ++ []))
unfolding cert_text
split_text levels end parts c cut four is p q r s =
    let next : levels ≡ suc (levels - 1) = omega (arith, cut) in
    ap (λ (n : ℕ). cert_text n end c) next ∙ ap (λ (d : Cert). top_text (cert_text (levels - 1)) end (out-Cert d)) is ∙ ap (top_text (cert_text (levels - 1)) end) (out-Split parts ∙ ap (λ (ps : List Cert). open_cert.Split ps) (four_items parts four p q r s))

pub four_parts : (a b c d e : List ℕ) → codes "(" ++ ((a ++ (b ++ (c ++ d))) ++ (e ++ [])) ≡ codes "(" ++ (a ++ (b ++ (c ++ (d ++ (e ++ [])))))
four_parts a b c d e = ap (λ bs. codes "(" ++ bs) (append_assoc a (b ++ (c ++ d)) (e ++ []) ∙ ap (λ bs. a ++ bs) (append_assoc b (c ++ d) (e ++ []) ∙ ap (λ bs. b ++ bs) (append_assoc c d (e ++ []))))
