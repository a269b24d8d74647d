-- A case has at most one finding.
use Rattle.std.proofs.Common.{◌≡◌, ℕ, List, ap, refl, sym, ◌∙◌, inl, inr, arith}
use Rattle.std.proofs.lemmas.Bool.{cases_lt}
use Rattle.grid.specs.declared.shapes.Face.{Face}
use Rattle.grid.specs.Boxes.{IsOnOneSide}
use Rattle.grid.specs.Simplices.{all_faces}
use Rattle.cert_check.specs.declared.fault.Fault.{Fault}
use Rattle.cert_check.specs.declared.fault.Fault.TheVariants as faults
use Rattle.cert_check.specs.declared.fault.Finding.TheVariants as findings
use Rattle.cert_check.specs.Faults.{Case, Holds, rank, side_of, mesh_in}
use Rattle.cert_check.specs.Firsts.{IsFirstFailing}
use Rattle.cert_check.specs.Laws.{OneFinding}
use Rattle.cert_check.proofs.Turned.{turns, repeat_once, loose_once}

first_once : (n : ℕ) (P : ℕ → Type 0) (number : ℕ → ℕ) (x y : ℕ) → IsFirstFailing n P number x → IsFirstFailing n P number y → x ≡ y
first_once n P number x y h k = elim (cases_lt h.place k.place) [
  | inl a ↦ absurd (h.fails (k.before h.place a))
  | inr a ↦ elim (cases_lt k.place h.place) [
    | inl b ↦ absurd (k.fails (h.before k.place b))
    | inr b ↦ let same : h.place ≡ k.place = omega (arith, a, b) in h.is ∙ ap number same ∙ sym k.is
  ]
]

abbrev face : List ℕ → Face
face l = record { 0 = l }

-- faults of one kind carry the same
same_fault : (c : Case) (f g : Fault) → rank f ≡ rank g → Holds c f → Holds c g → f ≡ g
same_fault c faults.Header faults.Header e h k = refl
same_fault c (faults.NotInBox m) (faults.NotInBox n) e h k = ap (λ i. faults.NotInBox i) (first_once _ _ _ m n h k)
same_fault c (faults.NotPositive m) (faults.NotPositive n) e h k = ap (λ i. faults.NotPositive i) (first_once _ _ _ m n h k)
same_fault c (faults.Twice f) (faults.Twice g) e h k = ap (λ l. faults.Twice (face l)) (repeat_once _ f.0 g.0 (turns (mesh_in c).tets) h k)
same_fault c (faults.Loose f) (faults.Loose g) e h k =
    ap (λ l. faults.Loose (face l)) (loose_once (IsOnOneSide (mesh_in c).points (side_of c)) (all_faces (mesh_in c).tets) (turns (mesh_in c).tets) f.0 g.0 h.1 k.1)
same_fault c (faults.Volume s) (faults.Volume t) e h k = ap (λ z. faults.Volume z) (h.0 ∙ sym k.0)
same_fault c (faults.NotAFace m) (faults.NotAFace n) e h k = ap (λ i. faults.NotAFace i) (first_once _ _ _ m n h k)
same_fault c (faults.NotCovered m) (faults.NotCovered n) e h k = ap (λ i. faults.NotCovered i) (first_once _ _ _ m n h k)
same_fault c (faults.Region m) (faults.Region n) e h k = ap (λ i. faults.Region i) (first_once _ _ _ m n h k)
same_fault c (faults.TriangleLines m) (faults.TriangleLines n) e h k = ap (λ i. faults.TriangleLines i) (h.0 ∙ sym k.0)
same_fault c f g e h k = absurd (omega (arith, e))

pub one_finding : OneFinding
one_finding c findings.Good findings.Good h k = refl
one_finding c findings.Good (findings.Bad g) h k = absurd (h g k.0)
one_finding c (findings.Bad f) findings.Good h k = absurd (k f h.0)
one_finding c (findings.Bad f) (findings.Bad g) h k = elim (cases_lt (rank f) (rank g)) [
  | inl a ↦ absurd (k.1 f a h.0)
  | inr a ↦ elim (cases_lt (rank g) (rank f)) [
    | inl b ↦ absurd (h.1 g b k.0)
    | inr b ↦ ap (λ x. findings.Bad x) (same_fault c f g (omega (arith, a, b)) h.0 k.0)
  ]
]
