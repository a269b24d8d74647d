-- The parts of a run keep meshes good, and what is told of them is plain.
use Rattle.std.proofs.Common.{◌≡◌, ℕ, ◌+◌, ◌-◌, ◌<◌, ◌≤◌, Option, None, Some, List, [], ◌∷◌, map, length, refl, sym, ap, ◌∙◌, subst, arith}
use Rattle.std.specs.Prelude.{IfSome}
use Rattle.std.specs.List.{AllByRecursion as Each}
use Rattle.std.proofs.lemmas.List.{length-map}
use Rattle.std.proofs.lemmas.List.Elements.{All-from_recursion}
use Rattle.grid.specs.Meshes.{Mesh}
use Rattle.grid.specs.Simplices.{Rises}
use Rattle.mesh_types.specs.declared.outcome.Again.{Again}
use Rattle.mesh_types.specs.declared.outcome.Outcome.{Outcome}
use Rattle.mesh_types.specs.declared.outcome.Outcome.TheVariants.{Inserted, RolledBack}
use Rattle.mesh_types.specs.declared.tries.End.{End}
use Rattle.mesh_types.specs.declared.tries.TryLine.{TryLine}
use Rattle.mesh_types.specs.Turns.{rolled_back}
use Rattle.mesh_types.specs.Verdicts.{Setting}
use Rattle.mesh_types.proofs.ForCallers.{one-each}
use Rattle.report_text.specs.declared.report.Second.{Second}
use Rattle.report_text.specs.Plain.{IsPlainOutcome, IsPlainAgain, ArePlainTries, IsPlainSecond}
use Rattle.mesher.specs.Meshed.{IsPart, IsSecondOrNone}
use Rattle.cert_check.specs.Faults.{AreRolledBack}
use Rattle.acceptance.proofs.Insertions.{IsGoodMesh, insertions-good}
use Rattle.acceptance.proofs.Journals.{journal_mesh, journal_tries}

-- ---- one part
pub record IsGoodPart (l : ℕ) (numbers : List ℕ) (budget : ℕ) (outcomes : List Outcome) (lines : List TryLine) (last : Mesh) : Type 0 where
  pub mesh : IsGoodMesh l last
  pub outcomes_are : Each (IsPlainOutcome l) outcomes
  pub one_each : length outcomes ≡ length numbers
  pub tries_are : ArePlainTries lines
  pub few : length lines ≤ budget

pub part_good : (s : Setting) (numbers : List ℕ) (budget : ℕ) (start last : Mesh) (outcomes : List Outcome) (lines : List TryLine) (end : End) → IsGoodMesh s.side start → IsPart s numbers budget start outcomes lines end last → IsGoodPart s.side numbers budget outcomes lines last
part_good s numbers budget start last outcomes lines end good part =
    let steps = insertions-good s.triangles s.epsilon s.side numbers start part.between outcomes good part.inserted in
    let follow = part.journal.follows in
    record {
      mesh = subst (IsGoodMesh s.side) (sym part.mesh) (journal_mesh s part.between budget lines follow steps.mesh);
      outcomes_are = steps.outcomes_are;
      one_each = one-each s.triangles s.epsilon numbers start part.between outcomes part.inserted;
      tries_are = journal_tries s part.between budget lines follow steps.mesh;
      few = follow.few;
    }

-- ---- the triangles that were rolled back
rolled_few : (n : ℕ) (os : List Outcome) → length (rolled_back n os) ≤ length os
rolled_few n [] = omega arith
rolled_few n (Inserted count ∷ os) = let rest = rolled_few (n + 1) os in omega (arith, rest)
rolled_few n (RolledBack d ∷ os) = let rest = rolled_few (n + 1) os in omega (arith, rest)

rolled_above : (b n : ℕ) (os : List Outcome) → b < n → Each (λ k. b < k) (rolled_back n os)
rolled_above b n [] lt = tt
rolled_above b n (Inserted count ∷ os) lt = rolled_above b (n + 1) os (omega (arith, lt))
rolled_above b n (RolledBack d ∷ os) lt = (lt, rolled_above b (n + 1) os (omega (arith, lt)))

rolled_rises : (n : ℕ) (os : List Outcome) → Rises (rolled_back n os)
rolled_rises n [] = tt
rolled_rises n (Inserted count ∷ os) = rolled_rises (n + 1) os
rolled_rises n (RolledBack d ∷ os) = (rolled_above n (n + 1) os (omega arith), rolled_rises (n + 1) os)

rolled_below : (most n : ℕ) (os : List Outcome) → n + length os ≤ most → Each (λ k. k < most) (rolled_back n os)
rolled_below most n [] le = tt
rolled_below most n (Inserted count ∷ os) le = rolled_below most (n + 1) os (omega (arith, le))
rolled_below most n (RolledBack d ∷ os) le = (omega (arith, le), rolled_below most (n + 1) os (omega (arith, le)))

some_length : (xs : List ℕ) → ¬ xs ≡ [] → 1 ≤ length xs
some_length [] none = absurd (none refl)
some_length (x ∷ xs) none = omega arith

-- ---- the second part
plain_again : (l n : ℕ) (again : List Again) → Each (λ k. k < n) (map (λ (a : Again). a.triangle) again) → Each (IsPlainOutcome l) (map (λ (a : Again). a.outcome) again) → Each (IsPlainAgain l n) again
plain_again l n [] h k = tt
plain_again l n (a ∷ again) h k = (record { below = h.0; outcome_is = k.0 }, plain_again l n again h.1 k.1)

pub plain_second : (s : Setting) (outcomes : List Outcome) (budget tries : ℕ) (start last : Mesh) (second : Option Second) → tries ≤ budget → IsGoodMesh s.side start → IsSecondOrNone s (rolled_back 0 outcomes) (budget - tries) start second last → IfSome second (IsPlainSecond s.side (length outcomes) budget tries)
plain_second s outcomes budget tries start last None le good is = tt
plain_second s outcomes budget tries start last (Some second) le good is =
    let numbers = rolled_back 0 outcomes in
    let again = second.again in
    let named : map (λ (a : Again). a.triangle) again ≡ numbers = is.1.triangles in
    let part = part_good s numbers (budget - tries) start last (map (λ (a : Again). a.outcome) again) second.journal.lines second.end good is.1.part in
    let size : length again ≡ length numbers = sym (length-map again (λ (a : Again). a.triangle)) ∙ ap length named in
    let some = some_length numbers is.0 in
    let below = rolled_below (length outcomes) 0 outcomes (omega arith) in
    let few = part.few in
    record {
      members_are = (omega (arith, size, some), omega (arith, size, rolled_few 0 outcomes));
      members_rise = subst Rises (sym named) (rolled_rises 0 outcomes);
      outcomes_are = All-from_recursion (IsPlainAgain s.side (length outcomes)) again (plain_again s.side (length outcomes) again (subst (Each (λ k. k < length outcomes)) (sym named) below) part.outcomes_are);
      tries_few = omega (arith, few, le);
      tries_are = part.tries_are;
    }

pub second_lines : (s : Setting) (outcomes : List Outcome) (budget : ℕ) (start last : Mesh) (second : Option Second) → IsSecondOrNone s (rolled_back 0 outcomes) budget start second last → AreRolledBack outcomes second
second_lines s outcomes budget start last None is = tt
second_lines s outcomes budget start last (Some second) is = is.1.triangles
