-- A report with the plain facts keeps the rules of its text.
use Rattle.std.proofs.Common.{◌≡◌, ℕ, suc, ◌+◌, ◌-◌, ◌*◌, ◌^◌, ◌≤◌, List, [], ◌∷◌, ◌++◌, length, map, All, get_or, refl, sym, ap, ◌∙◌, subst, arith, Option, Some, None}
use Rattle.std.specs.Prelude.{codes, ℤ, pos, IfSome}
use Rattle.std.specs.List.{AllByRecursion as Each}
use Rattle.std.proofs.lemmas.List.Elements.{All-head, All-tail}
use Rattle.grid.specs.Simplices.{Rises}
use Rattle.grid.specs.Limits.{largest_side, most_epsilon, most_input}
use Rattle.lines.specs.Forms.{repeat}
use Rattle.lines.specs.Fields.{Between, Within}
use Rattle.lines.proofs.ForCallers.{CanSay, says_done, says_field, says_then, says_fixed, says_all, is_text, three_items}
use Rattle.mesh_types.specs.declared.outcome.Outcome.{Outcome}
use Rattle.mesh_types.specs.declared.outcome.Again.{Again}
use Rattle.report_text.specs.declared.kinds.SizeKind.TheVariants as size_kinds
use Rattle.report_text.specs.declared.kinds.PartKind.TheVariants as part_kinds
use Rattle.report_text.specs.declared.report.Covering.{Covering}
use Rattle.report_text.specs.declared.report.Second.{Second}
use Rattle.report_text.specs.declared.report.Report.{Report}
use Rattle.report_text.specs.Rules.{IsSide, IsCells, size, shift_line, more_outcomes, least_next, more_again, second_part, more_faces, report_rules}
use Rattle.report_text.specs.Text.{report_text}
use Rattle.report_text.specs.Plain.{IsPlainOutcome, IsPlainAgain, IsPlainCovering, IsPlainSecond, IsPlainReport, PlainLaw}
use Rattle.report_text.proofs.Lists.{least_next_is}
use Rattle.report_text.proofs.SaysText.{whole_text}
use Rattle.report_text.proofs.KeepingParts.{says_one, says_named, says_outcome, says_journal, one_more_face}

-- ---- the head
says_size : (digits : Option ℕ) (side : ℕ) → IfSome digits (λ d. d ≤ 5) → IsSide side → CanSay size (digits, side)
unfolding size
says_size None side few is = says_then size_kinds.Side (says_one size_kinds.Side) (says_then side (says_field side is) (says_done refl))
says_size (Some d) side few is = says_then size_kinds.Digits (says_one size_kinds.Digits) (says_then d (says_field d (omega arith, few)) (says_then side (says_named (codes "box ") IsSide side is) (says_done refl)))

says_shift : (shift : List ℤ) → length shift ≡ 3 → All (Within (2 * 10 ^ 9)) shift → CanSay shift_line shift
unfolding shift_line
says_shift shift three near =
    let at : ℕ → ℤ = λ i. get_or shift i (pos 0) in
    says_then tt (says_fixed (codes "shift "))
    (says_then (at 0) (says_field (at 0) (near 0 (pos 0) (omega (arith, three))))
    (says_then (at 1) (says_field (at 1) (near 1 (pos 0) (omega (arith, three))))
    (says_then (at 2) (says_field (at 2) (near 2 (pos 0) (omega (arith, three))))
    (says_done (sym (three_items shift three (pos 0) (pos 0) (pos 0)))))))

-- no bound below the first
all_above : (xs : List ℕ) → Each (λ t. 0 ≤ t) xs
all_above [] = tt
all_above (x ∷ xs) = (omega arith, all_above xs)

module _ (side : ℕ) (shift : List ℤ) (small : side ≤ largest_side) (three : length shift ≡ 3) (near : All (Within (2 * 10 ^ 9)) shift) where
  -- ---- triangles
  one_more_outcome : (before : List Outcome) (o : Outcome) (later : List Outcome) → All (IsPlainOutcome side) (o ∷ later) → CanSay (more_outcomes side shift before) (before ++ o ∷ [])
  unfolding more_outcomes
  one_more_outcome before o later fit =
      says_then tt (says_fixed (codes "t "))
      (says_then (length before) (says_field (length before) (omega arith, omega arith))
      (says_then o (says_outcome side shift small three near o (All-head (IsPlainOutcome side) o later fit)) (says_done refl)))

  says_outcomes : (os : List Outcome) → All (IsPlainOutcome side) os → CanSay (repeat (more_outcomes side shift) (length os) []) os
  says_outcomes os are = says_all (more_outcomes side shift) (λ xs. xs) (λ before later. All (IsPlainOutcome side) later) one_more_outcome (λ before o later fit. All-tail (IsPlainOutcome side) o later fit) os are

  -- ---- the second part
  module _ (triangles : ℕ) where
    -- the later members are plain, and their numbers rise from the last one on
    record FitAgain (before later : List Again) : Type 0 where
      above : Each (λ t. least_next before ≤ t) (map (λ a. a.triangle) later)
      rise : Rises (map (λ a. a.triangle) later)
      are : All (IsPlainAgain side triangles) later

    one_more_again : (before : List Again) (a : Again) (later : List Again) → FitAgain before (a ∷ later) → CanSay (more_again triangles side shift before) (before ++ a ∷ [])
    unfolding more_again
    one_more_again before a later fit =
        let is = All-head (IsPlainAgain side triangles) a later fit.are in
        says_then tt (says_fixed (codes "t "))
        (says_then a.triangle (says_field a.triangle (fit.above.0, omega (arith, is.below)))
        (says_then a.outcome (says_outcome side shift small three near a.outcome is.outcome_is) (says_done refl)))

    later_again : (before : List Again) (a : Again) (later : List Again) → FitAgain before (a ∷ later) → FitAgain (before ++ a ∷ []) later
    later_again before a later fit =
        let next : suc a.triangle ≡ a.triangle + 1 = omega arith in
        record {
          above = subst (λ n. Each (λ t. n ≤ t) (map (λ (b : Again). b.triangle) later)) (next ∙ sym (least_next_is before a)) fit.rise.0;
          rise = fit.rise.1;
          are = All-tail (IsPlainAgain side triangles) a later fit.are;
        }

    says_second : (budget tries_before faces : ℕ) (s : Option Second) → IfSome s (IsPlainSecond side triangles budget tries_before) → faces ≤ 2 ^ 24 → CanSay (second_part triangles side shift (budget - tries_before)) (s, faces)
    unfolding second_part
    says_second budget tries_before faces None is few = says_then part_kinds.Tracked (says_one part_kinds.Tracked) (says_then faces (says_field faces (omega arith, few)) (says_done refl))
    says_second budget tries_before faces (Some s) is few =
        let members : FitAgain [] s.again = record { above = all_above (map (λ (a : Again). a.triangle) s.again); rise = is.members_rise; are = is.outcomes_are } in
        says_then part_kinds.Second (says_one part_kinds.Second)
        (says_then (length s.again) (says_field (length s.again) is.members_are)
        (says_then s.again (says_all (more_again triangles side shift) (λ xs. xs) FitAgain one_more_again later_again s.again members)
        (says_then (record { journal = s.journal; end = s.end }) (says_journal (budget - tries_before) (record { journal = s.journal; end = s.end }) (omega (arith, is.tries_few)) is.tries_are)
        (says_then faces (says_named (codes "tracked ") (Between 0 (2 ^ 24)) faces (omega arith, few)) (says_done refl)))))

says_faces : (faces : List Covering) → All IsPlainCovering faces → CanSay (repeat more_faces (length faces) []) faces
says_faces faces are = says_all more_faces (λ xs. xs) (λ before later. All IsPlainCovering later) one_more_face (λ before f later fit. All-tail IsPlainCovering f later fit) faces are

-- ---- the whole text
says_report : (r : Report) → IsPlainReport r → CanSay report_rules r
unfolding report_rules
says_report r is =
    let small : is.side ≤ largest_side = is.side_allowed.0.1 in
    says_then tt (says_fixed (codes "tetsoup report 1\n"))
    (says_then r.epsilon (says_named (codes "epsilon ") (Between 1 most_epsilon) r.epsilon is.epsilon_in_range)
    (says_then r.cells (says_named (codes "cells ") IsCells r.cells is.cells_allowed)
    (says_then r.budget (says_named (codes "budget ") (Between 0 1000000) r.budget (omega arith, is.budget_few))
    (says_then (r.digits, is.side) (says_size r.digits is.side is.digits_few is.side_allowed)
    (says_then r.shift (says_shift r.shift is.shift_three is.shift_near)
    (says_then (length r.outcomes) (says_named (codes "triangles ") (Between 0 most_input) (length r.outcomes) (omega arith, is.triangles_few))
    (says_then r.outcomes (says_outcomes is.side r.shift small is.shift_three is.shift_near r.outcomes is.outcomes_are)
    (says_then (record { journal = r.journal; end = r.end }) (says_journal r.budget (record { journal = r.journal; end = r.end }) is.tries_few is.tries_are)
    (says_then (r.second, length r.faces) (says_second is.side r.shift small is.shift_three is.shift_near (length r.outcomes) r.budget (length r.journal.lines) (length r.faces) r.second is.second_is is.faces_few)
    (says_then r.faces (says_faces r.faces is.faces_are)
    (says_done (ap (λ (z : ℤ). record { epsilon = r.epsilon; cells = r.cells; budget = r.budget; digits = r.digits; side = z; shift = r.shift; outcomes = r.outcomes; journal = r.journal; end = r.end; faces = r.faces; second = r.second }) (sym is.side_is)))))))))))))

pub keeps : PlainLaw
keeps r is = is_text (report_text r) (says_report r is) (λ bytes h. whole_text bytes [] r h)
