-- Outcomes, tries and certificates with the plain facts can be said.
use Rattle.std.proofs.Common.{◌≡◌, ◌≢◌, ℕ, zero, suc, ◌+◌, ◌*◌, ◌^◌, ◌<◌, ◌≤◌, List, [], ◌∷◌, ◌++◌, length, All, get_or, refl, sym, ap, ◌∙◌, subst, arith, Some, None}
use Rattle.std.specs.Prelude.{codes, ℤ, pos, ◌+ℤ◌, ◌-ℤ◌, unsigned_abs, slice_index_or}
use Rattle.std.proofs.lemmas.Int.{ints}
use Rattle.std.proofs.lemmas.List.Elements.{All-head, All-tail}
use Rattle.grid.specs.declared.shapes.Point.{Point}
use Rattle.grid.specs.Boxes.{IsUpTo, IsInBox}
use Rattle.grid.specs.Determinants.{origin}
use Rattle.grid.specs.Simplices.{Rises}
use Rattle.grid.specs.Limits.{largest_side, most_input, most_points}
use Rattle.lines.specs.Fields.{space, Between, Within}
use Rattle.lines.proofs.ForCallers.{CanSay, says_done, says_field, says_then, says_fixed, says_all, three_items, four_items}
use Rattle.mesh_types.specs.declared.cert.Cert.{Cert, out-Cert, roll-Cert, roll-out-Cert}
use Rattle.mesh_types.specs.declared.cert.Cert.TheVariants as certs
use Rattle.mesh_types.specs.declared.cert.Cert.TheOpen.{Cert-F}
use Rattle.mesh_types.specs.declared.cert.Cert.TheOpen as open_cert
use Rattle.mesh_types.specs.declared.outcome.Defect.{Defect}
use Rattle.mesh_types.specs.declared.outcome.Defect.TheVariants as defects
use Rattle.mesh_types.specs.declared.outcome.Outcome.{Outcome}
use Rattle.mesh_types.specs.declared.outcome.Outcome.TheVariants as outcomes
use Rattle.mesh_types.specs.declared.tries.Try.{Try}
use Rattle.mesh_types.specs.declared.tries.Try.TheVariants as tries
use Rattle.mesh_types.specs.declared.tries.TryLine.{TryLine}
use Rattle.report_text.specs.declared.kinds.OutcomeKind.TheVariants as outcome_kinds
use Rattle.report_text.specs.declared.kinds.TryKind.TheVariants as try_kinds
use Rattle.report_text.specs.declared.report.Covering.{Covering}
use Rattle.report_text.specs.declared.report.Tries.{Tries}
use Rattle.report_text.specs.Rules.{one_of, named, grid_number, point, three_points, four_points, outcome, vertex, other_vertex, attempt, more_tries, journal, certificate, bracket, more_faces}
use Rattle.report_text.specs.Plain.{ArePoints, IsPlainDefect, IsPlainOutcome, IsPlainTry, ArePlainTries, IsPlainTop, IsPlainCert, IsPlainCovering}
use Rattle.report_text.proofs.SaysText.{out-Leaf, out-Split}

pub says_one : {X : Type 0} {spelled : X → List ℕ} (x : X) → CanSay (one_of spelled) x
says_one x = says_field x tt

pub says_named : (name : List ℕ) (Allowed : ℕ → Type 0) (n : ℕ) → Allowed n → CanSay (named name Allowed) n
says_named name Allowed n allowed = says_then tt (says_fixed name) (says_field n allowed)

-- ---- points
says_grid : (side : ℕ) (shift : ℤ) (end : ℕ) (z : ℤ) → side ≤ largest_side → unsigned_abs shift ≤ 2 * 10 ^ 9 → IsUpTo side z → CanSay (grid_number side shift end) z
unfolding grid_number
says_grid side shift end z small near is =
    let size : unsigned_abs (z +ℤ shift) ≤ 2 * 10 ^ 9 + largest_side = omega (arith, ints, small, near, is.low, is.high) in
    let back : (z +ℤ shift) -ℤ shift ≡ z = omega (arith, ints) in
    says_then (z +ℤ shift) (says_field (z +ℤ shift) (size, omega (arith, ints, is.low), omega (arith, ints, is.high))) (says_done back)

module _ (side : ℕ) (shift : List ℤ) (small : side ≤ largest_side) (three : length shift ≡ 3) (near : All (Within (2 * 10 ^ 9)) shift) where
  says_point : (end : ℕ) (p : Point) → IsInBox side p → CanSay (point side shift end) p
  unfolding point
  says_point end p is =
      let by : ℕ → ℤ = λ i. slice_index_or shift i (pos 0) in
      says_then p.x (says_grid side (by 0) space p.x small (near 0 (pos 0) (omega (arith, three))) is.x_in)
      (says_then p.y (says_grid side (by 1) space p.y small (near 1 (pos 0) (omega (arith, three))) is.y_in)
      (says_then p.z (says_grid side (by 2) end p.z small (near 2 (pos 0) (omega (arith, three))) is.z_in) (says_done refl)))

  says_three : (ps : List Point) → ArePoints side 3 ps → CanSay (three_points side shift) ps
  unfolding three_points
  says_three ps are =
      let at : ℕ → Point = λ i. get_or ps i origin in
      says_then (at 0) (says_point _ (at 0) (are.in_box 0 origin (omega (arith, are.count_is))))
      (says_then (at 1) (says_point _ (at 1) (are.in_box 1 origin (omega (arith, are.count_is))))
      (says_then (at 2) (says_point _ (at 2) (are.in_box 2 origin (omega (arith, are.count_is))))
      (says_done (sym (three_items ps are.count_is origin origin origin)))))

  says_four : (ps : List Point) → ArePoints side 4 ps → CanSay (four_points side shift) ps
  unfolding four_points
  says_four ps are =
      let at : ℕ → Point = λ i. get_or ps i origin in
      says_then (at 0) (says_point _ (at 0) (are.in_box 0 origin (omega (arith, are.count_is))))
      (says_then (at 1) (says_point _ (at 1) (are.in_box 1 origin (omega (arith, are.count_is))))
      (says_then (at 2) (says_point _ (at 2) (are.in_box 2 origin (omega (arith, are.count_is))))
      (says_then (at 3) (says_point _ (at 3) (are.in_box 3 origin (omega (arith, are.count_is))))
      (says_done (sym (four_items ps are.count_is origin origin origin origin))))))

  -- ---- outcomes
  says_defect : (defect : Defect) → IsPlainDefect side defect → CanSay (outcome side shift) (outcomes.RolledBack defect)
  unfolding outcome
  says_defect defects.Degenerate is = says_then outcome_kinds.Degenerate (says_one outcome_kinds.Degenerate) (says_done refl)
  says_defect defects.Full is = says_then outcome_kinds.Full (says_one outcome_kinds.Full) (says_done refl)
  says_defect (defects.Inverted ps) is = says_then outcome_kinds.Inverted (says_one outcome_kinds.Inverted) (says_then ps (says_four ps is) (says_done refl))
  says_defect (defects.Unresolved ps) is = says_then outcome_kinds.Unresolved (says_one outcome_kinds.Unresolved) (says_then ps (says_four ps is) (says_done refl))
  says_defect (defects.Stray ps) is = says_then outcome_kinds.Stray (says_one outcome_kinds.Stray) (says_then ps (says_three ps is) (says_done refl))
  says_defect (defects.Uncovered ps) is = says_then outcome_kinds.Uncovered (says_one outcome_kinds.Uncovered) (says_then ps (says_three ps is) (says_done refl))

  pub says_outcome : (o : Outcome) → IsPlainOutcome side o → CanSay (outcome side shift) o
  unfolding outcome
  says_outcome (outcomes.Inserted n) few = says_then outcome_kinds.Inserted (says_one outcome_kinds.Inserted) (says_then n (says_field n (omega arith, few)) (says_done refl))
  says_outcome (outcomes.RolledBack defect) is = says_defect defect is

-- ---- tries
says_vertex : (low u : ℕ) → low ≤ u + 1 → u < most_points → CanSay (vertex low) u
unfolding vertex
says_vertex low u above few = says_then (u + 1) (says_field (u + 1) (above, omega (arith, few))) (says_done (omega arith))

says_other : (u v : ℕ) → v < most_points → u ≢ v → CanSay (other_vertex u) v
unfolding other_vertex
says_other u v few differ = says_then (v + 1) (says_field (v + 1) ((omega arith, omega (arith, few)), λ e. differ (omega (arith, e)))) (says_done (omega arith))

says_try : (t : Try) → IsPlainTry t → CanSay attempt t
unfolding attempt
says_try (tries.Split u v) is =
    let low : u < most_points = omega (arith, is.0, is.1) in
    says_then try_kinds.Split (says_one try_kinds.Split) (says_then u (says_vertex 1 u (omega arith) low) (says_then v (says_vertex (u + 2) v (omega (arith, is.0)) is.1) (says_done refl)))
says_try (tries.Shift u way) is =
    says_then try_kinds.Shift (says_one try_kinds.Shift) (says_then u (says_vertex 1 u (omega arith) is.0) (says_then way (says_field way (omega arith, is.1)) (says_done refl)))
says_try (tries.Collapse u v) is =
    says_then try_kinds.Collapse (says_one try_kinds.Collapse) (says_then u (says_vertex 1 u (omega arith) is.0) (says_then v (says_other u v is.1 is.2) (says_done refl)))
says_try (tries.FaceSwap a b c) is =
    let middle : b < most_points = omega (arith, is.1, is.2) in
    let low : a < most_points = omega (arith, is.0, middle) in
    says_then try_kinds.FaceSwap (says_one try_kinds.FaceSwap) (says_then a (says_vertex 1 a (omega arith) low) (says_then b (says_vertex (a + 2) b (omega (arith, is.0)) middle) (says_then c (says_vertex (b + 2) c (omega (arith, is.1)) is.2) (says_done refl))))
says_try (tries.EdgeSwap u v) is =
    let low : u < most_points = omega (arith, is.0, is.1) in
    says_then try_kinds.EdgeSwap (says_one try_kinds.EdgeSwap) (says_then u (says_vertex 1 u (omega arith) low) (says_then v (says_vertex (u + 2) v (omega (arith, is.0)) is.1) (says_done refl)))

-- the later tries are plain
abbrev FitTries : (before later : List TryLine) → Type 0
FitTries before later = ArePlainTries later

one_more_try : (before : List TryLine) (line : TryLine) (later : List TryLine) → FitTries before (line ∷ later) → CanSay (more_tries before) (before ++ line ∷ [])
unfolding more_tries
one_more_try before line later fit =
    says_then line.attempt (says_try line.attempt (All-head (λ (l : TryLine). IsPlainTry l.attempt) line later fit)) (says_then line.verdict (says_one line.verdict) (says_done refl))

pub says_journal : (most : ℕ) (t : Tries) → length t.journal.lines ≤ most → ArePlainTries t.journal.lines → CanSay (journal most) t
unfolding journal
says_journal most t few are =
    says_then (length t.journal.lines) (says_named (codes "tries ") (Between 0 most) (length t.journal.lines) (omega arith, few))
    (says_then t.journal.lines (says_all more_tries (λ ls. ls) FitTries one_more_try (λ before line later fit. All-tail (λ (l : TryLine). IsPlainTry l.attempt) line later fit) t.journal.lines are)
    (says_then t.end (says_one t.end) (says_done refl)))

-- ---- certificates
is_leaf : (c : Cert) (t : ℕ) → out-Cert c ≡ open_cert.Leaf t → certs.Leaf t ≡ c
is_leaf c t top = sym (roll-out-Cert (certs.Leaf t)) ∙ ap roll-Cert (out-Leaf t ∙ sym top) ∙ roll-out-Cert c

is_split : (c : Cert) (parts : List Cert) → out-Cert c ≡ open_cert.Split parts → certs.Split parts ≡ c
is_split c parts top = sym (roll-out-Cert (certs.Split parts)) ∙ ap roll-Cert (out-Split parts ∙ sym top) ∙ roll-out-Cert c

says_leaf : (levels end t : ℕ) (c : Cert) → t < most_input → out-Cert c ≡ open_cert.Leaf t → CanSay (certificate levels end) c
unfolding certificate
says_leaf zero end t c small top = says_then (Some t) (says_field (Some t) small) (says_done (is_leaf c t top))
says_leaf (suc levels) end t c small top = says_then (Some t) (says_field (Some t) small) (says_done (is_leaf c t top))

says_split : (levels end : ℕ) (parts : List Cert) (c : Cert) → length parts ≡ 4 → ((i e : ℕ) → i < 4 → CanSay (certificate levels e) (get_or parts i (certs.Leaf 0))) → out-Cert c ≡ open_cert.Split parts → CanSay (certificate (suc levels) end) c
unfolding certificate
says_split levels end parts c four says top =
    let none : Cert = certs.Leaf 0 in
    let some : 0 < suc levels = omega arith in
    says_then None (says_field None some)
    (says_then (get_or parts 0 none) (says 0 space (omega arith))
    (says_then (get_or parts 1 none) (says 1 space (omega arith))
    (says_then (get_or parts 2 none) (says 2 space (omega arith))
    (says_then (get_or parts 3 none) (says 3 bracket (omega arith))
    (says_then tt (says_fixed (end ∷ [])) (says_done (ap (λ (ps : List Cert). certs.Split ps) (sym (four_items parts four none none none none)) ∙ is_split c parts top)))))))

says_top : (levels end : ℕ) (c : Cert) (PartsAre : List Cert → Type 0) → ((parts : List Cert) → PartsAre parts → out-Cert c ≡ open_cert.Split parts → CanSay (certificate levels end) c) → (top : Cert-F Cert) → out-Cert c ≡ top → IsPlainTop PartsAre top → CanSay (certificate levels end) c
says_top levels end c PartsAre split (open_cert.Leaf t) top is = says_leaf levels end t c is top
says_top levels end c PartsAre split (open_cert.Split parts) top is = split parts is top

says_cert : (levels end : ℕ) (c : Cert) → IsPlainCert levels c → CanSay (certificate levels end) c
says_cert zero end c is = says_top zero end c (λ parts. ⊥) (λ parts no top. absurd no) (out-Cert c) refl is
says_cert (suc levels) end c is =
    says_top (suc levels) end c (λ parts. (length parts ≡ 4) × All (IsPlainCert levels) parts)
    (λ parts are top. says_split levels end parts c are.0 (λ i e short. says_cert levels e (get_or parts i (certs.Leaf 0)) (are.1 i (certs.Leaf 0) (omega (arith, short, are.0)))) top) (out-Cert c) refl is

-- ---- faces
pub one_more_face : (before : List Covering) (f : Covering) (later : List Covering) → All IsPlainCovering (f ∷ later) → CanSay (more_faces before) (before ++ f ∷ [])
unfolding more_faces
one_more_face before f later fit =
    let is = All-head IsPlainCovering f later fit in
    let at : ℕ → ℕ = λ i. get_or f.face.0 i 0 in
    let items = three_items f.face.0 is.three 0 0 0 in
    let rise : Rises (at 0 ∷ at 1 ∷ at 2 ∷ []) = subst Rises items is.rises in
    let a_in : Between 1 most_points (at 0) = is.in_range 0 0 (omega (arith, is.three)) in
    let b_in : Between 1 most_points (at 1) = is.in_range 1 0 (omega (arith, is.three)) in
    let c_in : Between 1 most_points (at 2) = is.in_range 2 0 (omega (arith, is.three)) in
    says_then tt (says_fixed (codes "f "))
    (says_then (at 0) (says_field (at 0) a_in)
    (says_then (at 1) (says_field (at 1) (omega (arith, rise.0.0), b_in.1))
    (says_then (at 2) (says_field (at 2) (omega (arith, rise.1.0.0), c_in.1))
    (says_then f.cert (says_cert 6 _ f.cert is.cert_is)
    (says_done (ap (λ (cs : List ℕ). before ++ record { face = record { 0 = cs }; cert = f.cert } ∷ []) (sym items)))))))
