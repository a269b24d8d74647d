-- Parts of a report have one reading.
use Rattle.std.proofs.Common.{◌≡◌, ℕ, zero, suc, length, ◌+◌, ◌-◌, ◌^◌, ◌<◌, ◌≤◌, ◌≢◌, true, false, List, [], ◌∷◌, ◌++◌, refl, sym, ap, ◌∙◌, arith, drop, cond, append_assoc, Option, Some, None}
use Rattle.std.specs.Prelude.{codes, decimal, ℤ, ◌*◌}
use Rattle.std.specs.List.{prefix_len}
use Rattle.std.specs.Char.{is_ascii_digit}
use Rattle.lines.specs.Forms.{Form, done, Reads, IsClear}
use Rattle.lines.specs.Fields.{space, feed, word, number, Between}
use Rattle.lines.proofs.ForCallers.{none_empty, word_clear, coordinate_clear, fixed_clear, apart, apart_differs, repeat_clear}
use Rattle.mesh_types.specs.declared.cert.Cert.{Cert}
use Rattle.mesh_types.specs.declared.cert.Cert.TheVariants as certs
use Rattle.report_text.specs.declared.report.Covering.{Covering}
use Rattle.mesh_types.specs.declared.tries.Why.{Why}
use Rattle.mesh_types.specs.declared.tries.Why.TheVariants as whys
use Rattle.mesh_types.specs.declared.tries.Verdict.{Verdict}
use Rattle.mesh_types.specs.declared.tries.Verdict.TheVariants as verdicts
use Rattle.report_text.specs.declared.kinds.OutcomeKind.{OutcomeKind}
use Rattle.report_text.specs.declared.kinds.OutcomeKind.TheVariants as outcome_kinds
use Rattle.report_text.specs.declared.kinds.TryKind.{TryKind}
use Rattle.report_text.specs.declared.kinds.TryKind.TheVariants as try_kinds
use Rattle.report_text.specs.declared.kinds.SizeKind.{SizeKind}
use Rattle.report_text.specs.declared.kinds.SizeKind.TheVariants as size_kinds
use Rattle.report_text.specs.declared.kinds.PartKind.{PartKind}
use Rattle.report_text.specs.declared.kinds.PartKind.TheVariants as part_kinds
use Rattle.report_text.specs.Rules.{why_text, verdict_text, certificate_text, CertificateAllowed, certificate_behind, certificate, bracket, end_text, try_text, try_behind, attempt, vertex, other_vertex, more_tries, journal, outcome_text, outcome_behind, outcome, grid_number, point, three_points, four_points, more_faces, more_outcomes, more_again, least_next, IsSide, IsCells, named, size_kind_text, size_behind, size, part_kind_text, part_behind, second_part, shift_number, shift_line, report_rules}
use Rattle.mesh_types.specs.declared.outcome.Outcome.{Outcome}
use Rattle.mesh_types.specs.declared.outcome.Again.{Again}
use Rattle.std.proofs.lemmas.List.{length-append}
use Rattle.grid.specs.Limits.{largest_side, most_epsilon, most_input, most_points}
use Rattle.mesh_types.specs.declared.tries.End.{End}
use Rattle.mesh_types.specs.declared.tries.End.TheVariants as ends
use Rattle.mesh_types.specs.declared.tries.TryLine.{TryLine}

-- ---- words
why_once : (x y : Why) (rest more : List ℕ) → why_text x ++ rest ≡ why_text y ++ more → (x ≡ y) × (rest ≡ more)
why_once whys.Box whys.Box rest more e = (refl, ap (drop 12) e)
why_once whys.Rim whys.Rim rest more e = (refl, ap (drop 12) e)
why_once whys.Tracked whys.Tracked rest more e = (refl, ap (drop 16) e)
why_once whys.Full whys.Full rest more e = (refl, ap (drop 13) e)
why_once whys.Inverted whys.Inverted rest more e = (refl, ap (drop 17) e)
why_once whys.Doubled whys.Doubled rest more e = (refl, ap (drop 16) e)
why_once whys.Worse whys.Worse rest more e = (refl, ap (drop 14) e)
why_once whys.Uncovered whys.Uncovered rest more e = (refl, ap (drop 18) e)
why_once x y rest more e = absurd (apart_differs (why_text x) (why_text y) rest more refl e)

-- ---- certificates
pub no_bracket : (end t : ℕ) (rest more : List ℕ) → is_ascii_digit end ≡ false → t < most_input → word end t ++ rest ≡ 40 ∷ more → ⊥
no_bracket end t rest more no_digit small e = none_empty (40 ∷ more) refl t (end ∷ rest) (record {
  fits = omega arith;
  spells = sym e ∙ append_assoc (decimal t) (end ∷ []) rest;
  ends = ap (λ b. cond b (1 + prefix_len is_ascii_digit rest) 0) no_digit;
})

certificate_once : (levels end : ℕ) → is_ascii_digit end ≡ false → (x y : Option ℕ) (rest more : List ℕ) → CertificateAllowed levels x → CertificateAllowed levels y → certificate_text end x ++ rest ≡ certificate_text end y ++ more → (x ≡ y) × (rest ≡ more)
certificate_once levels end no_digit (Some s) (Some t) rest more allowed other e =
    let same = (word_clear end (λ n. n < most_input) no_digit (λ n h. omega arith)).same s t rest more allowed other e in
    (ap (λ (n : ℕ). Some n) same.0, same.1)
certificate_once levels end no_digit None None rest more allowed other e = (refl, ap (drop 1) e)
certificate_once levels end no_digit (Some t) None rest more allowed other e = absurd (no_bracket end t rest more no_digit allowed e)
certificate_once levels end no_digit None (Some t) rest more allowed other e = absurd (no_bracket end t more rest no_digit other (sym e))

behind_clear : (piece : ℕ → Form Cert) (end : ℕ) (first : Option ℕ) → IsClear (piece space) → IsClear (piece bracket) → IsClear (certificate_behind piece end first)
unfolding IsClear
behind_clear piece end (Some t) h k = tt
behind_clear piece end None h k = (h, λ a b1 r1 h1. (h, λ b b2 r2 h2. (h, λ c b3 r3 h3. (k, λ d b4 r4 h4. (fixed_clear (end ∷ []), λ u b5 r5 h5. tt)))))

pub certificate_clear : (levels end : ℕ) → is_ascii_digit end ≡ false → IsClear (certificate levels end)
unfolding IsClear certificate
certificate_clear zero end no_digit = (record { same = certificate_once 0 end no_digit }, λ first b r h. behind_clear (λ e. done (certs.Leaf 0)) end first tt tt)
certificate_clear (suc levels) end no_digit = (record { same = certificate_once (suc levels) end no_digit }, λ first b r h. behind_clear (certificate levels) end first (certificate_clear levels space refl) (certificate_clear levels bracket refl))

-- ---- the other words
kept_apart : (b : Why) → apart (codes "kept\n") (why_text b) ≡ true
kept_apart whys.Box = refl
kept_apart b = refl

apart_kept : (b : Why) → apart (why_text b) (codes "kept\n") ≡ true
apart_kept whys.Box = refl
apart_kept b = refl

verdict_once : (x y : Verdict) (rest more : List ℕ) → verdict_text x ++ rest ≡ verdict_text y ++ more → (x ≡ y) × (rest ≡ more)
verdict_once verdicts.Kept verdicts.Kept rest more e = (refl, ap (drop 5) e)
verdict_once verdicts.Kept (verdicts.Refused b) rest more e = absurd (apart_differs (codes "kept\n") (why_text b) rest more (kept_apart b) e)
verdict_once (verdicts.Refused a) verdicts.Kept rest more e = absurd (apart_differs (why_text a) (codes "kept\n") rest more (apart_kept a) e)
verdict_once (verdicts.Refused a) (verdicts.Refused b) rest more e =
    let same = why_once a b rest more e in
    (ap (λ (w : Why). verdicts.Refused w) same.0, same.1)

end_once : (x y : End) (rest more : List ℕ) → end_text x ++ rest ≡ end_text y ++ more → (x ≡ y) × (rest ≡ more)
end_once ends.Settled ends.Settled rest more e = (refl, ap (drop 12) e)
end_once ends.Stopped ends.Stopped rest more e = (refl, ap (drop 12) e)
end_once x y rest more e = absurd (apart_differs (end_text x) (end_text y) rest more refl e)

try_once : (x y : TryKind) (rest more : List ℕ) → try_text x ++ rest ≡ try_text y ++ more → (x ≡ y) × (rest ≡ more)
try_once try_kinds.Split try_kinds.Split rest more e = (refl, ap (drop 6) e)
try_once try_kinds.Shift try_kinds.Shift rest more e = (refl, ap (drop 6) e)
try_once try_kinds.Collapse try_kinds.Collapse rest more e = (refl, ap (drop 9) e)
try_once try_kinds.FaceSwap try_kinds.FaceSwap rest more e = (refl, ap (drop 10) e)
try_once try_kinds.EdgeSwap try_kinds.EdgeSwap rest more e = (refl, ap (drop 10) e)
try_once x y rest more e = absurd (apart_differs (try_text x) (try_text y) rest more refl e)

outcome_once : (x y : OutcomeKind) (rest more : List ℕ) → outcome_text x ++ rest ≡ outcome_text y ++ more → (x ≡ y) × (rest ≡ more)
outcome_once outcome_kinds.Inserted outcome_kinds.Inserted rest more e = (refl, ap (drop 9) e)
outcome_once outcome_kinds.Degenerate outcome_kinds.Degenerate rest more e = (refl, ap (drop 23) e)
outcome_once outcome_kinds.Full outcome_kinds.Full rest more e = (refl, ap (drop 17) e)
outcome_once outcome_kinds.Inverted outcome_kinds.Inverted rest more e = (refl, ap (drop 21) e)
outcome_once outcome_kinds.Unresolved outcome_kinds.Unresolved rest more e = (refl, ap (drop 23) e)
outcome_once outcome_kinds.Stray outcome_kinds.Stray rest more e = (refl, ap (drop 18) e)
outcome_once outcome_kinds.Uncovered outcome_kinds.Uncovered rest more e = (refl, ap (drop 22) e)
outcome_once x y rest more e = absurd (apart_differs (outcome_text x) (outcome_text y) rest more refl e)

-- ---- tries
numbers_clear : (low high end : ℕ) → is_ascii_digit end ≡ false → high < 2 ^ 32 → IsClear (number end (Between low high))
unfolding IsClear
numbers_clear low high end no_digit small = word_clear end (Between low high) no_digit (λ n h. omega (arith, h.1))

pub names_clear : (name : List ℕ) (Allowed : ℕ → Type 0) → ((n : ℕ) → Allowed n → n < 2 ^ 32) → IsClear (named name Allowed)
unfolding IsClear
names_clear name Allowed small = (fixed_clear name, λ u b r h. word_clear feed Allowed refl small)

vertex_clear : (low : ℕ) → IsClear (vertex low)
unfolding IsClear vertex
vertex_clear low = (numbers_clear low most_points space refl (omega arith), λ n b r h. tt)

other_clear : (u : ℕ) → IsClear (other_vertex u)
unfolding IsClear other_vertex
other_clear u = (word_clear space (λ n. Between 1 most_points n × (n ≢ u + 1)) refl (λ n h. omega (arith, h.0.1)), λ n b r h. tt)

try_behind_clear : (kind : TryKind) → IsClear (try_behind kind)
unfolding IsClear
try_behind_clear try_kinds.Split = (vertex_clear 1, λ u b r h. (vertex_clear (u + 2), λ v b1 r1 h1. tt))
try_behind_clear try_kinds.Shift = (vertex_clear 1, λ u b r h. (numbers_clear 0 1 space refl (omega arith), λ v b1 r1 h1. tt))
try_behind_clear try_kinds.Collapse = (vertex_clear 1, λ u b r h. (other_clear u, λ v b1 r1 h1. tt))
try_behind_clear try_kinds.FaceSwap = (vertex_clear 1, λ a b r h. (vertex_clear (a + 2), λ v b1 r1 h1. (vertex_clear (v + 2), λ c b2 r2 h2. tt)))
try_behind_clear try_kinds.EdgeSwap = (vertex_clear 1, λ u b r h. (vertex_clear (u + 2), λ v b1 r1 h1. tt))

attempt_clear : IsClear attempt
unfolding IsClear attempt
attempt_clear = (record { same = λ x y rest more a o e. try_once x y rest more e }, λ kind b r h. try_behind_clear kind)

tries_clear : (before : List TryLine) → IsClear (more_tries before)
unfolding IsClear more_tries
tries_clear before = (attempt_clear, λ attempt b1 r1 h1. (record { same = λ x y rest more a o e. verdict_once x y rest more e }, λ verdict b2 r2 h2. tt))

pub journal_clear : (most : ℕ) → most < 2 ^ 32 → IsClear (journal most)
unfolding IsClear journal
journal_clear most small = (
  names_clear (codes "tries ") (Between 0 most) (λ n h. omega (arith, h.1)),
  λ j b r h. (
    repeat_clear more_tries (λ k ts. Unit {0}) (λ k ts t. tries_clear ts) (λ k ts us bs rs t h1. tt) j [] tt,
    λ lines b1 r1 h1.
        (record { same = λ x y rest more a o e. end_once x y rest more e }, λ end b2 r2 h2. tt),
  ),
)

-- ---- points
grid_clear : (side : ℕ) (s : ℤ) (end : ℕ) → is_ascii_digit end ≡ false → IsClear (grid_number side s end)
unfolding IsClear grid_number
grid_clear side s end no_digit = (record { same = λ y z rest more allowed other e. (coordinate_clear 0 end (2 * 10 ^ 9 + largest_side) no_digit (omega arith)).same y z rest more allowed.0 other.0 e }, λ z b r h. tt)

point_clear : (side : ℕ) (shift : List ℤ) (end : ℕ) → is_ascii_digit end ≡ false → IsClear (point side shift end)
unfolding IsClear point
point_clear side shift end no_digit = (grid_clear side _ space refl, λ x b r h. (grid_clear side _ space refl, λ y b1 r1 h1. (grid_clear side _ end no_digit, λ z b2 r2 h2. tt)))

three_clear : (side : ℕ) (shift : List ℤ) → IsClear (three_points side shift)
unfolding IsClear three_points
three_clear side shift = (point_clear side shift space refl, λ p b r h. (point_clear side shift space refl, λ q b1 r1 h1. (point_clear side shift feed refl, λ t b2 r2 h2. tt)))

four_clear : (side : ℕ) (shift : List ℤ) → IsClear (four_points side shift)
unfolding IsClear four_points
four_clear side shift = (point_clear side shift space refl, λ p b r h. (point_clear side shift space refl, λ q b1 r1 h1. (point_clear side shift space refl, λ t b2 r2 h2. (point_clear side shift feed refl, λ s b3 r3 h3. tt))))

-- ---- outcomes
outcome_behind_clear : (side : ℕ) (shift : List ℤ) (kind : OutcomeKind) → IsClear (outcome_behind side shift kind)
unfolding IsClear
outcome_behind_clear side shift outcome_kinds.Inserted = (numbers_clear 0 most_points feed refl (omega arith), λ n b r h. tt)
outcome_behind_clear side shift outcome_kinds.Degenerate = tt
outcome_behind_clear side shift outcome_kinds.Full = tt
outcome_behind_clear side shift outcome_kinds.Inverted = (four_clear side shift, λ ps b r h. tt)
outcome_behind_clear side shift outcome_kinds.Unresolved = (four_clear side shift, λ ps b r h. tt)
outcome_behind_clear side shift outcome_kinds.Stray = (three_clear side shift, λ ps b r h. tt)
outcome_behind_clear side shift outcome_kinds.Uncovered = (three_clear side shift, λ ps b r h. tt)

outcome_clear : (side : ℕ) (shift : List ℤ) → IsClear (outcome side shift)
unfolding IsClear outcome
outcome_clear side shift = (record { same = λ x y rest more a o e. outcome_once x y rest more e }, λ kind b r h. outcome_behind_clear side shift kind)

-- ---- faces
faces_clear : (before : List Covering) → IsClear (more_faces before)
unfolding IsClear more_faces
faces_clear before = (
  fixed_clear (codes "f "),
  λ u b r h. (
    numbers_clear 1 most_points space refl (omega arith),
    λ x b1 r1 h1. (
      numbers_clear (x + 1) most_points space refl (omega arith),
      λ y b2 r2 h2. (
        numbers_clear (y + 1) most_points space refl (omega arith),
        λ z b3 r3 h3.
            (certificate_clear 6 feed refl, λ cert b4 r4 h4. tt),
      ),
    ),
  ),
)

more_outcomes_clear : (side : ℕ) (shift : List ℤ) (n : ℕ) (before : List Outcome) → length before + suc n ≤ most_input → IsClear (more_outcomes side shift before)
unfolding IsClear more_outcomes
more_outcomes_clear side shift n before room = (fixed_clear (codes "t "), λ u b r h. (numbers_clear (length before) (length before) space refl (omega (arith, room)), λ i b1 r1 h1. (outcome_clear side shift, λ o b2 r2 h2. tt)))

pub outcomes_grow : (side : ℕ) (shift : List ℤ) (n : ℕ) (before after : List Outcome) (bytes rest : List ℕ) → length before + suc n ≤ most_input → Reads (more_outcomes side shift before) bytes after rest → length after + n ≤ most_input
unfolding Reads more_outcomes
outcomes_grow side shift n before after bytes rest room h = omega (arith, room, ap length h.3.3.3.0, length-append before (h.3.3.0 ∷ []))

more_again_clear : (triangles side : ℕ) (shift : List ℤ) (before : List Again) → triangles ≤ most_input → IsClear (more_again triangles side shift before)
unfolding IsClear more_again
more_again_clear triangles side shift before most =
    (fixed_clear (codes "t "), λ u b r h. (word_clear space (Between (least_next before) (triangles - 1)) refl (λ n k. omega (arith, k.1)), λ i b1 r1 h1. (outcome_clear side shift, λ o b2 r2 h2. tt)))

-- ---- the head
size_once : (x y : SizeKind) (rest more : List ℕ) → size_kind_text x ++ rest ≡ size_kind_text y ++ more → (x ≡ y) × (rest ≡ more)
size_once size_kinds.Digits size_kinds.Digits rest more e = (refl, ap (drop 7) e)
size_once size_kinds.Side size_kinds.Side rest more e = (refl, ap (drop 4) e)
size_once x y rest more e = absurd (apart_differs (size_kind_text x) (size_kind_text y) rest more refl e)

size_behind_clear : (kind : SizeKind) → IsClear (size_behind kind)
unfolding IsClear
size_behind_clear size_kinds.Digits = (numbers_clear 0 5 feed refl (omega arith), λ d b r h. (names_clear (codes "box ") IsSide (λ n k. omega (arith, k.0.1)), λ s b1 r1 h1. tt))
size_behind_clear size_kinds.Side = (word_clear feed IsSide refl (λ n k. omega (arith, k.0.1)), λ s b r h. tt)

size_clear : IsClear size
unfolding IsClear size
size_clear = (record { same = λ x y rest more a o e. size_once x y rest more e }, λ kind b r h. size_behind_clear kind)

shift_clear : (end : ℕ) → is_ascii_digit end ≡ false → IsClear (shift_number end)
unfolding IsClear
shift_clear end no_digit = coordinate_clear 0 end (2 * 10 ^ 9) no_digit (omega arith)

shift_line_clear : IsClear shift_line
unfolding IsClear shift_line
shift_line_clear = (fixed_clear (codes "shift "), λ v b r h. (shift_clear space refl, λ x b1 r1 h1. (shift_clear space refl, λ y b2 r2 h2. (shift_clear feed refl, λ z b3 r3 h3. tt))))

-- ---- the second part
part_once : (x y : PartKind) (rest more : List ℕ) → part_kind_text x ++ rest ≡ part_kind_text y ++ more → (x ≡ y) × (rest ≡ more)
part_once part_kinds.Second part_kinds.Second rest more e = (refl, ap (drop 7) e)
part_once part_kinds.Tracked part_kinds.Tracked rest more e = (refl, ap (drop 8) e)
part_once x y rest more e = absurd (apart_differs (part_kind_text x) (part_kind_text y) rest more refl e)

part_behind_clear : (triangles side : ℕ) (shift : List ℤ) (most : ℕ) (kind : PartKind) → triangles ≤ most_input → most < 2 ^ 32 → IsClear (part_behind triangles side shift most kind)
unfolding IsClear
part_behind_clear triangles side shift most part_kinds.Second fit low = (
  numbers_clear 1 triangles feed refl (omega arith),
  λ members b r h. (
    repeat_clear (more_again triangles side shift) (λ k a. Unit {0}) (λ k a t. more_again_clear triangles side shift a fit) (λ k a c bs rs t h. tt) members [] tt,
    λ again b1 r1 h1.
        (journal_clear most low, λ tries b2 r2 h2. (names_clear (codes "tracked ") (Between 0 (2 ^ 24)) (λ n k. omega (arith, k.1)), λ faces b3 r3 h3. tt)),
  ),
)
part_behind_clear triangles side shift most part_kinds.Tracked fit low = (numbers_clear 0 (2 ^ 24) feed refl (omega arith), λ faces b r h. tt)

second_clear : (triangles side : ℕ) (shift : List ℤ) (most : ℕ) → triangles ≤ most_input → most < 2 ^ 32 → IsClear (second_part triangles side shift most)
unfolding IsClear second_part
second_clear triangles side shift most fit low = (record { same = λ x y rest more a o e. part_once x y rest more e }, λ kind b r h. part_behind_clear triangles side shift most kind fit low)

-- ---- the whole text
pub named_is : (name : List ℕ) (Allowed : ℕ → Type 0) (n : ℕ) (bytes rest : List ℕ) → Reads (named name Allowed) bytes n rest → Allowed n
unfolding Reads
named_is name Allowed n bytes rest h = h.3.allowed

pub report_clear : IsClear report_rules
unfolding IsClear report_rules
report_clear = (
  fixed_clear (codes "tetsoup report 1\n"),
  λ u b1 r1 h1. (
    names_clear (codes "epsilon ") (Between 1 most_epsilon) (λ n k. omega (arith, k.1)),
    λ epsilon b2 r2 h2. (
      names_clear (codes "cells ") IsCells (λ n k. omega (arith, k.0.1)),
      λ cells b3 r3 h3. (
        names_clear (codes "budget ") (Between 0 1000000) (λ n k. omega (arith, k.1)),
        λ budget b4 r4 h4. (
          size_clear,
          λ box b5 r5 h5. (
            shift_line_clear,
            λ shift b6 r6 h6. (
              names_clear (codes "triangles ") (Between 0 most_input) (λ n k. omega (arith, k.1)),
              λ triangles b7 r7 h7.
                  let fit : triangles ≤ most_input = (named_is (codes "triangles ") (Between 0 most_input) triangles b7 r7 h7).1 in
                  let low : budget ≤ 1000000 = (named_is (codes "budget ") (Between 0 1000000) budget b4 r4 h4).1 in (
                    repeat_clear (more_outcomes box.1 shift) (λ k os. length os + k ≤ most_input) (λ k os room. more_outcomes_clear box.1 shift k os room) (λ k os after bs rs room h. outcomes_grow box.1 shift k os after bs rs room h) triangles [] (omega arith),
                    λ outcomes b8 r8 h8. (
                      journal_clear budget (omega arith),
                      λ tries b9 r9 h9. (
                        second_clear triangles box.1 shift (budget - length tries.journal.lines) fit (omega arith),
                        λ second b10 r10 h10.
                            (repeat_clear more_faces (λ k fs. Unit {0}) (λ k fs t. faces_clear fs) (λ k fs gs bs rs t h. tt) second.1 [] tt, λ faces b11 r11 h11. tt),
                      ),
                    ),
                  ),
            ),
          ),
        ),
      ),
    ),
  ),
)
