-- What is read is the text of the report.
use Rattle.std.proofs.Common.{rules, ◌≡◌, ℕ, zero, suc, ◌+◌, ◌≤◌, List, [], ◌∷◌, ◌++◌, length, sym, ap, ◌∙◌, append_assoc, arith, Option, Some, None}
use Rattle.std.specs.Prelude.{codes, ℤ, pos, slice_index_or, ◌+ℤ◌}
use Rattle.std.specs.List.{enumerate_from, flat_map}
use Rattle.std.proofs.lemmas.List.{append-nil}
use Rattle.std.proofs.lemmas.Int.{ints}
use Rattle.grid.specs.declared.shapes.Point.{Point}
use Rattle.mesh_types.specs.declared.cert.Cert.{Cert, out-Cert, the_lemmas}
use Rattle.mesh_types.specs.declared.cert.Cert.TheOpen as open_cert
use Rattle.mesh_types.specs.declared.cert.Cert.TheVariants as certs
use Rattle.mesh_types.specs.declared.outcome.Outcome.{Outcome}
use Rattle.mesh_types.specs.declared.outcome.Again.{Again}
use Rattle.mesh_types.specs.declared.tries.Try.{Try}
use Rattle.mesh_types.specs.declared.tries.TryLine.{TryLine}
use Rattle.lines.specs.Forms.{Form, done, Reads}
use Rattle.lines.specs.Fields.{space, feed, word, decimal_word, units}
use Rattle.report_text.specs.declared.report.Covering.{Covering}
use Rattle.report_text.specs.declared.report.Second.{Second}
use Rattle.report_text.specs.declared.report.Report.{Report}
use Rattle.report_text.specs.declared.report.Tries.{Tries}
use Rattle.report_text.specs.declared.kinds.OutcomeKind.{OutcomeKind}
use Rattle.report_text.specs.declared.kinds.OutcomeKind.TheVariants as outcome_kinds
use Rattle.report_text.specs.declared.kinds.TryKind.{TryKind}
use Rattle.report_text.specs.declared.kinds.TryKind.TheVariants as try_kinds
use Rattle.report_text.specs.declared.kinds.SizeKind.{SizeKind}
use Rattle.report_text.specs.declared.kinds.SizeKind.TheVariants as size_kinds
use Rattle.report_text.specs.declared.kinds.PartKind.{PartKind}
use Rattle.report_text.specs.declared.kinds.PartKind.TheVariants as part_kinds
use Rattle.report_text.specs.Rules.{named, grid_number, vertex, other_vertex, attempt, size_kind_text, size_behind, part_kind_text, part_behind, CertificateAllowed, size, shift_line, point, three_points, four_points, outcome_text, outcome_behind, outcome, more_outcomes, more_again, try_text, try_behind, more_tries, verdict_text, end_text, journal, bracket, certificate_text, certificate_behind, certificate, more_faces, second_part, report_rules}
use Rattle.report_text.specs.Text.{named_line, point_text, points_text, words_of, triangle_line, again_line, vertex_text, attempt_text, try_line, journal_text, parts_text, top_text, cert_text, covering_line, size_text, shift_text, second_text, report_text}
use Rattle.lines.proofs.ForCallers.{joined_said, behind, OneMore, repeat_text, no_places}

named_says : (name : List ℕ) (Allowed : ℕ → Type 0) (bytes rest : List ℕ) (n : ℕ) → Reads (named name Allowed) bytes n rest → bytes ≡ named_line name n ++ rest
unfolding Reads
named_says name Allowed bytes rest n h = h.2.spells ∙ ap (λ bs. name ++ bs) h.3.spells ∙ sym (append_assoc name (word feed n) rest)

-- ---- points
grid_says : (side : ℕ) (s : ℤ) (end : ℕ) (bytes rest : List ℕ) (z : ℤ) → Reads (grid_number side s end) bytes z rest → bytes ≡ decimal_word 0 end (z +ℤ s) ++ rest
unfolding Reads grid_number
grid_says side s end bytes rest z h =
    let same : h.0 ≡ z +ℤ s = omega (arith, ints, h.3.0) in
    h.2.spells ∙ ap (λ bs. decimal_word 0 end h.0 ++ bs) h.3.1 ∙ ap (λ w. decimal_word 0 end w ++ rest) same

point_says : (side : ℕ) (shift : List ℤ) (end : ℕ) (bytes rest : List ℕ) (p : Point) → Reads (point side shift end) bytes p rest → bytes ≡ point_text shift end p ++ rest
unfolding Reads point
point_says side shift end bytes rest p h =
    let y = h.3 in
    let z = y.3 in
    grid_says side _ space bytes h.1 h.0 h.2 ∙ ap (λ bs. decimal_word 0 space (h.0 +ℤ slice_index_or shift 0 (pos 0)) ++ bs) (grid_says side _ space h.1 y.1 y.0 y.2 ∙ ap (λ bs. decimal_word 0 space (y.0 +ℤ slice_index_or shift 1 (pos 0)) ++ bs) (grid_says side _ end y.1 z.1 z.0 z.2 ∙ ap (λ bs. decimal_word 0 end (z.0 +ℤ slice_index_or shift 2 (pos 0)) ++ bs) z.3.1))
    ∙ joined_said (decimal_word 0 space (h.0 +ℤ slice_index_or shift 0 (pos 0)) ∷ decimal_word 0 space (y.0 +ℤ slice_index_or shift 1 (pos 0)) ∷ decimal_word 0 end (z.0 +ℤ slice_index_or shift 2 (pos 0)) ∷ []) rest
    ∙ ap (λ (r : Point). point_text shift end r ++ rest) z.3.0

three_says : (side : ℕ) (shift : List ℤ) (bytes rest : List ℕ) (ps : List Point) → Reads (three_points side shift) bytes ps rest → bytes ≡ points_text shift ps ++ rest
unfolding Reads three_points
three_says side shift bytes rest ps h =
    let q = h.3 in
    let r = q.3 in
    behind (point_text shift space h.0) bytes h.1 (point_text shift space q.0 ++ (point_text shift feed r.0 ++ rest)) (point_says side shift space bytes h.1 h.0 h.2)
    (behind (point_text shift space q.0) h.1 q.1 (point_text shift feed r.0 ++ rest) (point_says side shift space h.1 q.1 q.0 q.2)
    (behind (point_text shift feed r.0) q.1 r.1 rest (point_says side shift feed q.1 r.1 r.0 r.2) r.3.1))
    ∙ ap (λ bs. point_text shift space h.0 ++ bs) (sym (append_assoc (point_text shift space q.0) (point_text shift feed r.0) rest))
    ∙ sym (append_assoc (point_text shift space h.0) (point_text shift space q.0 ++ point_text shift feed r.0) rest)
    ∙ ap (λ (xs : List Point). points_text shift xs ++ rest) r.3.0

four_says : (side : ℕ) (shift : List ℤ) (bytes rest : List ℕ) (ps : List Point) → Reads (four_points side shift) bytes ps rest → bytes ≡ points_text shift ps ++ rest
unfolding Reads four_points
four_says side shift bytes rest ps h =
    let q = h.3 in
    let r = q.3 in
    let s = r.3 in
    behind (point_text shift space h.0) bytes h.1 (point_text shift space q.0 ++ (point_text shift space r.0 ++ (point_text shift feed s.0 ++ rest))) (point_says side shift space bytes h.1 h.0 h.2)
    (behind (point_text shift space q.0) h.1 q.1 (point_text shift space r.0 ++ (point_text shift feed s.0 ++ rest)) (point_says side shift space h.1 q.1 q.0 q.2)
    (behind (point_text shift space r.0) q.1 r.1 (point_text shift feed s.0 ++ rest) (point_says side shift space q.1 r.1 r.0 r.2)
    (behind (point_text shift feed s.0) r.1 s.1 rest (point_says side shift feed r.1 s.1 s.0 s.2) s.3.1)))
    ∙ ap (λ bs. point_text shift space h.0 ++ (point_text shift space q.0 ++ bs)) (sym (append_assoc (point_text shift space r.0) (point_text shift feed s.0) rest))
    ∙ ap (λ bs. point_text shift space h.0 ++ bs) (sym (append_assoc (point_text shift space q.0) (point_text shift space r.0 ++ point_text shift feed s.0) rest))
    ∙ sym (append_assoc (point_text shift space h.0) (point_text shift space q.0 ++ (point_text shift space r.0 ++ point_text shift feed s.0)) rest)
    ∙ ap (λ (xs : List Point). points_text shift xs ++ rest) s.3.0

-- ---- outcomes
outcome_kind_says : (side : ℕ) (shift : List ℤ) (kind : OutcomeKind) (bytes rest : List ℕ) (o : Outcome) → Reads (outcome_behind side shift kind) bytes o rest → outcome_text kind ++ bytes ≡ words_of shift o ++ rest
unfolding Reads
outcome_kind_says side shift outcome_kinds.Inserted bytes rest o h =
    ap (λ bs. codes "inserted " ++ bs) (h.2.spells ∙ ap (λ bs. word feed h.0 ++ bs) h.3.1) ∙ sym (append_assoc (codes "inserted ") (word feed h.0) rest) ∙ ap (λ (x : Outcome). words_of shift x ++ rest) h.3.0
outcome_kind_says side shift outcome_kinds.Degenerate bytes rest o h = ap (λ bs. codes "rolled-back degenerate\n" ++ bs) h.1 ∙ ap (λ (x : Outcome). words_of shift x ++ rest) h.0
outcome_kind_says side shift outcome_kinds.Full bytes rest o h = ap (λ bs. codes "rolled-back full\n" ++ bs) h.1 ∙ ap (λ (x : Outcome). words_of shift x ++ rest) h.0
outcome_kind_says side shift outcome_kinds.Inverted bytes rest o h =
    ap (λ bs. codes "rolled-back inverted " ++ bs) (four_says side shift bytes h.1 h.0 h.2 ∙ ap (λ bs. points_text shift h.0 ++ bs) h.3.1) ∙ sym (append_assoc (codes "rolled-back inverted ") (points_text shift h.0) rest) ∙ ap (λ (x : Outcome). words_of shift x ++ rest) h.3.0
outcome_kind_says side shift outcome_kinds.Unresolved bytes rest o h =
    ap (λ bs. codes "rolled-back unresolved " ++ bs) (four_says side shift bytes h.1 h.0 h.2 ∙ ap (λ bs. points_text shift h.0 ++ bs) h.3.1) ∙ sym (append_assoc (codes "rolled-back unresolved ") (points_text shift h.0) rest) ∙ ap (λ (x : Outcome). words_of shift x ++ rest) h.3.0
outcome_kind_says side shift outcome_kinds.Stray bytes rest o h =
    ap (λ bs. codes "rolled-back stray " ++ bs) (three_says side shift bytes h.1 h.0 h.2 ∙ ap (λ bs. points_text shift h.0 ++ bs) h.3.1) ∙ sym (append_assoc (codes "rolled-back stray ") (points_text shift h.0) rest) ∙ ap (λ (x : Outcome). words_of shift x ++ rest) h.3.0
outcome_kind_says side shift outcome_kinds.Uncovered bytes rest o h =
    ap (λ bs. codes "rolled-back uncovered " ++ bs) (three_says side shift bytes h.1 h.0 h.2 ∙ ap (λ bs. points_text shift h.0 ++ bs) h.3.1) ∙ sym (append_assoc (codes "rolled-back uncovered ") (points_text shift h.0) rest) ∙ ap (λ (x : Outcome). words_of shift x ++ rest) h.3.0

outcome_says : (side : ℕ) (shift : List ℤ) (bytes rest : List ℕ) (o : Outcome) → Reads (outcome side shift) bytes o rest → bytes ≡ words_of shift o ++ rest
unfolding Reads outcome
outcome_says side shift bytes rest o h = h.2.spells ∙ outcome_kind_says side shift h.0 h.1 rest o h.3

outcomes_say : (side : ℕ) (shift : List ℤ) (before after : List Outcome) (bytes rest : List ℕ) → Reads (more_outcomes side shift before) bytes after rest → OneMore (triangle_line shift) before after bytes rest
unfolding Reads more_outcomes
outcomes_say side shift before after bytes rest h =
    let i = h.3 in
    let o = i.3 in
    let place : i.0 ≡ length before = omega (arith, i.2.allowed.0, i.2.allowed.1) in
    record {
      one = o.0;
      is = sym o.3.0;
      text = h.2.spells ∙ ap (λ bs. codes "t " ++ bs) (i.2.spells ∙ ap (λ (n : ℕ). word space n ++ i.1) place ∙ ap (λ bs. word space (length before) ++ bs) (outcome_says side shift i.1 o.1 o.0 o.2 ∙ ap (λ bs. words_of shift o.0 ++ bs) o.3.1))
          ∙ joined_said (codes "t " ∷ word space (length before) ∷ words_of shift o.0 ∷ []) rest;
    }

again_says : (triangles side : ℕ) (shift : List ℤ) (before after : List Again) (bytes rest : List ℕ) → Reads (more_again triangles side shift before) bytes after rest → OneMore (λ e. again_line shift e.1) before after bytes rest
unfolding Reads more_again
again_says triangles side shift before after bytes rest h =
    let i = h.3 in
    let o = i.3 in
    record {
      one = record { triangle = i.0; outcome = o.0 };
      is = sym o.3.0;
      text = h.2.spells ∙ ap (λ bs. codes "t " ++ bs) (i.2.spells ∙ ap (λ bs. word space i.0 ++ bs) (outcome_says side shift i.1 o.1 o.0 o.2 ∙ ap (λ bs. words_of shift o.0 ++ bs) o.3.1))
          ∙ joined_said (codes "t " ∷ word space i.0 ∷ words_of shift o.0 ∷ []) rest;
    }

-- ---- tries
vertex_says : (low : ℕ) (bytes rest : List ℕ) (u : ℕ) → Reads (vertex low) bytes u rest → 1 ≤ low → bytes ≡ vertex_text u ++ rest
unfolding Reads vertex
vertex_says low bytes rest u h positive =
    let same : h.0 ≡ u + 1 = omega (arith, h.2.allowed.0, h.3.0) in
    h.2.spells ∙ ap (λ bs. word space h.0 ++ bs) h.3.1 ∙ ap (λ (n : ℕ). word space n ++ rest) same

other_says : (u : ℕ) (bytes rest : List ℕ) (v : ℕ) → Reads (other_vertex u) bytes v rest → bytes ≡ vertex_text v ++ rest
unfolding Reads other_vertex
other_says u bytes rest v h =
    let same : h.0 ≡ v + 1 = omega (arith, h.2.allowed.0.0, h.3.0) in
    h.2.spells ∙ ap (λ bs. word space h.0 ++ bs) h.3.1 ∙ ap (λ (n : ℕ). word space n ++ rest) same

try_kind_says : (kind : TryKind) (bytes rest : List ℕ) (t : Try) → Reads (try_behind kind) bytes t rest → try_text kind ++ bytes ≡ attempt_text t ++ rest
unfolding Reads
try_kind_says try_kinds.Split bytes rest t h =
    let v = h.3 in
    ap (λ bs. codes "split " ++ bs) (vertex_says _ bytes h.1 h.0 h.2 (omega arith) ∙ ap (λ bs. vertex_text h.0 ++ bs) (vertex_says _ h.1 v.1 v.0 v.2 (omega arith) ∙ ap (λ bs. vertex_text v.0 ++ bs) v.3.1)) ∙ joined_said (codes "split " ∷ vertex_text h.0 ∷ vertex_text v.0 ∷ []) rest ∙ ap (λ (x : Try). attempt_text x ++ rest) v.3.0
try_kind_says try_kinds.Shift bytes rest t h =
    let v = h.3 in
    ap (λ bs. codes "shift " ++ bs) (vertex_says _ bytes h.1 h.0 h.2 (omega arith) ∙ ap (λ bs. vertex_text h.0 ++ bs) (v.2.spells ∙ ap (λ bs. word space v.0 ++ bs) v.3.1)) ∙ joined_said (codes "shift " ∷ vertex_text h.0 ∷ word space v.0 ∷ []) rest ∙ ap (λ (x : Try). attempt_text x ++ rest) v.3.0
try_kind_says try_kinds.Collapse bytes rest t h =
    let v = h.3 in
    ap (λ bs. codes "collapse " ++ bs) (vertex_says _ bytes h.1 h.0 h.2 (omega arith) ∙ ap (λ bs. vertex_text h.0 ++ bs) (other_says h.0 h.1 v.1 v.0 v.2 ∙ ap (λ bs. vertex_text v.0 ++ bs) v.3.1)) ∙ joined_said (codes "collapse " ∷ vertex_text h.0 ∷ vertex_text v.0 ∷ []) rest ∙ ap (λ (x : Try). attempt_text x ++ rest) v.3.0
try_kind_says try_kinds.FaceSwap bytes rest t h =
    let v = h.3 in
    let w = v.3 in
    ap (λ bs. codes "face-swap " ++ bs) (vertex_says _ bytes h.1 h.0 h.2 (omega arith) ∙ ap (λ bs. vertex_text h.0 ++ bs) (vertex_says _ h.1 v.1 v.0 v.2 (omega arith) ∙ ap (λ bs. vertex_text v.0 ++ bs) (vertex_says _ v.1 w.1 w.0 w.2 (omega arith) ∙ ap (λ bs. vertex_text w.0 ++ bs) w.3.1))) ∙ joined_said (codes "face-swap " ∷ vertex_text h.0 ∷ vertex_text v.0 ∷ vertex_text w.0 ∷ []) rest ∙ ap (λ (x : Try). attempt_text x ++ rest) w.3.0
try_kind_says try_kinds.EdgeSwap bytes rest t h =
    let v = h.3 in
    ap (λ bs. codes "edge-swap " ++ bs) (vertex_says _ bytes h.1 h.0 h.2 (omega arith) ∙ ap (λ bs. vertex_text h.0 ++ bs) (vertex_says _ h.1 v.1 v.0 v.2 (omega arith) ∙ ap (λ bs. vertex_text v.0 ++ bs) v.3.1)) ∙ joined_said (codes "edge-swap " ∷ vertex_text h.0 ∷ vertex_text v.0 ∷ []) rest ∙ ap (λ (x : Try). attempt_text x ++ rest) v.3.0

attempt_says : (bytes rest : List ℕ) (t : Try) → Reads attempt bytes t rest → bytes ≡ attempt_text t ++ rest
unfolding Reads attempt
attempt_says bytes rest t h = h.2.spells ∙ try_kind_says h.0 h.1 rest t h.3

tries_say : (before after : List TryLine) (bytes rest : List ℕ) → Reads (more_tries before) bytes after rest → OneMore (λ e. try_line e.1) before after bytes rest
unfolding Reads more_tries
tries_say before after bytes rest h =
    let v = h.3 in
    record {
      one = record { attempt = h.0; verdict = v.0 };
      is = sym v.3.0;
      text = attempt_says bytes h.1 h.0 h.2 ∙ ap (λ bs. attempt_text h.0 ++ bs) (v.2.spells ∙ ap (λ bs. verdict_text v.0 ++ bs) v.3.1) ∙ sym (append_assoc (attempt_text h.0) (verdict_text v.0) rest);
    }

journal_says : (most : ℕ) (bytes rest : List ℕ) (t : Tries) → Reads (journal most) bytes t rest → bytes ≡ journal_text t.journal.lines t.end ++ rest
unfolding Reads journal
journal_says most bytes rest t h =
    let lines = h.3 in
    let end = lines.3 in
    let r = repeat_text more_tries (λ e. try_line e.1) tries_say h.0 [] lines.0 h.1 lines.1 lines.2 in
    let all : r.new ≡ lines.0 = sym r.are in
    named_says (codes "tries ") _ bytes h.1 h.0 h.2 ∙ ap (λ (n : ℕ). named_line (codes "tries ") n ++ h.1) (sym r.count ∙ ap length all)
    ∙ ap (λ bs. named_line (codes "tries ") (length lines.0) ++ bs) (r.text ∙ ap (λ bs. bs ++ lines.1) (no_places try_line 0 r.new ∙ ap (flat_map try_line) all) ∙ ap (λ bs. flat_map try_line lines.0 ++ bs) (end.2.spells ∙ ap (λ bs. end_text end.0 ++ bs) end.3.1))
    ∙ joined_said (named_line (codes "tries ") (length lines.0) ∷ flat_map try_line lines.0 ∷ end_text end.0 ∷ []) rest
    ∙ ap (λ (x : Tries). journal_text x.journal.lines x.end ++ rest) end.3.0

-- ---- certificates
pub out-Leaf : (t : ℕ) → out-Cert (certs.Leaf t) ≡ open_cert.Leaf t
out-Leaf t = search (rules, the_lemmas)

pub out-Split : (parts : List Cert) → out-Cert (certs.Split parts) ≡ open_cert.Split parts
out-Split parts = search (rules, the_lemmas)

behind_says : (piece : ℕ → Form Cert) (part : ℕ → Cert → List ℕ) → ((end : ℕ) (bytes rest : List ℕ) (c : Cert) → Reads (piece end) bytes c rest → bytes ≡ part end c ++ rest)
    → (end : ℕ) (first : Option ℕ) (bytes rest : List ℕ) (c : Cert) → Reads (certificate_behind piece end first) bytes c rest → certificate_text end first ++ bytes ≡ top_text part end (out-Cert c) ++ rest
unfolding Reads
behind_says piece part says end (Some t) bytes rest c h = ap (λ bs. word end t ++ bs) h.1 ∙ ap (λ x. top_text part end x ++ rest) (sym (out-Leaf t) ∙ ap out-Cert h.0)
behind_says piece part says end None bytes rest c h =
    let b = h.3 in
    let m = b.3 in
    let d = m.3 in
    let e = d.3 in
    let parts : List Cert = h.0 ∷ b.0 ∷ m.0 ∷ d.0 ∷ [] in
    ap (λ bs. codes "(" ++ bs) (
    says space bytes h.1 h.0 h.2 ∙ ap (λ bs. part space h.0 ++ bs) (
    says space h.1 b.1 b.0 b.2 ∙ ap (λ bs. part space b.0 ++ bs) (
    says space b.1 m.1 m.0 m.2 ∙ ap (λ bs. part space m.0 ++ bs) (says bracket m.1 d.1 d.0 d.2 ∙ ap (λ bs. part bracket d.0 ++ bs) (e.2.spells ∙ ap (λ bs. (end ∷ []) ++ bs) e.3.1))
    )
    )
    ∙ ap (λ bs. part space h.0 ++ (part space b.0 ++ bs)) (sym (append_assoc (part space m.0) (part bracket d.0) (end ∷ rest)))
    ∙ ap (λ bs. part space h.0 ++ bs) (sym (append_assoc (part space b.0) (part space m.0 ++ part bracket d.0) (end ∷ rest)))
    ∙ sym (append_assoc (part space h.0) (part space b.0 ++ (part space m.0 ++ part bracket d.0)) (end ∷ rest))
    )
    ∙ joined_said (codes "(" ∷ parts_text part parts ∷ (end ∷ []) ∷ []) rest
    ∙ ap (λ x. top_text part end x ++ rest) (sym (out-Split parts) ∙ ap out-Cert e.3.0)

cert_says : (levels end : ℕ) (bytes rest : List ℕ) (c : Cert) → Reads (certificate levels end) bytes c rest → bytes ≡ cert_text levels end c ++ rest
unfolding Reads certificate cert_text
cert_says zero end bytes rest c h = bottom h.0 h.1 h.2.allowed h.2.spells h.3
  where
    bottom : (first : Option ℕ) (after : List ℕ) → CertificateAllowed 0 first → bytes ≡ certificate_text end first ++ after → Reads (certificate_behind (λ e. done (certs.Leaf 0)) end first) after c rest → bytes ≡ top_text (λ e d. []) end (out-Cert c) ++ rest
    bottom (Some t) after allowed spells k = spells ∙ ap (λ bs. word end t ++ bs) k.1 ∙ ap (λ x. top_text (λ e d. []) end x ++ rest) (sym (out-Leaf t) ∙ ap out-Cert k.0)
    bottom None after allowed spells k = absurd (omega (arith, allowed))
cert_says (suc levels) end bytes rest c h = h.2.spells ∙ behind_says (certificate levels) (cert_text levels) (λ e bs more d k. cert_says levels e bs more d k) end h.0 h.1 rest c h.3

-- ---- faces
faces_say : (before after : List Covering) (bytes rest : List ℕ) → Reads (more_faces before) bytes after rest → OneMore (λ e. covering_line e.1) before after bytes rest
unfolding Reads more_faces
faces_say before after bytes rest h =
    let a = h.3 in
    let b = a.3 in
    let c = b.3 in
    let d = c.3 in
    record {
      one = record { face = record { 0 = a.0 ∷ b.0 ∷ c.0 ∷ [] }; cert = d.0 };
      is = sym d.3.0;
      text = h.2.spells ∙ ap (λ bs. codes "f " ++ bs) (
          a.2.spells ∙ ap (λ bs. word space a.0 ++ bs) (b.2.spells ∙ ap (λ bs. word space b.0 ++ bs) (c.2.spells ∙ ap (λ bs. word space c.0 ++ bs) (cert_says 6 feed c.1 d.1 d.0 d.2 ∙ ap (λ bs. cert_text 6 feed d.0 ++ bs) d.3.1)))
          ∙ joined_said (word space a.0 ∷ word space b.0 ∷ word space c.0 ∷ []) (cert_text 6 feed d.0 ++ rest)
          )
          ∙ joined_said (codes "f " ∷ (word space a.0 ++ (word space b.0 ++ (word space c.0 ++ []))) ∷ cert_text 6 feed d.0 ∷ []) rest;
    }

-- ---- the head and the second part
plain : (end n : ℕ) → word end n ≡ decimal_word 0 end (pos n)
unfolding units
plain end n = search (rules, append-nil)

size_behind_says : (kind : SizeKind) (bytes rest : List ℕ) (box : Option ℕ × ℕ) → Reads (size_behind kind) bytes box rest → size_kind_text kind ++ bytes ≡ size_text box.0 (pos box.1) ++ rest
unfolding Reads
size_behind_says size_kinds.Side bytes rest box h =
    ap (λ bs. codes "box " ++ bs) (h.2.spells ∙ ap (λ bs. bs ++ h.1) (plain feed h.0) ∙ ap (λ bs. decimal_word 0 feed (pos h.0) ++ bs) h.3.1) ∙ sym (append_assoc (codes "box ") (decimal_word 0 feed (pos h.0)) rest) ∙ ap (λ (x : Option ℕ × ℕ). size_text x.0 (pos x.1) ++ rest) h.3.0
size_behind_says size_kinds.Digits bytes rest box h =
    let b = h.3 in
    ap (λ bs. codes "digits " ++ bs) h.2.spells ∙ sym (append_assoc (codes "digits ") (word feed h.0) h.1)
    ∙ ap (λ bs. named_line (codes "digits ") h.0 ++ bs) (named_says (codes "box ") _ h.1 b.1 b.0 b.2 ∙ append_assoc (codes "box ") (word feed b.0) b.1 ∙ ap (λ bs. codes "box " ++ bs) (ap (λ bs. bs ++ b.1) (plain feed b.0) ∙ ap (λ bs. decimal_word 0 feed (pos b.0) ++ bs) b.3.1))
    ∙ joined_said (named_line (codes "digits ") h.0 ∷ codes "box " ∷ decimal_word 0 feed (pos b.0) ∷ []) rest
    ∙ ap (λ (x : Option ℕ × ℕ). size_text x.0 (pos x.1) ++ rest) b.3.0

size_says : (bytes rest : List ℕ) (box : Option ℕ × ℕ) → Reads size bytes box rest → bytes ≡ size_text box.0 (pos box.1) ++ rest
unfolding Reads size
size_says bytes rest box h = h.2.spells ∙ size_behind_says h.0 h.1 rest box h.3

shift_says : (bytes rest : List ℕ) (shift : List ℤ) → Reads shift_line bytes shift rest → bytes ≡ shift_text shift ++ rest
unfolding Reads shift_line
shift_says bytes rest shift h =
    let x = h.3 in
    let y = x.3 in
    let z = y.3 in
    h.2.spells ∙ ap (λ bs. codes "shift " ++ bs) (x.2.spells ∙ ap (λ bs. decimal_word 0 space x.0 ++ bs) (y.2.spells ∙ ap (λ bs. decimal_word 0 space y.0 ++ bs) (z.2.spells ∙ ap (λ bs. decimal_word 0 feed z.0 ++ bs) z.3.1)))
    ∙ joined_said (codes "shift " ∷ decimal_word 0 space x.0 ∷ decimal_word 0 space y.0 ∷ decimal_word 0 feed z.0 ∷ []) rest
    ∙ ap (λ (s : List ℤ). shift_text s ++ rest) z.3.0

part_says : (triangles side : ℕ) (shift : List ℤ) (most : ℕ) (kind : PartKind) (bytes rest : List ℕ) (s : Option Second × ℕ) → Reads (part_behind triangles side shift most kind) bytes s rest → part_kind_text kind ++ bytes ≡ second_text shift s.0 ++ (named_line (codes "tracked ") s.1 ++ rest)
unfolding Reads
part_says triangles side shift most part_kinds.Tracked bytes rest s h =
    ap (λ bs. codes "tracked " ++ bs) (h.2.spells ∙ ap (λ bs. word feed h.0 ++ bs) h.3.1) ∙ sym (append_assoc (codes "tracked ") (word feed h.0) rest) ∙ ap (λ (x : Option Second × ℕ). second_text shift x.0 ++ (named_line (codes "tracked ") x.1 ++ rest)) h.3.0
part_says triangles side shift most part_kinds.Second bytes rest s h =
    let a = h.3 in
    let t = a.3 in
    let f = t.3 in
    let r = repeat_text (more_again triangles side shift) (λ e. again_line shift e.1) (again_says triangles side shift) h.0 [] a.0 h.1 a.1 a.2 in
    let all : r.new ≡ a.0 = sym r.are in
    ap (λ bs. codes "second " ++ bs) h.2.spells ∙ sym (append_assoc (codes "second ") (word feed h.0) h.1)
    ∙ ap (λ (n : ℕ). named_line (codes "second ") n ++ h.1) (sym r.count ∙ ap length all)
    ∙ ap (λ bs. named_line (codes "second ") (length a.0) ++ bs) (
    r.text ∙ ap (λ bs. bs ++ a.1) (no_places (again_line shift) 0 r.new ∙ ap (flat_map (again_line shift)) all)
    ∙ ap (λ bs. flat_map (again_line shift) a.0 ++ bs) (journal_says most a.1 t.1 t.0 t.2 ∙ ap (λ bs. journal_text t.0.journal.lines t.0.end ++ bs) (named_says (codes "tracked ") _ t.1 f.1 f.0 f.2 ∙ ap (λ bs. named_line (codes "tracked ") f.0 ++ bs) f.3.1))
    )
    ∙ joined_said (named_line (codes "second ") (length a.0) ∷ flat_map (again_line shift) a.0 ∷ journal_text t.0.journal.lines t.0.end ∷ []) (named_line (codes "tracked ") f.0 ++ rest)
    ∙ ap (λ (x : Option Second × ℕ). second_text shift x.0 ++ (named_line (codes "tracked ") x.1 ++ rest)) f.3.0

second_says : (triangles side : ℕ) (shift : List ℤ) (most : ℕ) (bytes rest : List ℕ) (s : Option Second × ℕ) → Reads (second_part triangles side shift most) bytes s rest → bytes ≡ second_text shift s.0 ++ (named_line (codes "tracked ") s.1 ++ rest)
unfolding Reads second_part
second_says triangles side shift most bytes rest s h = h.2.spells ∙ part_says triangles side shift most h.0 h.1 rest s h.3

-- ---- the whole text
pub whole_text : (bytes rest : List ℕ) (r : Report) → Reads report_rules bytes r rest → bytes ≡ report_text r ++ rest
unfolding Reads report_rules report_text
whole_text bytes rest r h =
    let epsilon = h.3 in
    let cells = epsilon.3 in
    let budget = cells.3 in
    let box = budget.3 in
    let shift = box.3 in
    let triangles = shift.3 in
    let outcomes = triangles.3 in
    let tries = outcomes.3 in
    let second = tries.3 in
    let faces = second.3 in
    let o = repeat_text (more_outcomes box.0.1 shift.0) (triangle_line shift.0) (outcomes_say box.0.1 shift.0) triangles.0 [] outcomes.0 triangles.1 outcomes.1 outcomes.2 in
    let all_o : o.new ≡ outcomes.0 = sym o.are in
    let f = repeat_text more_faces (λ e. covering_line e.1) faces_say second.0.1 [] faces.0 second.1 faces.1 faces.2 in
    let all_f : f.new ≡ faces.0 = sym f.are in
    h.2.spells ∙ ap (λ bs. codes "tetsoup report 1\n" ++ bs) (
    named_says (codes "epsilon ") _ h.1 epsilon.1 epsilon.0 epsilon.2 ∙ ap (λ bs. named_line (codes "epsilon ") epsilon.0 ++ bs) (
    named_says (codes "cells ") _ epsilon.1 cells.1 cells.0 cells.2 ∙ ap (λ bs. named_line (codes "cells ") cells.0 ++ bs) (
    named_says (codes "budget ") _ cells.1 budget.1 budget.0 budget.2 ∙ ap (λ bs. named_line (codes "budget ") budget.0 ++ bs) (
    size_says budget.1 box.1 box.0 box.2 ∙ ap (λ bs. size_text box.0.0 (pos box.0.1) ++ bs) (
    shift_says box.1 shift.1 shift.0 shift.2 ∙ ap (λ bs. shift_text shift.0 ++ bs) (
    named_says (codes "triangles ") _ shift.1 triangles.1 triangles.0 triangles.2 ∙ ap (λ (n : ℕ). named_line (codes "triangles ") n ++ triangles.1) (sym o.count ∙ ap length all_o) ∙ ap (λ bs. named_line (codes "triangles ") (length outcomes.0) ++ bs) (
    o.text ∙ ap (λ (os : List Outcome). flat_map (triangle_line shift.0) (enumerate_from 0 os) ++ outcomes.1) all_o ∙ ap (λ bs. flat_map (triangle_line shift.0) (enumerate_from 0 outcomes.0) ++ bs) (
    journal_says budget.0 outcomes.1 tries.1 tries.0 tries.2 ∙ ap (λ bs. journal_text tries.0.journal.lines tries.0.end ++ bs) (
    second_says triangles.0 box.0.1 shift.0 _ tries.1 second.1 second.0 second.2 ∙ ap (λ bs. second_text shift.0 second.0.0 ++ bs) (
    ap (λ (n : ℕ). named_line (codes "tracked ") n ++ second.1) (sym f.count ∙ ap length all_f) ∙ ap (λ bs. named_line (codes "tracked ") (length faces.0) ++ bs) (
    f.text ∙ ap (λ bs. bs ++ faces.1) (no_places covering_line 0 f.new ∙ ap (flat_map covering_line) all_f) ∙ ap (λ bs. flat_map covering_line faces.0 ++ bs) faces.3.1
    )
    )
    )
    )
    )
    )
    )
    )
    )
    )
    )
    ∙ joined_said (
    codes "tetsoup report 1\n" ∷ named_line (codes "epsilon ") epsilon.0 ∷ named_line (codes "cells ") cells.0 ∷ named_line (codes "budget ") budget.0
    ∷ size_text box.0.0 (pos box.0.1) ∷ shift_text shift.0
    ∷ named_line (codes "triangles ") (length outcomes.0) ∷ flat_map (triangle_line shift.0) (enumerate_from 0 outcomes.0)
    ∷ journal_text tries.0.journal.lines tries.0.end ∷ second_text shift.0 second.0.0
    ∷ named_line (codes "tracked ") (length faces.0) ∷ flat_map covering_line faces.0 ∷ []
    ) rest
    ∙ ap (λ (x : Report). report_text x ++ rest) faces.3.0
