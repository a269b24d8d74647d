-- The files that a run wrote are read again, and found Good.
use Rattle.std.proofs.Common.{◌≡◌, ◌≢◌, ℕ, ◌≤◌, List, [], ◌∷◌, ◌++◌, length, Option, Some, None, unwrap_or, All, refl, sym, ap, ◌∙◌, subst, arith}
use Rattle.std.proofs.lemmas.List.Elements.{All-cons, All-head, All-tail}
use Rattle.mesh_io.specs.Folder.{Files}
use Rattle.soup.specs.declared.raw.Raw.{Raw}
use Rattle.soup.specs.declared.raw.Soup.{Soup}
use Rattle.soup.specs.Placement.{placed}
use Rattle.soup.specs.HeightField.{height_field}
use Rattle.soup.proofs.ForCallers.{height_field-IsRaw, height_field_extent}
use Rattle.off_text.specs.Text.{off_text}
use Rattle.off_text.proofs.ReadBack.{read_back}
use Rattle.msh_text.specs.declared.file_mesh.MshMesh.{MshMesh}
use Rattle.msh_text.specs.Rules.{MshRules}
use Rattle.msh_text.specs.Text.{msh_text, kept_text}
use Rattle.report_text.specs.declared.report.Report.{Report}
use Rattle.report_text.specs.Answers.{ReportRules}
use Rattle.report_text.specs.Text.{report_text}
use Rattle.tet_words.specs.Facts.{AreDifferent}
use Rattle.tet_words.specs.Words.{kept_names}
use Rattle.inputs.specs.Readings.{Gives, most_bytes, file, ◌>>=◌}
use Rattle.inputs.specs.Texts.{raw_of, soup_file}
use Rattle.inputs.proofs.ForCallers.{soup_fits}
use Rattle.checking.specs.Cases.{check_inputs}
use Rattle.outputs.specs.declared.request.Asked.{Asked}
use Rattle.outputs.specs.declared.request.Names.{Names}
use Rattle.outputs.specs.declared.output.OutFile.{OutFile}
use Rattle.outputs.specs.declared.output.Texts.{Texts}
use Rattle.outputs.specs.MeshFiles.{IsMade, file_of, report_of, kept_files, files_of, texts_of}
use Rattle.outputs.specs.Output.{AreWhole, Holds, IsOther}
use Rattle.acceptance.specs.InFolder.{check_of, IsShort, AreShort, IsFoundGood, AreAccepted, FoundGoodLaw}
use Rattle.acceptance.proofs.FieldTriples.{height_field-IsOfTriples}

-- ---- the files that were written
behind : (P : OutFile → Type 0) (first others : List OutFile) → All P (first ++ others) → All P others
behind P [] others h = h
behind P (f ∷ fs) others h = behind P fs others (All-tail P f (fs ++ others) h)

module _ (asked : Asked) (names : Names) (first : List OutFile) (soup : Soup) (texts : Texts) (made : IsMade asked names first soup texts) where
  abbrev made_file : MshMesh
  made_file = file_of asked soup made.made made.regions

  abbrev made_report : Report
  made_report = report_of asked soup made.made

  abbrev made_files : List OutFile
  made_files = first ++ files_of names made_file made_report

  abbrev mesh_out : OutFile
  mesh_out = record { name = names.mesh; text = msh_text made_file }

  abbrev report_out : OutFile
  report_out = record { name = names.report; text = report_text made_report }

  abbrev kept_out : List OutFile
  kept_out = kept_files names.kept made_file

  all_made : (P : OutFile → Type 0) → All P texts.files → All P made_files
  unfolding texts_of
  all_made P h = subst (λ (t : Texts). All P t.files) made.texts_are h

  all_texts : (P : OutFile → Type 0) → All P made_files → All P texts.files
  unfolding texts_of
  all_texts P h = subst (λ (t : Texts). All P t.files) (sym made.texts_are) h

  module _ (old new : Files) (whole : AreWhole texts.files old new) where
    each_made : All (Holds new) made_files
    each_made = all_made (Holds new) whole.each

    those_behind : All (Holds new) (files_of names made_file made_report)
    those_behind = behind (Holds new) first (files_of names made_file made_report) each_made

    mesh_there : new names.mesh ≡ Some (msh_text made_file)
    mesh_there = All-head (Holds new) mesh_out (report_out ∷ kept_out) those_behind

    report_there : new names.report ≡ Some (report_text made_report)
    report_there = All-head (Holds new) report_out kept_out (All-tail (Holds new) mesh_out (report_out ∷ kept_out) those_behind)

-- ---- the check reads them
read_case : (input : List ℕ) (asked : Asked) (names : Names) (files : Files) (soup : Soup) (mesh : MshMesh) (report : Report)
    → soup_file input asked.digits report.epsilon report.cells files (Gives soup)
    → files names.mesh ≡ Some (msh_text mesh) → MshRules (unwrap_or asked.digits 0) mesh → length (msh_text mesh) ≤ most_bytes
    → files names.report ≡ Some (report_text report) → ReportRules report → length (report_text report) ≤ most_bytes
    → check_inputs (check_of input asked names) files (Gives (record { soup = soup; mesh = mesh; report = report }))
unfolding ◌>>=◌
read_case input asked names files soup mesh report gives mesh_is mesh_rules mesh_short report_is report_rules report_short = (
  gives.0,
  gives.1,
  (
    mesh,
    (msh_text mesh, mesh_is, mesh_short, record { rules = mesh_rules; text = refl }),
    (
      report,
      (report_text report, report_is, report_short, record { rules = report_rules; text = refl }),
      (soup, gives.2, refl),
    ),
  ),
)

pub found_good : FoundGoodLaw
found_good asked names first soup texts made input old new accepted whole gives short =
    let mesh = made_file asked names first soup texts made in
    let report = made_report asked names first soup texts made in
    let mesh_is = mesh_there asked names first soup texts made old new whole in
    let report_is = report_there asked names first soup texts made old new whole in
    let behind_input = All-tail (IsShort new) input (names.mesh ∷ names.report ∷ []) short in
    record {
      case = record { soup = soup; mesh = mesh; report = report };
      given = read_case input asked names new soup mesh report gives
          mesh_is accepted.file_rules (All-head (IsShort new) names.mesh (names.report ∷ []) behind_input (msh_text mesh) mesh_is)
          report_is accepted.report_rules (All-head (IsShort new) names.report [] (All-tail (IsShort new) names.mesh (names.report ∷ []) behind_input) (report_text report) report_is);
      sound = accepted.sound;
      good = accepted.good;
    }

-- ---- beside an input that was there
same_soup : (input : List ℕ) (asked : Asked) (soup : Soup) (old new : Files) → new input ≡ old input → soup_file input asked.digits asked.epsilon asked.cells old (Gives soup) → soup_file input asked.digits asked.epsilon asked.cells new (Gives soup)
unfolding ◌>>=◌
same_soup input asked soup old new same gives =
    let bytes = gives.1 in
    (gives.0, (bytes.0, same ∙ bytes.1, bytes.2, bytes.3), gives.2)

other_kept : (input : List ℕ) (kept : Option (List ℕ)) (mesh : MshMesh) → All (λ n. input ≢ n) (kept_names kept) → IsOther (kept_files kept mesh) input
other_kept input (Some name) mesh h = All-cons (λ (f : OutFile). input ≢ f.name) (record { name = name; text = kept_text mesh }) [] (All-head (λ n. input ≢ n) name [] h) (λ k d lt. absurd (omega (arith, lt)))
other_kept input None mesh h = λ k d lt. absurd (omega (arith, lt))

other_files : (input : List ℕ) (names : Names) (mesh : MshMesh) (report : Report) → All (λ n. input ≢ n) (names.mesh ∷ names.report ∷ kept_names names.kept) → IsOther (files_of names mesh report) input
other_files input names mesh report h =
    let other = λ (f : OutFile). input ≢ f.name in
    let differs = λ (n : List ℕ). input ≢ n in
    let more = All-tail differs names.mesh (names.report ∷ kept_names names.kept) h in
    let mesh_file : OutFile = record { name = names.mesh; text = msh_text mesh } in
    let report_file : OutFile = record { name = names.report; text = report_text report } in
    let kept = kept_files names.kept mesh in
    All-cons other mesh_file (report_file ∷ kept) (All-head differs names.mesh (names.report ∷ kept_names names.kept) h)
    (All-cons other report_file kept (All-head differs names.report (kept_names names.kept) more)
    (other_kept input names.kept mesh (All-tail differs names.report (kept_names names.kept) more)))

pub found_good_beside : (asked : Asked) (names : Names) (soup : Soup) (texts : Texts) (made : IsMade asked names [] soup texts) (input : List ℕ) (old new : Files)
    → AreAccepted asked names [] soup texts made → AreWhole texts.files old new → AreDifferent (input ∷ names.mesh ∷ names.report ∷ kept_names names.kept)
    → soup_file input asked.digits asked.epsilon asked.cells old (Gives soup) → AreShort (check_of input asked names) new
    → IsFoundGood (check_of input asked names) new
found_good_beside asked names soup texts made input old new accepted whole different gives short =
    let other = other_files input names (made_file asked names [] soup texts made) (made_report asked names [] soup texts made) different.0 in
    let same = whole.others input (all_texts asked names [] soup texts made (λ (f : OutFile). input ≢ f.name) other) in
    found_good asked names [] soup texts made input old new accepted whole (same_soup input asked soup old new same gives) short

-- ---- beside the file of a height field
pub first_there : (asked : Asked) (names : Names) (file : OutFile) (soup : Soup) (texts : Texts) → IsMade asked names (file ∷ []) soup texts → (old new : Files) → AreWhole texts.files old new → new file.name ≡ Some file.text
first_there asked names file soup texts made old new whole =
    All-head (Holds new) file (files_of names (made_file asked names (file ∷ []) soup texts made) (made_report asked names (file ∷ []) soup texts made)) (each_made asked names (file ∷ []) soup texts made old new whole)

pub field_gives : (k seed : ℕ) (off : List ℕ) (files : Files) → k ≤ 64 → files off ≡ Some (off_text (height_field k seed)) → length (off_text (height_field k seed)) ≤ most_bytes
    → soup_file off None 2 4 files (Gives (placed (height_field k seed) 2 4))
unfolding ◌>>=◌
field_gives k seed off files few is short =
    let raw : Raw = height_field k seed in (
      raw,
      (off_text raw, is, short, ap raw_of (read_back raw (height_field-IsRaw k seed few) (height_field-IsOfTriples k seed))),
      soup_fits 2 4 raw (λ wide. absurd (omega (arith, wide, height_field_extent k seed few))),
    )
