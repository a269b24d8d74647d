-- The texts that are made of an accepted input.
use Rattle.std.proofs.Common.{◌≡◌, ◌≢◌, Option, Some, None, unwrap_or, IfSome, ℕ, ◌<◌, ◌≤◌, ℤ, List, [], ◌∷◌, ◌++◌, length, map, All, Bool, refl, sym, ap, subst, ◌∙◌, append_assoc, arith}
use Rattle.std.specs.List.{AllByRecursion as Each}
use Rattle.std.proofs.lemmas.List.Elements.{All-cons, All-head, All-tail, All-from_recursion, recursion_from_All}
use Rattle.std.proofs.lemmas.List.Kept.{AllPairs-cons}
use Rattle.std.proofs.lemmas.List.{length-map, map-append}
use Rattle.grid.specs.declared.shapes.Tet.{Tet}
use Rattle.grid.specs.Meshes.{Mesh, IsTriple, IsWellFormed, IsWithinLimits}
use Rattle.grid.specs.Simplices.{IsTet}
use Rattle.grid.specs.Limits.{most_made}
use Rattle.mesh_types.specs.Views.{mesh_of}
use Rattle.mesh_types.specs.declared.lists.Lists.{Lists}
use Rattle.mesher.specs.declared.mesh.Meshed.{Meshed}
use Rattle.soup.specs.declared.raw.Soup.{Soup}
use Rattle.msh_text.specs.declared.file_mesh.MshMesh.{MshMesh}
use Rattle.msh_text.specs.FileMesh.{AreInRange, msh_of}
use Rattle.outputs.specs.declared.output.Texts.{Texts}
use Rattle.outputs.specs.declared.request.Asked.{Asked}
use Rattle.outputs.specs.declared.request.Names.{Names}
use Rattle.outputs.specs.MeshFiles.{file_of, files_of, kept_files, report_of, texts_of, IsAsked, IsMade}
use Rattle.tet_words.specs.Facts.{AreDifferent}
use Rattle.tet_words.specs.Words.{kept_names}
use Rattle.outputs.specs.Output.{NamesDiffer}
use Rattle.outputs.specs.declared.output.OutFile.{OutFile}
use Rattle.outputs.specs.Summary.{summary_line, mesh_counts, outcome_counts, try_counts}

-- the texts are those of the mesh
pub texts_are : (asked : Asked) (names : Names) (first : List OutFile) (soup : Soup) (made : Meshed) (regions : List Bool) (texts : Texts)
    → texts.files ≡ first ++ files_of names (file_of asked soup made regions) (report_of asked soup made)
    → texts.line ≡ summary_line (file_of asked soup made regions) made
    → texts ≡ texts_of asked names first soup made regions
unfolding texts_of
texts_are asked names first soup made regions texts files line = λ i. record { files = files i; line = line i }

-- two files and more behind others
pub two_files : (before : List OutFile) (first second : OutFile) (more one both all : List OutFile) → one ≡ before ++ first ∷ [] → both ≡ one ++ second ∷ [] → all ≡ both ++ more → all ≡ before ++ first ∷ second ∷ more
two_files before first second more one both all push then_push at_last =
    at_last
    ∙ (ap (λ fs. fs ++ more) (then_push ∙ ap (λ fs. fs ++ second ∷ []) push ∙ append_assoc before (first ∷ []) (second ∷ []))
    ∙ append_assoc before (first ∷ second ∷ []) more)

-- a file by its name and its text
pub file_is : (file : OutFile) (name text wanted : List ℕ) → file ≡ record { name = name; text = text } → text ≡ wanted → file ≡ record { name = name; text = wanted }
file_is file name text wanted is same = is ∙ λ i. record { name = name; text = same i }

-- ---- the names of the files
named : (name : List ℕ) (fs : List OutFile) → All (λ n. name ≢ n) (map (λ (f : OutFile). f.name) fs) → All (λ (f : OutFile). name ≢ f.name) fs
named name [] h = λ k d lt. absurd (omega (arith, lt))
named name (f ∷ fs) h =
    All-cons (λ (g : OutFile). name ≢ g.name) f fs
    (All-head (λ n. name ≢ n) f.name (map (λ (g : OutFile). g.name) fs) h)
    (named name fs (All-tail (λ n. name ≢ n) f.name (map (λ (g : OutFile). g.name) fs) h))

differ : (fs : List OutFile) → AreDifferent (map (λ (f : OutFile). f.name) fs) → NamesDiffer fs
differ [] h = λ i j d less lt. absurd (omega (arith, lt))
differ (f ∷ fs) h = AllPairs-cons (λ (g k : OutFile). g.name ≢ k.name) f fs (named f.name fs h.0) (differ fs h.1)

kept_same : (kept : Option (List ℕ)) (file : MshMesh) → map (λ (f : OutFile). f.name) (kept_files kept file) ≡ kept_names kept
kept_same (Some name) file = refl
kept_same None file = refl

names_append : (fs gs : List OutFile) → map (λ (f : OutFile). f.name) (fs ++ gs) ≡ map (λ (f : OutFile). f.name) fs ++ map (λ (f : OutFile). f.name) gs
names_append fs gs = map-append (λ (f : OutFile). f.name) fs gs

-- the files have the names that were given
pub names_differ : (asked : Asked) (names : Names) (first : List OutFile) (soup : Soup) (texts : Texts)
    → AreDifferent (map (λ (f : OutFile). f.name) first ++ names.mesh ∷ names.report ∷ kept_names names.kept)
    → IsMade asked names first soup texts → NamesDiffer texts.files
unfolding texts_of
names_differ asked names first soup texts different made =
    let file = file_of asked soup made.made made.regions in
    let files = files_of names file (report_of asked soup made.made) in
    subst (λ (t : Texts). NamesDiffer t.files) (sym made.texts_are)
    (differ (first ++ files)
    (subst AreDifferent (sym (names_append first files))
    (subst (λ ns. AreDifferent (map (λ (f : OutFile). f.name) first ++ names.mesh ∷ names.report ∷ ns)) (sym (kept_same names.kept file)) different)))

-- the report without the side's other name
pub report_is : (asked : Asked) (soup : Soup) (made : Meshed) (side : ℤ) → side ≡ soup.side → record (report_of asked soup made) { side = side } ≡ report_of asked soup made
report_is asked soup made side same = λ i. record (report_of asked soup made) { side = same i }

-- ---- the summary
-- four pieces, one behind the other
pub four_pieces : (out a b d e f g h k : List ℕ) → f ≡ out ++ a → g ≡ f ++ b → h ≡ g ++ d → k ≡ h ++ e → k ≡ out ++ (a ++ b ++ d ++ e)
four_pieces out a b d e f g h k first second third fourth =
    fourth
    ∙ (ap (λ t. t ++ e) (third ∙ ap (λ t. t ++ d) (second ∙ (ap (λ t. t ++ b) first ∙ append_assoc out a b)) ∙ append_assoc out (a ++ b) d)
    ∙ append_assoc out (a ++ b ++ d) e)

pub line_is : (file : MshMesh) (made : Meshed) (empty counted told whole : List ℕ)
    → empty ≡ []
    → counted ≡ empty ++ mesh_counts file
    → told ≡ counted ++ outcome_counts made
    → whole ≡ told ++ try_counts made
    → whole ≡ summary_line file made
unfolding summary_line
line_is file made empty counted told whole none first second third =
    let begun = first ∙ ap (λ t. t ++ mesh_counts file) none in
    let gone_on = second ∙ ap (λ t. t ++ outcome_counts made) begun in
    third ∙ ap (λ t. t ++ try_counts made) gone_on

-- ---- what the mesh file asks of a mesh
each-tet : (n : ℕ) (ts : List (List ℕ)) → Each (IsTet n) ts → Each (λ x. All (λ c. c < n) x) ts
each-tet n [] h = tt
each-tet n (t ∷ ts) h = (h.0.in_range, each-tet n ts h.1)

each-triple : (n : ℕ) (ts : List (List ℕ)) → Each (IsTriple n) ts → Each (λ x. All (λ c. c < n) x) ts
each-triple n [] h = tt
each-triple n (t ∷ ts) h = (h.0.in_range, each-triple n ts h.1)

pub tets-in_range : (m : Mesh) → IsWellFormed m → AreInRange (length m.points) m.tets
tets-in_range m w = All-from_recursion (λ x. All (λ c. c < length m.points) x) m.tets (each-tet (length m.points) m.tets (recursion_from_All (IsTet (length m.points)) m.tets w.tets_are))

pub tracked-in_range : (m : Mesh) → IsWellFormed m → AreInRange (length m.points) m.tracked
tracked-in_range m w = All-from_recursion (λ x. All (λ c. c < length m.points) x) m.tracked (each-triple (length m.points) m.tracked (recursion_from_All (IsTriple (length m.points)) m.tracked w.triples_are))

-- a mesh within the limits has not too many tetrahedra for the regions
pub few-tets : (m : Lists) → IsWellFormed (mesh_of m) → IsWithinLimits (mesh_of m) → length m.tets ≤ 16777216
few-tets m w l =
    let made : length (map (λ (t : Tet). t.0) m.tets) ≤ m.made = w.made_is in
    let limit : m.made ≤ most_made = l.made_few in
    let same : length (map (λ (t : Tet). t.0) m.tets) ≡ length m.tets = length-map m.tets (λ (t : Tet). t.0) in
    omega (arith, made, limit, same)

-- the digits are those that were asked for
digits-few : (digits : Option ℕ) → IfSome digits (λ d. d ≤ 5) → unwrap_or digits 0 ≤ 5
digits-few (Some d) h = h
digits-few None h = omega arith

pub file-digits : (asked : Asked) (soup : Soup) (made : Meshed) (regions : List Bool) (file : MshMesh) → IsAsked asked → file ≡ file_of asked soup made regions → file.digits ≤ 5
unfolding msh_of
file-digits asked soup made regions file is_asked is = subst (λ (f : MshMesh). f.digits ≤ 5) (sym is) (digits-few asked.digits is_asked.digits)
