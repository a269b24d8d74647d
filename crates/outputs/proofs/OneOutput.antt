-- A job and its soup have one output.
use Rattle.std.proofs.Common.{◌≡◌, ℕ, ◌<◌, List, Bool, true, false, ◌++◌, length, get_or, unwrap_or, IsTrue, refl, sym, ◌∙◌, subst, arith}
use Rattle.std.proofs.lemmas.List.{same_lists, get_or_default}
use Rattle.grid.specs.Meshes.{Mesh}
use Rattle.grid.specs.Regions.{AreRegions}
use Rattle.mesh_types.specs.Views.{mesh_of}
use Rattle.mesher.specs.declared.mesh.Meshed.{Meshed}
use Rattle.mesher.specs.Meshed.{IsSameMesh}
use Rattle.mesher.proofs.OneMesh.{one_mesh}
use Rattle.soup.specs.declared.raw.Soup.{Soup}
use Rattle.msh_text.specs.FileMesh.{msh_of}
use Rattle.outputs.specs.declared.request.Asked.{Asked}
use Rattle.outputs.specs.declared.request.Names.{Names}
use Rattle.outputs.specs.declared.output.OutFile.{OutFile}
use Rattle.outputs.specs.MeshFiles.{file_of, files_of, report_of, texts_of, OneMade}
use Rattle.outputs.specs.Summary.{summary_line}

-- each of two answers is yes where the other is
same_flag : (b c : Bool) → (IsTrue b → IsTrue c) → (IsTrue c → IsTrue b) → b ≡ c
same_flag true true f g = refl
same_flag true false f g = sym (f refl)
same_flag false true f g = g refl
same_flag false false f g = refl

one_regions : (tets tracked : List (List ℕ)) (these those : List Bool) → AreRegions tets tracked these → AreRegions tets tracked those → these ≡ those
one_regions tets tracked these those f g =
    same_lists these those (f.one_each ∙ sym g.one_each)
    (λ k d h.
    let below : k < length tets = omega (arith, h, f.one_each) in
    let other : k < length those = omega (arith, below, g.one_each) in
    get_or_default these k d true h
    ∙ same_flag (get_or these k true) (get_or those k true) (λ b. (g.each k below).1 ((f.each k below).0 b)) (λ b. (f.each k below).1 ((g.each k below).0 b))
    ∙ sym (get_or_default those k d true other))

one_texts : (asked : Asked) (names : Names) (first : List OutFile) (soup : Soup) (made other : Meshed) (these those : List Bool) → IsSameMesh made other → these ≡ those → texts_of asked names first soup made these ≡ texts_of asked names first soup other those
unfolding texts_of summary_line
one_texts asked names first soup made other these those same regions =
    let file : file_of asked soup made these ≡ file_of asked soup other those = λ i. msh_of (same.mesh i) (regions i) soup.shift (unwrap_or asked.digits 0) in
    λ i. record {
      files = first ++ files_of names (file i) (report_of asked soup (record made { outcomes = same.outcomes i; journal = record { lines = same.lines i }; end = same.end i; second = same.second i; faces = same.faces i }));
      line = summary_line (file i) (record made { outcomes = same.outcomes i; journal = record { lines = same.lines i }; end = same.end i; second = same.second i; faces = same.faces i });
    }

pub one_output : OneMade
one_output asked names first soup texts other f g =
    let same = one_mesh soup asked.epsilon asked.cells asked.budget f.made g.made f.meshed g.meshed in
    let regions = one_regions (mesh_of g.made.mesh).tets (mesh_of g.made.mesh).tracked f.regions g.regions (subst (λ (m : Mesh). AreRegions m.tets m.tracked f.regions) same.mesh f.are_regions) g.are_regions in
    f.texts_are ∙ (one_texts asked names first soup f.made g.made f.regions g.regions same regions ∙ sym g.texts_are)
