-- Every finished run is accepted.
use Rattle.std.proofs.Common.{◌≡◌, ℕ, ◌+◌, ◌-◌, ◌*◌, ◌^◌, ◌≤◌, Bool, List, length, pos, ◌≤ℤ◌, nat_abs, All, refl, sym, ap, ◌∙◌, subst, arith}
use Rattle.std.specs.Prelude.{unsigned_abs, unwrap_or}
use Rattle.std.specs.List.{range_with_len, AllZip, AllByRecursion as Each}
use Rattle.std.proofs.lemmas.List.FromFn.{length-range_with_len}
use Rattle.std.proofs.lemmas.List.Elements.{All-from_recursion, recursion_from_All}
use Rattle.background.proofs.Tiling.{lattice-IsWellFormed, lattice-IsWithinLimits, lattice-Tiles, lattice-IsInBox}
use Rattle.grid.specs.Boxes.{IsInBox}
use Rattle.grid.specs.Limits.{IsSide, largest_side}
use Rattle.grid.specs.Meshes.{Mesh, IsTriple, Tiles}
use Rattle.grid.specs.Regions.{AreRegions}
use Rattle.mesh_types.specs.Journals.{setting}
use Rattle.mesh_types.specs.Lattice.{lattice}
use Rattle.mesh_types.specs.Verdicts.{Setting}
use Rattle.mesh_types.specs.Views.{mesh_of}
use Rattle.msh_text.specs.Plain.{IsFileMesh}
use Rattle.msh_text.proofs.ForCallers as file_keeping
use Rattle.report_text.specs.Plain.{IsPlainOutcome, IsPlainReport}
use Rattle.report_text.proofs.ForCallers as report_keeping
use Rattle.report_text.specs.Rules as report_rules
use Rattle.soup.specs.declared.raw.Soup.{Soup}
use Rattle.soup.specs.Placement.{side}
use Rattle.mesher.specs.declared.mesh.Meshed.{Meshed}
use Rattle.cert_check.specs.Faults.{case_of}
use Rattle.cert_check.specs.Sound.{IsSound}
use Rattle.cert_check.specs.Written.{IsCoveringOfTriple, IsWritten}
use Rattle.cert_check.proofs.ForCallers.{written_is_sound, sound_is_good}
use Rattle.outputs.specs.declared.request.Asked.{Asked}
use Rattle.outputs.specs.MeshFiles.{file_of, report_of}
use Rattle.acceptance.specs.Accepted.{IsRun, OffTheBoxLaw, FewTrackedLaw, AcceptedLaw}
use Rattle.acceptance.specs.OffBox.{IsOffBox}
use Rattle.acceptance.proofs.Allowed.{cells_allowed, side_allowed}
use Rattle.acceptance.proofs.Coverings.{covers_zip, tracked_off, coverings_plain}
use Rattle.acceptance.proofs.FewTracked.{tracked_few, elements_few}
use Rattle.acceptance.proofs.Filed.{file_plain}
use Rattle.acceptance.proofs.Insertions.{IsGoodMesh}
use Rattle.acceptance.proofs.Parts.{IsGoodPart, part_good, plain_second, second_lines}
use Rattle.acceptance.proofs.Placed.{IsPlacedIn, placed_well}
use Rattle.acceptance.proofs.SideBySide.{zip_at, zip_lengths}

module _ (asked : Asked) (soup : Soup) (made : Meshed) (run : IsRun asked soup made) where
  abbrev m : Mesh
  m = mesh_of made.mesh

  abbrev s : Setting
  s = setting soup.triangles asked.epsilon soup.side

  -- ---- the box
  abbrev l : ℕ
  l = side run.boxed.raw asked.epsilon asked.cells

  at : IsPlacedIn asked.epsilon asked.cells l soup
  at = subst (IsPlacedIn asked.epsilon asked.cells l) (sym run.boxed.soup_is) (placed_well run.boxed.raw asked.epsilon asked.cells run.boxed.raw_is run.is_asked.cells run.boxed.has_room)

  side_nat : nat_abs soup.side ≡ l
  side_nat = ap nat_abs at.side_is

  side_unsigned : unsigned_abs soup.side ≡ nat_abs soup.side
  side_unsigned = ap unsigned_abs at.side_is ∙ sym side_nat

  is_side : IsSide soup.side
  is_side = subst IsSide (sym at.side_is) at.is_side

  -- ---- the mesh
  first_good : IsGoodMesh (nat_abs soup.side) (lattice (nat_abs soup.side) asked.cells)
  first_good =
      let room : pos (4 * asked.cells) ≤ℤ soup.side = subst (λ z. pos (4 * asked.cells) ≤ℤ z) (sym at.side_is) at.cells_fit in
      record {
        well_formed = lattice-IsWellFormed soup.side asked.cells;
        tiles = lattice-Tiles soup.side asked.cells is_side run.is_asked.cells room;
        inside = lattice-IsInBox soup.side asked.cells is_side run.is_asked.cells room;
        within = lattice-IsWithinLimits soup.side asked.cells run.is_asked.cells;
      }

  first_part : IsGoodPart (nat_abs soup.side) (range_with_len 0 (length soup.triangles)) asked.budget made.outcomes made.journal.lines run.meshed.middle
  first_part = part_good s (range_with_len 0 (length soup.triangles)) asked.budget (lattice (nat_abs soup.side) asked.cells) run.meshed.middle made.outcomes made.journal.lines made.end first_good run.meshed.first

  triples : Each (IsTriple (length m.points)) m.tracked
  triples = recursion_from_All (IsTriple (length m.points)) m.tracked run.meshed.well_formed.triples_are

  covers : AllZip (IsCoveringOfTriple soup.triangles asked.epsilon m.points) m.tracked made.faces
  covers = covers_zip soup.triangles asked.epsilon m.points (length m.points) m.tracked made.faces triples run.meshed.covered

  off_box : Each (IsOffBox m.points (nat_abs soup.side)) m.tracked
  off_box = subst (λ k. Each (IsOffBox m.points k) m.tracked) (sym side_nat) (tracked_off soup.triangles asked.epsilon m.points l (length m.points) at.box.inside m.tracked made.faces triples covers)

  few : length m.tets + length m.tracked ≤ 2 ^ 24
  few =
      let made_is = run.meshed.well_formed.made_is in
      let made_few = run.meshed.within.made_few in
      elements_few m (nat_abs soup.side) run.meshed.well_formed run.meshed.tiles off_box (omega (arith, made_is, made_few))

  -- ---- the report
  outcome_each : length made.outcomes ≡ length soup.triangles
  outcome_each = first_part.one_each ∙ length-range_with_len 0 (length soup.triangles)

  report_plain : IsPlainReport (report_of asked soup made)
  report_plain =
      let points_few = run.meshed.within.points_few in
      let faces = zip_lengths (IsCoveringOfTriple soup.triangles asked.epsilon m.points) m.tracked made.faces covers in
      record {
        side = nat_abs soup.side;
        side_is = at.side_is ∙ ap pos (sym side_nat);
        side_allowed = subst (λ k. report_rules.IsSide k) (sym side_nat) (side_allowed l at.is_side);
        epsilon_in_range = (run.is_asked.epsilon_least, run.is_asked.epsilon_most);
        cells_allowed = cells_allowed asked.cells run.is_asked.cells;
        budget_few = let b = run.is_asked.budget in omega (arith, b);
        digits_few = run.is_asked.digits;
        shift_three = at.three;
        shift_near = λ k d lt. (at.box.shift_few k d lt).within;
        triangles_few = let t = at.few in omega (arith, outcome_each, t);
        outcomes_are = All-from_recursion (IsPlainOutcome (nat_abs soup.side)) made.outcomes first_part.outcomes_are;
        tries_few = first_part.few;
        tries_are = first_part.tries_are;
        second_is = plain_second s made.outcomes asked.budget (length made.journal.lines) run.meshed.middle m made.second first_part.few first_part.mesh run.meshed.second;
        faces_few = omega (arith, faces, few);
        faces_are = coverings_plain soup.triangles asked.epsilon m.points (length m.points) points_few at.few m.tracked made.faces triples covers;
      }

  written : (regions : List Bool) → AreRegions m.tets m.tracked regions → IsWritten soup m regions (report_of asked soup made) asked.digits
  written regions are_regions = record {
    header = record { side = refl; shift = refl; digits_are = refl };
    tiles = subst (Tiles m) (sym side_unsigned) run.meshed.tiles;
    in_box = subst (λ k. All (IsInBox k) m.points) (sym side_unsigned) run.meshed.in_box;
    in_range = λ k d lt. (run.meshed.well_formed.tets_are k d lt).in_range;
    regions = are_regions;
    three = λ k d lt. (run.meshed.well_formed.triples_are k d lt).three;
    one_covering_each = zip_lengths (IsCoveringOfTriple soup.triangles asked.epsilon m.points) m.tracked made.faces covers;
    covered = λ i lt d. zip_at (IsCoveringOfTriple soup.triangles asked.epsilon m.points) m.tracked made.faces covers i d lt;
    lines = record { one_each = outcome_each; second = second_lines s made.outcomes (asked.budget - length made.journal.lines) run.meshed.middle m made.second run.meshed.second };
  }

  -- ---- the files
  module _ (regions : List Bool) (are_regions : AreRegions m.tets m.tracked regions) where
    made_plain : IsFileMesh (unwrap_or asked.digits 0) (file_of asked soup made regions)
    made_plain =
        let most : nat_abs soup.side ≤ largest_side = let k = at.most in omega (arith, side_nat, k) in
        file_plain m (nat_abs soup.side) run.meshed.well_formed run.meshed.tiles run.meshed.within.points_few run.meshed.in_box most soup.shift
        (record { x_few = at.x_few; y_few = at.y_few; z_few = at.z_few }) regions (unwrap_or asked.digits 0) few

    made_sound : IsSound (case_of soup (file_of asked soup made regions) (report_of asked soup made) asked.digits)
    made_sound = written_is_sound soup m regions (unwrap_or asked.digits 0) (report_of asked soup made) asked.digits (written regions are_regions)

pub off_the_box : OffTheBoxLaw
off_the_box asked soup made run =
    All-from_recursion (IsOffBox made.mesh.points (nat_abs soup.side)) (mesh_of made.mesh).tracked (off_box asked soup made run)

pub few_tracked : FewTrackedLaw
few_tracked asked soup made run =
    tracked_few (mesh_of made.mesh) (nat_abs soup.side) run.meshed.well_formed run.meshed.tiles (off_box asked soup made run)

pub accepted : AcceptedLaw
accepted asked soup made regions run are_regions =
    let file = file_of asked soup made regions in
    let report = report_of asked soup made in
    let sound = made_sound asked soup made run regions are_regions in
    record {
      file_rules = file_keeping.keeps (unwrap_or asked.digits 0) file (made_plain asked soup made run regions are_regions);
      report_rules = report_keeping.keeps report (report_plain asked soup made run);
      sound = sound;
      good = sound_is_good (case_of soup file report asked.digits) sound;
    }
