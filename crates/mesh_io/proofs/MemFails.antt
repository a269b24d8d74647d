-- Lists of calls that are to fail.
use Rattle.std.proofs.Common.{◌≡◌, ℕ, ◌≤◌, ◌==◌, ◌&&◌, true, List, [], ◌∷◌, Err, refl, inl, inr, arith}
use Rattle.std.proofs.lemmas.Bool.{and_parts, or_cases, or_left, or_right}
use Rattle.mesh_io.specs.Faults.{counted}
use Rattle.mesh_io.specs.Fails.{is_same_kind, is_listed, is_reading, lists_reading}
use Rattle.mesh_io.specs.Folder.{Opens, Reads}
use Rattle.mesh_io.specs.MemState.{MemState, folder_state}
use Rattle.mesh_io.specs.declared.folder.Failed.{Failed}
use Rattle.mesh_io.specs.declared.folder.OpenIssue.TheVariants as open_issue
use Rattle.mesh_io.specs.declared.mem_file.CallKind.{CallKind}
use Rattle.mesh_io.specs.declared.mem_file.CallKind.TheVariants.{Open, Read, Create, Write}
use Rattle.mesh_io.specs.declared.mem_file.MemFail.{MemFail}

-- calls of one kind count on the same count
is_reading-same : (a b : CallKind) → is_same_kind a b ≡ true → is_reading b ≡ true → is_reading a ≡ true
is_reading-same Open b same reads = refl
is_reading-same Read b same reads = refl
is_reading-same Create Open same reads = absurd (cc)
is_reading-same Create Read same reads = absurd (cc)
is_reading-same Create Create same reads = reads
is_reading-same Create Write same reads = absurd (cc)
is_reading-same Write Open same reads = absurd (cc)
is_reading-same Write Read same reads = absurd (cc)
is_reading-same Write Create same reads = absurd (cc)
is_reading-same Write Write same reads = reads

-- where a call that reads is listed, the list has one
lists_reading-listed : (fails : List MemFail) (kind : CallKind) (nth : ℕ) → is_reading kind ≡ true → is_listed fails kind nth ≡ true → lists_reading fails ≡ true
lists_reading-listed [] kind nth reads listed = listed
lists_reading-listed (f ∷ fs) kind nth reads listed =
    elim (or_cases (is_same_kind f.kind kind && (f.nth == nth)) (is_listed fs kind nth) listed) [
      | inl here ↦ or_left (is_reading f.kind) (lists_reading fs) (is_reading-same f.kind kind (and_parts (is_same_kind f.kind kind) (f.nth == nth) here).0 reads)
      | inr later ↦ or_right (is_reading f.kind) (lists_reading fs) (lists_reading-listed fs kind nth reads later)
    ]

-- an `open` fails
pub open_fails : {T : Type 0} (m : MemState) (nth faults : ℕ) (name : List ℕ) → is_listed m.fails Open nth ≡ true → faults ≡ counted m.read_faults → m.read_faults ≤ faults → Opens {T = T} (folder_state m) (folder_state (record m { opens = nth; read_faults = faults })) name (Err open_issue.Failed)
open_fails m nth faults name listed rises kept =
    let lists : lists_reading m.fails ≡ true = lists_reading-listed m.fails Open nth refl listed in
    record {
      call = record { kind = record { told = refl; may_fail_reading = refl; may_fail_writing = refl }; count = record { kept = kept; ends = omega (arith, rises) }; no_fault = λ never. absurd (cc); other_count = refl; files = refl; writing = record { created = refl; writing = refl } };
      ok = tt;
      quiet = tt;
      missing = λ e. absurd (cc);
      failed = λ _. record { may_fail = lists; rose = omega (arith, rises) };
      err = record { opened = refl; reading = refl; place = refl };
    }

-- a `read` fails
pub read_fails : (m : MemState) (nth faults : ℕ) (into : List ℕ) (e : Failed) → is_listed m.fails Read nth ≡ true → faults ≡ counted m.read_faults → m.read_faults ≤ faults → Reads (folder_state m) (folder_state (record m { reads = nth; read_faults = faults })) into (Err e)
read_fails m nth faults into e listed rises kept =
    let lists : lists_reading m.fails ≡ true = lists_reading-listed m.fails Read nth refl listed in
    record {
      call = record { kind = record { told = refl; may_fail_reading = refl; may_fail_writing = refl }; count = record { kept = kept; ends = omega (arith, rises) }; no_fault = λ never. absurd (cc); other_count = refl; files = refl; writing = record { created = refl; writing = refl } };
      opened = refl;
      reading = refl;
      within = tt;
      given = tt;
      quiet = tt;
      failed = record { may_fail = lists; rose = omega (arith, rises) };
      err = refl;
    }
