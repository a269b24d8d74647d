use Rattle.std.proofs.Common.{Ok, Err}
use Rattle.checking.proofs.Numbers.{numbers-of}
use Rattle.checking.proofs.Reading.{no_soup, behind_soup_of, no_mesh, behind_mesh_of, no_report, behind_report_of, no_box, a_case}
use Rattle.checking.proofs.case.read_case.Goals as goal

pub returns-in-Err-clause-reads : goal.returns-in-Err-clause-reads
returns-in-Err-clause-reads g c = no_soup c.args.job.now (g.F.Folder.state c.args.folder.now) (g.F.Folder.state c.read_raw.new.folder) c.in-Err.issue (rw c.as_str.ensures at c.in-Err.ensures.reads)

pub returns-in-Err-read_mesh-clause-reads : goal.returns-in-Err-read_mesh-clause-reads
returns-in-Err-read_mesh-clause-reads g c =
    let job = c.args.job.now in
    behind_soup_of job (g.F.Folder.state c.args.folder.now) (g.F.Folder.state c.read_raw.new.folder) (g.F.Folder.state c.read_mesh.new.folder) c.in-Ok.raw (Err c.in-Err-read_mesh.issue)
    (rw c.as_str.ensures at c.in-Ok.ensures.reads)
    (no_mesh job c.in-Ok.raw (g.F.Folder.state c.read_raw.new.folder) (g.F.Folder.state c.read_mesh.new.folder) c.in-Err-read_mesh.issue (rw (c.as_str-2.ensures, c.unwrap_or-digits.ensures) at c.in-Err-read_mesh.ensures.reads))

pub returns-in-Err-read_report-clause-reads : goal.returns-in-Err-read_report-clause-reads
returns-in-Err-read_report-clause-reads g c =
    let job = c.args.job.now in
    behind_soup_of job (g.F.Folder.state c.args.folder.now) (g.F.Folder.state c.read_raw.new.folder) (g.F.Folder.state c.read_report.new.folder) c.in-Ok.raw (Err c.in-Err-read_report.issue)
    (rw c.as_str.ensures at c.in-Ok.ensures.reads)
    (behind_mesh_of job c.in-Ok.raw (g.F.Folder.state c.read_raw.new.folder) (g.F.Folder.state c.read_mesh.new.folder) (g.F.Folder.state c.read_report.new.folder) c.in-Ok-read_mesh.mesh (Err c.in-Err-read_report.issue)
    (rw (c.as_str-2.ensures, c.unwrap_or-digits.ensures) at c.in-Ok-read_mesh.ensures.reads)
    (no_report job c.in-Ok.raw c.in-Ok-read_mesh.mesh (g.F.Folder.state c.read_mesh.new.folder) (g.F.Folder.state c.read_report.new.folder) c.in-Err-read_report.issue (rw c.as_str-3.ensures at c.in-Err-read_report.ensures.reads)))

pub place_soup-requires-clause-epsilon : goal.place_soup-requires-clause-epsilon
place_soup-requires-clause-epsilon g c =
    let numbers = numbers-of c.in-Ok-read_report.report _ _ c.in-Ok-read_report.ensures.rules in
    (numbers.epsilon_least, numbers.epsilon_most)

pub place_soup-requires-clause-cells : goal.place_soup-requires-clause-cells
place_soup-requires-clause-cells g c = (numbers-of c.in-Ok-read_report.report _ _ c.in-Ok-read_report.ensures.rules).cells

pub returns-in-Ok-place_soup-clause-reads : goal.returns-in-Ok-place_soup-clause-reads
returns-in-Ok-place_soup-clause-reads g c =
    let job = c.args.job.now in
    let last = g.F.Folder.state c.read_report.new.folder in
    let raw = c.in-Ok.raw in
    let mesh = c.in-Ok-read_mesh.mesh in
    let report = c.in-Ok-read_report.report in
    let case = Ok (record { soup = c.in-Ok-place_soup.soup; mesh = mesh; report = report }) in
    behind_soup_of job (g.F.Folder.state c.args.folder.now) (g.F.Folder.state c.read_raw.new.folder) last raw case
    (rw c.as_str.ensures at c.in-Ok.ensures.reads)
    (behind_mesh_of job raw (g.F.Folder.state c.read_raw.new.folder) (g.F.Folder.state c.read_mesh.new.folder) last mesh case
    (rw (c.as_str-2.ensures, c.unwrap_or-digits.ensures) at c.in-Ok-read_mesh.ensures.reads)
    (behind_report_of job raw mesh (g.F.Folder.state c.read_mesh.new.folder) last last report case
    (rw c.as_str-3.ensures at c.in-Ok-read_report.ensures.reads)
    (a_case raw mesh report last c.in-Ok-place_soup.soup (c.in-Ok-place_soup.ensures.places last))))

pub returns-clause-reads : goal.returns-clause-reads
returns-clause-reads g c =
    let job = c.args.job.now in
    let last = g.F.Folder.state c.read_report.new.folder in
    let raw = c.in-Ok.raw in
    let mesh = c.in-Ok-read_mesh.mesh in
    let report = c.in-Ok-read_report.report in
    let issue = c.in-Err-place_soup.issue in
    behind_soup_of job (g.F.Folder.state c.args.folder.now) (g.F.Folder.state c.read_raw.new.folder) last raw (Err issue)
    (rw c.as_str.ensures at c.in-Ok.ensures.reads)
    (behind_mesh_of job raw (g.F.Folder.state c.read_raw.new.folder) (g.F.Folder.state c.read_mesh.new.folder) last mesh (Err issue)
    (rw (c.as_str-2.ensures, c.unwrap_or-digits.ensures) at c.in-Ok-read_mesh.ensures.reads)
    (behind_report_of job raw mesh (g.F.Folder.state c.read_mesh.new.folder) last last report (Err issue)
    (rw c.as_str-3.ensures at c.in-Ok-read_report.ensures.reads)
    (no_box raw mesh report last issue (c.in-Err-place_soup.ensures.places last))))
