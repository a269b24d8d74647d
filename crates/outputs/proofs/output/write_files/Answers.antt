use Rattle.outputs.proofs.Writing.{begun, goes_on, all_files, fails}
use Rattle.outputs.proofs.output.write_files.Goals as goal

pub loop-file-init : goal.loop-file-init
loop-file-init g c = begun (g.F.Folder.state c.args.folder.now)

pub loop-file-preserved : goal.loop-file-preserved
loop-file-preserved g c =
    goes_on c.args.files.now c.loop-file.file-index c.file-item.result (g.F.Folder.state c.args.folder.now) (g.F.Folder.state c.loop-file.folder) (g.F.Folder.state c.write_file.new.folder) c.in-Ok.field-0
    c.file-item.is c.requires c.loop-file-test.true c.loop-file.invariant (rw (c.as_str.ensures, c.as_slice.ensures) at c.in-Ok.ensures)

pub returns-in-Err : goal.returns-in-Err
returns-in-Err g c =
    fails c.args.files.now c.loop-file.file-index c.file-item.result (g.F.Folder.state c.args.folder.now) (g.F.Folder.state c.loop-file.folder) (g.F.Folder.state c.write_file.new.folder) c.in-Err.field-0
    c.file-item.is c.requires c.loop-file-test.true c.loop-file.invariant (rw (c.as_str.ensures, c.as_slice.ensures) at c.in-Err.ensures)

pub returns : goal.returns
returns g c = all_files c.args.files.now c.loop-file.file-index (g.F.Folder.state c.args.folder.now) (g.F.Folder.state c.loop-file.folder) c.loop-file-test.false c.loop-file.invariant
