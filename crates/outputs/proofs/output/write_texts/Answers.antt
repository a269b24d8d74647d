use Rattle.outputs.proofs.Writing.{cut_at_file, cut_at_output, all_written}
use Rattle.outputs.proofs.output.write_texts.Goals as goal

pub returns-in-Some : goal.returns-in-Some
returns-in-Some g c =
    cut_at_file c.args.texts.now (g.F.Folder.state c.args.folder.now) (g.F.Folder.state c.write_files.new.folder) (g.O.Sink.state c.args.out.now) (g.O.Sink.state c.say_name.new.out) c.in-Some.file.now
    (rw c.as_slice.ensures at c.in-Some.ensures) (rw c.as_str.ensures at c.say_name.ensures)

pub returns-in-Ok : goal.returns-in-Ok
returns-in-Ok g c =
    all_written c.args.texts.now (g.F.Folder.state c.args.folder.now) (g.F.Folder.state c.write_files.new.folder) (g.O.Sink.state c.args.out.now) (g.O.Sink.state c.write_all.new.sink) c.in-Ok.field-0
    (rw c.as_slice.ensures at c.in_default.ensures) (rw c.as_slice-2.ensures at c.in-Ok.ensures)

pub returns-in-Err : goal.returns-in-Err
returns-in-Err g c =
    cut_at_output c.args.texts.now (g.F.Folder.state c.args.folder.now) (g.F.Folder.state c.write_files.new.folder) (g.O.Sink.state c.args.out.now) (g.O.Sink.state c.write_all.new.sink) c.in-Err.field-0
    (rw c.as_slice.ensures at c.in_default.ensures) (rw c.as_slice-2.ensures at c.in-Err.ensures)
