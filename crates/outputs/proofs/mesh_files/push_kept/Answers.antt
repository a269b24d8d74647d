use Rattle.std.proofs.Common.{sym, append-nil}
use Rattle.outputs.proofs.mesh_files.push_kept.Goals as goal

pub returns-in-None : goal.returns-in-None
returns-in-None c = rw c.in-None.is (sym (append-nil c.args.files.now.items))
