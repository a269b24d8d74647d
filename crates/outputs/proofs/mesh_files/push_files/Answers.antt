use Rattle.std.proofs.Common.{◌∙◌, ◌∷◌, ◌++◌}
use Rattle.outputs.specs.MeshFiles.{kept_files}
use Rattle.outputs.proofs.Making.{two_files, file_is}
use Rattle.outputs.proofs.mesh_files.push_files.Goals as goal

pub returns : goal.returns
returns c =
    let mesh = file_is c.out_file-mesh.result _ _ _ c.out_file-mesh.ensures c.in_ok-write_msh.ensures in
    let report = file_is c.out_file-report.result _ _ _ c.out_file-report.ensures c.in_ok-write_report.ensures in
    two_files c.args.files.now.items c.out_file-mesh.result c.out_file-report.result _ c.push.new.self.items c.push-2.new.self.items c.push_kept.new.files.items c.in_ok-push.ensures.items c.in_ok-push-2.ensures.items c.in_ok-push_kept.ensures
    ∙ λ i. c.args.files.now.items ++ mesh i ∷ report i ∷ kept_files c.args.names.kept c.args.file.now
