use Rattle.std.proofs.Common.{to_z-of_z}
use Rattle.soup.proofs.ForCallers.{side-SFits}
use Rattle.outputs.proofs.Making.{report_is}
use Rattle.outputs.proofs.mesh_files.report_of.Goals as goal

pub returns : goal.returns
returns c = report_is c.args.asked c.args.soup.now c.args.made _ (to_z-of_z (side-SFits c.args.soup.now.side c.requires.side))
