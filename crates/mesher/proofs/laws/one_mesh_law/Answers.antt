use Rattle.mesher.proofs.OneMesh.{one_mesh}
use Rattle.mesher.proofs.laws.one_mesh_law.Goals as goal

pub returns : goal.returns
returns c = one_mesh
