use Rattle.mesh_store.proofs.FaceSearches.{at-corner-is}
use Rattle.mesh_store.proofs.touching.faces_at.Goals as goal

pub returns : goal.returns
returns c = at-corner-is c.args.u c.args.tracked.now c.at_point.new.into.items c.rise.new.faces.items c.in_ok-at_point.ensures c.rise.ensures.ordered c.rise.ensures.same
