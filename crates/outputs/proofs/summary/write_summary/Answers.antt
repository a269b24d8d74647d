use Rattle.outputs.proofs.Making.{line_is}
use Rattle.outputs.proofs.summary.write_summary.Goals as goal

pub returns : goal.returns
returns c =
    line_is c.args.mesh.now c.args.made.now c.new-out.result.items c.put_mesh.new.out.items c.put_outcomes.new.out.items c.put_tries.new.out.items
    c.new-out.ensures.items c.in_ok-put_mesh.ensures c.in_ok-put_outcomes.ensures c.in_ok-put_tries.ensures
