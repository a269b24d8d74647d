use Rattle.inputs.specs.Readings.{file}
use Rattle.inputs.specs.Texts.{SaysSoup, placed_soup}
use Rattle.inputs.proofs.Chains.{and_then, at_first}
use Rattle.inputs.proofs.placing.read_soup.Goals as goal

pub returns-in-Ok-clause-reads : goal.returns-in-Ok-clause-reads
returns-in-Ok-clause-reads g c =
    and_then (file c.args.name.now (SaysSoup c.args.digits)) (placed_soup c.args.epsilon c.args.cells) (g.F.Folder.state c.args.folder.now) (g.F.Folder.state c.read_raw.new.folder) (g.F.Folder.state c.read_raw.new.folder) c.in-Ok.raw c.place_soup.result
    c.in-Ok.ensures.reads (c.place_soup.ensures.places (g.F.Folder.state c.read_raw.new.folder))

pub returns-in-Err-clause-reads : goal.returns-in-Err-clause-reads
returns-in-Err-clause-reads g c =
    at_first (file c.args.name.now (SaysSoup c.args.digits)) (placed_soup c.args.epsilon c.args.cells) (g.F.Folder.state c.args.folder.now) (g.F.Folder.state c.read_raw.new.folder) c.in-Err.issue c.in-Err.ensures.reads
