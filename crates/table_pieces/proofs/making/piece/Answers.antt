use Rattle.std.proofs.Common.{rules}
use Rattle.table_pieces.proofs.Ranks.{piece-is}
use Rattle.table_pieces.proofs.making.piece.Goals as goal

pub returns : goal.returns
returns c = piece-is c.args.numbers.now c.args.labels c.args.ranks (search rules) (search rules) c.requires.ranks
