use Rattle.std.proofs.Common.{List, subst}
use Rattle.std.specs.List.{Contains}
use Rattle.grid.specs.Views.{corners_of}
use Rattle.mesh_types.specs.declared.tries.Try.{Try}
use Rattle.mesh_types.specs.Tries.{is_candidate}
use Rattle.improve.proofs.Again.{listed-again}
use Rattle.improve.proofs.listing.push_candidate.Goals as goal

pub returns-then-is_among : goal.returns-then-is_among
returns-then-is_among c =
    λ p. listed-again p c.args.tries.now.items c.args.t (is_candidate (corners_of c.args.star.now) c.args.t)
    (subst (λ (ts : List Try). Contains ts c.args.t) c.deref.ensures.value (c.is_among.ensures c.if-is_among.true))
