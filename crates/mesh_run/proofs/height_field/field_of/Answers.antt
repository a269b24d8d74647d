use Rattle.std.proofs.Common.{Err, refl, ap, arith, lit≤}
use Rattle.inputs.proofs.ForCallers.{placed-for}
use Rattle.mesh_run.proofs.height_field.field_of.Goals as goal

pub place-requires-clause-cells : goal.place-requires-clause-cells
place-requires-clause-cells c = record { power = 2; power_most = lit≤ tt; is = refl }

pub returns-in-Ok-clause-placed : goal.returns-in-Ok-clause-placed
returns-in-Ok-clause-placed c =
    placed-for c.in_ok-raw.raw 2 4 c.in-Ok.soup c.in_ok-raw.ensures.limits c.in-Ok.ensures.placed c.in-Ok.ensures.least c.in-Ok.ensures.inside

pub returns-in-Ok-clause-boxed : goal.returns-in-Ok-clause-boxed
returns-in-Ok-clause-boxed c = record { raw = c.in_ok-raw.raw; raw_is = c.in_ok-raw.ensures.limits; has_room = omega (arith, c.in_ok-raw.ensures.extent); soup_is = c.in-Ok.ensures.placed }

pub unreachable-requires : goal.unreachable-requires
unreachable-requires c =
    let wide = (c.in-Err-TooWide.ensures.too_wide c.in-Err-TooWide.field-0-0).0 (ap Err c.in-Err-TooWide.field-0-is) in
    omega (arith, wide.0, c.in_ok-raw.ensures.extent)
