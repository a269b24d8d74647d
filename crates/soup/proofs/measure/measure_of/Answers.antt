use Rattle.soup.proofs.Measures.{measure_is}
use Rattle.soup.proofs.measure.measure_of.Goals as goal

pub returns : goal.returns
returns c =
    let x = c.range_along-x.ensures in
    let y = c.range_along-y.ensures in
    let z = c.range_along-z.ensures in
    measure_is c.args.raw.now _ _ _ _ _ _ _ _ _ c.as_slice-vertices.ensures c.requires
    (record { least_is = x.least; greatest_is = x.greatest }) (record { least_is = y.least; greatest_is = y.greatest }) (record { least_is = z.least; greatest_is = z.greatest })
    c.spread.ensures c.spread-2.ensures c.spread-3.ensures c.max.ensures c.max-extent.ensures
