use Rattle.std.proofs.Common.{ap, refl, sym, ◌∙◌, Ok, Err}
use Rattle.soup.specs.Placement.{extent}
use Rattle.inputs.specs.Texts.{soup_in, too_wide_line}
use Rattle.inputs.proofs.Chains.{known_value, known_issue}
use Rattle.inputs.proofs.Soups.{soup_fits, soup_too_wide, placed-for, boxed}
use Rattle.inputs.proofs.placing.place_soup.Goals as goal

pub returns-in-Ok-clause-places : goal.returns-in-Ok-clause-places
returns-in-Ok-clause-places c s =
    known_value (soup_in c.args.epsilon c.args.cells c.args.raw.now) s c.in-Ok.soup
    (soup_fits c.args.epsilon c.args.cells c.args.raw.now (λ wide. (cc ((c.in-Ok.ensures.too_wide (extent c.args.raw.now)).1 (wide, refl))))
    ∙ ap Ok (sym c.in-Ok.ensures.placed))

pub returns-in-Ok-clause-placed : goal.returns-in-Ok-clause-placed
returns-in-Ok-clause-placed c =
    placed-for c.args.raw.now c.args.epsilon c.args.cells c.in-Ok.soup c.requires.raw c.in-Ok.ensures.placed c.in-Ok.ensures.least c.in-Ok.ensures.inside

pub returns-in-Ok-clause-boxed : goal.returns-in-Ok-clause-boxed
returns-in-Ok-clause-boxed c =
    boxed c.args.raw.now c.args.epsilon c.args.cells c.in-Ok.soup c.requires.raw
    (λ wide. (cc ((c.in-Ok.ensures.too_wide (extent c.args.raw.now)).1 (wide, refl)))) c.in-Ok.ensures.placed

pub returns-in-Err-TooWide-clause-places : goal.returns-in-Err-TooWide-clause-places
returns-in-Err-TooWide-clause-places c s =
    let wide = (c.in-Err-TooWide.ensures.too_wide c.in-Err-TooWide.extent).0 (ap Err c.in-Err-TooWide.field-0-is) in
    known_issue (soup_in c.args.epsilon c.args.cells c.args.raw.now) s _
    (λ told. soup_too_wide c.args.epsilon c.args.cells c.args.raw.now wide.0 ∙ ap (λ n. Err (too_wide_line n)) (sym wide.1))
