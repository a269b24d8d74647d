use Rattle.std.proofs.Common.{rules, SFits, subst, sym, to_z-of_z}
use mir.Syntax.{w128}
use Rattle.int_algebra.specs.Within.{IsWithin}
use Rattle.vectors.proofs.products.squared_length.Goals as goal

pub returns-clause-within : goal.returns-clause-within
returns-clause-within c =
    let fits : SFits w128 c.dot.result = search rules in
    λ j l h le. subst (IsWithin l) (sym (to_z-of_z fits)) (c.dot.ensures.within j j l h h le)
