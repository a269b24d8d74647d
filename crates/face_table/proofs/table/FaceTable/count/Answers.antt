use Rattle.std.proofs.Common.{ap, ◌∙◌, unwrap_or}
use Rattle.face_table.specs.Occurrences.{occurrences}
use Rattle.face_table.proofs.TableLemmas.{occurrences-least}
use Rattle.face_table.proofs.table.FaceTable.count.Goals as goal

pub returns-in-Some : goal.returns-in-Some
returns-in-Some c =
    ap (λ o. unwrap_or o 0) c.in-Some.ensures.value
    ∙ occurrences-least c.args.face.0 c.least.result c.least.ensures.key c.least.ensures.three c.self.inside.counts.entries c.self.invariant
    ∙ ap (occurrences c.args.face.0) c.self.view_is

pub returns-in-None : goal.returns-in-None
returns-in-None c =
    ap (λ o. unwrap_or o 0) c.in-None.ensures.value
    ∙ occurrences-least c.args.face.0 c.least.result c.least.ensures.key c.least.ensures.three c.self.inside.counts.entries c.self.invariant
    ∙ ap (occurrences c.args.face.0) c.self.view_is
