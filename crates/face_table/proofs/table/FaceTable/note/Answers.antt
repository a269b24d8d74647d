use Rattle.std.proofs.Common.{◌<◌, ◌∷◌, [], ◌++◌, ap, sym, ◌∙◌, subst}
use Rattle.face_table.specs.Keys.{faces_of, AreKeys}
use Rattle.face_table.specs.Occurrences.{occurrences}
use Rattle.face_table.proofs.TableLemmas.{occurrences-least, AreKeys-raised, HaveSameFaces-raised}
use Rattle.face_table.proofs.table.FaceTable.note.Goals as goal

pub raise-requires : goal.raise-requires
raise-requires c = subst (λ n. n < 4294967295)
    (sym (occurrences-least c.args.face.0 c.least.result c.least.ensures.key c.least.ensures.three c.self.inside.counts.entries c.self.invariant ∙ ap (occurrences c.args.face.0) c.self.view_is))
    c.requires

pub invariant_of-self-2 : goal.invariant_of-self-2
invariant_of-self-2 c =
    subst AreKeys (sym c.in_ok-before.ensures.raised)
    (AreKeys-raised c.args.face.0 c.least.result c.least.ensures.key c.least.ensures.three c.in_ok-before.before c.self.inside.counts.entries c.self.invariant)

pub returns-clause-before : goal.returns-clause-before
returns-clause-before c =
    c.in_ok-before.ensures.before
    ∙ occurrences-least c.args.face.0 c.least.result c.least.ensures.key c.least.ensures.three c.self.inside.counts.entries c.self.invariant
    ∙ ap (occurrences c.args.face.0) c.self.view_is

pub returns-clause-added : goal.returns-clause-added
returns-clause-added c f =
    ap (λ es. occurrences f (faces_of es)) c.in_ok-before.ensures.raised
    ∙ HaveSameFaces-raised c.args.face.0 c.least.result c.least.ensures.key c.least.ensures.three c.in_ok-before.before c.self.inside.counts.entries c.in_ok-before.ensures.before f
    ∙ ap (λ fs. occurrences f (fs ++ c.args.face.0 ∷ [])) c.self.view_is
