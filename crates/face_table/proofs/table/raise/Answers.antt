use Rattle.std.proofs.Common.{◌+◌, ap, ◌∙◌}
use Rattle.indexmap.specs.IndexMap.{insert_entry}
use Rattle.face_table.specs.Keys.{same_key}
use Rattle.face_table.proofs.TableLemmas.{insert_entry-again}
use Rattle.face_table.proofs.table.raise.Goals as goal

pub returns-clause-raised : goal.returns-clause-raised
returns-clause-raised c =
    c.in-Ok-insert.ensures.entries
    ∙ ap (λ es. insert_entry same_key es c.args.key (c.in-Some.n + 1)) c.in-Ok.ensures.entries
    ∙ insert_entry-again c.args.key (c.in-Some.n + 1) 1 c.args.counts.now.entries
