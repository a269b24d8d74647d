use Rattle.std.proofs.Common.{◌≡◌, ◌∙◌, sym, drop, length}
use Rattle.std.specs.List.{list_all}
use Rattle.mesh_types.specs.Journals.{setting}
use Rattle.mesh_types.specs.declared.tries.Why.TheVariants as why
use Rattle.mesh_store.specs.Parts.{live_tets, mesh_in}
use Rattle.local_ops.specs.Attempts.{start_of}
use Rattle.local_ops.specs.Measures.{is_positive}
use Rattle.local_ops.proofs.InOrder.{passes_more, refused}
use Rattle.local_ops.proofs.Judged.{passes-Inverted, fails-Inverted}
use Rattle.local_ops.proofs.judging.judge.Goals as goal

pub judge_positive-requires-clause-passed : goal.judge_positive-requires-clause-passed
judge_positive-requires-clause-passed c =
    let v = c.args.store.now in
    let is : c.all_positive.result ≡ list_all (is_positive v.parts.points) (live_tets (drop (length (start_of v).slots) v.parts.slots)) =
    c.all_positive.ensures ∙ (λ i. list_all (is_positive (c.slots.ensures.points i)) (live_tets (drop (c.requires.before.made i) (c.slots.ensures.slots i)))) in
    passes_more (setting c.args.env.now c.args.e v.side) (mesh_in (start_of v)) c.args.attempt why.Inverted c.requires.passed
    (passes-Inverted c.args.env.now c.args.e c.args.attempt v c.requires.made (sym is ∙ c.if-all_positive.true))

pub returns-else-all_positive : goal.returns-else-all_positive
returns-else-all_positive c =
    let v = c.args.store.now in
    let is : c.all_positive.result ≡ list_all (is_positive v.parts.points) (live_tets (drop (length (start_of v).slots) v.parts.slots)) =
    c.all_positive.ensures ∙ (λ i. list_all (is_positive (c.slots.ensures.points i)) (live_tets (drop (c.requires.before.made i) (c.slots.ensures.slots i)))) in
    refused (setting c.args.env.now c.args.e v.side) (mesh_in (start_of v)) c.args.attempt why.Inverted c.requires.passed
    (fails-Inverted c.args.env.now c.args.e c.args.attempt v c.requires.made (sym is ∙ c.if-all_positive.false))
