use Rattle.std.proofs.Common.{◌≡◌, ◌∙◌, sym, drop, length}
use Rattle.std.specs.List.{list_all}
use Rattle.mesh_types.specs.Journals.{setting}
use Rattle.mesh_types.specs.declared.tries.Why.TheVariants as why
use Rattle.mesh_store.specs.Parts.{live_tets, mesh_in}
use Rattle.local_ops.specs.Attempts.{start_of}
use Rattle.local_ops.specs.Measures.{has_single_faces}
use Rattle.local_ops.proofs.InOrder.{passes_more, refused}
use Rattle.local_ops.proofs.Judged.{passes-Doubled, fails-Doubled}
use Rattle.local_ops.proofs.judging.judge_positive.Goals as goal

pub judge_single-requires-clause-passed : goal.judge_single-requires-clause-passed
judge_single-requires-clause-passed c =
    let v = c.args.store.now in
    let is : c.in_ok-are_single.field-0 ≡ list_all (has_single_faces (live_tets v.parts.slots)) (live_tets (drop (length (start_of v).slots) v.parts.slots)) =
    c.in_ok-are_single.ensures ∙ (λ i. list_all (has_single_faces (live_tets (c.slots.ensures.slots i))) (live_tets (drop (c.requires.before.made i) (c.slots.ensures.slots i)))) in
    passes_more (setting c.args.env.now c.args.e v.side) (mesh_in (start_of v)) c.args.attempt why.Doubled c.requires.passed
    (passes-Doubled c.args.env.now c.args.e c.args.attempt v c.requires.made (sym is ∙ c.if-branch.true))

pub returns-else-branch : goal.returns-else-branch
returns-else-branch c =
    let v = c.args.store.now in
    let is : c.in_ok-are_single.field-0 ≡ list_all (has_single_faces (live_tets v.parts.slots)) (live_tets (drop (length (start_of v).slots) v.parts.slots)) =
    c.in_ok-are_single.ensures ∙ (λ i. list_all (has_single_faces (live_tets (c.slots.ensures.slots i))) (live_tets (drop (c.requires.before.made i) (c.slots.ensures.slots i)))) in
    refused (setting c.args.env.now c.args.e v.side) (mesh_in (start_of v)) c.args.attempt why.Doubled c.requires.passed
    (fails-Doubled c.args.env.now c.args.e c.args.attempt v c.requires.made (sym is ∙ c.if-branch.false))
