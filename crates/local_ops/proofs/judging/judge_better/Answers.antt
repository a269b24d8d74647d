use Rattle.std.proofs.Common.{◌≡◌, ◌∙◌, ℕ, List, All, sym, ap, subst, length}
use Rattle.std.proofs.lemmas.Bool.{true≢false}
use Rattle.grid.specs.Views.{triples_of}
use Rattle.mesh_types.specs.Journals.{setting}
use Rattle.mesh_types.specs.declared.tries.Why.TheVariants as why
use Rattle.mesh_store.specs.Parts.{mesh_in}
use Rattle.local_ops.specs.Attempts.{start_of, pivot_of}
use Rattle.local_ops.specs.Covering.{IsFine}
use Rattle.local_ops.specs.Surface.{at_point}
use Rattle.local_ops.proofs.InOrder.{passes_more, refused, kept}
use Rattle.local_ops.proofs.Judged.{passes-Uncovered, uncovered-passed}
use Rattle.local_ops.proofs.judging.judge_better.Goals as goal

pub returns-then-branch : goal.returns-then-branch
returns-then-branch c =
    let v = c.args.store.now in
    let b = c.args.before.now in
    let k = c.requires.before.pivot in
    let m = mesh_in (start_of v) in
    let s = setting c.args.env.now c.args.e v.side in
    let old : triples_of b.faces.items ≡ at_point (pivot_of (length (start_of v).points) c.args.attempt) m.tracked = c.requires.before.faces ∙ ap (λ (n : ℕ). at_point n m.tracked) k in
    let all = c.in_ok-are_covered.ensures.0 c.if-branch.true in
    let fine = subst (λ (n : ℕ). All (IsFine c.args.env.now c.args.e (at_point (pivot_of (length (start_of v).points) c.args.attempt) m.tracked) v.parts.points) (at_point n (mesh_in v.parts).tracked)) k
    (subst (λ (ts : List (List ℕ)). All (IsFine c.args.env.now c.args.e ts v.parts.points) (at_point b.pivot (mesh_in v.parts).tracked)) old all) in
    kept s m c.args.attempt (passes_more s m c.args.attempt why.Uncovered c.requires.passed (passes-Uncovered c.args.env.now c.args.e c.args.attempt v c.requires.made fine))

pub returns-else-branch : goal.returns-else-branch
returns-else-branch c =
    let v = c.args.store.now in
    let b = c.args.before.now in
    let k = c.requires.before.pivot in
    let m = mesh_in (start_of v) in
    let s = setting c.args.env.now c.args.e v.side in
    let old : triples_of b.faces.items ≡ at_point (pivot_of (length (start_of v).points) c.args.attempt) m.tracked = c.requires.before.faces ∙ ap (λ (n : ℕ). at_point n m.tracked) k in
    refused s m c.args.attempt why.Uncovered c.requires.passed (λ p.
    let fine = uncovered-passed c.args.env.now c.args.e c.args.attempt v c.requires.made p in
    let all = subst (λ (ts : List (List ℕ)). All (IsFine c.args.env.now c.args.e ts v.parts.points) (at_point b.pivot (mesh_in v.parts).tracked)) (sym old)
    (subst (λ (n : ℕ). All (IsFine c.args.env.now c.args.e (at_point (pivot_of (length (start_of v).points) c.args.attempt) m.tracked) v.parts.points) (at_point n (mesh_in v.parts).tracked)) (sym k) fine) in
    true≢false (sym (c.in_ok-are_covered.ensures.1 all) ∙ c.if-branch.false))
