use Rattle.std.proofs.Common.{◌∙◌, ◌↔◌, [], ◌∷◌, not, IfOk, IsTrue, ap, sym, subst, inl, inr}
use Rattle.std.proofs.lemmas.Bool.{cases_Bool, true≢false}
use Rattle.mesh_types.specs.declared.tries.Try.{Try}
use Rattle.mesh_types.specs.Verdicts.{PassesTracked}
use Rattle.mesh_store.specs.Parts.{mesh_in}
use Rattle.local_ops.proofs.Members.{contains-among, among-contains, listed-among, among-listed}
use Rattle.local_ops.proofs.surface.keeps_tracked.Goals as goal

pub returns-in-Collapse : goal.returns-in-Collapse
returns-in-Collapse c =
    subst (λ (t : Try). IfOk c.keeps_surface.result (λ b. IsTrue b ↔ PassesTracked (mesh_in c.args.store.now.parts) t)) (sym c.in-Collapse.is) c.keeps_surface.ensures

pub returns-in-FaceSwap : goal.returns-in-FaceSwap
returns-in-FaceSwap c =
    let m = mesh_in c.args.store.now.parts in
    let t = c.in-FaceSwap.a ∷ c.in-FaceSwap.b ∷ c.in-FaceSwap.c ∷ [] in
    subst (λ (t : Try). IsTrue (not c.is_tracked.result) ↔ PassesTracked m t) (sym c.in-FaceSwap.is) (
      λ h i. true≢false (sym h ∙ ap not (c.is_tracked.ensures ∙ among-listed m.tracked t (contains-among m.tracked t i))),
      λ h. elim (cases_Bool c.is_tracked.result) [
        | inl e ↦ absurd (h (among-contains m.tracked t (listed-among m.tracked t (sym c.is_tracked.ensures ∙ e))))
        | inr e ↦ ap not e
      ],
    )
