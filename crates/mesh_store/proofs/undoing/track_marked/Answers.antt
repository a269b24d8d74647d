use Rattle.std.proofs.Common.{◌≡◌, ◌∙◌, sym, ap, true, false, None, Some, [], ◌∷◌, ◌++◌, length, arith}
use Rattle.std.proofs.lemmas.List.{length_push}
use Rattle.tracked.specs.Keys.{Keys, state_of, put}
use Rattle.tracked.proofs.ForCallers.{state-put, put-new, put-back}
use Rattle.mesh_store.specs.Undoing.{front}
use Rattle.mesh_store.proofs.Steps.{is-Restored, is-New, front-push}
use Rattle.mesh_store.proofs.undoing.track_marked.Goals as goal
use Rattle.mesh_store.proofs.undoing.track_marked.Goals.{In-Restored, In-New}

was-out : (c : In-Restored) → state_of c.args.f c.args.tracked.now ≡ Some false
was-out c = is-Restored _ (sym c.in-Restored.is ∙ c.in_ok-add.ensures.answer)

was-none : (c : In-New) → state_of c.args.f c.args.tracked.now ≡ None
was-none c = is-New _ (sym c.in-New.is ∙ c.in_ok-add.ensures.answer)

pushed : (c : In-New) → c.add.new.self ≡ c.args.tracked.now ++ (c.args.f, true) ∷ []
pushed c = c.in_ok-add.ensures.ok ∙ put-new c.args.f true c.args.tracked.now (was-none c)

pub take_out-requires : goal.take_out-requires
take_out-requires c = rw c.in_ok-add.ensures.ok (state-put c.args.f false true c.args.tracked.now (was-out (goal.at.take_out-requires c).In-Restored))

pub returns-in_default-clause-keys_stay : goal.returns-in_default-clause-keys_stay
returns-in_default-clause-keys_stay c =
    c.take_out.ensures ∙ (ap (λ (ks : Keys). put c.args.f false ks) c.in_ok-add.ensures.ok ∙ put-back c.args.f false true c.args.tracked.now (was-out (goal.at.returns-in_default-clause-keys_stay c).In-Restored))

pub drop_last-requires : goal.drop_last-requires
drop_last-requires c = omega (arith, ap length (pushed (goal.at.drop_last-requires c).In-New), length_push c.args.tracked.now (c.args.f, true))

pub returns-in_default-push-clause-keys_stay : goal.returns-in_default-push-clause-keys_stay
returns-in_default-push-clause-keys_stay c =
    c.drop_last.ensures ∙ (ap (λ (ks : Keys). front ks) (pushed (goal.at.returns-in_default-push-clause-keys_stay c).In-New) ∙ front-push c.args.tracked.now (c.args.f, true))
