use Rattle.std.proofs.Common.{◌≡◌, ◌∙◌, ◌+◌, ◌++◌, ◌∷◌, [], sym, subst, refl, length, List, ℕ, arith}
use Rattle.std.specs.List.{range_with_len}
use Rattle.mesh_types.specs.declared.outcome.Outcome.{Outcome}
use Rattle.mesh_store.specs.Parts.{StoreView, mesh_in}
use Rattle.insertion.specs.InTurn.{AreTurns, AreSomeTurns}
use Rattle.insertion.proofs.ForCallers.{no-turns, turns-push, range-push, first-turns, on_err}
use Rattle.mesher.proofs.turns.insert_all.Goals as goal

pub loop-t-init : goal.loop-t-init
loop-t-init c = record {
  at_most = omega arith;
  closed = c.requires.closed;
  side = refl;
  turns = subst (λ os. AreTurns c.args.env.now c.args.e [] (mesh_in c.args.store.now.parts) os (mesh_in c.args.store.now.parts)) (sym c.new-outcomes.ensures.items) (no-turns c.args.env.now c.args.e (mesh_in c.args.store.now.parts));
}

pub insert-requires-clause-closed : goal.insert-requires-clause-closed
insert-requires-clause-closed c = c.loop-t.invariant.closed

pub insert-requires-clause-positive : goal.insert-requires-clause-positive
insert-requires-clause-positive c = c.loop-t.invariant.turns.positive c.requires.positive

pub returns-in_err-outcome-clause-side : goal.returns-in_err-outcome-clause-side
returns-in_err-outcome-clause-side c = c.insert.ensures.side ∙ c.loop-t.invariant.side

pub returns-in_err-outcome-clause-memory : goal.returns-in_err-outcome-clause-memory
returns-in_err-outcome-clause-memory c =
    let m = mesh_in c.args.store.now.parts in
    on_err _ (subst (λ (v : StoreView). AreSomeTurns c.args.env.now c.args.e (range_with_len 0 (length c.args.env.now)) m (mesh_in v.parts)) (sym c.in_err-outcome.ensures.memory)
    (first-turns c.args.env.now c.args.e c.loop-t.t (length c.args.env.now) m (mesh_in c.loop-t.store.parts) c.loop-t.outcomes.items c.loop-t.invariant.at_most c.loop-t.invariant.turns))

pub returns-in_err-push-clause-side : goal.returns-in_err-push-clause-side
returns-in_err-push-clause-side c = c.insert.ensures.side ∙ c.loop-t.invariant.side

pub returns-in_err-push-clause-memory : goal.returns-in_err-push-clause-memory
returns-in_err-push-clause-memory c =
    let m = mesh_in c.args.store.now.parts in
    let n = mesh_in c.insert.new.store.parts in
    let ok = c.in_ok-outcome.ensures in
    let more = turns-push c.args.env.now c.args.e c.loop-t.t (range_with_len 0 c.loop-t.t) m (mesh_in c.loop-t.store.parts) n c.loop-t.outcomes.items c.in_ok-outcome.outcome c.loop-t.invariant.turns ok.outcome ok.tiles ok.covered in
    on_err _ (first-turns c.args.env.now c.args.e (c.loop-t.t + 1) (length c.args.env.now) m n (c.loop-t.outcomes.items ++ c.in_ok-outcome.outcome ∷ []) (omega (arith, c.loop-t-test.true, c.len-t-end.ensures))
    (subst (λ (ns : List ℕ). AreTurns c.args.env.now c.args.e ns m (c.loop-t.outcomes.items ++ c.in_ok-outcome.outcome ∷ []) n) (sym (range-push c.loop-t.t)) more))

pub loop-t-preserved : goal.loop-t-preserved
loop-t-preserved c =
    let m = mesh_in c.args.store.now.parts in
    let n = mesh_in c.insert.new.store.parts in
    let ok = c.in_ok-outcome.ensures in
    let more = turns-push c.args.env.now c.args.e c.loop-t.t (range_with_len 0 c.loop-t.t) m (mesh_in c.loop-t.store.parts) n c.loop-t.outcomes.items c.in_ok-outcome.outcome c.loop-t.invariant.turns ok.outcome ok.tiles ok.covered in
    record {
      at_most = omega (arith, c.loop-t-test.true, c.len-t-end.ensures);
      closed = ok.closed;
      side = ok.side ∙ c.loop-t.invariant.side;
      turns = subst (λ (os : List Outcome). AreTurns c.args.env.now c.args.e (range_with_len 0 (c.loop-t.t + 1)) m os n) (sym c.in_ok-push.ensures.items)
          (subst (λ (ns : List ℕ). AreTurns c.args.env.now c.args.e ns m (c.loop-t.outcomes.items ++ c.in_ok-outcome.outcome ∷ []) n) (sym (range-push c.loop-t.t)) more);
    }

pub returns-clause-closed : goal.returns-clause-closed
returns-clause-closed c = c.loop-t.invariant.closed

pub returns-clause-side : goal.returns-clause-side
returns-clause-side c = c.loop-t.invariant.side

pub returns-clause-turns : goal.returns-clause-turns
returns-clause-turns c =
    let all : c.loop-t.t ≡ length c.args.env.now = omega (arith, c.loop-t-test.false, c.loop-t.invariant.at_most, c.len-t-end.ensures) in
    subst (λ k. AreTurns c.args.env.now c.args.e (range_with_len 0 k) (mesh_in c.args.store.now.parts) c.loop-t.outcomes.items (mesh_in c.loop-t.store.parts)) all c.loop-t.invariant.turns
