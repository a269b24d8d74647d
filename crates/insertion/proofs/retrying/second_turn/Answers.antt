use Rattle.std.proofs.Common.{◌≡◌, ◌∙◌, ◌+◌, ◌++◌, ◌∷◌, [], sym, ap, subst, refl, take, List, ℕ, arith}
use Rattle.std.proofs.lemmas.List.{take_all}
use Rattle.mesh_types.specs.declared.outcome.Again.{Again}
use Rattle.mesh_types.specs.declared.outcome.Outcome.{Outcome}
use Rattle.mesh_types.specs.Turns.{rolled_back}
use Rattle.mesh_store.specs.Parts.{StoreView, mesh_in}
use Rattle.insertion.specs.InTurn.{AreTurns, AreSomeTurns, outcomes_of, triangles_of}
use Rattle.insertion.proofs.RolledBack.{rolled-next, rolled-skip, again-push, some-rolled_back}
use Rattle.insertion.proofs.Turning.{no-turns, turns-push, on_err}
use Rattle.insertion.proofs.retrying.second_turn.Goals as goal
use Rattle.insertion.proofs.retrying.second_turn.Goals.{then-has_defect+in_ok-outcome+in_ok-push, else-has_defect}

pub loop-t-init : goal.loop-t-init
loop-t-init c =
    let m = mesh_in c.args.store.now.parts in
    record {
      at_most = omega arith;
      closed = c.requires.closed;
      side = refl;
      triangles = ap triangles_of c.new-again.ensures.items;
      turns = subst (λ (again : List Again). AreTurns c.args.env.now c.args.e [] m (outcomes_of again) m) (sym c.new-again.ensures.items) (no-turns c.args.env.now c.args.e m);
    }

pub insert-requires-clause-closed : goal.insert-requires-clause-closed
insert-requires-clause-closed c = c.loop-t.invariant.closed

pub insert-requires-clause-positive : goal.insert-requires-clause-positive
insert-requires-clause-positive c = c.loop-t.invariant.turns.positive c.requires.positive

pub returns-in_err-outcome-clause-side : goal.returns-in_err-outcome-clause-side
returns-in_err-outcome-clause-side c = c.insert.ensures.side ∙ c.loop-t.invariant.side

pub returns-in_err-outcome-clause-memory : goal.returns-in_err-outcome-clause-memory
returns-in_err-outcome-clause-memory c =
    let os = c.args.outcomes.now in
    let m = mesh_in c.args.store.now.parts in
    on_err _ (subst (λ (v : StoreView). AreSomeTurns c.args.env.now c.args.e (rolled_back 0 os) m (mesh_in v.parts)) (sym c.in_err-outcome.ensures.memory)
    (some-rolled_back c.args.env.now c.args.e c.loop-t.t os m (mesh_in c.loop-t.store.parts) (outcomes_of c.loop-t.again.items) c.loop-t.invariant.turns))

pub returns-in_err-push-clause-side : goal.returns-in_err-push-clause-side
returns-in_err-push-clause-side c = c.insert.ensures.side ∙ c.loop-t.invariant.side

pub returns-in_err-push-clause-memory : goal.returns-in_err-push-clause-memory
returns-in_err-push-clause-memory c =
    let os = c.args.outcomes.now in
    let t = c.loop-t.t in
    let m = mesh_in c.args.store.now.parts in
    let n = mesh_in c.insert.new.store.parts in
    let ok = c.in_ok-outcome.ensures in
    let numbers = rolled_back 0 (take t os) in
    let next = rolled-next t os _ (omega (arith, c.loop-t-test.true, c.len-t-end.ensures, c.requires.one_each)) (sym c.has_defect.ensures ∙ c.if-has_defect.true) in
    let more = turns-push c.args.env.now c.args.e t numbers m (mesh_in c.loop-t.store.parts) n (outcomes_of c.loop-t.again.items) c.in_ok-outcome.outcome c.loop-t.invariant.turns ok.outcome ok.tiles ok.covered in
    on_err _ (some-rolled_back c.args.env.now c.args.e (t + 1) os m n (outcomes_of c.loop-t.again.items ++ c.in_ok-outcome.outcome ∷ [])
    (subst (λ (ns : List ℕ). AreTurns c.args.env.now c.args.e ns m (outcomes_of c.loop-t.again.items ++ c.in_ok-outcome.outcome ∷ []) n) (sym next) more))

pub loop-t-preserved : goal.loop-t-preserved
loop-t-preserved c = elim c.if-has_defect.branch [
  | then-has_defect+in_ok-outcome+in_ok-push w ↦
      let os = c.args.outcomes.now in
      let t = c.loop-t.t in
      let m = mesh_in c.args.store.now.parts in
      let n = mesh_in w.insert.new.store.parts in
      let ok = w.in_ok-outcome.ensures in
      let so_far = c.loop-t.again.items in
      let numbers = rolled_back 0 (take t os) in
      let next = rolled-next t os _ (omega (arith, c.loop-t-test.true, c.len-t-end.ensures, c.requires.one_each)) (sym c.has_defect.ensures ∙ w.if-has_defect.true) in
      let pushed = again-push so_far _ t w.in_ok-outcome.outcome w.in_ok-push.ensures.items in
      let more = turns-push c.args.env.now c.args.e t numbers m (mesh_in c.loop-t.store.parts) n (outcomes_of so_far) w.in_ok-outcome.outcome c.loop-t.invariant.turns ok.outcome ok.tiles ok.covered in
      rw (w.store-is, w.again-is) (record {
        at_most = omega (arith, c.loop-t-test.true, c.len-t-end.ensures);
        closed = ok.closed;
        side = ok.side ∙ c.loop-t.invariant.side;
        triangles = pushed.0 ∙ (ap (λ (ns : List ℕ). ns ++ t ∷ []) c.loop-t.invariant.triangles ∙ sym next);
        turns = subst (λ (qs : List Outcome). AreTurns c.args.env.now c.args.e (rolled_back 0 (take (t + 1) os)) m qs n) (sym pushed.1)
            (subst (λ (ns : List ℕ). AreTurns c.args.env.now c.args.e ns m (outcomes_of so_far ++ w.in_ok-outcome.outcome ∷ []) n) (sym next) more);
      })
  | else-has_defect w ↦
      let os = c.args.outcomes.now in
      let t = c.loop-t.t in
      let m = mesh_in c.args.store.now.parts in
      let skip = rolled-skip t os _ (omega (arith, c.loop-t-test.true, c.len-t-end.ensures, c.requires.one_each)) (sym c.has_defect.ensures ∙ w.if-has_defect.false) in
      rw (w.store-is, w.again-is) (record {
        at_most = omega (arith, c.loop-t-test.true, c.len-t-end.ensures);
        closed = c.loop-t.invariant.closed;
        side = c.loop-t.invariant.side;
        triangles = c.loop-t.invariant.triangles ∙ sym skip;
        turns = subst (λ (ns : List ℕ). AreTurns c.args.env.now c.args.e ns m (outcomes_of c.loop-t.again.items) (mesh_in c.loop-t.store.parts)) (sym skip) c.loop-t.invariant.turns;
      })
]

pub returns-clause-closed : goal.returns-clause-closed
returns-clause-closed c = c.loop-t.invariant.closed

pub returns-clause-side : goal.returns-clause-side
returns-clause-side c = c.loop-t.invariant.side

pub returns-clause-triangles : goal.returns-clause-triangles
returns-clause-triangles c =
    let all : take c.loop-t.t c.args.outcomes.now ≡ c.args.outcomes.now = take_all c.loop-t.t c.args.outcomes.now (omega (arith, c.loop-t-test.false, c.len-t-end.ensures, c.requires.one_each)) in
    c.loop-t.invariant.triangles ∙ ap (rolled_back 0) all

pub returns-clause-turns : goal.returns-clause-turns
returns-clause-turns c =
    let all : take c.loop-t.t c.args.outcomes.now ≡ c.args.outcomes.now = take_all c.loop-t.t c.args.outcomes.now (omega (arith, c.loop-t-test.false, c.len-t-end.ensures, c.requires.one_each)) in
    subst (λ (os : List Outcome). AreTurns c.args.env.now c.args.e (rolled_back 0 os) (mesh_in c.args.store.now.parts) (outcomes_of c.loop-t.again.items) (mesh_in c.loop-t.store.parts)) all c.loop-t.invariant.turns
