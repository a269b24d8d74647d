use Rattle.std.proofs.Common.{◌≡◌, ◌∙◌, [], nat_abs, sym, ap, subst}
use Rattle.mesh_types.specs.Journals.{JournalRule, StaysSound, last_mesh, setting}
use Rattle.mesh_types.specs.Turns.{rolled_back}
use Rattle.mesh_store.specs.Parts.{mesh_in}
use Rattle.mesh_store.proofs.ForCallers.{well_formed}
use Rattle.insertion.specs.InTurn.{outcomes_of, triangles_of}
use Rattle.mesher.proofs.Keeping.{turns-covered, is_none, is_some, none-inserted}
use Rattle.mesher.proofs.parts.second_part.Goals as goal

pub returns-then-is_empty-clause-part : goal.returns-then-is_empty-clause-part
returns-then-is_empty-clause-part c =
    let same = c.as_slice.ensures ∙ c.from_vec-again.ensures in
    let none = sym same ∙ is_none c.as_slice.result.now (sym c.is_empty.ensures ∙ c.if-is_empty.true) in
    let numbers : rolled_back 0 c.args.outcomes.now ≡ [] = sym c.in_ok-second_turn.ensures.triangles ∙ ap triangles_of none in
    (numbers, none-inserted c.args.env.now c.args.e (rolled_back 0 c.args.outcomes.now) (mesh_in c.args.store.now.parts) (mesh_in c.second_turn.new.store.parts) (outcomes_of c.in_ok-second_turn.field-0.items) numbers (ap outcomes_of none) c.in_ok-second_turn.ensures.turns.inserted)

pub returns-then-is_empty-clause-tiles : goal.returns-then-is_empty-clause-tiles
returns-then-is_empty-clause-tiles c = c.in_ok-second_turn.ensures.turns.tiles (nat_abs c.args.store.now.side) c.requires.tiles

pub returns-then-is_empty-clause-covered : goal.returns-then-is_empty-clause-covered
returns-then-is_empty-clause-covered c = λ covered.
    let old = c.args.store.now in
    let middle = c.second_turn.new.store in
    turns-covered c.args.env.now c.args.e old.side (rolled_back 0 c.args.outcomes.now) (mesh_in old.parts) (mesh_in middle.parts) (outcomes_of c.in_ok-second_turn.field-0.items)
    (well_formed old.side old.parts c.slots.ensures.sound) (well_formed middle.side middle.parts c.slots-2.ensures.sound) c.in_ok-second_turn.ensures.turns covered

pub improve-requires-clause-positive : goal.improve-requires-clause-positive
improve-requires-clause-positive c = c.in_ok-second_turn.ensures.turns.positive c.requires.tiles.positive

pub improve-requires-clause-once : goal.improve-requires-clause-once
improve-requires-clause-once c = (c.in_ok-second_turn.ensures.turns.tiles (nat_abs c.args.store.now.side) c.requires.tiles).fills.once

pub returns-clause-part : goal.returns-clause-part
returns-clause-part c =
    let between = mesh_in c.second_turn.new.store.parts in
    let last = mesh_in c.improve.new.store.parts in
    let found = c.in_ok-journal.field-0 in
    let triangles = ap triangles_of c.from_vec-again.ensures ∙ c.in_ok-second_turn.ensures.triangles in
    let same = c.as_slice.ensures ∙ c.from_vec-again.ensures in
    let some = is_some c.as_slice.result.now (sym c.is_empty.ensures ∙ c.if-is_empty.false) in (
      (λ none. some (ap triangles_of same ∙ (c.in_ok-second_turn.ensures.triangles ∙ none))),
      record {
        triangles = triangles;
        part = rw c.from_vec-again.ensures (record {
          between = between;
          inserted = c.in_ok-second_turn.ensures.turns.inserted;
          journal = subst (λ side. JournalRule (setting c.args.env.now c.args.e side) between c.args.budget found.journal.lines found.end) c.in_ok-second_turn.ensures.side c.in_ok-journal.ensures.rule;
          mesh = subst (λ side. last ≡ last_mesh (nat_abs side) between found.journal.lines) c.in_ok-second_turn.ensures.side c.in_ok-journal.ensures.mesh;
        });
      },
    )

pub returns-clause-tiles : goal.returns-clause-tiles
returns-clause-tiles c =
    let between = mesh_in c.second_turn.new.store.parts in
    let last = mesh_in c.improve.new.store.parts in
    let stays = subst (λ side. StaysSound (setting c.args.env.now c.args.e side) between last) c.in_ok-second_turn.ensures.side c.in_ok-journal.ensures.sound in
    stays.tiles (c.in_ok-second_turn.ensures.turns.tiles (nat_abs c.args.store.now.side) c.requires.tiles)

pub returns-clause-covered : goal.returns-clause-covered
returns-clause-covered c = λ covered.
    let old = c.args.store.now in
    let middle = c.second_turn.new.store in
    let stays = subst (λ side. StaysSound (setting c.args.env.now c.args.e side) (mesh_in middle.parts) (mesh_in c.improve.new.store.parts)) c.in_ok-second_turn.ensures.side c.in_ok-journal.ensures.sound in
    stays.covered
    (turns-covered c.args.env.now c.args.e old.side (rolled_back 0 c.args.outcomes.now) (mesh_in old.parts) (mesh_in middle.parts) (outcomes_of c.in_ok-second_turn.field-0.items)
    (well_formed old.side old.parts c.slots.ensures.sound) (well_formed middle.side middle.parts c.slots-2.ensures.sound) c.in_ok-second_turn.ensures.turns covered)
