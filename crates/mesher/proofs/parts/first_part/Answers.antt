use Rattle.std.proofs.Common.{◌≡◌, nat_abs, length, subst}
use Rattle.std.specs.List.{range_with_len}
use Rattle.mesh_types.specs.Journals.{JournalRule, StaysSound, last_mesh, setting}
use Rattle.mesh_store.specs.Parts.{mesh_in}
use Rattle.mesh_store.proofs.ForCallers.{well_formed}
use Rattle.mesher.proofs.Keeping.{turns-covered}
use Rattle.mesher.proofs.parts.first_part.Goals as goal

pub improve-requires-clause-positive : goal.improve-requires-clause-positive
improve-requires-clause-positive c = c.in_ok-outcomes.ensures.turns.positive c.requires.tiles.positive

pub improve-requires-clause-once : goal.improve-requires-clause-once
improve-requires-clause-once c = (c.in_ok-outcomes.ensures.turns.tiles (nat_abs c.args.store.now.side) c.requires.tiles).fills.once

pub returns-clause-part : goal.returns-clause-part
returns-clause-part c =
    let between = mesh_in c.insert_all.new.store.parts in
    let last = mesh_in c.improve.new.store.parts in
    let found = c.in_ok-journal.field-0 in
    record {
      between = between;
      inserted = c.in_ok-outcomes.ensures.turns.inserted;
      journal = subst (λ side. JournalRule (setting c.args.env.now c.args.e side) between c.args.budget found.journal.lines found.end) c.in_ok-outcomes.ensures.side c.in_ok-journal.ensures.rule;
      mesh = subst (λ side. last ≡ last_mesh (nat_abs side) between found.journal.lines) c.in_ok-outcomes.ensures.side c.in_ok-journal.ensures.mesh;
    }

pub returns-clause-few : goal.returns-clause-few
returns-clause-few c = c.in_ok-journal.ensures.rule.follows.few

pub returns-clause-tiles : goal.returns-clause-tiles
returns-clause-tiles c =
    let between = mesh_in c.insert_all.new.store.parts in
    let last = mesh_in c.improve.new.store.parts in
    let stays = subst (λ side. StaysSound (setting c.args.env.now c.args.e side) between last) c.in_ok-outcomes.ensures.side c.in_ok-journal.ensures.sound in
    stays.tiles (c.in_ok-outcomes.ensures.turns.tiles (nat_abs c.args.store.now.side) c.requires.tiles)

pub returns-clause-covered : goal.returns-clause-covered
returns-clause-covered c = λ covered.
    let old = c.args.store.now in
    let middle = c.insert_all.new.store in
    let stays = subst (λ side. StaysSound (setting c.args.env.now c.args.e side) (mesh_in middle.parts) (mesh_in c.improve.new.store.parts)) c.in_ok-outcomes.ensures.side c.in_ok-journal.ensures.sound in
    stays.covered
    (turns-covered c.args.env.now c.args.e old.side (range_with_len 0 (length c.args.env.now)) (mesh_in old.parts) (mesh_in middle.parts) c.in_ok-outcomes.outcomes.items
    (well_formed old.side old.parts c.slots.ensures.sound) (well_formed middle.side middle.parts c.slots-2.ensures.sound) c.in_ok-outcomes.ensures.turns covered)
