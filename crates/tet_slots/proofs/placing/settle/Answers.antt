use Rattle.std.proofs.Common.{rules, false, [], length, ◌∙◌, ap, ◌+◌}
use Rattle.std.proofs.lemmas.List.{length_push}
use Rattle.tet_slots.proofs.WholeLemmas.{AreFirstBinned-same, AreFirstBinned-settled}
use Rattle.tet_slots.proofs.placing.settle.Goals as goal

pub returns-in_err-add : goal.returns-in_err-add
returns-in_err-add c = AreFirstBinned-same c.args.points.now c.args.slots.now c.args.forgotten.now c.loop-slot.places.items c.add.new.places.items c.loop-slot.levels.items c.add.new.levels.items c.in_err-add.ensures.places_err c.in_err-add.ensures.levels_err c.loop-slot.invariant.binned

pub loop-slot-preserved : goal.loop-slot-preserved
loop-slot-preserved c = record {
  many = ap length c.in_ok-add.ensures.places_ok ∙ (length_push c.loop-slot.places.items c.place_of-place.result ∙ ap (λ k. k + 1) c.loop-slot.invariant.many);
  binned = AreFirstBinned-settled c.args.points.now c.args.slots.now c.args.forgotten.now c.loop-slot.places.items c.add.new.places.items c.loop-slot.levels.items c.add.new.levels.items c.loop-slot.slot c.place_of-place.result _ (record { tet = record { 0 = [] }; live = false }) c.loop-slot.invariant.many c.loop-slot-test.true c.requires.one_each (c.place_of-place.ensures.near c.args.points.now _ c.extents_of-extents.ensures) (search rules) c.extents_of-extents.ensures c.in_ok-add.ensures.places_ok c.in_ok-add.ensures.levels_ok c.loop-slot.invariant.binned;
}
