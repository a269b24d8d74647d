use Rattle.std.proofs.Common.{◌<◌, ◌∙◌, sym, ap, List, ℕ, ◌++◌, ◌∷◌, [], take, arith, length}
use Rattle.std.proofs.lemmas.List.{take_more}
use Rattle.tet_slots.specs.Slots.{slot_at, no_slot}
use Rattle.mesh_store.specs.Parts.{live_tets}
use Rattle.mesh_store.proofs.LiveSlots.{live-append}
use Rattle.mesh_store.proofs.listing.listed_tets.Goals as goal

pub loop-i-preserved : goal.loop-i-preserved
loop-i-preserved c =
    let there : c.loop-i.i < length c.args.slots.now.slots = omega (arith, c.loop-i.invariant.end) in
    record {
      tets = c.in_ok-push_live.ensures
          ∙ (ap (λ (xs : List (List ℕ)). xs ++ live_tets (slot_at c.args.slots.now.slots c.loop-i.i ∷ [])) c.loop-i.invariant.tets
          ∙ (sym (live-append (take c.loop-i.i c.args.slots.now.slots) (slot_at c.args.slots.now.slots c.loop-i.i ∷ [])) ∙ ap live_tets (sym (take_more c.args.slots.now.slots c.loop-i.i no_slot there))));
      end = c.loop-i.invariant.end;
    }
