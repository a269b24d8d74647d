-- The change of a point for another, as a step: what the step wants, and what it makes.
use Rattle.std.proofs.Common.{◌≡◌, ℕ, ℤ, ◌<◌, ◌&&◌, ◌||◌, not, List, [], ◌++◌, map, length, refl, sym, ◌∙◌, ap, subst, All}
use Rattle.std.specs.List.{AllByRecursion as Each}
use Rattle.std.proofs.lemmas.List.Elements.{All-from_recursion, recursion_from_All}
use Rattle.grid.specs.Meshes.{IsTriple}
use Rattle.grid.specs.Simplices.{IsTet, has, rising}
use Rattle.grid.specs.Views.{triples_of}
use Rattle.mesh_types.proofs.ForCallers.{Each-filter, is_among, in_order_once-Ordered}
use Rattle.tet_slots.specs.declared.slot.Slot.{Slot}
use Rattle.tet_slots.specs.Searches.{numbers_of, has_corner}
use Rattle.tracked.specs.Keys.{faces_in}
use Rattle.mesh_store.specs.Parts.{Parts, live_slot, live_tets, tracked_in}
use Rattle.mesh_store.specs.Sound.{IsSoundStore}
use Rattle.mesh_store.specs.Changes.{killed_if}
use Rattle.mesh_store.specs.Exchanges.{all_killed, CanKill, CanTake, exchanged, at_corner, put_in, moved_tets, tet_in, IsMoved}
use Rattle.mesh_store.proofs.Exchanged.{exchanged-in, tracked-in}
use Rattle.mesh_store.proofs.Killing.{CanKill-numbers, all_killed-numbers, tets-numbers, exchanged-points, exchanged-slots}
use Rattle.mesh_store.proofs.KeySets.{tracked-triples}
use Rattle.mesh_store.proofs.MeshLemmas.{live-tets}
use Rattle.mesh_store.proofs.Moves.{put_in-at, tets-moved, triples-moved, CanTake-filter, among-exchanged}

-- the lists of the change
pub record IsPlanned (u v : ℕ) (old : Parts) (gone : List ℕ) (fresh out into : List (List ℕ)) : Type 0 where
  pub gone_are : gone ≡ numbers_of (has_corner u) 0 old.slots
  pub fresh_are : fresh ≡ put_in u v (map (tet_in old.slots) gone)
  pub out_are : out ≡ at_corner u (tracked_in old.keys)
  pub into_are : into ≡ map rising (put_in u v out)

module _ (u v : ℕ) (old : Parts) where
  pub can_kill-gone : CanKill (numbers_of (has_corner u) 0 old.slots) old.slots
  can_kill-gone = CanKill-numbers (has_corner u) (λ x. has x u) (λ s. refl) [] old.slots

  fresh-moved : (gone : List ℕ) (fresh out into : List (List ℕ)) → IsPlanned u v old gone fresh out into → fresh ≡ moved_tets u v (live_tets old.slots)
  fresh-moved gone fresh out into p =
      p.fresh_are
      ∙ (ap (λ (is : List ℕ). put_in u v (map (tet_in old.slots) is)) p.gone_are
      ∙ (ap (put_in u v) (tets-numbers (has_corner u) (λ x. has x u) (λ s. refl) [] old.slots) ∙ put_in-at u v (live_tets old.slots)))

  module _ (side : ℤ) (sound : IsSoundStore side old) (there : v < length old.points) (gone : List ℕ) (fresh out into : List (List ℕ)) (p : IsPlanned u v old gone fresh out into) where
    pub plan-fresh : fresh ≡ moved_tets u v (live_tets old.slots)
    plan-fresh = fresh-moved gone fresh out into p

    pub plan-can_kill : CanKill gone old.slots
    plan-can_kill = subst (λ (is : List ℕ). CanKill is old.slots) (sym p.gone_are) can_kill-gone

    pub plan-corners : All (IsTet (length old.points)) fresh
    plan-corners =
        subst (All (IsTet (length old.points))) (sym plan-fresh)
        (All-from_recursion (IsTet (length old.points)) (moved_tets u v (live_tets old.slots))
        (tets-moved (length old.points) u v (live_tets old.slots) there (live-tets (length old.points) old.slots (recursion_from_All (λ (s : Slot). IsTet (length old.points) s.tet.0) old.slots sound.tets_are))))

    pub plan-can_take : CanTake out old.keys
    plan-can_take =
        subst (λ (ts : List (List ℕ)). CanTake ts old.keys) (sym p.out_are)
        (CanTake-filter (λ t. has t u) (tracked_in old.keys) old.keys (in_order_once-Ordered (triples_of (faces_in old.keys))) (tracked-in side old sound))

    triples-are : Each (IsTriple (length old.points)) (tracked_in old.keys)
    triples-are = tracked-triples (length old.points) old.keys sound.triples_are

    into-all : into ≡ map rising (put_in u v (at_corner u (tracked_in old.keys)))
    into-all = p.into_are ∙ ap (λ (ts : List (List ℕ)). map rising (put_in u v ts)) p.out_are

    pub plan-triples : All (IsTriple (length old.points)) into
    plan-triples =
        subst (All (IsTriple (length old.points))) (sym into-all)
        (All-from_recursion (IsTriple (length old.points)) (map rising (put_in u v (at_corner u (tracked_in old.keys))))
        (triples-moved (length old.points) u v (at_corner u (tracked_in old.keys)) there (Each-filter (IsTriple (length old.points)) (λ t. has t u) (tracked_in old.keys) triples-are)))

    pub plan-moved : IsMoved u v old (exchanged gone fresh out into old)
    plan-moved = record {
      points = exchanged-points gone fresh out into old;
      slots = exchanged-slots gone fresh out into old
          ∙ (ap (λ (is : List ℕ). all_killed is old.slots ++ map live_slot fresh) p.gone_are
          ∙ (ap (λ (ss : List Slot). ss ++ map live_slot fresh) (all_killed-numbers (has_corner u) (λ x. has x u) (λ s. refl) [] old.slots)
          ∙ ap (λ (xs : List (List ℕ)). map (killed_if (λ x. has x u)) old.slots ++ map live_slot xs) plan-fresh));
      faces = λ x. exchanged-in side old sound gone fresh out into x
          ∙ (ap (λ (ts : List (List ℕ)). is_among x ts || (is_among x (tracked_in old.keys) && not (is_among x out))) into-all
          ∙ (ap (λ (ts : List (List ℕ)). is_among x (map rising (put_in u v (at_corner u (tracked_in old.keys)))) || (is_among x (tracked_in old.keys) && not (is_among x ts))) p.out_are
          ∙ among-exchanged (length old.points) u v x (tracked_in old.keys) triples-are));
    }
