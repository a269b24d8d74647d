use Rattle.std.proofs.Common.{◌≡◌, ℕ, Bool, true, ◌||◌, false, List, [], ◌∷◌, refl, ap}
use Rattle.std.proofs.lemmas.Bool.{eq-eqb}
use Rattle.grid.specs.Simplices.{has}
use Rattle.tet_slots.specs.Quests.{passes}
use Rattle.tet_slots.proofs.FoundLemmas.{Grows-then, Grows-filter, Finds-filter, extend}
use Rattle.tet_slots.proofs.meeting.Quest.find_from.Goals as goal

pub loop-i-preserved : goal.loop-i-preserved
loop-i-preserved c =
    let k : ℕ = c.loop-i.i in
    let test : ℕ → Bool = passes c.args.self.now.points.now c.args.self.now.slots.now c.args.self.now.lo c.args.self.now.hi in
    let mid : List ℕ = c.loop-i.into.items in
    let new : List ℕ = c.find_slot.new.into.items in
    let more = Grows-filter test mid (k ∷ []) new c.in_ok-find_slot.ensures in
    let Q : List ℕ → ℕ → Type 0 = λ found j. test j ≡ true → has found j ≡ true in
    record {
      grows = Grows-then test c.args.into.now.items mid new c.loop-i.invariant.grows more;
      found = extend c.args.first k (Q mid) (Q new) c.loop-i.invariant.found (λ j h t. more.kept j (h t)) (Finds-filter test mid (k ∷ []) new c.in_ok-find_slot.ensures k (ap (λ (t : Bool). t || false) (eq-eqb k k refl)));
    }
