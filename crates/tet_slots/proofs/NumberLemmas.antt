-- Which numbers a search finds, and the one rising list of them.
use Rattle.std.proofs.Common.{◌≡◌, ℕ, ◌<◌, Bool, true, false, ◌&&◌, List, length, refl, sym, ◌∙◌, ap, inl, inr}
use Rattle.std.specs.List.{range_with_len}
use Rattle.std.specs.List.Sorted.{IsStrictlyIncreasing}
use Rattle.std.proofs.lemmas.Bool.{and_right, cases_lt, false≢true}
use Rattle.std.proofs.lemmas.List.{get_or_past}
use Rattle.grid.specs.Simplices.{has}
use Rattle.tet_slots.specs.declared.slot.Slot.{Slot}
use Rattle.tet_slots.specs.Slots.{slot_at, no_slot}
use Rattle.tet_slots.specs.Searches.{numbers_of}
use Rattle.tet_slots.proofs.FilterLemmas.{numbers_of-filter}
use Rattle.tet_slots.proofs.FoundLemmas.{found-all, has-filter, has-range}

module _ (P : Slot → Bool) (none : P no_slot ≡ false) (slots : List Slot) where
  passes-there : (i : ℕ) → P (slot_at slots i) ≡ true → i < length slots
  passes-there i h = elim (cases_lt i (length slots)) [
    | inl l ↦ l
    | inr l ↦ absurd (false≢true (sym none ∙ (ap P (sym (get_or_past slots i no_slot l)) ∙ h)))
  ]

  in-range : (b : Bool) (i : ℕ) → P (slot_at slots i) ≡ b → (has (range_with_len 0 (length slots)) i && b) ≡ b
  in-range true i h = ap (λ (t : Bool). t && true) (has-range (length slots) i (passes-there i h))
  in-range false i h = and_right (has (range_with_len 0 (length slots)) i) false refl

  pub has-numbers : (i : ℕ) → has (numbers_of P 0 slots) i ≡ P (slot_at slots i)
  has-numbers i =
      ap (λ (xs : List ℕ). has xs i) (numbers_of-filter P slots)
      ∙ (has-filter (λ j. P (slot_at slots j)) (range_with_len 0 (length slots)) i ∙ in-range (P (slot_at slots i)) i refl)

  -- a rising list of the slots that pass is what the search finds
  pub numbers-found : (found : List ℕ) → IsStrictlyIncreasing found → ((i : ℕ) → has found i ≡ P (slot_at slots i)) → found ≡ numbers_of P 0 slots
  numbers-found found rising same =
      found-all (λ i. P (slot_at slots i)) (length slots) found rising (λ i h. let p = sym (same i) ∙ h in (passes-there i p, p)) (λ i l t. same i ∙ t)
      ∙ sym (numbers_of-filter P slots)
