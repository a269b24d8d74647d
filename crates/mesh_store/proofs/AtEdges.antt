-- The slots that a list of cuts touches, found edge after edge.
use Rattle.std.proofs.Common.{◌≡◌, ℕ, ◌+◌, ◌<◌, ◌≤◌, Bool, true, false, ◌&&◌, ◌||◌, List, [], ◌∷◌, ◌++◌, length, get_or, drop, refl, sym, ◌∙◌, ap}
use Rattle.std.specs.List.{list_any}
use Rattle.std.specs.List.Sorted.{IsStrictlyIncreasing}
use Rattle.std.proofs.lemmas.List.{at_drop_more, at_drop_all}
use mathlib.Core.Bool.{or_assoc, or-false}
use Rattle.grid.specs.Simplices.{has}
use Rattle.mesh_types.specs.declared.cut.Cut.{Cut}
use Rattle.mesh_types.specs.Refines.{is_touched}
use Rattle.tet_slots.specs.declared.slot.Slot.{Slot}
use Rattle.tet_slots.specs.Slots.{slot_at}
use Rattle.tet_slots.specs.Searches.{numbers_of, has_edge}
use Rattle.grid.proofs.ForCallers.{has-append}
use Rattle.tet_slots.proofs.ForCallers.{has-numbers, numbers-found}
use Rattle.mesh_store.specs.Changes.{is_split}

-- a live slot with both ends of one of the cuts
abbrev is_at_edges : List Cut → Slot → Bool
is_at_edges cuts s = list_any (λ e. has_edge e.u e.v s) cuts

-- the numbers so far, and those at the edges that are left, are those at all edges
abbrev pub FoundTo : List Cut → List Slot → ℕ → List ℕ → Type 0
FoundTo cuts slots n numbers = (i : ℕ) → (has numbers i || is_at_edges (drop n cuts) (slot_at slots i)) ≡ is_at_edges cuts (slot_at slots i)

module _ (cuts : List Cut) (slots : List Slot) where
  pub goes_on : (n : ℕ) (d : Cut) (numbers at new : List ℕ) → n < length cuts → at ≡ numbers_of (has_edge (get_or cuts n d).u (get_or cuts n d).v) 0 slots → new ≡ numbers ++ at → FoundTo cuts slots n numbers → FoundTo cuts slots (n + 1) new
  goes_on n d numbers at new l e f h i =
      let cut : Cut = get_or cuts n d in
      ap (λ (xs : List ℕ). has xs i || is_at_edges (drop (n + 1) cuts) (slot_at slots i)) f
      ∙ (ap (λ (b : Bool). b || is_at_edges (drop (n + 1) cuts) (slot_at slots i)) (has-append numbers at i ∙ ap (λ (b : Bool). has numbers i || b) (ap (λ (xs : List ℕ). has xs i) e ∙ has-numbers (has_edge cut.u cut.v) refl slots i))
      ∙ (or_assoc (has numbers i) (has_edge cut.u cut.v (slot_at slots i)) (is_at_edges (drop (n + 1) cuts) (slot_at slots i))
      ∙ (sym (at_drop_more (λ (es : List Cut). has numbers i || is_at_edges es (slot_at slots i)) cuts n d l) ∙ h i)))

  at-edges : (es : List Cut) (s : Slot) → is_at_edges es s ≡ is_split es s
  at-edges [] s = sym (and_false s.live)
    where
      and_false : (b : Bool) → (b && false) ≡ false
      and_false true = refl
      and_false false = refl
  at-edges (e ∷ es) s = ap (λ (b : Bool). has_edge e.u e.v s || b) (at-edges es s) ∙ spread s.live (has s.tet.0 e.u) (has s.tet.0 e.v) (is_touched es s.tet.0)
    where
      spread : (l a b c : Bool) → ((l && a && b) || (l && c)) ≡ (l && ((a && b) || c))
      spread true a b c = refl
      spread false a b c = refl

  pub found-all : (n : ℕ) (numbers risen : List ℕ) → length cuts ≤ n → FoundTo cuts slots n numbers → IsStrictlyIncreasing risen → ((i : ℕ) → has risen i ≡ has numbers i) → risen ≡ numbers_of (is_split cuts) 0 slots
  found-all n numbers risen l h rising same =
      numbers-found (is_split cuts) refl slots risen rising
      (λ i. same i
      ∙ (sym (or-false (has numbers i))
      ∙ (sym (at_drop_all (λ (es : List Cut). has numbers i || is_at_edges es (slot_at slots i)) cuts n l) ∙ (h i ∙ at-edges cuts (slot_at slots i)))))
