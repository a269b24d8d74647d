-- A verdict from tests that are made in their order.
use Rattle.std.proofs.Common.{◌≡◌, ◌⊎◌, ℕ, suc, ◌<◌, sym, ◌∙◌, ap, subst, inl, inr, arith}
use Rattle.std.proofs.lemmas.Bool.{cases_eq}
use Rattle.grid.specs.Meshes.{Mesh}
use Rattle.mesh_types.specs.declared.tries.Try.{Try}
use Rattle.mesh_types.specs.declared.tries.Why.{Why}
use Rattle.mesh_types.specs.declared.tries.Why.TheVariants as why
use Rattle.mesh_types.specs.Verdicts.{Setting, Passes, place_in_order}
use Rattle.mesh_types.proofs.ForCallers.{why_at, at_place}

module _ (s : Setting) (m : Mesh) (t : Try) where
  -- the tests before a place are passed
  abbrev pub PassesBefore : ℕ → Type 0
  PassesBefore n = (w : Why) → place_in_order w < n → Passes s m t w

  pub first : PassesBefore 0
  first v l = absurd (omega arith)

  pub next : (w : Why) → PassesBefore (place_in_order w) → Passes s m t w → PassesBefore (suc (place_in_order w))
  next w h p v l = elim (order (place_in_order v) (place_in_order w) l) [
    | inl e ↦ h v e
    | inr e ↦ subst (Passes s m t) (sym (at_place w) ∙ (ap why_at (sym e) ∙ at_place v)) p
  ]
    where
      order : (a b : ℕ) → a < suc b → (a < b) ⊎ (a ≡ b)
      order a b h = elim (cases_eq a b) [ inl e ↦ inr e | inr n ↦ inl (omega (arith, n)) ]

  pub all : PassesBefore 8 → (w : Why) → Passes s m t w
  all h w = h w (below w)
    where
      below : (w : Why) → place_in_order w < 8
      below why.Box = omega arith
      below why.Rim = omega arith
      below why.Tracked = omega arith
      below why.Full = omega arith
      below why.Inverted = omega arith
      below why.Doubled = omega arith
      below why.Worse = omega arith
      below why.Uncovered = omega arith
