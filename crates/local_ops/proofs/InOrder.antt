-- Verdicts from tests made in their order.
use Rattle.std.proofs.Common.{◌≡◌, ◌⊎◌, ℕ, suc, ◌<◌, sym, ◌∙◌, ap, subst, inl, inr, arith}
use Rattle.std.proofs.lemmas.Bool.{cases_eq}
use Rattle.grid.specs.Meshes.{Mesh}
use Rattle.mesh_types.specs.declared.tries.Try.{Try}
use Rattle.mesh_types.specs.declared.tries.Why.{Why}
use Rattle.mesh_types.specs.declared.tries.Why.TheVariants as why
use Rattle.mesh_types.specs.declared.tries.Verdict.TheVariants.{Kept, Refused}
use Rattle.mesh_types.specs.Verdicts.{Setting, Passes, place_in_order, IsVerdict}
use Rattle.mesh_types.proofs.ForCallers.{why_at, at_place}
use Rattle.local_ops.specs.Attempts.{PassesBelow}

below_eight : (w : Why) → place_in_order w < 8
below_eight why.Box = omega arith
below_eight why.Rim = omega arith
below_eight why.Tracked = omega arith
below_eight why.Full = omega arith
below_eight why.Inverted = omega arith
below_eight why.Doubled = omega arith
below_eight why.Worse = omega arith
below_eight why.Uncovered = omega arith

module _ (s : Setting) (m : Mesh) (t : Try) where
  -- for `search`: before the first test
  pub passes_none : PassesBelow s m t 0
  passes_none = record { each = λ v h. absurd (omega arith) }

  -- one test more
  pub passes_more : (w : Why) → PassesBelow s m t (place_in_order w) → Passes s m t w → PassesBelow s m t (suc (place_in_order w))
  passes_more w h p = record {
    each = λ v l. elim (order (place_in_order v) (place_in_order w) l) [
      | inl e ↦ h.each v e
      | inr e ↦ subst (Passes s m t) (sym (at_place w) ∙ (ap why_at (sym e) ∙ at_place v)) p
    ];
  }
    where
      order : (a b : ℕ) → a < suc b → (a < b) ⊎ (a ≡ b)
      order a b h = elim (cases_eq a b) [ inl e ↦ inr e | inr n ↦ inl (omega (arith, n)) ]

  -- the first test that fails, and all passed
  pub refused : (w : Why) → PassesBelow s m t (place_in_order w) → ¬ Passes s m t w → IsVerdict s m t (Refused w)
  refused w h f = (f, h.each)

  pub kept : PassesBelow s m t 8 → IsVerdict s m t Kept
  kept h = λ w. h.each w (below_eight w)
