-- A store after the split of an edge.
use Rattle.std.proofs.Common.{◌≡◌, ◌∙◌, ℕ, [], ◌∷◌, Result, Ok, Err, OnOk, Some, ap, sym, subst, refl}
use Rattle.grid.specs.declared.shapes.Point.{Point}
use Rattle.grid.specs.Determinants.{point_at}
use Rattle.grid.specs.Meshes.{Mesh, IsWithinLimits}
use Rattle.mesh_types.specs.declared.cut.Cut.{Cut}
use Rattle.mesh_types.specs.declared.tries.Try.TheVariants.{Split}
use Rattle.mesh_types.specs.Refines.{refine}
use Rattle.mesh_types.specs.Results.{midpoint_floored, middle_cut, split}
use Rattle.mesh_store.specs.declared.issue.StoreIssue.{StoreIssue}
use Rattle.mesh_store.specs.Changes.{IsGrown, IsSameTransaction, AddedAreLive}
use Rattle.mesh_store.specs.Parts.{StoreView, mesh_in}
use Rattle.local_ops.specs.Attempts.{IsChanged}

split-is : (m : Mesh) (u v : ℕ) → (split m u v).mesh ≡ refine m (middle_cut m u v)
unfolding split
split-is m u v = refl

module _ (old opened : StoreView) (u v : ℕ) (at : Point) (e : opened ≡ record old { at_begin = Some old.parts }) (is : at ≡ midpoint_floored (point_at old.parts.points u) (point_at old.parts.points v)) where
  abbrev cut : Cut
  cut = record { u = u; v = v; at = at }

  result : refine (mesh_in opened.parts) (cut ∷ []) ≡ (split (mesh_in old.parts) u v).mesh
  result = (λ i. refine (mesh_in (e i).parts) (record { u = u; v = v; at = is i } ∷ [])) ∙ sym (split-is (mesh_in old.parts) u v)

  pub split-full : ¬ IsWithinLimits (refine (mesh_in opened.parts) (cut ∷ [])) → ¬ IsWithinLimits (split (mesh_in old.parts) u v).mesh
  split-full n w = n (subst IsWithinLimits (sym result) w)

pub split-changed : (old opened new : StoreView) (u v : ℕ) (at : Point) (r : Result (Unit {0}) StoreIssue) (e : opened ≡ record old { at_begin = Some old.parts })
    → at ≡ midpoint_floored (point_at old.parts.points u) (point_at old.parts.points v)
    → OnOk r (mesh_in new.parts ≡ refine (mesh_in opened.parts) (record { u = u; v = v; at = at } ∷ [])) → OnOk r (IsGrown opened.parts new.parts)
    → OnOk r (IsSameTransaction opened new) → OnOk r (AddedAreLive opened.parts new.parts) → OnOk r (IsWithinLimits (mesh_in new.parts)) → OnOk r (IsChanged (Split u v) old new)
split-changed old opened new u v at (Ok x) e is mesh grown goes_on added within = record {
  begin = goes_on.begin ∙ ap (λ (s : StoreView). s.at_begin) e;
  side = goes_on.side ∙ ap (λ (s : StoreView). s.side) e;
  mesh = mesh ∙ result old opened u v at e is;
  grown = subst (λ (s : StoreView). IsGrown s.parts new.parts) e grown;
  added = subst (λ (s : StoreView). AddedAreLive s.parts new.parts) e added;
  within = within;
}
split-changed old opened new u v at (Err x) e is mesh grown goes_on added within = tt
