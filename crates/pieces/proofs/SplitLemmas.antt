-- Splitting by one cut after the other.
use Rattle.std.proofs.Common.{◌≡◌, ℕ, ◌+◌, ◌<◌, false, ◌&&◌, List, [], ◌∷◌, ◌++◌, length, drop, get_or, pos, refl, sym, ◌∙◌, ap}
use Rattle.std.specs.List.{flat_map, list_any}
use Rattle.std.proofs.lemmas.Bool.{or_parts}
use Rattle.std.proofs.lemmas.List.{at_drop_more}
use Rattle.grid.specs.Simplices.{has, sub}
use Rattle.mesh_types.specs.declared.cut.Cut.{Cut}
use Rattle.mesh_types.specs.Refines.{sub_all}
use Rattle.mesh_types.proofs.ForCallers.{sub-untouched, flat_map-flat_map}

-- where none has the edge, all stay
pub flat_map-sub-none : (u v k : ℕ) (xs : List (List ℕ)) → list_any (λ x. has x u && has x v) xs ≡ false → flat_map (sub u v k) xs ≡ xs
flat_map-sub-none u v k [] e = refl
flat_map-sub-none u v k (x ∷ xs) e =
    let parts = or_parts (has x u && has x v) (list_any (λ x. has x u && has x v) xs) e in
    ap (λ (ys : List (List ℕ)). ys ++ flat_map (sub u v k) xs) (sub-untouched u v k x parts.0) ∙ ap (λ (ys : List (List ℕ)). x ∷ ys) (flat_map-sub-none u v k xs parts.1)

abbrev pub no_cut : Cut
no_cut = record { u = 0; v = 0; at = record { x = pos 0; y = pos 0; z = pos 0 } }

-- one cut more
pub split-step : (cuts : List Cut) (i k : ℕ) (xs ys target : List (List ℕ)) (d : Cut) → i < length cuts → ys ≡ flat_map (sub (get_or cuts i d).u (get_or cuts i d).v k) xs → flat_map (sub_all k (drop i cuts)) xs ≡ target
    → flat_map (sub_all (k + 1) (drop (i + 1) cuts)) ys ≡ target
split-step cuts i k xs ys target d h split before =
    let e : Cut = get_or cuts i d in
    ap (flat_map (sub_all (k + 1) (drop (i + 1) cuts))) split
    ∙ (flat_map-flat_map (sub e.u e.v k) (sub_all (k + 1) (drop (i + 1) cuts)) xs
    ∙ (sym (at_drop_more (λ (cs : List Cut). flat_map (sub_all k cs) xs) cuts i d h) ∙ before))
