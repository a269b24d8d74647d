-- A try that is listed already changes nothing of the lowest.
use Rattle.std.proofs.Common.{◌≡◌, Bool, true, false, ◌&&◌, cond, List, [], ◌∷◌, Option, None, Some, refl, sym, inl, inr}
use Rattle.std.specs.List.{Contains}
use Rattle.std.proofs.lemmas.Bool.{cases_Bool, and_right}
use Rattle.std.proofs.lemmas.List.Elements.{All-contains, All-from_recursion}
use Rattle.mesh_types.specs.declared.tries.Try.{Try}
use Rattle.mesh_types.proofs.ForCallers.{Among, among-all}
use Rattle.improve.specs.Search.{beats, lower, lowest}
use Rattle.improve.proofs.Lowest.{NotBefore, lowest-takes}

not-beats : (t : Try) (best : Option Try) → NotBefore t best → beats t best ≡ false
not-beats t None h = absurd h
not-beats t (Some b) h = h

stays : (p : Try → Bool) (t : Try) (best : Option Try) → (beats t best && p t) ≡ false → lower p best t ≡ best
stays p t best e = by (beats t best && p t) e
  where
    by : (b : Bool) → b ≡ false → cond b (Some t) best ≡ best
    by true e = cc e
    by false e = refl

pub lower-again : (p : Try → Bool) (ts : List Try) (t : Try) → Contains ts t → lower p (lowest p None ts) t ≡ lowest p None ts
lower-again p ts t c = elim (cases_Bool (p t)) [
  | inr e ↦ stays p t (lowest p None ts) (and_right (beats t (lowest p None ts)) (p t) e)
  | inl e ↦ stays p t (lowest p None ts) (first (beats t (lowest p None ts)) (p t) (not-beats t (lowest p None ts) (lowest-takes p t ts None e (All-contains (Among ts) ts t (All-from_recursion (Among ts) ts (among-all ts)) c))))
]
  where
    first : (a b : Bool) → a ≡ false → (a && b) ≡ false
    first true b e = cc e
    first false b e = refl

pub listed-again : (p : Try → Bool) (ts : List Try) (t : Try) (b : Bool) → Contains ts t → lowest p None ts ≡ lowest p (lowest p None ts) (cond b (t ∷ []) [])
listed-again p ts t true c = sym (lower-again p ts t c)
listed-again p ts t false c = refl
