-- The index after a step on the keys.
use Rattle.std.proofs.Common.{◌≡◌, ℕ, suc, ◌+◌, ◌<◌, ◌^◌, Bool, true, false, cond, None, Some, List, [], ◌∷◌, ◌++◌, All, length, refl, sym, subst, ◌∙◌, ap, arith}
use Rattle.std.proofs.lemmas.List.{length-append}
use Rattle.std.proofs.lemmas.List.Elements.{All-pop}
use Rattle.smallvec.specs.SmallVec.{SmallVec}
use Rattle.indexmap.specs.IndexMap.{IndexMap}
use Rattle.grid.specs.declared.shapes.Face.{Face}
use Rattle.grid.specs.Meshes.{IsTriple}
use Rattle.grid.specs.Simplices.{has}
use Rattle.grid.proofs.ForCallers.{take-push}
use Rattle.tracked.specs.Keys.{Keys, same_face, state_of, put}
use Rattle.tracked.specs.Places.{IsChanged, IsIndexed, places_at, places_of, and_last, but_last}
use Rattle.tracked.proofs.KeyLemmas.{put-new}
use Rattle.tracked.proofs.KeyFacts.{All-put, All-key}

-- ---- a key that is there
places-put : (u k : ℕ) (f : Face) (b c : Bool) (keys : Keys) → state_of f keys ≡ Some c → places_of u k (put f b keys) ≡ places_of u k keys
places-put u k f b c [] e = cc
places-put u k f b c (g ∷ keys) e = at (same_face f g.0) refl (places-put u (suc k) f b c keys)
  where
    at : (here : Bool) → same_face f g.0 ≡ here → (state_of f keys ≡ Some c → places_of u (suc k) (put f b keys) ≡ places_of u (suc k) keys) → places_of u k (put f b (g ∷ keys)) ≡ places_of u k (g ∷ keys)
    at true is rest = rw is refl
    at false is rest = rw is (ap (λ (xs : List ℕ). cond (has g.0.0 u) (k ∷ xs) xs) (rest (rw is at e)))

length-put : (f : Face) (b c : Bool) (keys : Keys) → state_of f keys ≡ Some c → length (put f b keys) ≡ length keys
length-put f b c [] e = cc
length-put f b c (g ∷ keys) e = at (same_face f g.0) refl (length-put f b c keys)
  where
    at : (here : Bool) → same_face f g.0 ≡ here → (state_of f keys ≡ Some c → length (put f b keys) ≡ length keys) → length (put f b (g ∷ keys)) ≡ length (g ∷ keys)
    at true is rest = rw is refl
    at false is rest = rw is (ap suc (rest (rw is at e)))

-- ---- one key more
places-push : (u k : ℕ) (keys : Keys) (e : Face × Bool) → places_of u k (keys ++ e ∷ []) ≡ cond (has e.0.0 u) (places_of u k keys ++ (k + length keys) ∷ []) (places_of u k keys)
places-push u k [] e = at (has e.0.0 u)
  where
    here : k ≡ k + 0
    here = omega arith

    at : (b : Bool) → cond b (k ∷ []) [] ≡ cond b ((k + 0) ∷ []) []
    at true = ap (λ n. n ∷ []) here
    at false = refl
places-push u k (g ∷ keys) e = at (has g.0.0 u) (has e.0.0 u) (places-push u (suc k) keys e)
  where
    next : (suc k + length keys) ≡ (k + length (g ∷ keys))
    next = omega arith

    at : (b c : Bool) → places_of u (suc k) (keys ++ e ∷ []) ≡ cond c (places_of u (suc k) keys ++ (suc k + length keys) ∷ []) (places_of u (suc k) keys)
        → cond b (k ∷ places_of u (suc k) (keys ++ e ∷ [])) (places_of u (suc k) (keys ++ e ∷ [])) ≡ cond c (cond b (k ∷ places_of u (suc k) keys) (places_of u (suc k) keys) ++ (k + length (g ∷ keys)) ∷ []) (cond b (k ∷ places_of u (suc k) keys) (places_of u (suc k) keys))
    at true true r = ap (λ (xs : List ℕ). k ∷ xs) (r ∙ ap (λ n. places_of u (suc k) keys ++ n ∷ []) next)
    at true false r = ap (λ (xs : List ℕ). k ∷ xs) r
    at false true r = r ∙ ap (λ n. places_of u (suc k) keys ++ n ∷ []) next
    at false false r = r

-- ---- the index
abbrev IsKey : Face × Bool → Type 0
IsKey k = IsTriple (2 ^ 32) k.0.0

module _ {S : Type 0} where
  pub indexed-put : (f : Face) (b c : Bool) (keys : Keys) (index : IndexMap ℕ (SmallVec ℕ) S) → state_of f keys ≡ Some c → IsIndexed keys index → IsIndexed (put f b keys) index
  indexed-put f b c keys index e h = record {
    triples = All-put (IsTriple (2 ^ 32)) f b keys (All-key (IsTriple (2 ^ 32)) f c keys e h.triples) h.triples;
    few = subst (λ n. n < 2 ^ 32) (sym (length-put f b c keys e)) h.few;
    places = λ u. h.places u ∙ sym (places-put u 0 f b c keys e);
  }

  pub indexed-new : (f : Face) (place : ℕ) (keys : Keys) (old new : IndexMap ℕ (SmallVec ℕ) S) → state_of f keys ≡ None → place ≡ length keys → place + 1 < 2 ^ 32 → IsTriple (2 ^ 32) f.0 → IsChanged (and_last place) f.0 old new → IsIndexed keys old → IsIndexed (put f true keys) new
  indexed-new f place keys old new e at more triple c h = record {
    triples = All-put (IsTriple (2 ^ 32)) f true keys triple h.triples;
    few = subst (λ (ks : Keys). length ks < 2 ^ 32) (sym (put-new f true keys e)) (omega (arith, at, more, length-append keys ((f, true) ∷ [])));
    places = λ u. step u (has f.0 u) (c.each u) (places-push u 0 keys (f, true)) ∙ ap (places_of u 0) (sym (put-new f true keys e));
  }
    where
      step : (u : ℕ) (b : Bool) → places_at new u ≡ cond b (and_last place (places_at old u)) (places_at old u) → places_of u 0 (keys ++ (f, true) ∷ []) ≡ cond b (places_of u 0 keys ++ (0 + length keys) ∷ []) (places_of u 0 keys)
          → places_at new u ≡ places_of u 0 (keys ++ (f, true) ∷ [])
      step u true p q =
          let number : place ≡ 0 + length keys = omega (arith, at) in
          p ∙ ((λ i. h.places u i ++ number i ∷ []) ∙ sym q)
      step u false p q = p ∙ (h.places u ∙ sym q)

  pub indexed-popped : (e : Face × Bool) (all rest : Keys) (old new : IndexMap ℕ (SmallVec ℕ) S) → all ≡ rest ++ e ∷ [] → IsChanged but_last e.0.0 old new → IsIndexed all old → IsIndexed rest new
  indexed-popped e all rest old new is c h = record {
    triples = (All-pop IsKey all rest (Some e) is h.triples).0;
    few = let few = subst (λ (ks : Keys). length ks < 2 ^ 32) is h.few in omega (arith, few, length-append rest (e ∷ []));
    places = λ u. step u (has e.0.0 u) (c.each u) (h.places u ∙ ap (places_of u 0) is ∙ places-push u 0 rest e);
  }
    where
      step : (u : ℕ) (b : Bool) → places_at new u ≡ cond b (but_last (places_at old u)) (places_at old u) → places_at old u ≡ cond b (places_of u 0 rest ++ (0 + length rest) ∷ []) (places_of u 0 rest)
          → places_at new u ≡ places_of u 0 rest
      step u true p q = p ∙ (ap but_last q ∙ take-push (places_of u 0 rest) (0 + length rest))
      step u false p q = p ∙ q

-- the newest key is a triple
pub last-IsTriple : (e : Face × Bool) (all rest : Keys) → all ≡ rest ++ e ∷ [] → All IsKey all → IsTriple (2 ^ 32) e.0.0
last-IsTriple e all rest is h = (All-pop IsKey all rest (Some e) is h).1
