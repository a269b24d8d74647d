-- What holds of all keys, and that no key stands twice.
use Rattle.std.proofs.Common.{◌≡◌, ℕ, ◌<◌, ◌^◌, Bool, true, false, ◌||◌, Option, None, Some, length, get_or, refl, ap, subst, sym, ◌∙◌, List, [], ◌∷◌, ◌++◌, All, arith}
use Rattle.std.specs.Cmp.{IsEquivalence}
use Rattle.std.specs.List.{AllByRecursion, IsDistinct, list_any}
use Rattle.std.specs.Map.{keys_of}
use Rattle.std.proofs.lemmas.List.Elements.{All-from_recursion, recursion_from_All}
use Rattle.std.proofs.lemmas.Map.Keys.{IsDistinct-head, IsDistinct-tail, IsDistinct-push}
use Rattle.std.proofs.lemmas.Slice.Eq.{bytes_eq-Decides}
use Rattle.grid.specs.declared.shapes.Face.{Face}
use Rattle.grid.specs.Meshes.{IsTriple}
use Rattle.grid.specs.Simplices.{Rises, same_triple}
use Rattle.grid.specs.Views.{triples_of}
use Rattle.grid.proofs.ForCallers.{same_bools}
use Rattle.tracked.specs.Keys.{Keys, same_face, state_of, is_in, put, faces_in}
use Rattle.tracked.proofs.KeyLemmas.{put-new}
use Rattle.tracked.proofs.PairLemmas.{in-apart}

-- ---- the test of two faces
pub same-equal : (f g : Face) → same_face f g ≡ true → f ≡ g
same-equal f g e = ap (λ (x : List ℕ). record { 0 = x }) ((bytes_eq-Decides f.0 g.0).0 e)

pub same_face-IsEquivalence : IsEquivalence same_face
same_face-IsEquivalence = record {
  refl = λ f. (bytes_eq-Decides f.0 f.0).1 refl;
  symm = λ f g. same_bools (same_face f g) (same_face g f) (λ e. (bytes_eq-Decides g.0 f.0).1 (sym ((bytes_eq-Decides f.0 g.0).0 e))) (λ e. (bytes_eq-Decides f.0 g.0).1 (sym ((bytes_eq-Decides g.0 f.0).0 e)));
  congr = λ f g h e. ap (λ (x : Face). same_face x h) (same-equal f g e);
}

-- ---- all keys
module _ (P : List ℕ → Type 0) where
  abbrev IsKey : Face × Bool → Type 0
  IsKey k = P k.0.0

  each-put : (f : Face) (b : Bool) (keys : Keys) → P f.0 → AllByRecursion IsKey keys → AllByRecursion IsKey (put f b keys)
  each-put f b [] new h = (new, tt)
  each-put f b (k ∷ keys) new h = at (same_face f k.0) refl (each-put f b keys new h.1)
    where
      at : (here : Bool) → same_face f k.0 ≡ here → AllByRecursion IsKey (put f b keys) → AllByRecursion IsKey (put f b (k ∷ keys))
      at true is rest = rw is (h.0, h.1)
      at false is rest = rw is (h.0, rest)

  pub All-put : (f : Face) (b : Bool) (keys : Keys) → P f.0 → All (λ (k : Face × Bool). P k.0.0) keys → All (λ (k : Face × Bool). P k.0.0) (put f b keys)
  All-put f b keys new h = All-from_recursion IsKey (put f b keys) (each-put f b keys new (recursion_from_All IsKey keys h))

  each-state : (f : Face) (b : Bool) (keys : Keys) → state_of f keys ≡ Some b → AllByRecursion IsKey keys → P f.0
  each-state f b [] e h = cc
  each-state f b (k ∷ keys) e h = at (same_face f k.0) refl (each-state f b keys)
    where
      at : (here : Bool) → same_face f k.0 ≡ here → (state_of f keys ≡ Some b → AllByRecursion IsKey keys → P f.0) → P f.0
      at true is rest = subst P (sym ((bytes_eq-Decides f.0 k.0.0).0 is)) h.0
      at false is rest = rest (rw is at e) h.1

  -- what holds of all keys holds of one that is there
  pub All-key : (f : Face) (b : Bool) (keys : Keys) → state_of f keys ≡ Some b → All (λ (k : Face × Bool). P k.0.0) keys → P f.0
  All-key f b keys e h = each-state f b keys e (recursion_from_All IsKey keys h)

pub IsTriple-from : (x : List ℕ) → length x ≡ 3 → Rises x → get_or x 0 0 < 2 ^ 32 → get_or x 1 0 < 2 ^ 32 → get_or x 2 0 < 2 ^ 32 → IsTriple (2 ^ 32) x
IsTriple-from [] three rises a b c = absurd (omega arith)
IsTriple-from (u ∷ []) three rises a b c = absurd (omega arith)
IsTriple-from (u ∷ v ∷ []) three rises a b c = absurd (omega arith)
IsTriple-from (u ∷ v ∷ w ∷ []) three rises a b c = record { three = three; rises = rises; in_range = All-from_recursion (λ n. n < 2 ^ 32) (u ∷ v ∷ w ∷ []) (a, (b, (c, tt))) }
IsTriple-from (u ∷ v ∷ w ∷ x ∷ xs) three rises a b c = absurd (omega arith)

-- ---- no key twice
keys-put : (f : Face) (b c : Bool) (keys : Keys) → state_of f keys ≡ Some c → keys_of (put f b keys) ≡ keys_of keys
keys-put f b c [] e = cc
keys-put f b c (k ∷ keys) e = at (same_face f k.0) refl (keys-put f b c keys)
  where
    at : (here : Bool) → same_face f k.0 ≡ here → (state_of f keys ≡ Some c → keys_of (put f b keys) ≡ keys_of keys) → keys_of (put f b (k ∷ keys)) ≡ keys_of (k ∷ keys)
    at true is rest = rw is refl
    at false is rest = rw is (ap (λ (fs : List Face). k.0 ∷ fs) (rest (rw is at e)))

absent : (f : Face) (keys : Keys) → state_of f keys ≡ None → list_any (same_face f) (keys_of keys) ≡ false
absent f [] e = refl
absent f (k ∷ keys) e = at (same_face f k.0) refl (absent f keys)
  where
    at : (here : Bool) → same_face f k.0 ≡ here → (state_of f keys ≡ None → list_any (same_face f) (keys_of keys) ≡ false) → (same_face f k.0 || list_any (same_face f) (keys_of keys)) ≡ false
    at true is rest = cc (rw is at e)
    at false is rest = rw is (rest (rw is at e))

keys_of-push : (keys : Keys) (f : Face) (b : Bool) → keys_of (keys ++ (f, b) ∷ []) ≡ keys_of keys ++ f ∷ []
keys_of-push [] f b = refl
keys_of-push (k ∷ keys) f b = ap (λ (fs : List Face). k.0 ∷ fs) (keys_of-push keys f b)

pub distinct-put : (f : Face) (b : Bool) (keys : Keys) → IsDistinct same_face (keys_of keys) → IsDistinct same_face (keys_of (put f b keys))
distinct-put f b keys h = at (state_of f keys) refl
  where
    at : (o : Option Bool) → state_of f keys ≡ o → IsDistinct same_face (keys_of (put f b keys))
    at None is = subst (IsDistinct same_face) (sym (ap keys_of (put-new f b keys is) ∙ keys_of-push keys f b)) (IsDistinct-push same_face-IsEquivalence (keys_of keys) f h (absent f keys is))
    at (Some c) is = subst (IsDistinct same_face) (sym (keys-put f b c keys is)) h

-- ---- a face is in where it is one of the faces that are in
none-among : (g : Face) (ts : List (List ℕ)) → AllByRecursion (λ t. same_triple g.0 t ≡ false) ts → list_any (same_triple g.0) ts ≡ false
none-among g [] h = refl
none-among g (t ∷ ts) h = rw h.0 (none-among g ts h.1)

pub is_in-among : (g : Face) (keys : Keys) → IsDistinct same_face (keys_of keys) → is_in g keys ≡ list_any (same_triple g.0) (triples_of (faces_in keys))
is_in-among g [] h = refl
is_in-among g ((f, b) ∷ keys) h =
    at (same_face g f) refl b (is_in-among g keys (IsDistinct-tail same_face f (keys_of keys) h))
  where
    rest_none : same_face g f ≡ true → list_any (same_triple g.0) (triples_of (faces_in keys)) ≡ false
    rest_none is = none-among g (triples_of (faces_in keys)) (subst (λ (x : Face). AllByRecursion (λ t. same_triple x.0 t ≡ false) (triples_of (faces_in keys))) (sym (same-equal g f is)) (in-apart f keys (IsDistinct-head same_face f (keys_of keys) h)))

    at : (here : Bool) → same_face g f ≡ here → (s : Bool) → is_in g keys ≡ list_any (same_triple g.0) (triples_of (faces_in keys)) → is_in g ((f, s) ∷ keys) ≡ list_any (same_triple g.0) (triples_of (faces_in ((f, s) ∷ keys)))
    at true is true rest = rw is refl
    at true is false rest = rw is (sym (rest_none is))
    at false is true rest = rw is rest
    at false is false rest = rw is rest
