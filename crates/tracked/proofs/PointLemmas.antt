-- What a walk over the places at a point finds.
use Rattle.std.proofs.Common.{◌≡◌, ℕ, suc, ◌+◌, ◌<◌, ◌≤◌, ◌^◌, Bool, true, false, cond, ◌&&◌, ◌||◌, List, [], ◌∷◌, All, length, take, map, count_by, refl, sym, ◌∙◌, ap, arith}
use Rattle.std.specs.List.{filter, list_any}
use Rattle.std.proofs.lemmas.List.{take_all}
use Rattle.std.proofs.lemmas.List.Elements.{All-cons, All-nil}
use Rattle.grid.specs.Rims.{triples_at}
use Rattle.grid.specs.Simplices.{has}
use Rattle.grid.specs.Views.{triples_of}
use Rattle.grid.specs.declared.shapes.Face.{Face}
use Rattle.grid.proofs.ForCallers.{count_by-cons, count_by-cons_no, count_by-map, any-map}
use Rattle.tracked.specs.Keys.{Keys, entry_at, faces_in, faces_at}
use Rattle.tracked.specs.Places.{places_of}
use Rattle.tracked.specs.RimEdges.{has_rim_edge}
use Rattle.tracked.proofs.RimLemmas.{finds}

-- ---- the places
places-within : (u k n : ℕ) (keys : Keys) → k + length keys ≤ n → All (λ i. i < n) (places_of u k keys)
places-within u k n [] le = All-nil (λ i. i < n)
places-within u k n (e ∷ keys) le = at (has e.0.0 u) (places-within u (suc k) n keys (omega (arith, le)))
  where
    first : k < n
    first = omega (arith, le)

    at : (b : Bool) → All (λ i. i < n) (places_of u (suc k) keys) → All (λ i. i < n) (cond b (k ∷ places_of u (suc k) keys) (places_of u (suc k) keys))
    at true r = All-cons (λ i. i < n) k (places_of u (suc k) keys) first r
    at false r = r

pub places-in_range : (u : ℕ) (keys : Keys) → All (λ i. i < length keys) (places_of u 0 keys)
places-in_range u keys = places-within u 0 (length keys) keys (omega arith)

places-count : (u k : ℕ) (keys : Keys) → length (places_of u k keys) ≤ length keys
places-count u k [] = omega arith
places-count u k (e ∷ keys) = at (has e.0.0 u) (places-count u (suc k) keys)
  where
    at : (b : Bool) → length (places_of u (suc k) keys) ≤ length keys → length (cond b (k ∷ places_of u (suc k) keys) (places_of u (suc k) keys)) ≤ length (e ∷ keys)
    at true r = omega (arith, r)
    at false r = omega (arith, r)

pub places-few : (u : ℕ) (keys : Keys) → length keys < 2 ^ 32 → length (places_of u 0 keys) < 2 ^ 32
places-few u keys few = let n = places-count u 0 keys in omega (arith, n, few)

-- ---- the keys at the places
abbrev keys_with : ℕ → Keys → Keys
keys_with u keys = filter (λ e. has e.0.0 u) keys

read-places : (u k : ℕ) (all keys : Keys) → ((i : ℕ) → i < length keys → entry_at all (k + i) ≡ entry_at keys i) → map (entry_at all) (places_of u k keys) ≡ keys_with u keys
read-places u k all [] h = refl
read-places u k all (e ∷ keys) h = at (has e.0.0 u) (read-places u (suc k) all keys rest)
  where
    rest : (i : ℕ) → i < length keys → entry_at all (suc k + i) ≡ entry_at keys i
    rest i lt =
        let step : suc k + i ≡ k + suc i = omega arith in
        ap (entry_at all) step ∙ h (suc i) (omega (arith, lt))

    first : entry_at all k ≡ e
    first =
        let here : k ≡ k + 0 = omega arith in
        ap (entry_at all) here ∙ h 0 (omega arith)

    at : (b : Bool) → map (entry_at all) (places_of u (suc k) keys) ≡ keys_with u keys → map (entry_at all) (cond b (k ∷ places_of u (suc k) keys) (places_of u (suc k) keys)) ≡ cond b (e ∷ keys_with u keys) (keys_with u keys)
    at true r = λ i. first i ∷ r i
    at false r = r

keys-at : (u : ℕ) (keys : Keys) → map (entry_at keys) (places_of u 0 keys) ≡ keys_with u keys
keys-at u keys = read-places u 0 keys keys (λ i lt. let same : 0 + i ≡ i = omega arith in ap (entry_at keys) same)

-- ---- counting
abbrev counts : ℕ → Face × Bool → Bool
counts v e = e.1 && has e.0.0 v

count-with : (u v : ℕ) (keys : Keys) → count_by (counts v) (keys_with u keys) ≡ triples_at (triples_of (faces_in keys)) u v
count-with u v [] = refl
count-with u v ((f, true) ∷ keys) = at (has f.0 u) refl (count-with u v keys)
  where
    one : count_by (λ t. has t u && has t v) (f.0 ∷ triples_of (faces_in keys)) ≡ cond (has f.0 u && has f.0 v) 1 0 + triples_at (triples_of (faces_in keys)) u v
    one = count_by-cons (λ t. has t u && has t v) f.0 (triples_of (faces_in keys))

    at : (b : Bool) → has f.0 u ≡ b → count_by (counts v) (keys_with u keys) ≡ triples_at (triples_of (faces_in keys)) u v
        → count_by (counts v) (cond (has f.0 u) ((f, true) ∷ keys_with u keys) (keys_with u keys)) ≡ triples_at (f.0 ∷ triples_of (faces_in keys)) u v
    at true e r =
        ap (λ b. count_by (counts v) (cond b ((f, true) ∷ keys_with u keys) (keys_with u keys))) e
        ∙ (count_by-cons (counts v) (f, true) (keys_with u keys) ∙ (ap (λ n. cond (has f.0 v) 1 0 + n) r ∙ (ap (λ b. cond (b && has f.0 v) 1 0 + triples_at (triples_of (faces_in keys)) u v) (sym e) ∙ sym one)))
    at false e r =
        ap (λ b. count_by (counts v) (cond b ((f, true) ∷ keys_with u keys) (keys_with u keys))) e
        ∙ (r ∙ (none ∙ (ap (λ b. cond (b && has f.0 v) 1 0 + triples_at (triples_of (faces_in keys)) u v) (sym e) ∙ sym one)))
      where
        none : triples_at (triples_of (faces_in keys)) u v ≡ 0 + triples_at (triples_of (faces_in keys)) u v
        none = omega arith
count-with u v ((f, false) ∷ keys) = at (has f.0 u) (count-with u v keys)
  where
    at : (b : Bool) → count_by (counts v) (keys_with u keys) ≡ triples_at (triples_of (faces_in keys)) u v → count_by (counts v) (cond b ((f, false) ∷ keys_with u keys) (keys_with u keys)) ≡ triples_at (triples_of (faces_in keys)) u v
    at true r = count_by-cons_no (counts v) (f, false) (keys_with u keys) refl ∙ (none ∙ r)
      where
        none : 0 + count_by (counts v) (keys_with u keys) ≡ count_by (counts v) (keys_with u keys)
        none = omega arith
    at false r = r

count-at : (u v : ℕ) (keys : Keys) → count_by (λ i. (entry_at keys i).1 && has (entry_at keys i).0.0 v) (places_of u 0 keys) ≡ triples_at (triples_of (faces_in keys)) u v
count-at u v keys = sym (count_by-map (counts v) (entry_at keys) (places_of u 0 keys)) ∙ (ap (count_by (counts v)) (keys-at u keys) ∙ count-with u v keys)

module _ (all : List (List ℕ)) (u : ℕ) where
  abbrev is_found : Face × Bool → Bool
  is_found e = e.1 && has_rim_edge all u e.0.0

  any-with : (keys : Keys) → list_any is_found (keys_with u keys) ≡ finds all u (triples_of (faces_in keys))
  any-with [] = refl
  any-with ((f, true) ∷ keys) = at (has f.0 u) (any-with keys)
    where
      at : (b : Bool) → list_any is_found (keys_with u keys) ≡ finds all u (triples_of (faces_in keys)) → list_any is_found (cond b ((f, true) ∷ keys_with u keys) (keys_with u keys)) ≡ ((b && has_rim_edge all u f.0) || finds all u (triples_of (faces_in keys)))
      at true r = ap (λ b. has_rim_edge all u f.0 || b) r
      at false r = r
  any-with ((f, false) ∷ keys) = at (has f.0 u) (any-with keys)
    where
      at : (b : Bool) → list_any is_found (keys_with u keys) ≡ finds all u (triples_of (faces_in keys)) → list_any is_found (cond b ((f, false) ∷ keys_with u keys) (keys_with u keys)) ≡ finds all u (triples_of (faces_in keys))
      at true r = r
      at false r = r

  any-at : (keys : Keys) → list_any (λ i. (entry_at keys i).1 && has_rim_edge all u (entry_at keys i).0.0) (places_of u 0 keys) ≡ finds all u (triples_of (faces_in keys))
  any-at keys = sym (any-map is_found (entry_at keys) (places_of u 0 keys)) ∙ (ap (list_any is_found) (keys-at u keys) ∙ any-with keys)

-- ---- the faces
filter-map : {X Y : Type 0} (p : Y → Bool) (f : X → Y) (xs : List X) → filter p (map f xs) ≡ map f (filter (λ x. p (f x)) xs)
filter-map p f [] = refl
filter-map {X} {Y} p f (x ∷ xs) = at (p (f x)) (filter-map p f xs)
  where
    at : (b : Bool) → filter p (map f xs) ≡ map f (filter (λ x. p (f x)) xs) → cond b (f x ∷ filter p (map f xs)) (filter p (map f xs)) ≡ map f (cond b (x ∷ filter (λ x. p (f x)) xs) (filter (λ x. p (f x)) xs))
    at true r = ap (λ (ys : List Y). f x ∷ ys) r
    at false r = r

map-map : {X Y Z : Type 0} (g : Y → Z) (f : X → Y) (xs : List X) → map g (map f xs) ≡ map (λ x. g (f x)) xs
map-map g f [] = refl
map-map {X} {Y} {Z} g f (x ∷ xs) = ap (λ (zs : List Z). g (f x) ∷ zs) (map-map g f xs)

faces-with : (u : ℕ) (keys : Keys) → map (λ e. e.0) (filter (λ e. e.1) (keys_with u keys)) ≡ faces_at keys u
faces-with u [] = refl
faces-with u ((f, true) ∷ keys) = at (has f.0 u) (faces-with u keys)
  where
    at : (b : Bool) → map (λ e. e.0) (filter (λ e. e.1) (keys_with u keys)) ≡ faces_at keys u → map (λ e. e.0) (filter (λ e. e.1) (cond b ((f, true) ∷ keys_with u keys) (keys_with u keys))) ≡ cond b (f ∷ faces_at keys u) (faces_at keys u)
    at true r = ap (λ (fs : List Face). f ∷ fs) r
    at false r = r
faces-with u ((f, false) ∷ keys) = at (has f.0 u) (faces-with u keys)
  where
    at : (b : Bool) → map (λ e. e.0) (filter (λ e. e.1) (keys_with u keys)) ≡ faces_at keys u → map (λ e. e.0) (filter (λ e. e.1) (cond b ((f, false) ∷ keys_with u keys) (keys_with u keys))) ≡ faces_at keys u
    at true r = r
    at false r = r

faces-at : (u : ℕ) (keys : Keys) → map (λ i. (entry_at keys i).0) (filter (λ i. (entry_at keys i).1) (places_of u 0 keys)) ≡ faces_at keys u
faces-at u keys =
    let fst : Face × Bool → Face = λ e. e.0 in
    let snd : Face × Bool → Bool = λ e. e.1 in
    sym (map-map fst (entry_at keys) (filter (λ i. (entry_at keys i).1) (places_of u 0 keys)))
    ∙ (ap (map fst) (sym (filter-map snd (entry_at keys) (places_of u 0 keys)))
    ∙ (ap (λ (es : Keys). map fst (filter snd es)) (keys-at u keys) ∙ faces-with u keys))

-- ---- a walk that has come to the end
module _ (u i : ℕ) (keys : Keys) (places : List ℕ) (ended : length places ≤ i) (all : places ≡ places_of u 0 keys) where
  walked : take i places ≡ places_of u 0 keys
  walked = take_all i places ended ∙ all

  pub counted : (v count : ℕ) → count ≡ count_by (λ i. (entry_at keys i).1 && has (entry_at keys i).0.0 v) (take i places) → count ≡ triples_at (triples_of (faces_in keys)) u v
  counted v count h = h ∙ (ap (count_by (λ i. (entry_at keys i).1 && has (entry_at keys i).0.0 v)) walked ∙ count-at u v keys)

  pub none_found : (b : Bool) → list_any (λ i. (entry_at keys i).1 && has_rim_edge (triples_of (faces_in keys)) u (entry_at keys i).0.0) (take i places) ≡ b → finds (triples_of (faces_in keys)) u (triples_of (faces_in keys)) ≡ b
  none_found b h =
      sym (any-at (triples_of (faces_in keys)) u keys)
      ∙ (ap (list_any (λ i. (entry_at keys i).1 && has_rim_edge (triples_of (faces_in keys)) u (entry_at keys i).0.0)) (sym walked) ∙ h)

  pub gathered : (into : List Face) → into ≡ map (λ i. (entry_at keys i).0) (filter (λ i. (entry_at keys i).1) (take i places)) → into ≡ faces_at keys u
  gathered into h = h ∙ (ap (λ (xs : List ℕ). map (λ i. (entry_at keys i).0) (filter (λ i. (entry_at keys i).1) xs)) walked ∙ faces-at u keys)
