-- The places of the keys at a point, and the index that has them.
use Rattle.std.specs.Prelude.{◌≡◌, ℕ, suc, ◌-◌, ◌<◌, ◌^◌, nat_eq, if◌then◌else◌, Option, None, Some, List, [], ◌∷◌, ◌++◌, length, take}
use Rattle.smallvec.specs.SmallVec.{SmallVec}
use Rattle.indexmap.specs.IndexMap.{IndexMap, get}
use Rattle.grid.specs.Simplices.{has}
use Rattle.tracked.specs.Keys.{Keys, AreTriples}

-- the places of the keys that have u, counted from k
abbrev pub places_of : ℕ → ℕ → Keys → List ℕ
places_of u k [] = []
places_of u k (f ∷ fs) = if has f.0.0 u then k ∷ places_of u (suc k) fs else places_of u (suc k) fs

-- the numbers of a list, if there is one
abbrev pub numbers_in : Option (SmallVec ℕ) → List ℕ
numbers_in None = []
numbers_in (Some v) = v.items

-- with the number at the end
abbrev pub and_last : ℕ → List ℕ → List ℕ
and_last i list = list ++ i ∷ []

-- without the last number
abbrev pub but_last : List ℕ → List ℕ
but_last list = take (length list - 1) list

module _ {S : Type 0} where
  -- the places that the index has at u
  abbrev pub places_at : IndexMap ℕ (SmallVec ℕ) S → ℕ → List ℕ
  places_at index u = numbers_in (get nat_eq index u)

  -- the places at the point were changed by f, and no others
  pub record IsChangedAt (f : List ℕ → List ℕ) (point : ℕ) (old new : IndexMap ℕ (SmallVec ℕ) S) : Type 0 where
    pub each : (u : ℕ) → places_at new u ≡ (if nat_eq point u then f (places_at old u) else places_at old u)

  -- the places at each of the corners were changed by f, and no others
  pub record IsChanged (f : List ℕ → List ℕ) (corners : List ℕ) (old new : IndexMap ℕ (SmallVec ℕ) S) : Type 0 where
    pub each : (u : ℕ) → places_at new u ≡ (if has corners u then f (places_at old u) else places_at old u)

  -- the index has the same places
  pub record IsSame (old new : IndexMap ℕ (SmallVec ℕ) S) : Type 0 where
    pub each : (u : ℕ) → places_at new u ≡ places_at old u

  -- each key is a rising triple, they are fewer than 2 ^ 32, and the index has their places at each point
  pub record IsIndexed (keys : Keys) (index : IndexMap ℕ (SmallVec ℕ) S) : Type 0 where
    pub triples : AreTriples keys
    pub few : length keys < 2 ^ 32
    pub places : (u : ℕ) → places_at index u ≡ places_of u 0 keys
