-- Keys in the order made, each in or out.
use Rattle.std.specs.Prelude.{ℕ, ◌^◌, Bool, true, false, if◌then◌else◌, Option, None, Some, List, [], ◌∷◌, unwrap_or, slice_index_or, All}
use Rattle.std.specs.List.{filter}
use Rattle.std.specs.Map.{lookup}
use Rattle.indexmap.specs.IndexMap.{insert_entry}
use Rattle.grid.specs.declared.shapes.Face.{Face}
use Rattle.grid.specs.Meshes.{IsTriple}
use Rattle.grid.specs.Simplices.{has, same_triple}
use Rattle.tracked.specs.declared.table.Added.{Added}
use Rattle.tracked.specs.declared.table.Added.TheVariants.{Already, Restored, New}

abbrev pub Keys : Type 0
Keys = List (Face × Bool)

-- the same corners in the same places
abbrev pub same_face : Face → Face → Bool
same_face f g = same_triple f.0 g.0

-- whether a key is in, or none where it is no key
abbrev pub state_of : Face → Keys → Option Bool
state_of f keys = lookup (same_face f) keys

abbrev pub is_in : Face → Keys → Bool
is_in f keys = unwrap_or (state_of f keys) false

-- the keys with f in or out: a key that is there keeps its place, and a new one goes last
abbrev pub put : Face → Bool → Keys → Keys
put f b keys = insert_entry same_face keys f b

-- what adding a key of that state finds
abbrev pub added_for : Option Bool → Added
added_for None = New
added_for (Some true) = Already
added_for (Some false) = Restored

-- the keys that are in, in the order made
abbrev pub faces_in : Keys → List Face
faces_in [] = []
faces_in (k ∷ ks) = if k.1 then k.0 ∷ faces_in ks else faces_in ks

-- those of them that have u
abbrev pub faces_at : Keys → ℕ → List Face
faces_at keys u = filter (λ f. has f.0 u) (faces_in keys)

-- the key at a place with its state; outside the list, no corners that are out
abbrev pub entry_at : Keys → ℕ → Face × Bool
entry_at keys i = slice_index_or keys i (record { 0 = [] }, false)

-- each key is a rising triple
abbrev pub AreTriples : Keys → Type 0
AreTriples keys = All (λ k. IsTriple (2 ^ 32) k.0.0) keys
