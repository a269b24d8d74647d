-- Members of lists of triples, in the words of the definitions and of the tests.
use Rattle.std.proofs.Common.{◌≡◌, ℕ, Bool, true, List, [], ◌∷◌, refl, sym, inl, inr}
use Rattle.std.specs.List.{Contains, filter, list_any}
use Rattle.std.proofs.lemmas.Bool.{or_cases, true≢false}
use Rattle.std.proofs.lemmas.List.Elements.{All-contains, All-contains_itself, All-from_recursion, recursion_from_All}
use Rattle.grid.specs.Simplices.{same_triple}
use Rattle.mesh_types.proofs.ForCallers.{Among, among-all, among-Each, any_among, filter-among, equal_from, equal_to}

pub contains-among : (xs : List (List ℕ)) (x : List ℕ) → Contains xs x → Among xs x
contains-among xs x c = All-contains (Among xs) xs x (All-from_recursion (Among xs) xs (among-all xs)) c

pub among-contains : (xs : List (List ℕ)) (x : List ℕ) → Among xs x → Contains xs x
among-contains xs x a = among-Each (Contains xs) xs x (recursion_from_All (Contains xs) xs (All-contains_itself xs)) a

pub listed-among : (xs : List (List ℕ)) (x : List ℕ) → list_any (same_triple x) xs ≡ true → Among xs x
listed-among [] x h = absurd (true≢false (sym h))
listed-among (y ∷ xs) x h = elim (or_cases (same_triple x y) (list_any (same_triple x) xs) h) [ inl e ↦ inl (sym (equal_from x y e)) | inr e ↦ inr (listed-among xs x e) ]

pub among-listed : (xs : List (List ℕ)) (x : List ℕ) → Among xs x → list_any (same_triple x) xs ≡ true
among-listed xs x a = any_among (same_triple x) xs x a (equal_to x x refl)

pub filter-both : (p : List ℕ → Bool) (xs : List (List ℕ)) (x : List ℕ) → Among (filter p xs) x → Among xs x × (p x ≡ true)
filter-both p xs x a = among-Each (λ y. Among xs y × (p y ≡ true)) (filter p xs) x (filter-among p xs) a
