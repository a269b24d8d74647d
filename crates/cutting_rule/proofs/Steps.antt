-- Steps of loops that add to a list what each member gives.
use Rattle.std.proofs.Common.{◌≡◌, ℕ, ◌+◌, ◌<◌, ◌≤◌, List, [], ◌∷◌, ◌++◌, map, drop, length, get_or, sym, ap, ◌∙◌, add-one, append_assoc}
use Rattle.std.specs.List.{flat_map}
use Rattle.std.proofs.lemmas.List.{append-nil, drop_all}
use Rattle.std.proofs.Math.Seq.{drop-cons}

module _ {X Y : Type 0} (f : X → List Y) (xs : List X) (i : ℕ) where
  pub flat-step : (d : X) (before after whole : List Y) → i < length xs → after ≡ before ++ f (get_or xs i d) → before ++ flat_map f (drop i xs) ≡ whole → after ++ flat_map f (drop (i + 1) xs) ≡ whole
  flat-step d before after whole lt e h =
      let cons : drop i xs ≡ get_or xs i d ∷ drop (i + 1) xs = rw add-one (drop-cons xs i d lt) in
      ap (λ ys. ys ++ flat_map f (drop (i + 1) xs)) e
      ∙ (append_assoc before (f (get_or xs i d)) (flat_map f (drop (i + 1) xs))
      ∙ (ap (λ ys. before ++ flat_map f ys) (sym cons)
      ∙ h))

  pub flat-end : (before whole : List Y) → length xs ≤ i → before ++ flat_map f (drop i xs) ≡ whole → before ≡ whole
  flat-end before whole le h = sym (append-nil before) ∙ (ap (λ ys. before ++ flat_map f ys) (sym (drop_all i xs le)) ∙ h)

-- the same, where the list is that of the members' values
module _ {X Y : Type 0} (g : X → List ℕ) (f : List ℕ → List Y) (xs : List X) (i : ℕ) where
  pub mapped-step : (d : X) (x : List ℕ) (before after whole : List Y) → i < length xs → x ≡ g (get_or xs i d) → after ≡ before ++ f x → before ++ flat_map f (map g (drop i xs)) ≡ whole → after ++ flat_map f (map g (drop (i + 1) xs)) ≡ whole
  mapped-step d x before after whole lt is e h =
      let cons : drop i xs ≡ get_or xs i d ∷ drop (i + 1) xs = rw add-one (drop-cons xs i d lt) in
      let left = map g (drop (i + 1) xs) in
      ap (λ ys. ys ++ flat_map f left) (e ∙ ap (λ y. before ++ f y) is)
      ∙ (append_assoc before (f (g (get_or xs i d))) (flat_map f left)
      ∙ (ap (λ ys. before ++ flat_map f (map g ys)) (sym cons)
      ∙ h))

  pub mapped-end : (before whole : List Y) → length xs ≤ i → before ++ flat_map f (map g (drop i xs)) ≡ whole → before ≡ whole
  mapped-end before whole le h = sym (append-nil before) ∙ (ap (λ ys. before ++ flat_map f (map g ys)) (sym (drop_all i xs le)) ∙ h)

-- ---- lists added one after the other
added : {X : Type 0} (xs a ys zs rest : List X) → ys ≡ xs ++ a → zs ≡ ys ++ rest → zs ≡ xs ++ (a ++ rest)
added xs a ys zs rest e f = f ∙ (ap (λ ts. ts ++ rest) e ∙ append_assoc xs a rest)

pub four-added : {X : Type 0} (xs a b c d ys zs us vs : List X) → ys ≡ xs ++ a → zs ≡ ys ++ b → us ≡ zs ++ c → vs ≡ us ++ d → vs ≡ xs ++ (a ++ (b ++ (c ++ (d ++ []))))
four-added xs a b c d ys zs us vs e f g h =
    added xs a ys vs (b ++ (c ++ (d ++ []))) e (added ys b zs vs (c ++ (d ++ [])) f (added zs c us vs (d ++ []) g (h ∙ ap (λ ts. us ++ ts) (sym (append-nil d)))))

pub six-added : {X : Type 0} (xs p q a b c d ns ms ys zs us vs : List X) → ns ≡ xs ++ p → ms ≡ ns ++ q → ys ≡ ms ++ a → zs ≡ ys ++ b → us ≡ zs ++ c → vs ≡ us ++ d → vs ≡ xs ++ (p ++ (q ++ (a ++ (b ++ (c ++ (d ++ []))))))
six-added xs p q a b c d ns ms ys zs us vs k l e f g h =
    let rest = a ++ (b ++ (c ++ (d ++ []))) in
    added xs p ns vs (q ++ rest) k (added ns q ms vs rest l (four-added ms a b c d ys zs us vs e f g h))
