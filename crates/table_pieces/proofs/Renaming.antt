-- Splitting in turn does not see how the corners are named.
use Rattle.std.proofs.Common.{◌≡◌, ℕ, Bool, true, false, cond, ◌&&◌, ◌||◌, nat_eq, List, [], ◌∷◌, ◌++◌, map, refl, sym, ap, ap₂, ◌∙◌}
use Rattle.std.specs.List.{flat_map, AllByRecursion as Each}
use Rattle.std.proofs.lemmas.List.{map-append}
use Rattle.grid.specs.Simplices.{has, replaced, sub}
use Rattle.cut_tables.specs.Cutting.{RankEdge, split_in_turn}
use Rattle.table_pieces.specs.Labels.{renamed}

-- ---- lists of lists
-- a change of the members goes through a step that keeps it at those members
pub through_each : {X : Type 0} (P : X → Type 0) (h : X → X) (g g' : X → List X) → ((x : X) → P x → g' (h x) ≡ map h (g x)) → (xs : List X) → Each P xs → flat_map g' (map h xs) ≡ map h (flat_map g xs)
through_each P h g g' step [] e = refl
through_each P h g g' step (x ∷ xs) e = (λ i. step x e.0 i ++ through_each P h g g' step xs e.1 i) ∙ sym (map-append h (g x) (flat_map g xs))

-- ---- other names
-- different names among those of P stay different
abbrev pub IsInjectiveOn : (ℕ → Type 0) → (ℕ → ℕ) → Type 0
IsInjectiveOn P f = (c d : ℕ) → P c → P d → nat_eq (f c) (f d) ≡ nat_eq c d

-- the ends and the new point of an edge are names of P
pub record HasNames (P : ℕ → Type 0) (e : RankEdge) : Type 0 where
  pub first : P e.first
  pub second : P e.second
  pub label : P e.label

has-renamed : (P : ℕ → Type 0) (f : ℕ → ℕ) → IsInjectiveOn P f → (x : List ℕ) → Each P x → (u : ℕ) → P u → has (map f x) (f u) ≡ has x u
has-renamed P f inj [] px u pu = refl
has-renamed P f inj (a ∷ x) px u pu = ap₂ (λ p q. p || q) (inj a u px.0 pu) (has-renamed P f inj x px.1 u pu)

choose : (f : ℕ → ℕ) (b : Bool) (k c : ℕ) → cond b (f k) (f c) ≡ f (cond b k c)
choose f true k c = refl
choose f false k c = refl

replaced-renamed : (P : ℕ → Type 0) (f : ℕ → ℕ) → IsInjectiveOn P f → (u k : ℕ) → P u → (x : List ℕ) → Each P x → replaced (f u) (f k) (map f x) ≡ map f (replaced u k x)
replaced-renamed P f inj u k pu [] px = refl
replaced-renamed P f inj u k pu (c ∷ x) px = ap₂ (λ a (y : List ℕ). a ∷ y) (ap (λ b. cond b (f k) (f c)) (inj c u px.0 pu) ∙ choose f (nat_eq c u) k c) (replaced-renamed P f inj u k pu x px.1)

pub either_way : (h : List ℕ → List ℕ) (b : Bool) (y z x : List ℕ) → cond b (h y ∷ h z ∷ []) (h x ∷ []) ≡ map h (cond b (y ∷ z ∷ []) (x ∷ []))
either_way h true y z x = refl
either_way h false y z x = refl

sub-renamed : (P : ℕ → Type 0) (f : ℕ → ℕ) → IsInjectiveOn P f → (e : RankEdge) → HasNames P e → (x : List ℕ) → Each P x → sub (f e.first) (f e.second) (f e.label) (map f x) ≡ map (map f) (sub e.first e.second e.label x)
sub-renamed P f inj e pe x px =
    (λ i. cond (has-renamed P f inj x px e.first pe.first i && has-renamed P f inj x px e.second pe.second i) (replaced-renamed P f inj e.first e.label pe.first x px i ∷ replaced-renamed P f inj e.second e.label pe.second x px i ∷ []) (map f x ∷ []))
    ∙ either_way (map f) (has x e.first && has x e.second) (replaced e.first e.label x) (replaced e.second e.label x) x

replaced-names : (P : ℕ → Type 0) (u k : ℕ) → P k → (x : List ℕ) → Each P x → Each P (replaced u k x)
replaced-names P u k pk [] px = tt
replaced-names P u k pk (c ∷ x) px = (by_test (nat_eq c u), replaced-names P u k pk x px.1)
  where
    by_test : (b : Bool) → P (cond b k c)
    by_test true = pk
    by_test false = px.0

sub-names : (P : ℕ → Type 0) (e : RankEdge) → HasNames P e → (x : List ℕ) → Each P x → Each (Each P) (sub e.first e.second e.label x)
sub-names P e pe x px = by_test (has x e.first && has x e.second)
  where
    by_test : (b : Bool) → Each (Each P) (cond b (replaced e.first e.label x ∷ replaced e.second e.label x ∷ []) (x ∷ []))
    by_test true = (replaced-names P e.first e.label pe.label x px, (replaced-names P e.second e.label pe.label x px, tt))
    by_test false = (px, tt)

-- the pieces under other names
pub split-renamed : (P : ℕ → Type 0) (f : ℕ → ℕ) → IsInjectiveOn P f → (es : List RankEdge) → Each (HasNames P) es → (x : List ℕ) → Each P x → split_in_turn (map (renamed f) es) (map f x) ≡ map (map f) (split_in_turn es x)
split-renamed P f inj [] pes x px = refl
split-renamed P f inj (e ∷ es) pes x px =
    ap (flat_map (split_in_turn (map (renamed f) es))) (sub-renamed P f inj e pes.0 x px)
    ∙ through_each (Each P) (map f) (split_in_turn es) (split_in_turn (map (renamed f) es)) (split-renamed P f inj es pes.1) (sub e.first e.second e.label x) (sub-names P e pes.0 x px)
