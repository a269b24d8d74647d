-- The nodes of the used points: their numbers rise, and each used point has one.
use Rattle.std.proofs.Common.{◌≡◌, ℕ, zero, suc, ◌+◌, ◌<◌, ◌≤◌, Bool, true, false, eqb, cond, List, [], ◌∷◌, map, length, get_or, filter, ℤ, sym, ap, ◌∙◌, subst, inl, inr, arith}
use Rattle.std.specs.List.{enumerate_from, AllByRecursion as Each}
use Rattle.std.proofs.lemmas.Bool.{cases_Bool, or_left, or_right}
use Rattle.std.proofs.lemmas.Bool.Decides.{nat_tests}
use Rattle.grid.specs.declared.shapes.Point.{Point}
use Rattle.grid.specs.Determinants.{point_at}
use Rattle.grid.specs.Simplices.{Rises}
use Rattle.msh_text.specs.declared.file_mesh.MshNode.{MshNode}
use Rattle.msh_text.specs.FileMesh.{node_of}
use Rattle.msh_text.specs.Rules.{is_node}

module _ (shift : List ℤ) (test : ℕ → Bool) where
  -- the nodes of the points that pass, whose numbers begin with n
  abbrev pub nodes_from : ℕ → List Point → List MshNode
  nodes_from n points = map (node_of shift) (filter (λ p. test p.0) (enumerate_from n points))

  abbrev pub number : MshNode → ℕ
  number node = node.number

  pub nodes_from-yes : (n : ℕ) (p : Point) (points : List Point) → test n ≡ true → nodes_from n (p ∷ points) ≡ node_of shift (n, p) ∷ nodes_from (n + 1) points
  nodes_from-yes n p points e = ap (λ b. map (node_of shift) (cond b ((n, p) ∷ filter (λ (q : ℕ × Point). test q.0) (enumerate_from (n + 1) points)) (filter (λ (q : ℕ × Point). test q.0) (enumerate_from (n + 1) points)))) e

  pub nodes_from-no : (n : ℕ) (p : Point) (points : List Point) → test n ≡ false → nodes_from n (p ∷ points) ≡ nodes_from (n + 1) points
  nodes_from-no n p points e = ap (λ b. map (node_of shift) (cond b ((n, p) ∷ filter (λ (q : ℕ × Point). test q.0) (enumerate_from (n + 1) points)) (filter (λ (q : ℕ × Point). test q.0) (enumerate_from (n + 1) points)))) e

  -- ---- each node
  pub each_node : (P : Point → Type 0) (Q : MshNode → Type 0) (most n : ℕ) (points : List Point) → n + length points ≤ most → ((c : ℕ) (p : Point) → c < most → P p → Q (node_of shift (c, p))) → Each P points → Each Q (nodes_from n points)
  each_node P Q most n [] few f h = tt
  each_node P Q most n (p ∷ points) few f h =
      let rest = each_node P Q most (n + 1) points (omega (arith, few)) f h.1 in
      elim (cases_Bool (test n)) [
        | inl e ↦ subst (Each Q) (sym (nodes_from-yes n p points e)) (f n p (omega (arith, few)) h.0, rest)
        | inr e ↦ subst (Each Q) (sym (nodes_from-no n p points e)) rest
      ]

  pub nodes_few : (n : ℕ) (points : List Point) → length (nodes_from n points) ≤ length points
  nodes_few n [] = omega arith
  nodes_few n (p ∷ points) =
      let rest = nodes_few (n + 1) points in
      elim (cases_Bool (test n)) [
        | inl e ↦ omega (arith, rest, ap length (nodes_from-yes n p points e))
        | inr e ↦ omega (arith, rest, ap length (nodes_from-no n p points e))
      ]

  -- ---- their numbers rise
  above : (b n : ℕ) (points : List Point) → b ≤ n → Each (λ k. b < k) (map number (nodes_from n points))
  above b n [] le = tt
  above b n (p ∷ points) le =
      let rest = above b (n + 1) points (omega (arith, le)) in
      elim (cases_Bool (test n)) [
        | inl e ↦ subst (λ ns. Each (λ k. b < k) (map number ns)) (sym (nodes_from-yes n p points e)) (omega (arith, le), rest)
        | inr e ↦ subst (λ ns. Each (λ k. b < k) (map number ns)) (sym (nodes_from-no n p points e)) rest
      ]

  pub numbers_rise : (n : ℕ) (points : List Point) → Rises (map number (nodes_from n points))
  numbers_rise n [] = tt
  numbers_rise n (p ∷ points) =
      let rest = numbers_rise (n + 1) points in
      elim (cases_Bool (test n)) [
        | inl e ↦ subst (λ ns. Rises (map number ns)) (sym (nodes_from-yes n p points e)) (above (n + 1) (n + 1) points (omega arith), rest)
        | inr e ↦ subst (λ ns. Rises (map number ns)) (sym (nodes_from-no n p points e)) rest
      ]

  -- ---- the node of a point
  -- where the node of the point c stands, of nodes whose numbers begin with n
  pub record HasNode (nodes : List MshNode) (c : ℕ) (p : Point) : Type 0 where
    pub place : ℕ
    pub within : place < length nodes
    pub is : (d : MshNode) → get_or nodes place d ≡ node_of shift (c, p)

  further : (node : MshNode) (nodes : List MshNode) (c : ℕ) (p : Point) → HasNode nodes c p → HasNode (node ∷ nodes) c p
  further node nodes c p h = record { place = suc h.place; within = omega (arith, h.within); is = λ d. h.is d }

  pub node_found : (n : ℕ) (points : List Point) (c k : ℕ) → c < length points → n + c ≡ k → test k ≡ true → HasNode (nodes_from n points) k (point_at points c)
  node_found n [] c k lt e passes = absurd (omega (arith, lt))
  node_found n (p ∷ points) zero k lt e passes =
      let same : n ≡ k = omega (arith, e) in
      let good : test n ≡ true = ap test same ∙ passes in
      subst (λ ns. HasNode ns k p) (sym (nodes_from-yes n p points good)) (record { place = 0; within = omega arith; is = λ d. ap (λ i. node_of shift (i, p)) same })
  node_found n (p ∷ points) (suc c) k lt e passes =
      let rest = node_found (n + 1) points c k (omega (arith, lt)) (omega (arith, e)) passes in
      elim (cases_Bool (test n)) [
        | inl good ↦ subst (λ ns. HasNode ns k (point_at points c)) (sym (nodes_from-yes n p points good)) (further (node_of shift (n, p)) (nodes_from (n + 1) points) k (point_at points c) rest)
        | inr bad ↦ subst (λ ns. HasNode ns k (point_at points c)) (sym (nodes_from-no n p points bad)) rest
      ]

  -- a number that a node of the list has
  any_node : (nodes : List MshNode) (i k : ℕ) (d : MshNode) → i < length nodes → (get_or nodes i d).number ≡ k → is_node nodes k ≡ true
  any_node [] i k d lt e = absurd (omega (arith, lt))
  any_node (node ∷ nodes) zero k d lt e =
      let same : eqb node.number k ≡ true = grind (arith, nat_tests) in
      or_left (eqb node.number k) (is_node nodes k) same
  any_node (node ∷ nodes) (suc i) k d lt e = or_right (eqb node.number k) (is_node nodes k) (any_node nodes i k d (omega (arith, lt)) e)

  pub is_node-used : (points : List Point) (c : ℕ) → c < length points → test c ≡ true → is_node (nodes_from 0 points) (c + 1) ≡ true
  is_node-used points c lt passes =
      let it = node_found 0 points c c lt (omega arith) passes in
      let d : MshNode = record { number = 0; at = [] } in
      any_node (nodes_from 0 points) it.place (c + 1) d it.within (ap number (it.is d))
