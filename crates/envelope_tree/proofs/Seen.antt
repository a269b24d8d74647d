-- Going through the nodes of a tree, from the last to the first.
use Rattle.std.proofs.Common.{◌≡◌, ℕ, ◌+◌, ◌<◌, ◌≤◌, ◌⊎◌, List, [], length, arith, subst, sym, inl, inr, pos, get_or, le_trans}
use Rattle.std.proofs.lemmas.Bool.{cases_lt}
use Rattle.std.proofs.lemmas.List.Elements.{All-contains}
use Rattle.grid.specs.declared.shapes.Tri.{Tri}
use Rattle.grid.specs.Envelopes.{triangle_at, IsLeastNear, HasNoneNear}
use Rattle.envelope_tree.specs.declared.bounds.Interval.{Interval}
use Rattle.envelope_tree.specs.declared.tree.Node.{Node}
use Rattle.envelope_tree.specs.declared.query.Query.{Query}
use Rattle.envelope_tree.specs.Queries.{IsOutOfReach, IsFound, AreFrom, IsSeen}
use Rattle.envelope_tree.specs.Trees.{Fits, IsNodeAt, IsTree}
use Rattle.envelope_tree.proofs.Far.{none_in_box}

-- some node, for reads outside a list
abbrev point_interval : Interval
point_interval = record { low = pos 0; high = pos 0 }

abbrev pub no_node : Node
no_node = record {
  summary = record { bounds = record { x = point_interval; y = point_interval; z = point_interval }; least = 0 };
  start = 0;
  numbers = record { items = []; capacity = 0 };
}

module _ (nodes : List Node) (triangles : List Tri) (q : Query) where
  -- a lower limit keeps what was seen
  lower-AreFrom : (limit least : ℕ) (numbers : List ℕ) → least ≤ limit → AreFrom triangles q limit numbers → AreFrom triangles q least numbers
  lower-AreFrom limit least numbers le h k d lt f = le_trans le (h k d lt f)

  -- a node is looked at
  pub seen_visits : (end limit least i : ℕ) → end ≡ i + 1 → IsSeen nodes triangles q end limit → least ≤ limit → (least ≡ limit) ⊎ IsFound triangles q least
      → ((d : Node) → AreFrom triangles q least (get_or nodes i d).numbers.items) → IsSeen nodes triangles q i least
  seen_visits end limit least i e s le or here = record {
    end_in = omega (arith, e, s.end_in);
    limit_in = le_trans le s.limit_in;
    found = λ h. found or h;
    rest = rest;
  }
    where
      found : (least ≡ limit) ⊎ IsFound triangles q least → least < length triangles → IsFound triangles q least
      found (inl same) h = subst (IsFound triangles q) (sym same) (s.found (subst (λ (n : ℕ). n < length triangles) same h))
      found (inr f) h = f

      rest : (j : ℕ) (d : Node) → i ≤ j → j < length nodes → AreFrom triangles q least (get_or nodes j d).numbers.items
      rest j d l h = cases (cases_lt i j)
        where
          cases : (i < j) ⊎ (j ≤ i) → AreFrom triangles q least (get_or nodes j d).numbers.items
          cases (inl lt) = lower-AreFrom limit least _ le (s.rest j d (omega (arith, e, lt)) h)
          cases (inr ge) =
              let same : i ≡ j = omega (arith, l, ge) in
              subst (λ (n : ℕ). AreFrom triangles q least (get_or nodes n d).numbers.items) same (here d)

  -- a node and those below it are left out
  pub seen_leaves_out : (end limit i : ℕ) (node : Node) → end ≡ i + 1 → IsSeen nodes triangles q end limit → IsNodeAt triangles nodes i node
      → (limit ≤ node.summary.least) ⊎ IsOutOfReach q node.summary.bounds → IsSeen nodes triangles q node.start limit
  seen_leaves_out end limit i node e s n or = record {
    end_in = omega (arith, e, s.end_in, n.start_in);
    limit_in = s.limit_in;
    found = s.found;
    rest = rest;
  }
    where
      out : (t : ℕ) → Fits triangles node.summary t → (limit ≤ node.summary.least) ⊎ IsOutOfReach q node.summary.bounds → IsFound triangles q t → limit ≤ t
      out t f (inl le) _ = le_trans le f.least
      out t f (inr far) found = absurd (none_in_box q node.summary.bounds (triangle_at triangles t) far f.encloses found.near)

      rest : (j : ℕ) (d : Node) → node.start ≤ j → j < length nodes → AreFrom triangles q limit (get_or nodes j d).numbers.items
      rest j d l h = cases (cases_lt i j)
        where
          cases : (i < j) ⊎ (j ≤ i) → AreFrom triangles q limit (get_or nodes j d).numbers.items
          cases (inl lt) = s.rest j d (omega (arith, e, lt)) h
          cases (inr ge) = λ k x lt found. out _ (n.covers.fits j d l (omega (arith, ge)) k x lt) or found

  -- all nodes have been gone through
  seen_all : (limit : ℕ) → IsSeen nodes triangles q 0 limit → IsTree triangles nodes → (t : ℕ) → IsFound triangles q t → limit ≤ t
  seen_all limit s tree t f =
      let h = tree.all t f.in_range in
      All-contains (λ u. IsFound triangles q u → limit ≤ u) _ t (s.rest h.index no_node (omega arith) h.in_range) (h.there no_node) f

  pub seen_found : (limit : ℕ) → IsSeen nodes triangles q 0 limit → IsTree triangles nodes → limit < length triangles → IsLeastNear triangles q.a q.b q.c q.k q.e limit
  seen_found limit s tree h = record {
    is_near = s.found h;
    least = λ t lt f. let le = seen_all limit s tree t f in absurd (omega (arith, lt, le));
  }

  pub seen_none : (limit : ℕ) → IsSeen nodes triangles q 0 limit → IsTree triangles nodes → length triangles ≤ limit → HasNoneNear triangles q.a q.b q.c q.k q.e
  seen_none limit s tree h t f =
      let le = seen_all limit s tree t f in
      let lt = f.in_range in
      absurd (omega (arith, h, le, lt))
