use Rattle.std.proofs.Common.{◌≡◌, ◌+◌, [], ◌∷◌}
use Rattle.soup.specs.HeightField.{vertex_at, vertex_number, word_after}
use Rattle.soup.proofs.Places.{so_far}
use Rattle.soup.proofs.terrain.vertices.Given as goal

abbrev pub invariant-loop-i : goal.invariant-loop-i
invariant-loop-i l = record {
  made : l.vertices.items ≡ so_far (λ i j. vertex_at l.k l.seed i j ∷ []) (l.k + 1) l.i l.j;
  word_is : l.word ≡ word_after l.seed (vertex_number l.k l.i l.j);
}

abbrev pub invariant-loop-j : goal.invariant-loop-j
invariant-loop-j l = record {
  made : l.vertices.items ≡ so_far (λ i j. vertex_at l.k l.seed i j ∷ []) (l.k + 1) 0 l.j;
  word_is : l.word ≡ word_after l.seed (vertex_number l.k 0 l.j);
}
