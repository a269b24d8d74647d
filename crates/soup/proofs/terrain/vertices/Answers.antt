use Rattle.std.proofs.Common.{◌≡◌, ℕ, ◌+◌, [], ◌∷◌, ◌++◌, List, ℤ, ap, ap₂, sym, ◌∙◌, arith}
use Rattle.soup.specs.HeightField.{vertex_at, vertex_number, word_after}
use Rattle.soup.proofs.Places.{so_far, so_far-none, so_far-more, so_far-row, so_far-all}
use Rattle.soup.proofs.Heights.{one_step, no_step, vertex_is, next_row}
use Rattle.soup.proofs.terrain.vertices.Goals as goal

pub loop-i-preserved : goal.loop-i-preserved
loop-i-preserved c =
    let one = λ (i j : ℕ). vertex_at c.args.k c.args.seed i j ∷ [] in
    let n : ℕ = vertex_number c.args.k c.loop-i.i c.loop-j.j in
    let taken = c.next_word-word.ensures ∙ one_step c.args.seed n c.loop-i.word c.loop-i.invariant.word_is in
    let v = vertex_is c.args.k c.args.seed c.loop-i.i c.loop-j.j c.next_word-word.result c.vertex.result c.vertex.ensures taken in
    record {
      made =
          c.in_ok-push.ensures.items
          ∙ ap₂ ◌++◌ c.loop-i.invariant.made (ap (λ (v : List ℤ). v ∷ []) v)
          ∙ so_far-more one (c.args.k + 1) c.loop-i.i c.loop-j.j;
      word_is =
          let later : n + 1 ≡ vertex_number c.args.k (c.loop-i.i + 1) c.loop-j.j = omega arith in
          taken ∙ ap (word_after c.args.seed) later;
    }

pub loop-j-preserved : goal.loop-j-preserved
loop-j-preserved c =
    let one = λ (i j : ℕ). vertex_at c.args.k c.args.seed i j ∷ [] in
    let end : c.loop-i.i ≡ c.args.k + 1 = omega arith in
    record {
      made = c.loop-i.invariant.made ∙ ap (λ (i : ℕ). so_far one (c.args.k + 1) i c.loop-j.j) end ∙ so_far-row one (c.args.k + 1) c.loop-j.j;
      word_is = c.loop-i.invariant.word_is ∙ ap (λ (i : ℕ). word_after c.args.seed (vertex_number c.args.k i c.loop-j.j)) end ∙ ap (word_after c.args.seed) (next_row (c.args.k + 1) c.loop-j.j);
    }

pub loop-j-init : goal.loop-j-init
loop-j-init c = record {
  made = c.in_ok-vertices.ensures.items ∙ sym (so_far-none (λ (i j : ℕ). vertex_at c.args.k c.args.seed i j ∷ []) (c.args.k + 1));
  word_is = no_step c.args.seed (vertex_number c.args.k 0 0) (omega arith);
}

pub returns : goal.returns
returns c =
    let one = λ (i j : ℕ). vertex_at c.args.k c.args.seed i j ∷ [] in
    let end : c.loop-j.j ≡ c.args.k + 1 = omega arith in
    c.loop-j.invariant.made ∙ ap (so_far one (c.args.k + 1) 0) end ∙ so_far-all one (c.args.k + 1)
