use Rattle.std.proofs.Common.{◌≡◌, drop, map}
use Rattle.tet_words.specs.Sorting.{nothing, sorted}
use Rattle.tet_words.specs.Views.{sorted_view}
use Rattle.tet_words.proofs.sorting.sort.Given as goal

abbrev pub invariant-loop-word : goal.invariant-loop-word
invariant-loop-word l = sorted l.command nothing (map (λ w. w.now) l.words) ≡ sorted l.command (sorted_view l.sorted) (map (λ w. w.now) (drop l.word-index l.words))
