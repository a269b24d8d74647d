use Rattle.std.proofs.Common.{◌≡◌, [], ◌∷◌, ◌++◌, ap, ◌∙◌, arith}
use Rattle.face_table.specs.Occurrences.{occurrences}
use Rattle.face_table.proofs.tests.rotations_are_counted_together.Goals as goal

pub add-requires-2 : goal.add-requires-2
add-requires-2 g c =
    let once : occurrences (3 ∷ 0 ∷ 1 ∷ []) c.add.new.self ≡ 1 = c.in_ok-add.ensures.added (3 ∷ 0 ∷ 1 ∷ []) ∙ ap (λ fs. occurrences (3 ∷ 0 ∷ 1 ∷ []) (fs ++ (0 ∷ 1 ∷ 3 ∷ []) ∷ [])) c.new-table.ensures in
    omega (arith, once)
