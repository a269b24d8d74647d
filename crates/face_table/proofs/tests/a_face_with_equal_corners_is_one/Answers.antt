use Rattle.std.proofs.Common.{◌≡◌, [], ◌∷◌, ◌++◌, ap, ◌∙◌, arith}
use Rattle.face_table.specs.Occurrences.{occurrences}
use Rattle.face_table.proofs.tests.a_face_with_equal_corners_is_one.Goals as goal

pub add-requires-2 : goal.add-requires-2
add-requires-2 g c =
    let once : occurrences (2 ∷ 5 ∷ 2 ∷ []) c.add.new.self ≡ 1 = c.in_ok-add.ensures.added (2 ∷ 5 ∷ 2 ∷ []) ∙ ap (λ fs. occurrences (2 ∷ 5 ∷ 2 ∷ []) (fs ++ (2 ∷ 2 ∷ 5 ∷ []) ∷ [])) c.new-table.ensures in
    omega (arith, once)
