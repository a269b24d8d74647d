-- What is known while the faces of a list are counted in turn.
use Rattle.std.specs.Prelude.{◌≡◌, ℕ, ◌<◌, List, length, take, ◌++◌}
use Rattle.face_table.specs.Occurrences.{occurrences, HaveSameFaces}
use Rattle.face_table.specs.Pairing.{face_at, NoneTwice}

-- f is the first face of the list that occurs among the earlier ones or those counted before
pub record IsRepeatAfter (counted faces : List (List ℕ)) (f : List ℕ) : Type 0 where
  pub place : ℕ
  pub within : place < length faces
  pub is : face_at faces place ≡ f
  pub repeated : 0 < occurrences f (counted ++ take place faces)
  pub first : NoneTwice (counted ++ take place faces)

-- the faces are counted, and none occurs twice
pub record AreCounted (counted faces : List (List ℕ)) : Type 0 where
  pub same : HaveSameFaces counted faces
  pub once : NoneTwice counted
