-- Whether oriented faces pair, and the first face that does not.
use Rattle.std.specs.Prelude.{◌≡◌, ℕ, ◌<◌, ◌≤◌, true, if◌then◌else◌, ℤ, pos, List, [], length, take, slice_index_or}
use Rattle.grid.specs.declared.shapes.Point.{Point}
use Rattle.grid.specs.Boxes.{Side, coordinate, IsOnOneSide}
use Rattle.grid.specs.Determinants.{point_at}
use Rattle.grid.specs.Simplices.{has, reversed}
use Rattle.face_table.specs.Occurrences.{occurrences}
use Rattle.face_table.specs.declared.pairs.Paired.{Paired}
use Rattle.face_table.specs.declared.pairs.Paired.TheVariants.{Good, Twice, Loose}

-- the face at a place of a list
abbrev pub face_at : List (List ℕ) → ℕ → List ℕ
face_at faces i = slice_index_or faces i []

-- no face occurs twice
abbrev pub NoneTwice : List (List ℕ) → Type 0
NoneTwice faces = (f : List ℕ) → occurrences f faces ≤ 1

-- f is the first face of the list that occurs at an earlier place
pub record IsFirstRepeat (faces : List (List ℕ)) (f : List ℕ) : Type 0 where
  pub place : ℕ
  pub within : place < length faces
  pub is : face_at faces place ≡ f
  pub repeated : 0 < occurrences f (take place faces)
  pub first : NoneTwice (take place faces)

-- the face is loose: its reverse does not occur
abbrev pub IsLoose : List (List ℕ) → List ℕ → Type 0
IsLoose faces f = occurrences (reversed f) faces ≡ 0

-- of some of the faces, each loose one has the property
abbrev pub LooseHave : (List ℕ → Type 0) → List (List ℕ) → List (List ℕ) → Type 0
LooseHave Has faces some = (f : List ℕ) → 0 < occurrences f some → IsLoose faces f → Has f

-- f is the first of some of the faces that is loose and has not the property
pub record IsFirstLooseWithout (Has : List ℕ → Type 0) (faces some : List (List ℕ)) (f : List ℕ) : Type 0 where
  pub place : ℕ
  pub within : place < length some
  pub is : face_at some place ≡ f
  pub loose : IsLoose faces f
  pub apart : Has f → ⊥
  pub first : LooseHave Has faces (take place some)

-- no face occurs twice and the loose ones have the property, or else the first repeat, or else the first loose face that has not
abbrev pub IsPairedBy : (List ℕ → Type 0) → List (List ℕ) → Paired → Type 0
IsPairedBy Has faces Good = NoneTwice faces × LooseHave Has faces faces
IsPairedBy Has faces (Twice f) = IsFirstRepeat faces f.0
IsPairedBy Has faces (Loose f) = NoneTwice faces × IsFirstLooseWithout Has faces faces f.0

-- ---- the box from 0 to l
-- of some of the faces, the corners of each loose one share a side of the box
abbrev pub LieOnSides : List Point → ℕ → List (List ℕ) → List (List ℕ) → Type 0
LieOnSides points l faces some = LooseHave (IsOnOneSide points l) faces some

-- f is the first of some of the faces that is loose and whose corners share no side of the box
abbrev pub IsFirstLoose : List Point → ℕ → List (List ℕ) → List (List ℕ) → List ℕ → Type 0
IsFirstLoose points l faces some f = IsFirstLooseWithout (IsOnOneSide points l) faces some f

-- no face occurs twice and the loose ones lie on the sides, or else the first repeat, or else the first loose face that does not
abbrev pub IsPairing : List Point → ℕ → List (List ℕ) → Paired → Type 0
IsPairing points l faces paired = IsPairedBy (IsOnOneSide points l) faces paired

-- ---- any length, below 0 too
-- the point lies on that side of the box from 0 to z
abbrev pub LiesOn : ℤ → Side → Point → Type 0
LiesOn z s p = coordinate s.axis p ≡ (if s.is_far then z else pos 0)

-- the corners lie on one side of the box from 0 to z
pub record LieOnOneSide (points : List Point) (z : ℤ) (f : List ℕ) : Type 0 where
  pub side : Side
  pub corners : (c : ℕ) → has f c ≡ true → LiesOn z side (point_at points c)
