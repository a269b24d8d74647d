-- The OFF text of a soup as it is written. Each line ends with a line feed.
use Rattle.std.specs.Prelude.{◌≡◌, ℕ, ℤ, List, ◌++◌, length, codes, decimal, slice_index, All}
use Rattle.std.specs.Fmt.{signed_decimal}
use Rattle.std.specs.List.{flat_map}
use Rattle.soup.specs.declared.raw.Raw.{Raw}
use Rattle.soup.specs.Placement.{along}

-- the numbers of vertices and of faces, and 0 for the edges
abbrev pub count_line : (vertices faces : ℕ) → List ℕ
count_line vertices faces = decimal vertices ++ codes " " ++ decimal faces ++ codes " 0\n"

-- the coordinates of a vertex
abbrev pub vertex_line : List ℤ → List ℕ
vertex_line v = signed_decimal (along 0 v) ++ codes " " ++ signed_decimal (along 1 v) ++ codes " " ++ signed_decimal (along 2 v) ++ codes "\n"

-- a triangle by the numbers of its corners
abbrev pub face_line : List ℕ → List ℕ
face_line f = codes "3 " ++ decimal (slice_index f 0) ++ codes " " ++ decimal (slice_index f 1) ++ codes " " ++ decimal (slice_index f 2) ++ codes "\n"

-- the whole text
unfoldable pub off_text : Raw → List ℕ
off_text raw =
    codes "OFF\n" ++ count_line (length raw.vertices) (length raw.faces)
    ++ flat_map vertex_line raw.vertices ++ flat_map face_line raw.faces

-- vertices of three coordinates and triangles of three corners, as every value of the type has them
pub record IsOfTriples (raw : Raw) : Type 0 where
  pub vertices : All (λ v. length v ≡ 3) raw.vertices
  pub faces : All (λ f. length f ≡ 3) raw.faces
