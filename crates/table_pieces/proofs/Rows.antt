-- The row of a mask, without its blank members.
use Rattle.std.proofs.Common.{◌≡◌, ℕ, ◌<◌, List, ◌++◌, length, take, All, ap₂, sym, subst, ◌∙◌}
use Rattle.std.proofs.Math.Seq.{take-append_seam}
use Rattle.cut_tables.specs.Cutting.{IsLabelled, pieces_of}
use Rattle.table_pieces.proofs.Names.{label-few}

pub row-is : (mask count : ℕ) (list blanks : List (List ℕ)) → count ≡ length (pieces_of mask) → list ≡ pieces_of mask ++ blanks → take count list ≡ pieces_of mask
row-is mask count list blanks c l = ap₂ take c l ∙ take-append_seam (pieces_of mask) blanks

pub row-few : (mask : ℕ) (row : List (List ℕ)) → row ≡ pieces_of mask → All (IsLabelled mask) (pieces_of mask) → All (All (λ c. c < 10)) row
row-few mask row is h = subst (All (All (λ c. c < 10))) (sym is) (λ k d lt i e there. label-few mask _ ((h k d lt).labels i e there))
