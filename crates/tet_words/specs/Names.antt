-- Names of files.
use Rattle.std.specs.Prelude.{ℕ, Bool, false, ◌||◌, if◌then◌else◌, List, [], ◌∷◌, codes, Result, Ok, Err}
use Rattle.std.specs.List.{list_any}
use Rattle.std.specs.Str.{bytes_eq}
use Rattle.tet_words.specs.declared.fault.WordFault.{WordFault}
use Rattle.tet_words.specs.declared.fault.WordFault.TheVariants as faults

-- empty, or a dash alone
abbrev pub is_bad : List ℕ → Bool
is_bad name = bytes_eq name [] || bytes_eq name (codes "-")

-- two of them are equal
abbrev pub has_equal : List (List ℕ) → Bool
has_equal [] = false
has_equal (name ∷ names) = list_any (bytes_eq name) names || has_equal names

-- the fault of the names of a command
abbrev pub check_names : List (List ℕ) → Result (Unit {0}) WordFault
check_names names = if list_any is_bad names then Err faults.Name else if has_equal names then Err faults.SameName else Ok tt
