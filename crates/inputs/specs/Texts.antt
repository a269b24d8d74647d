-- What the texts of inputs say, and the lines that refuse them.
use Rattle.std.specs.Prelude.{◌≡◌, ℕ, nat_lt, if◌then◌else◌, List, ◌++◌, codes, decimal, Option, Result, Ok, Err}
use Rattle.grid.specs.Limits.{largest_side}
use Rattle.soup.specs.declared.raw.Raw.{Raw}
use Rattle.soup.specs.declared.raw.Soup.{Soup}
use Rattle.soup.specs.Placement.{extent, room, placed}
use Rattle.off_text.specs.declared.issue.OffKind.{OffKind}
use Rattle.off_text.specs.declared.issue.OffKind.TheVariants.{NoKeyword, OtherKeyword, BadCount, Ended, BadNumber, NotWhole, TooLarge, BadIndex, ShortFace, TooMany}
use Rattle.off_text.specs.Grammar.{Refusal, reads}
use Rattle.msh_text.specs.declared.file_mesh.MshMesh.{MshMesh}
use Rattle.msh_text.specs.Answers as msh
use Rattle.report_text.specs.declared.report.Report.{Report}
use Rattle.report_text.specs.Answers as report
use Rattle.inputs.specs.Readings.{Inputs, Text, file, known, ◌>>=◌}

-- ---- the lines of the refusals
-- what is wrong with a word, up to the end of the line
abbrev pub kind_text : OffKind → List ℕ
kind_text NoKeyword = codes ": no OFF keyword\n"
kind_text OtherKeyword = codes ": another OFF variant\n"
kind_text BadCount = codes ": bad count\n"
kind_text Ended = codes ": ended early\n"
kind_text BadNumber = codes ": bad number\n"
kind_text NotWhole = codes ": not a whole number\n"
kind_text TooLarge = codes ": number too large\n"
kind_text BadIndex = codes ": no such vertex\n"
kind_text ShortFace = codes ": face of fewer than three corners\n"
kind_text TooMany = codes ": too many\n"

abbrev pub off_line : OffKind → ℕ → List ℕ
off_line kind place = codes "tetsoup: input: byte " ++ (decimal place ++ kind_text kind)

abbrev pub too_wide_line : ℕ → List ℕ
too_wide_line wide = codes "tetsoup: input: extent " ++ (decimal wide ++ codes " is too wide\n")

abbrev pub mesh_line : ℕ → List ℕ
mesh_line n = codes "tetsoup: mesh: line " ++ (decimal n ++ codes "\n")

abbrev pub report_line : ℕ → List ℕ
report_line n = codes "tetsoup: report: line " ++ (decimal n ++ codes "\n")

-- ---- the texts
abbrev pub raw_of : Result Raw Refusal → Result Raw (List ℕ)
raw_of (Ok raw) = Ok raw
raw_of (Err refusal) = Err (off_line refusal.kind refusal.place)

-- a soup, whose coordinates are whole or are rounded to so many digits behind the point
abbrev pub SaysSoup : (digits : Option ℕ) → Text Raw
SaysSoup digits bytes result = raw_of (reads digits bytes) ≡ result

-- a mesh, with d digits behind the point
abbrev pub SaysMesh : (d : ℕ) → Text MshMesh
SaysMesh d bytes (Ok m) = msh.IsTextOf d bytes m
SaysMesh d bytes (Err line) = (n : ℕ) × msh.BadLine d bytes n × (line ≡ mesh_line n)

-- a report
abbrev pub SaysReport : Text Report
SaysReport bytes (Ok r) = report.IsReportOf bytes r
SaysReport bytes (Err line) = (n : ℕ) × report.BadLine bytes n × (line ≡ report_line n)

-- ---- the box
-- the soup in its box; one for which no box has room is refused
abbrev pub soup_in : (epsilon cells : ℕ) → Raw → Result Soup (List ℕ)
soup_in epsilon cells raw =
    if nat_lt largest_side (room raw epsilon)
    then Err (too_wide_line (extent raw))
    else Ok (placed raw epsilon cells)

abbrev pub placed_soup : (epsilon cells : ℕ) → Raw → Inputs Soup
placed_soup epsilon cells raw = known (soup_in epsilon cells raw)

-- a file with a soup, which is placed in its box
abbrev pub soup_file : (name : List ℕ) → (digits : Option ℕ) → (epsilon cells : ℕ) → Inputs Soup
soup_file name digits epsilon cells = file name (SaysSoup digits) >>= placed_soup epsilon cells
