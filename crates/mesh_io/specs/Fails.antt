-- Lists of calls that are to fail.
use Rattle.std.specs.Prelude.{◌==◌, ◌&&◌, ℕ, Bool, true, false, List}
use Rattle.std.specs.List.{list_any}
use Rattle.mesh_io.specs.declared.mem_file.CallKind.{CallKind}
use Rattle.mesh_io.specs.declared.mem_file.CallKind.TheVariants.{Open, Read, Create, Write}
use Rattle.mesh_io.specs.declared.mem_file.MemFail.{MemFail}

-- whether two kinds of calls are the same
abbrev pub is_same_kind : CallKind → CallKind → Bool
is_same_kind Open Open = true
is_same_kind Read Read = true
is_same_kind Create Create = true
is_same_kind Write Write = true
is_same_kind _ _ = false

-- whether the list has the call of that kind and number
abbrev pub is_listed : List MemFail → CallKind → ℕ → Bool
is_listed fails kind nth = list_any (λ f. is_same_kind f.kind kind && (f.nth == nth)) fails

-- whether a kind of calls counts its faults on the read count
abbrev pub is_reading : CallKind → Bool
is_reading Open = true
is_reading Read = true
is_reading Create = false
is_reading Write = false

-- whether the list has a call of `open` or `read`
abbrev pub lists_reading : List MemFail → Bool
lists_reading fails = list_any (λ f. is_reading f.kind) fails
