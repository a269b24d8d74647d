-- What was read, without where the texts lie in memory.
use Rattle.std.specs.Prelude.{map}
use Rattle.std.specs.Option.{option_map}
use Rattle.tet_words.specs.declared.sorting.Values.{Values}
use Rattle.tet_words.specs.declared.sorting.Sorted.{Sorted}
use Rattle.tet_words.specs.Sorting.{Given, Read}

abbrev pub values_view : Values → Given
values_view v = record {
  epsilon = option_map (λ t. t.now) v.epsilon;
  cells = option_map (λ t. t.now) v.cells;
  budget = option_map (λ t. t.now) v.budget;
  digits = option_map (λ t. t.now) v.digits;
  kept = option_map (λ t. t.now) v.kept;
}

abbrev pub sorted_view : Sorted → Read
sorted_view s = record { words = map (λ t. t.now) s.words.items; values = values_view s.values; next = s.next }
