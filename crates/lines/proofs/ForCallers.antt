-- For callers: what forms read, how far a reader has come, and texts that are put together.
pub use Rattle.lines.proofs.Laws.{Continues, bad_line_once, ends, ends_with, fails, fails_first, field_breaks, field_reads, goes_on, left_high, narrow_breaks, narrow_fails, narrow_reads, nothing_left, repeat_stops, repeats, repeats_all, rest_short, some_left, starts, text_once, text_or_bad}
pub use Rattle.lines.proofs.Numerals.{none_empty}
pub use Rattle.lines.proofs.Clear.{apart, apart_differs, choose_clear, coordinate_clear, fixed_clear, fixed_lines_clear, repeat_clear, word_clear}
pub use Rattle.lines.proofs.Putting.{put_last, put_more}
pub use Rattle.lines.proofs.Going.{fails_last, field_allowed, gives_on}
pub use Rattle.lines.proofs.Chains.{OneMore, behind, joined_said, lines_text, no_places, repeat_text}
pub use Rattle.lines.proofs.CanSay.{CanSay, four_items, is_text, says_all, says_done, says_field, says_fixed, says_lines, says_rows, says_then, three_items}
