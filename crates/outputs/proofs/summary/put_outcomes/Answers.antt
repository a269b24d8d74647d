use Rattle.outputs.proofs.Making.{four_pieces}
use Rattle.outputs.proofs.summary.put_outcomes.Goals as goal

pub returns : goal.returns
returns c =
    four_pieces _ _ _ _ _ c.put.new.out.items c.put_sum.new.out.items c.put-2.new.out.items c.put_number.new.out.items
    c.in_ok-put.ensures (rw (c.count_inserted-inserted.ensures, c.inserted_again.ensures, c.as_slice.ensures) at c.in_ok-put_sum.ensures) c.in_ok-put-2.ensures (rw (c.count_left_out-left_out.ensures, c.as_slice-2.ensures) at c.in_ok-put_number.ensures)
