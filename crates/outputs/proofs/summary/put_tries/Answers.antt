use Rattle.outputs.proofs.Making.{four_pieces}
use Rattle.outputs.proofs.summary.put_tries.Goals as goal

pub returns : goal.returns
returns c =
    four_pieces _ _ _ _ _ c.put.new.out.items c.put_sum.new.out.items c.put-2.new.out.items c.put-3.new.out.items
    c.in_ok-put.ensures (rw (c.len.ensures, c.tries_again.ensures) at c.in_ok-put_sum.ensures) c.in_ok-put-2.ensures (rw (c.end_text.ensures, c.last_end.ensures) at c.in_ok-put-3.ensures)
