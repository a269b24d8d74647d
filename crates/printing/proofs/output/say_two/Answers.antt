use Rattle.printing.proofs.Saying.{says_part, says_more}
use Rattle.printing.proofs.output.say_two.Goals as goal

pub returns-in-Ok : goal.returns-in-Ok
returns-in-Ok g c = says_more (g.O.Sink.state c.args.out.now) (g.O.Sink.state c.write_all.new.sink) (g.O.Sink.state c.say.new.out) c.args.first.now c.args.second.now c.in-Ok.field-0 c.in-Ok.ensures c.say.ensures

pub returns-in-Err : goal.returns-in-Err
returns-in-Err g c = says_part (g.O.Sink.state c.args.out.now) (g.O.Sink.state c.write_all.new.sink) c.args.first.now c.args.second.now c.in-Err.field-0 c.in-Err.ensures
