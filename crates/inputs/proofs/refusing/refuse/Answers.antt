use Rattle.inputs.proofs.refusing.refuse.Goals as goal

pub returns-in-Missing-clause-line : goal.returns-in-Missing-clause-line
returns-in-Missing-clause-line g c = rw c.in-Missing.is c.say_name.ensures

pub returns-in-Failed-clause-line : goal.returns-in-Failed-clause-line
returns-in-Failed-clause-line g c = rw c.in-Failed.is c.say_name-in-Failed.ensures

pub returns-in-TooLong-clause-line : goal.returns-in-TooLong-clause-line
returns-in-TooLong-clause-line g c = rw c.in-TooLong.is c.say_name-in-TooLong.ensures

pub returns-in-Off-clause-line : goal.returns-in-Off-clause-line
returns-in-Off-clause-line g c = rw c.in-Off.is (rw c.kind_text.ensures at c.say_number.ensures)

pub returns-in-TooWide-clause-line : goal.returns-in-TooWide-clause-line
returns-in-TooWide-clause-line g c = rw c.in-TooWide.is c.say_number-in-TooWide.ensures

pub returns-in-Mesh-clause-line : goal.returns-in-Mesh-clause-line
returns-in-Mesh-clause-line g c = rw c.in-Mesh.is c.say_number-in-Mesh.ensures

pub returns-in-Report-clause-line : goal.returns-in-Report-clause-line
returns-in-Report-clause-line g c = rw c.in-Report.is c.say_number-in-Report.ensures

pub returns-in-Memory-clause-line : goal.returns-in-Memory-clause-line
returns-in-Memory-clause-line g c = rw c.in-Memory.is c.say.ensures
