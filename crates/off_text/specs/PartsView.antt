-- The parts of a coordinate as the code has them.
use Rattle.off_text.specs.declared.spelling.Parts.{Parts as CodeParts}
use Rattle.off_text.specs.Numbers.{Parts}

abbrev pub parts_view : CodeParts → Parts
parts_view p = record { whole = p.whole.now; fraction = p.fraction.now; rest = p.rest.now }
