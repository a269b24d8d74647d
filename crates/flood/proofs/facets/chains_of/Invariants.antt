use Rattle.flood.specs.Chains.{AreChains}
use Rattle.flood.proofs.facets.chains_of.Given as goal

abbrev pub invariant-loop-h : goal.invariant-loop-h
invariant-loop-h l = AreChains l.facets l.of.items l.h l.last.items l.before.items
