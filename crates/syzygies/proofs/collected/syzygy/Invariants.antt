use Rattle.syzygies.specs.Terms.{terms_of}
use Rattle.syzygies.proofs.PartialSums.{IsPartialSum}
use Rattle.syzygies.proofs.collected.syzygy.Given as goal

abbrev pub invariant-loop-i : goal.invariant-loop-i
invariant-loop-i g l = IsPartialSum l.alpha l.beta l.gamma l.i (terms_of l.terms.items)
