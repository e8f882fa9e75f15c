use Rattle.cayley_terms.proofs.StepLists.{IsSoFar}
use Rattle.cayley_terms.proofs.steps.steps.Given as goal

abbrev pub invariant-loop-instr : goal.invariant-loop-instr
invariant-loop-instr l = IsSoFar l.rank l.instrs l.instr-index l.steps.items
