use Rattle.std.proofs.Common.{List, [], ◌∙◌, subst, refl, arith}
use Rattle.step_types.specs.declared.measure.Measure.{Measure}
use Rattle.cayley_terms.specs.Meaning.{Variables}
use Rattle.cayley_terms.specs.Instrs.{instr_figure, instr_measure}
use Rattle.cayley_terms.specs.Programs.{IsInner, IsLast}
use Rattle.cayley_terms.proofs.Places.{made-take, made-at, inner_at, last_at, steps_agree}
use Rattle.cayley_terms.proofs.laws.programs.Goals as goal

pub returns-clause-inner : goal.returns-clause-inner
returns-clause-inner c =
    λ p n i less at.
    subst (λ (ms : List Measure). IsInner p.rank ms i) (made-take (instr_measure p.rank) p.instrs n (omega arith))
    (inner_at p.rank [] p.instrs n i p.formed.each less at)

pub returns-clause-last : goal.returns-clause-last
returns-clause-last c =
    λ p n i same at.
    subst (λ (ms : List Measure). IsLast p.rank ms i) (made-take (instr_measure p.rank) p.instrs n (omega arith))
    (last_at p.rank [] p.instrs n i p.formed.each same at)

pub returns-clause-measures : goal.returns-clause-measures
returns-clause-measures c = λ p n i at. made-at (instr_measure p.rank) p.instrs n i at

pub returns-clause-objects : goal.returns-clause-objects
returns-clause-objects c = λ p n i at. made-at (instr_figure Variables p.rank) p.instrs n i at

pub returns-clause-steps : goal.returns-clause-steps
returns-clause-steps c = λ p. p.formed.stepped ∙ steps_agree Variables p.rank [] [] p.instrs refl
