use Rattle.step_types.proofs.GoodLaws.{either, not_both, first, is_fault}
use Rattle.step_types.proofs.laws.one_result.Goals as goal

pub returns-clause-either : goal.returns-clause-either
returns-clause-either c = either

pub returns-clause-not_both : goal.returns-clause-not_both
returns-clause-not_both c = not_both

pub returns-clause-first : goal.returns-clause-first
returns-clause-first c = λ account fault. (first account fault, is_fault account fault)
