use Rattle.log_checker.proofs.SectionFacts.{section_not_both, one_section_fault, section_either, accepted_keeps_value}
use Rattle.log_checker.proofs.laws.sections.Goals as goal

pub returns-clause-not_both : goal.returns-clause-not_both
returns-clause-not_both c = section_not_both

pub returns-clause-one_fault : goal.returns-clause-one_fault
returns-clause-one_fault c = one_section_fault

pub returns-clause-either : goal.returns-clause-either
returns-clause-either c = section_either

pub returns-clause-value : goal.returns-clause-value
returns-clause-value c =
    accepted_keeps_value c.polynomials.ensures.ring c.values.ensures.sum c.syzygies.ensures.multiples
