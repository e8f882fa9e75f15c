use Rattle.log_checker.specs.Accepted.{IsAccepted}
use Rattle.log_checker.specs.Claims.{claim_of}
use Rattle.log_checker.proofs.SectionFacts.{found_fault, found_right, section_uses}
use Rattle.log_checker.proofs.section.check_section.Goals as goal

pub returns-in-Some-2-clause-refused : goal.returns-in-Some-2-clause-refused
returns-in-Some-2-clause-refused g c =
    found_fault c.sums.ensures.uses c.args.s.now c.in-Some.end c.in_ok-sum.sum.tracked c.items-uses.result.now
    c.in_ok-kind.field-0 c.in-Some.is c.items-uses.ensures c.in_ok-sum.ensures.sum c.in_ok-sum.ensures.within
    c.in_ok-kind.ensures c.in-Some-2.kind c.in-Some-2.is

pub returns-clause-accepted : goal.returns-clause-accepted
returns-clause-accepted g c =
    found_right c.sums.ensures.uses c.args.s.now c.in-Some.end c.in_ok-sum.sum.tracked c.items-uses.result.now
    c.in_ok-kind.field-0 c.in-Some.is c.items-uses.ensures c.in_ok-sum.ensures.sum c.in_ok-sum.ensures.within
    c.in_ok-kind.ensures c.in-None.is

pub returns-clause-value : goal.returns-clause-value
returns-clause-value g c =
    let accepted : IsAccepted g.row.D (claim_of {d = g.row.D} c.args.s.now) =
    found_right c.sums.ensures.uses c.args.s.now c.in-Some.end c.in_ok-sum.sum.tracked c.items-uses.result.now
    c.in_ok-kind.field-0 c.in-Some.is c.items-uses.ensures c.in_ok-sum.ensures.sum c.in_ok-sum.ensures.within
    c.in_ok-kind.ensures c.in-None.is in
    c.sections.ensures.value g.row.D (claim_of {d = g.row.D} c.args.s.now) c.args.s.now.start.formed.rank
    (section_uses c.args.s.now) accepted
