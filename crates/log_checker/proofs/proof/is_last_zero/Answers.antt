use Rattle.log_checker.proofs.LastEnds.{end_zero}
use Rattle.log_checker.proofs.proof.is_last_zero.Goals as goal

pub returns-in-Some-end : goal.returns-in-Some-end
returns-in-Some-end g c = λ front last ends.
    end_zero c.args.objects.now front last ends c.in-Some.object.now c.in-Some.ensures.value c.items.result.now
    c.items.ensures c.in-Some-first.section.now c.in-Some-first.ensures.value c.in-Some-end.end c.len.result
    c.in-Some-end.is c.len.ensures
