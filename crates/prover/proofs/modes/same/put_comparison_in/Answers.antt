use Rattle.std.proofs.Common.{Ok, Err, sym, subst}
use Rattle.coordinate_model.specs.Sequences.{IsRank}
use Rattle.construction_reader.specs.Seen.{account}
use Rattle.prover.specs.declared.ends.End.{End}
use Rattle.prover.specs.Ends.{IsEnd, EndsWith}
use Rattle.prover.proofs.Comparisons.{first_failed, second_failed, second_stopped, both_ended}
use Rattle.prover.proofs.Outcomes.{without_value}
use Rattle.prover.proofs.RunLines.{stopped_at}
use Rattle.prover.proofs.modes.same.put_comparison_in.Goals as goal

pub returns-in_err-first_end : goal.returns-in_err-first_end
returns-in_err-first_end g c =
    first_failed c.args.options (account c.args.first.now) (account c.args.second.now) _ _ _ _ c.from_residual.result _
    c.from_residual.ensures.1 (without_value _ _ _ _ (Err _) _ c.in_err-first_end.ensures.written)

pub returns-in_err-second_end : goal.returns-in_err-second_end
returns-in_err-second_end g c =
    let d = account c.args.first.now in
    let ended : EndsWith c.args.options d c.in-Normal.polynomial.tracked.sum =
    subst (λ (end : End g.row.D). IsEnd c.args.options d end) c.in-Normal.is c.in_ok-first_end.ensures.end in
    second_failed c.args.options d (account c.args.second.now) c.in-Normal.polynomial.tracked.sum ended _ _ _ _ _ _
    c.from_residual-in_err-second_end.result _ c.from_residual-in_err-second_end.ensures.1
    (without_value _ _ _ _ (Ok c.in_ok-first_end.first_end) _ c.in_ok-first_end.ensures.written)
    (without_value _ _ _ _ (Err _) _ c.in_err-second_end.ensures.written)

pub returns-in_default-second_end : goal.returns-in_default-second_end
returns-in_default-second_end g c =
    let d = account c.args.first.now in
    let e = account c.args.second.now in
    let ended : EndsWith c.args.options d c.in-Normal.polynomial.tracked.sum =
    subst (λ (end : End g.row.D). IsEnd c.args.options d end) c.in-Normal.is c.in_ok-first_end.ensures.end in
    let stopped = stopped_at c.args.options e c.in_ok-second_end.second_end c.in_default-second_end.not-Normal
    c.in_ok-second_end.ensures.end in
    second_stopped c.args.options d e c.in-Normal.polynomial.tracked.sum ended _ _ _ _ _ _ stopped.0 stopped.1
    (without_value _ _ _ _ (Ok c.in_ok-first_end.first_end) _ c.in_ok-first_end.ensures.written)
    (without_value _ _ _ _ (Ok c.in_ok-second_end.second_end) _ c.in_ok-second_end.ensures.written)

pub returns : goal.returns
returns g c =
    let d = account c.args.first.now in
    let e = account c.args.second.now in
    let ended : EndsWith c.args.options d c.in-Normal.polynomial.tracked.sum =
    subst (λ (end : End g.row.D). IsEnd c.args.options d end) c.in-Normal.is c.in_ok-first_end.ensures.end in
    let also : EndsWith c.args.options e c.in-Normal-second_end.other.tracked.sum =
    subst (λ (end : End g.row.D). IsEnd c.args.options e end) c.in-Normal-second_end.is c.in_ok-second_end.ensures.end in
    let rank : IsRank d.rank = subst IsRank (sym c.requires.rank) c.in-Normal.polynomial.formed.rank in
    both_ended c.args.options d e c.in-Normal.polynomial.tracked.sum ended c.in-Normal-second_end.other.tracked.sum also
    rank c.requires.alike _ _ _ _ _ _ _ _ c.put_verdict.result c.same_terms.result c.same_terms.ensures
    (without_value _ _ _ _ (Ok c.in_ok-first_end.first_end) _ c.in_ok-first_end.ensures.written)
    (without_value _ _ _ _ (Ok c.in_ok-second_end.second_end) _ c.in_ok-second_end.ensures.written)
    c.put_verdict.ensures.written c.put_verdict.ensures.status
