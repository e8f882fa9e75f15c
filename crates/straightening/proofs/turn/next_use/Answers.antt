use Rattle.std.proofs.Common.{◌<◌, Option, List, length, option_map, refl, sym, subst}
use Rattle.bracket_poly.specs.Arena.{key_of}
use Rattle.bracket_terms.specs.LogUses.{use_of}
use Rattle.bracket_terms.specs.declared.log_use.LogUse.{LogUse}
use Rattle.coordinate_model.specs.BracketPolynomial.{BracketPolynomial}
use Rattle.coordinate_model.specs.Key.{Key}
use Rattle.straightening.specs.Queues.{Covers}
use Rattle.straightening.specs.Turns.{FindsAt}
use Rattle.straightening.proofs.CoverLaws.{covers_out}
use Rattle.straightening.proofs.NextUses.{turn_here, turn_none, last_met, shorter_without}
use Rattle.straightening.proofs.turn.next_use.Goals as goal

pub returns-in-Some-2-clause-next : goal.returns-in-Some-2-clause-next
returns-in-Some-2-clause-next g c =
    let f : BracketPolynomial = c.args.poly.now.tracked.sum in
    let key : Key = key_of c.in-Some.key.0 c.in-Some.key.1.now in
    let found =
    subst (λ (o : Option (LogUse g.row.D)). FindsAt f c.loop-key.queue c.found_at.new.queue key (option_map use_of o))
    c.in-Some-2.is c.in_ok-log_use.ensures in
    sym (turn_here g.row.D c.args.poly.now.tracked c.loop-key.queue c.args.poly.now.formed c.loop-key.invariant key
    (use_of c.in-Some-2.log_use) c.in-Some.ensures.queued c.in-Some.ensures.last found.0)

pub returns-in-Some-2-clause-covers : goal.returns-in-Some-2-clause-covers
returns-in-Some-2-clause-covers g c =
    let f : BracketPolynomial = c.args.poly.now.tracked.sum in
    let key : Key = key_of c.in-Some.key.0 c.in-Some.key.1.now in
    let found =
    subst (λ (o : Option (LogUse g.row.D)). FindsAt f c.loop-key.queue c.found_at.new.queue key (option_map use_of o))
    c.in-Some-2.is c.in_ok-log_use.ensures in
    subst (λ (ks : List Key). Covers g.row.D ks f) (sym found.1) c.loop-key.invariant

pub loop-key-smaller : goal.loop-key-smaller
loop-key-smaller g c =
    let f : BracketPolynomial = c.args.poly.now.tracked.sum in
    let queue : List Key = c.loop-key.queue in
    let key : Key = key_of c.in-Some.key.0 c.in-Some.key.1.now in
    let found =
    subst (λ (o : Option (LogUse g.row.D)). FindsAt f queue c.found_at.new.queue key (option_map use_of o))
    c.in_default-2.is c.in_ok-log_use.ensures in
    subst (λ (ks : List Key). length ks < length queue) (sym found.1)
    (shorter_without queue key (last_met queue key c.in-Some.ensures.last))

pub loop-key-preserved : goal.loop-key-preserved
loop-key-preserved g c =
    let f : BracketPolynomial = c.args.poly.now.tracked.sum in
    let key : Key = key_of c.in-Some.key.0 c.in-Some.key.1.now in
    let found =
    subst (λ (o : Option (LogUse g.row.D)). FindsAt f c.loop-key.queue c.found_at.new.queue key (option_map use_of o))
    c.in_default-2.is c.in_ok-log_use.ensures in
    subst (λ (ks : List Key). Covers g.row.D ks f) (sym found.1)
    (covers_out g.row.D c.loop-key.queue f key found.0 c.loop-key.invariant)

pub returns-clause-next : goal.returns-clause-next
returns-clause-next g c =
    sym (turn_none g.row.D c.args.poly.now.tracked c.loop-key.queue c.args.poly.now.formed c.loop-key.invariant
    (c.in_default.ensures.none.0 refl))
