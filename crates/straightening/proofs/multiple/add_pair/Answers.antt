use Rattle.std.proofs.Common.{ℤ, [], ◌∷◌, refl, sym, subst, ◌∙◌}
use Rattle.bracket_poly.specs.Tracked.{Tracked}
use Rattle.bracket_terms.specs.LogUses.{use_of}
use Rattle.coordinate_model.specs.Key.{Key}
use Rattle.syzygies.specs.Additions.{addition}
use Rattle.syzygies.specs.Terms.{term_of}
use Rattle.syzygies.proofs.AddLemmas.{same_answer, nonzero_addition}
use Rattle.straightening.specs.Queues.{Covers, TakesIn}
use Rattle.straightening.proofs.CoverLaws.{covers_new, covers_same}
use Rattle.straightening.proofs.multiple.add_pair.Goals as goal

pub returns-then-not-fresh-clause-adds : goal.returns-then-not-fresh-clause-adds
returns-then-not-fresh-clause-adds g c = same_answer c.in_ok-view.ensures.adds

pub returns-then-not-fresh-clause-covers : goal.returns-then-not-fresh-clause-covers
returns-then-not-fresh-clause-covers g c =
    let term : Key × ℤ = addition (use_of c.args.log_use.now) (term_of c.args.pair.now) in
    subst (λ (p : Tracked). Covers g.row.D c.args.queue.now p.sum) (sym c.in_ok-view.ensures.adds.all)
    (covers_same g.row.D c.args.queue.now c.args.poly.now.tracked term.0 term.1
    (nonzero_addition c.args.log_use.now c.args.pair.now) c.requires.covers
    (sym c.in_ok-view.ensures.fresh ∙ c.if-not-fresh.true))

pub returns-in_default-clause-adds : goal.returns-in_default-clause-adds
returns-in_default-clause-adds g c =
    let term : Key × ℤ = addition (use_of c.args.log_use.now) (term_of c.args.pair.now) in
    record {
      answer = tt;
      all = tt;
      refused = λ n. absurd (n refl);
      front = (term ∷ [], [], refl, c.in_ok-view.ensures.adds.all);
    }

pub returns-clause-adds : goal.returns-clause-adds
returns-clause-adds g c = same_answer c.in_ok-view.ensures.adds

pub returns-clause-covers : goal.returns-clause-covers
returns-clause-covers g c =
    let term : Key × ℤ = addition (use_of c.args.log_use.now) (term_of c.args.pair.now) in
    subst (λ (p : Tracked). Covers g.row.D c.take_in.new.queue p.sum) (sym c.in_ok-view.ensures.adds.all)
    (covers_new g.row.D c.args.queue.now c.take_in.new.queue c.args.poly.now.tracked term.0 term.1
    (nonzero_addition c.args.log_use.now c.args.pair.now) c.requires.covers
    (subst (λ (k : Key). TakesIn g.row.D c.args.queue.now c.take_in.new.queue k) c.in_ok-view.ensures.placed
    c.in-Ok.ensures))
