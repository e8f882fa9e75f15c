use Rattle.std.proofs.Common.{◌∙◌}
use Rattle.coordinate_model.specs.BracketPolynomial.{BracketPolynomial}
use Rattle.bracket_poly.proofs.Additions.{handed_on}
use Rattle.shuffle_meet.specs.Seen.{seen}
use Rattle.shuffle_meet.proofs.Added.{with_error}
use Rattle.shuffle_meet.proofs.SeenLaws.{Entries}
use Rattle.shuffle_meet.proofs.JoinSteps.{adds_same}
use Rattle.shuffle_meet.proofs.Items.{next_item, stop_item, all_items}
use Rattle.shuffle_meet.proofs.MixSteps.{scaled, all_scaled}
use Rattle.shuffle_meet.proofs.mixing.add_scaled.Goals as goal

pub returns-in_err-add-clause-added : goal.returns-in_err-add-clause-added
returns-in_err-add-clause-added g c =
    let xs : Entries g.row.D = c.args.entries.now in
    let factor : BracketPolynomial = c.args.factor.now.tracked.sum in
    with_error (seen c.args.starts.now.polys.entries) (seen c.add.new.self.polys.entries) _ c.from_residual.result
    c.in_err-add.field-0.0 (handed_on c.from_residual.result c.in_err-add.field-0.0 c.from_residual.ensures.1)
    (adds_same _ _ _ _ _ (all_scaled factor xs)
    (stop_item (scaled factor) xs _ _ (seen c.add.new.self.polys.entries) _ c.loop-entry.entry-index c.entry-item.result
    c.in_err-add.field-0.0 c.loop-entry-test.true c.entry-item.is c.loop-entry.invariant.added c.in_err-add.ensures.added))

pub loop-entry-preserved : goal.loop-entry-preserved
loop-entry-preserved g c =
    let xs : Entries g.row.D = c.args.entries.now in
    let factor : BracketPolynomial = c.args.factor.now.tracked.sum in
    record {
      step = c.add.ensures.step ∙ c.loop-entry.invariant.step;
      added =
          next_item (scaled factor) xs _ _ _ c.loop-entry.entry-index c.entry-item.result _ c.loop-entry-test.true
          c.entry-item.is c.loop-entry.invariant.added c.in_ok-add.ensures.added;
    }

pub returns-clause-added : goal.returns-clause-added
returns-clause-added g c =
    let xs : Entries g.row.D = c.args.entries.now in
    let factor : BracketPolynomial = c.args.factor.now.tracked.sum in
    adds_same _ _ _ _ _ (all_scaled factor xs)
    (all_items (scaled factor) xs _ _ c.loop-entry.entry-index tt c.loop-entry-test.false c.loop-entry.invariant.added)
