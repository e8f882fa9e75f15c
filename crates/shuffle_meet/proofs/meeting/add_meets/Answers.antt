use Rattle.std.proofs.Common.{ℕ, ◌∙◌, List, flat_map, sym}
use Rattle.std.proofs.lemmas.List.Folds.{flat_map-map}
use Rattle.coordinate_model.specs.Starts.{Product}
use Rattle.bracket_terms.specs.declared.extensor.Extensor.{Extensor}
use Rattle.bracket_poly.specs.Kept.{TrackedOf}
use Rattle.bracket_poly.specs.Values.{entry_of}
use Rattle.bracket_poly.proofs.Additions.{handed_on}
use Rattle.shuffle_meet.specs.Seen.{seen}
use Rattle.shuffle_meet.specs.Objects.{meets_with}
use Rattle.shuffle_meet.proofs.Added.{with_error}
use Rattle.shuffle_meet.proofs.SeenLaws.{Entries}
use Rattle.shuffle_meet.proofs.JoinSteps.{adds_same}
use Rattle.shuffle_meet.proofs.Items.{next_item, stop_item, all_items}
use Rattle.shuffle_meet.proofs.meeting.add_meets.Goals as goal

pub returns-in_err-add_meet-clause-added : goal.returns-in_err-add_meet-clause-added
returns-in_err-add_meet-clause-added g c =
    let d : ℕ = g.row.D in
    let xs : Entries d = c.args.rights.now in
    let f : Extensor × TrackedOf d → List Product = λ right. meets_with d (entry_of c.args.left.now) (entry_of right) in
    with_error (seen c.args.starts.now.polys.entries) (seen c.add_meet.new.starts.polys.entries) _ c.from_residual.result
    c.in_err-add_meet.field-0.0 (handed_on c.from_residual.result c.in_err-add_meet.field-0.0 c.from_residual.ensures.1)
    (adds_same _ _ (flat_map f xs) _ _ (sym (flat_map-map (meets_with d (entry_of c.args.left.now)) entry_of xs))
    (stop_item f xs _ _ (seen c.add_meet.new.starts.polys.entries) _ c.loop-right.right-index c.right-item.result
    c.in_err-add_meet.field-0.0 c.loop-right-test.true c.right-item.is c.loop-right.invariant.added
    c.in_err-add_meet.ensures.added))

pub loop-right-preserved : goal.loop-right-preserved
loop-right-preserved g c =
    let d : ℕ = g.row.D in
    let xs : Entries d = c.args.rights.now in
    let f : Extensor × TrackedOf d → List Product = λ right. meets_with d (entry_of c.args.left.now) (entry_of right) in
    record {
      step = c.add_meet.ensures.step ∙ c.loop-right.invariant.step;
      added =
          next_item f xs _ _ _ c.loop-right.right-index c.right-item.result _ c.loop-right-test.true c.right-item.is
          c.loop-right.invariant.added c.in_ok-add_meet.ensures.added;
    }

pub returns-clause-added : goal.returns-clause-added
returns-clause-added g c =
    let d : ℕ = g.row.D in
    let xs : Entries d = c.args.rights.now in
    let f : Extensor × TrackedOf d → List Product = λ right. meets_with d (entry_of c.args.left.now) (entry_of right) in
    adds_same _ _ (flat_map f xs) _ _ (sym (flat_map-map (meets_with d (entry_of c.args.left.now)) entry_of xs))
    (all_items f xs _ _ c.loop-right.right-index tt c.loop-right-test.false c.loop-right.invariant.added)
