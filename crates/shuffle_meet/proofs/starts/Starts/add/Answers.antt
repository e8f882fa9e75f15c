use Rattle.std.proofs.Common.{◌≡◌, ℕ, [], ◌∷◌, ◌∙◌, refl, sym, ap, subst}
use Rattle.coordinate_model.specs.Starts.{Product}
use Rattle.bracket_poly.specs.Values.{extensor_size}
use Rattle.bracket_poly.specs.Kept.{TrackedOf}
use Rattle.bracket_poly.proofs.Additions.{handed_on}
use Rattle.bracket_terms.specs.Joins.{points_of}
use Rattle.shuffle_meet.specs.Seen.{seen, AreOfStep}
use Rattle.shuffle_meet.proofs.SeenLaws.{Entries, HaveSize, sizes_remove}
use Rattle.shuffle_meet.proofs.Added.{adds_sum, sum_at, taken_out, new_sum, passed_sign, with_error, sizes_after}
use Rattle.shuffle_meet.proofs.starts.Starts.add.Goals as goal
use Rattle.shuffle_meet.proofs.starts.Starts.add.Goals.{in-Some, in-None}

-- entries of the same step
of_entries : (d step : ℕ) (old new : Entries d) → AreOfStep d step old → HaveSize (extensor_size d step) new
    → AreOfStep d step new
of_entries d step old new h sizes = record { rank = h.rank; within = h.within; sizes = sizes }

pub invariant_of-self : goal.invariant_of-self
invariant_of-self g c =
    let d : ℕ = g.row.D in
    let step : ℕ = c.args.self.now.step in
    record {
      of_step =
          of_entries d step c.args.self.now.polys.entries c.remove.new.self.entries c.args.self.now.of_step
          (subst (HaveSize (extensor_size d step)) (sym c.remove.ensures.entries)
          (sizes_remove (extensor_size d step) c.args.extensor c.requires.size c.args.self.now.polys.entries
          c.args.self.now.of_step.sizes));
    }

pub returns-in_err-mul_add-clause-added : goal.returns-in_err-mul_add-clause-added
returns-in_err-mul_add-clause-added g c =
    let n : ℕ = extensor_size g.row.D c.args.self.now.step in
    let es : Entries g.row.D = c.args.self.now.polys.entries in
    let first : c.match-remove.sum.tracked ≡ sum_at (points_of c.args.extensor) (seen es) =
    elim c.match-remove.branch [
      | in-Some w ↦
          taken_out n c.args.extensor c.requires.size es c.args.self.now.of_step.sizes c.remove.result w.in-Some.sum
          c.match-remove.sum c.remove.ensures.value w.in-Some.is w.sum-is
      | in-None w ↦
          new_sum n c.args.extensor c.requires.size es c.args.self.now.of_step.sizes c.remove.result c.match-remove.sum
          c.remove.ensures.value w.in-None.is (ap (λ (v : TrackedOf g.row.D). v.tracked) w.sum-is ∙ w.new-sum.ensures)
    ] in
    let p : Product = record {
      extensor = points_of c.args.extensor;
      left = c.args.left.now.tracked.sum;
      right = c.args.right.now.tracked.sum;
      row = c.args.row;
      sign = c.args.sign;
    } in
    with_error (seen es) (seen c.remove.new.self.entries) (p ∷ []) c.from_residual.result c.in_err-mul_add.field-0.0
    (handed_on c.from_residual.result c.in_err-mul_add.field-0.0 c.from_residual.ensures.1)
    (adds_sum n c.args.extensor c.requires.size es c.args.self.now.of_step.sizes p c.match-remove.sum c.mul_add.new.self
    c.remove.new.self.entries c.remove.new.self.entries _ refl first
    (passed_sign p.left p.right p.row c.args.sign c.ranges.sign _ _ _ c.in_err-mul_add.ensures) c.remove.ensures.entries
    tt)

pub invariant_of-self-2 : goal.invariant_of-self-2
invariant_of-self-2 g c =
    let d : ℕ = g.row.D in
    let step : ℕ = c.args.self.now.step in
    let n : ℕ = extensor_size d step in
    let left : HaveSize n c.remove.new.self.entries =
    subst (HaveSize n) (sym c.remove.ensures.entries)
    (sizes_remove n c.args.extensor c.requires.size c.args.self.now.polys.entries c.args.self.now.of_step.sizes) in
    record {
      of_step =
          of_entries d step c.args.self.now.polys.entries c.insert.new.self.entries c.args.self.now.of_step
          (sizes_after n c.args.extensor c.remove.new.self.entries c.insert.new.self.entries c.mul_add.new.self c.insert.result
          c.requires.size left c.insert.ensures.entries c.insert.ensures.err);
    }

pub returns-clause-added : goal.returns-clause-added
returns-clause-added g c =
    let n : ℕ = extensor_size g.row.D c.args.self.now.step in
    let es : Entries g.row.D = c.args.self.now.polys.entries in
    let first : c.match-remove.sum.tracked ≡ sum_at (points_of c.args.extensor) (seen es) =
    elim c.match-remove.branch [
      | in-Some w ↦
          taken_out n c.args.extensor c.requires.size es c.args.self.now.of_step.sizes c.remove.result w.in-Some.sum
          c.match-remove.sum c.remove.ensures.value w.in-Some.is w.sum-is
      | in-None w ↦
          new_sum n c.args.extensor c.requires.size es c.args.self.now.of_step.sizes c.remove.result c.match-remove.sum
          c.remove.ensures.value w.in-None.is (ap (λ (v : TrackedOf g.row.D). v.tracked) w.sum-is ∙ w.new-sum.ensures)
    ] in
    let p : Product = record {
      extensor = points_of c.args.extensor;
      left = c.args.left.now.tracked.sum;
      right = c.args.right.now.tracked.sum;
      row = c.args.row;
      sign = c.args.sign;
    } in
    adds_sum n c.args.extensor c.requires.size es c.args.self.now.of_step.sizes p c.match-remove.sum c.mul_add.new.self
    c.remove.new.self.entries c.insert.new.self.entries _ refl first
    (passed_sign p.left p.right p.row c.args.sign c.ranges.sign _ _ _ c.in_ok-mul_add.ensures) c.remove.ensures.entries
    c.in_ok-insert.ensures.entries
