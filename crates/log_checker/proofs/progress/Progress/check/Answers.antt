use Rattle.std.proofs.Common.{◌∙◌, ◌++◌, ◌∷◌, [], ap}
use Rattle.coordinate_model.proofs.Hom.{map-append}
use Rattle.bracket_poly.specs.Values.{value_of}
use Rattle.bracket_poly.specs.declared.section.ObjectLog.{ObjectLog}
use Rattle.bracket_poly.specs.declared.value.Value.{Value}
use Rattle.conic_points.specs.Points.{values_of}
use Rattle.log_checker.specs.Seen.{IsCheckable, Place, place_of}
use Rattle.std.specs.List.{AllByRecursion}
use Rattle.log_checker.proofs.Places.{next_goes, next_refused, next_room, next_small, no_point, of_object}
use Rattle.log_checker.proofs.Places.{small_behind_point}
use Rattle.log_checker.proofs.progress.Progress.check.Goals as goal

pub returns-in_ok-push-in-Free-clause-small : goal.returns-in_ok-push-in-Free-clause-small
returns-in_ok-push-in-Free-clause-small g c =
    let old = c.args.self.now.values.items in
    let v : Value g.row.D = c.in_ok-value-in-Free.value in
    small_behind_point (values_of old) (values_of c.push.new.self.items) c.in-Free.point
    (ap (λ vs. values_of vs) c.in_ok-push-in-Free.ensures.items
    ∙ map-append (λ (x : Value g.row.D). value_of x.entries) old (v ∷ [])
    ∙ ap (λ x. values_of old ++ x ∷ []) c.in_ok-value-in-Free.ensures.value)
    c.requires.ready.small

pub returns-in_default : goal.returns-in_default
returns-in_default g c =
    let old : Place = place_of c.args.self.now in
    let new : Place = place_of c.check_next.new.self in
    let o : ObjectLog g.row.D = c.index-objects-self.result in
    let none = no_point c.args.instr c.in_default.not-Free in
    let below = c.requires.there none in
    let checkable : AllByRecursion IsCheckable o.sections =
    of_object old c.args.instr c.args.step c.args.objects.now o none below c.index-objects-self.is
    (λ x. AllByRecursion IsCheckable x.sections) c.requires.checkable in
    record {
      goes_on =
          next_goes old c.args.instr c.args.step c.args.objects.now o none below c.index-objects-self.is new
          c.check_next.result c.check_next.ensures.accepted c.check_next.ensures.values c.check_next.ensures.objects
          c.check_next.ensures.sections;
      small =
          next_small old c.args.instr c.args.step c.args.objects.now o none below c.index-objects-self.is new
          c.check_next.result checkable c.requires.ready.small c.check_next.ensures.values;
      steps = c.check_next.ensures.steps;
      room =
          next_room old c.args.instr c.args.step c.args.objects.now o none below c.index-objects-self.is new
          c.check_next.result c.requires.room c.check_next.ensures.objects c.check_next.ensures.sections;
      refused =
          next_refused old c.args.instr c.args.step c.args.objects.now o none below c.index-objects-self.is new
          c.check_next.result c.check_next.ensures.refused;
    }
