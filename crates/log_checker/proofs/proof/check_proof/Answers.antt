use Rattle.std.proofs.Common.{◌≡◌, ◌<◌, ◌≤◌, ◌^◌, ◌∙◌, ℕ, List, length, rules, ap, subst, sym}
use Rattle.std.specs.List.{AllByRecursion}
use Rattle.std.specs.Prelude.{IsTrue}
use Rattle.coordinate_model.specs.Sequences.{IsRank}
use Rattle.bracket_poly.specs.declared.section.ObjectLog.{ObjectLog}
use Rattle.cayley_terms.specs.declared.instr.Instr.{Instr}
use Rattle.cayley_terms.specs.declared.program.Program.{Program}
use Rattle.conic_points.specs.Points.{values_of}
use Rattle.log_checker.specs.declared.refusal.ProofRefusal.{ProofRefusal}
use Rattle.log_checker.specs.Accepted.{IsProofAccepted}
use Rattle.log_checker.specs.Bounds.{IsRefusalWithin}
use Rattle.log_checker.specs.Checked.{AreObjectsOf, UnlessMemory}
use Rattle.log_checker.specs.Claims.{object_claims}
use Rattle.log_checker.specs.ProofLaws.{Concludes}
use Rattle.log_checker.specs.ProofRefused.{IsProofRefused}
use Rattle.log_checker.specs.Seen.{IsCheckable, Place, place_of, steps_in}
use Rattle.log_checker.proofs.Courses.{accepted_there, all_checkable, cause_within, concludes_so, few_objects}
use Rattle.log_checker.proofs.Courses.{going_begins, going_on, next_ready, next_there, passed_on, refused_there}
use Rattle.log_checker.proofs.Courses.{step_below, zero_exact}
use Rattle.log_checker.proofs.Places.{sections_in}
use Rattle.log_checker.proofs.proof.check_proof.Goals as goal

pub loop-number-init : goal.loop-number-init
loop-number-init g c =
    let e : c.items-objects.result.now ≡ c.args.proof.now.objects = c.items-objects.ensures in
    going_begins c.args.program.now c.items-objects.result.now (place_of c.new-progress.result)
    (steps_in c.new-progress.result.values.items) c.requires.rank
    (subst (λ os. AreObjectsOf c.args.program.now os) (sym e) c.requires.objects)
    (subst (λ os. sections_in os < 2 ^ 32) (sym e) c.requires.countable.sections)
    (λ j. record {
      values = values_of (c.new-progress.ensures.values j);
      objects = c.new-progress.ensures.objects j;
      sections = c.new-progress.ensures.sections j;
    })
    (ap (λ vs. steps_in vs) c.new-progress.ensures.values)

pub bounds-steps-number : goal.bounds-steps-number
bounds-steps-number g c =
    step_below c.args.program.now c.items-objects.result.now c.requires.rank (place_of c.loop-number.progress)
    (steps_in c.loop-number.progress.values.items) c.loop-number.number c.items-instr-items.result.now
    c.items-steps.result.now c.items-instr-items.ensures c.items-steps.ensures c.loop-number-test.true
    c.loop-number.invariant

pub check-requires : goal.check-requires
check-requires g c =
    let p : Program = c.args.program.now in
    let objects : List (ObjectLog g.row.D) = c.items-objects.result.now in
    let e : objects ≡ c.args.proof.now.objects = c.items-objects.ensures in
    let place : Place = place_of c.loop-number.progress in
    let steps : List ℕ = steps_in c.loop-number.progress.values.items in (
      search rules,
      (
        search rules,
        (
          search rules,
          (
            subst IsRank c.requires.rank p.formed.rank,
            (
              next_ready p objects c.requires.rank place steps c.loop-number.number c.items-instr-items.result.now
                  c.items-steps.result.now c.items-instr-items.ensures c.items-steps.ensures c.loop-number-test.true
                  c.loop-number.invariant,
              (
                next_there p objects c.requires.rank place steps c.loop-number.number c.items-instr-items.result.now
                    c.items-steps.result.now c.items-instr-items.ensures c.items-steps.ensures c.loop-number-test.true
                    c.loop-number.invariant,
                (
                  few_objects p objects (subst (λ os. AreObjectsOf p os) (sym e) c.requires.objects),
                  (
                    c.loop-number.invariant.room,
                    subst (λ os. AllByRecursion (λ o. AllByRecursion IsCheckable o.sections) os) (sym e)
                        (all_checkable c.args.proof.now.objects c.requires.objects.ends c.requires.countable.uses),
                  ),
                ),
              ),
            ),
          ),
        ),
      ),
    )

pub loop-number-preserved : goal.loop-number-preserved
loop-number-preserved g c =
    going_on c.args.program.now c.items-objects.result.now c.requires.rank (place_of c.loop-number.progress)
    (steps_in c.loop-number.progress.values.items) c.loop-number.number c.items-instr-items.result.now
    c.items-steps.result.now c.items-instr-items.ensures c.items-steps.ensures c.loop-number-test.true
    c.loop-number.invariant (place_of c.check.new.self) (steps_in c.check.new.self.values.items)
    c.in_ok-check.ensures.goes_on c.in_ok-check.ensures.small c.in_ok-check.ensures.steps c.in_ok-check.ensures.room

pub returns-in_err-check-clause-refused : goal.returns-in_err-check-clause-refused
returns-in_err-check-clause-refused g c =
    let p : Program = c.args.program.now in
    let e : c.items-objects.result.now ≡ c.args.proof.now.objects = c.items-objects.ensures in
    let error : ProofRefusal g.row.D = c.in_err-check.field-0.0 in
    passed_on (UnlessMemory (IsProofRefused p (object_claims c.args.proof.now.objects))) c.from_residual.result error
    c.from_residual.ensures.1
    (subst (λ os. UnlessMemory (IsProofRefused p (object_claims os)) error) e
    (refused_there p c.items-objects.result.now c.requires.rank (place_of c.loop-number.progress)
    (steps_in c.loop-number.progress.values.items) c.loop-number.number c.items-instr-items.result.now
    c.items-steps.result.now c.items-instr-items.ensures c.items-steps.ensures c.loop-number-test.true
    c.loop-number.invariant error c.in_err-check.ensures.refused))

pub returns-in_err-check-clause-within : goal.returns-in_err-check-clause-within
returns-in_err-check-clause-within g c = λ n m h k.
    let p : Program = c.args.program.now in
    let e : c.items-objects.result.now ≡ c.args.proof.now.objects = c.items-objects.ensures in
    let error : ProofRefusal g.row.D = c.in_err-check.field-0.0 in
    passed_on (IsRefusalWithin n m) c.from_residual.result error c.from_residual.ensures.1
    (cause_within c.proofs.ensures.within n m p (object_claims c.args.proof.now.objects) h k error
    (subst (λ os. UnlessMemory (IsProofRefused p (object_claims os)) error) e
    (refused_there p c.items-objects.result.now c.requires.rank (place_of c.loop-number.progress)
    (steps_in c.loop-number.progress.values.items) c.loop-number.number c.items-instr-items.result.now
    c.items-steps.result.now c.items-instr-items.ensures c.items-steps.ensures c.loop-number-test.true
    c.loop-number.invariant error c.in_err-check.ensures.refused)))

pub returns-clause-accepted : goal.returns-clause-accepted
returns-clause-accepted g c =
    subst (λ os. IsProofAccepted c.args.program.now (object_claims os)) c.items-objects.ensures
    (accepted_there c.args.program.now c.items-objects.result.now c.requires.rank (place_of c.loop-number.progress)
    (steps_in c.loop-number.progress.values.items) c.loop-number.number
    (subst (λ (is : List Instr). length is ≤ c.loop-number.number) c.items-instr-items.ensures c.loop-number-test.false)
    c.loop-number.invariant)

pub returns-clause-concludes : goal.returns-clause-concludes
returns-clause-concludes g c =
    concludes_so c.proofs.ensures.concludes c.args.program.now c.args.proof.now.objects c.requires.rank
    (returns-clause-accepted g c)

pub returns-clause-zero : goal.returns-clause-zero
returns-clause-zero g c =
    let p : Program = c.args.program.now in
    let ends : Concludes p (object_claims c.args.proof.now.objects) = returns-clause-concludes g c in
    zero_exact c.independence.ensures p (object_claims c.args.proof.now.objects) ends (IsTrue c.is_last_zero.result)
    (c.is_last_zero.ensures ends.front ends.last
    (ap (λ os. object_claims os) c.items-objects.ensures ∙ ends.is_last))
