use Rattle.std.proofs.Common.{rules, sym, subst, refl, ℕ, ◌≤◌}
use Rattle.cayley_run.specs.Seen.{starts_of}
use Rattle.cayley_run.proofs.MetSections.{have_met, section_more}
use Rattle.cayley_run.proofs.StartRuns.{small_at}
use Rattle.cayley_run.proofs.WorkLaws.{work_within}
use Rattle.cayley_run.proofs.SectionSteps.{step_goes_on, none_of}
use Rattle.cayley_run.proofs.sections.run_starts.Goals as goal

pub rewrite-requires : goal.rewrite-requires
rewrite-requires g c = (
  search rules,
  (
    search rules,
    small_at c.args.starts.now c.loop-scalar.scalar-index c.loop-scalar-item.result c.loop-scalar-test.true
        c.loop-scalar-item.is c.requires.small,
  ),
)

pub overflow_sub-done : goal.overflow_sub-done
overflow_sub-done g c =
    subst (λ (n : ℕ). n ≤ c.loop-scalar.done.left) (sym c.in_ok-rewriting.ensures.work.turns)
    (work_within c.args.contract c.loop-scalar.done.left c.loop-scalar-item.result.1.tracked)

pub loop-scalar-preserved : goal.loop-scalar-preserved
loop-scalar-preserved g c =
    let none = none_of c.in_ok-rewriting.rewriting.stop c.if-is_some.ensures in (
      step_goes_on c.args.contract c.args.budget c.loop-scalar.done.left c.args.starts.now c.loop-scalar.scalar-index
          c.loop-scalar-item.result c.loop-scalar.done.sections.items c.push.new.self.items _ c.in_ok-rewriting.rewriting
          c.loop-scalar-test.true c.loop-scalar-item.is c.loop-scalar.invariant.0 c.in_ok-rewriting.ensures.work
          c.in_ok-push.ensures.items refl c.in_ok-copy.ensures refl refl none,
      (
        none,
        section_more c.args.starts.now c.loop-scalar.scalar-index c.loop-scalar-item.result
            c.loop-scalar.done.sections.items c.push.new.self.items _ c.in_ok-rewriting.rewriting
            c.loop-scalar-test.true c.loop-scalar-item.is c.loop-scalar.invariant.1.1 c.in_ok-push.ensures.items refl
            c.in_ok-copy.ensures refl refl c.in_ok-rewriting.ensures.met,
      ),
    )

pub returns-then-is_some-clause-met : goal.returns-then-is_some-clause-met
returns-then-is_some-clause-met g c =
    have_met c.push.new.self.items (starts_of c.args.starts.now) _
    (section_more c.args.starts.now c.loop-scalar.scalar-index c.loop-scalar-item.result
    c.loop-scalar.done.sections.items c.push.new.self.items _ c.in_ok-rewriting.rewriting c.loop-scalar-test.true
    c.loop-scalar-item.is c.loop-scalar.invariant.1.1 c.in_ok-push.ensures.items refl c.in_ok-copy.ensures refl refl
    c.in_ok-rewriting.ensures.met)

pub returns-clause-met : goal.returns-clause-met
returns-clause-met g c =
    have_met c.loop-scalar.done.sections.items (starts_of c.args.starts.now) _ c.loop-scalar.invariant.1.1
