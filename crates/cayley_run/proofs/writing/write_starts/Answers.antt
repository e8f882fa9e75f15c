use Rattle.std.proofs.Common.{rules, drop, ◌+◌, refl, ap}
use Rattle.std.proofs.Math.ListN.{drop_of_length-le}
use Rattle.proof_text.specs.Proofs.{IsSectionNamed}
use Rattle.cayley_run.specs.Seen.{start_of, starts_of}
use Rattle.cayley_run.proofs.EndingLaws.{none_written, next_section, one_written, ending_there, wrote_there}
use Rattle.cayley_run.proofs.EndingLaws.{not_written, whole_ending, whole_wrote, starts_left}
use Rattle.cayley_run.proofs.SectionSteps.{none_of}
use Rattle.cayley_run.proofs.StartRuns.{small_at}
use Rattle.cayley_run.proofs.writing.write_starts.Goals as goal

pub write_start-requires : goal.write_start-requires
write_start-requires g c = (
  search rules,
  (
    search rules,
    (
      c.requires.rank,
      (
        small_at c.args.starts.now c.loop-start.start-index c.start-item.result c.loop-start-test.true c.start-item.is
            c.requires.small,
        next_section
            c.args.names.now c.args.contract c.args.budget (starts_of c.args.starts.now) c.loop-start.ending
            (start_of c.start-item.result) (starts_of (drop (c.loop-start.start-index + 1) c.args.starts.now))
            (starts_of (drop c.loop-start.start-index c.args.starts.now))
            (starts_left c.args.starts.now c.loop-start.start-index c.start-item.result c.loop-start-test.true
            c.start-item.is)
            _ _ _ _ c.loop-start.invariant (IsSectionNamed c.args.names.now) c.requires.named,
      ),
    ),
  ),
)

pub returns-in-Err-clause-writes : goal.returns-in-Err-clause-writes
returns-in-Err-clause-writes g c =
    not_written
    c.args.names.now c.args.contract c.args.budget (starts_of c.args.starts.now) c.loop-start.ending
    (start_of c.start-item.result) (starts_of (drop (c.loop-start.start-index + 1) c.args.starts.now))
    (starts_of (drop c.loop-start.start-index c.args.starts.now))
    (starts_left c.args.starts.now c.loop-start.start-index c.start-item.result c.loop-start-test.true c.start-item.is)
    _ _ _ _ c.loop-start.invariant _ _ c.in-Err.error _ refl c.in-Err.ensures.writes

pub returns-then-is_some-clause-ending : goal.returns-then-is_some-clause-ending
returns-then-is_some-clause-ending g c =
    ending_there
    c.args.names.now c.args.contract c.args.budget (starts_of c.args.starts.now) c.loop-start.ending
    (start_of c.start-item.result) (starts_of (drop (c.loop-start.start-index + 1) c.args.starts.now))
    (starts_of (drop c.loop-start.start-index c.args.starts.now))
    (starts_left c.args.starts.now c.loop-start.start-index c.start-item.result c.loop-start-test.true c.start-item.is)
    _ _ _ _ c.loop-start.invariant c.write_start.new.ending _ _ c.in_default.ensures.ends c.in_default.ensures.writes
    c.if-is_some.ensures

pub loop-start-preserved : goal.loop-start-preserved
loop-start-preserved g c =
    one_written
    c.args.names.now c.args.contract c.args.budget (starts_of c.args.starts.now) c.loop-start.ending
    (start_of c.start-item.result) (starts_of (drop (c.loop-start.start-index + 1) c.args.starts.now))
    (starts_of (drop c.loop-start.start-index c.args.starts.now))
    (starts_left c.args.starts.now c.loop-start.start-index c.start-item.result c.loop-start-test.true c.start-item.is)
    _ _ _ _ c.loop-start.invariant c.write_start.new.ending _ _ c.in_default.ensures.ends c.in_default.ensures.writes
    (none_of c.write_start.new.ending.stop c.if-is_some.ensures)
