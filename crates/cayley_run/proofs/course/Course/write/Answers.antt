use Rattle.std.proofs.Common.{rules, ◌≡◌, [], append-nil}
use Rattle.proof_text.proofs.Writing.{writes_more, writes_less, same_lines}
use Rattle.cayley_run.specs.Seen.{starts_of}
use Rattle.cayley_run.specs.Sections.{run_starts}
use Rattle.cayley_run.proofs.CourseLaws.{writes_then_none}
use Rattle.cayley_run.proofs.Scalars.{sections_of_entries, value_formed}
use Rattle.cayley_run.proofs.course.Course.write.Goals as goal

pub returns-in_err-write_object-clause-writes : goal.returns-in_err-write_object-clause-writes
returns-in_err-write_object-clause-writes g c =
    writes_less _ _ _ _ _ _ _ _ c.from_residual.ensures.1 c.in_err-write_object.ensures

pub returns-in_err-ending-clause-writes : goal.returns-in_err-ending-clause-writes
returns-in_err-ending-clause-writes g c =
    writes_more _ _ _ _ _ _ _ _ _ c.in_ok-write_object.ensures
    (same_lines _ _ _ _ _ _ _ (append-nil _)
    (writes_less _ _ _ _ _ _ _ [] c.from_residual-in_err-ending.ensures.1 c.in_err-ending.ensures.writes))

pub finish-requires : goal.finish-requires
finish-requires g c =
    let contract = c.args.self.now.options.contract in
    let left = c.args.self.now.left in (
      search rules,
      (
        search rules,
        (
          c.requires.few,
          value_formed g.row.D c.args.step (run_starts contract left (starts_of c.args.starts.now)).sections
              c.in_ok-ending.ending.entries.items c.requires.rank c.requires.within
              (sections_of_entries c.args.step contract left c.args.starts.now c.requires.starts)
              c.in_ok-ending.ensures.ending.value,
        ),
      ),
    )

pub returns-in_err-finish-clause-writes : goal.returns-in_err-finish-clause-writes
returns-in_err-finish-clause-writes g c =
    writes_then_none _ _ _ _ _ _
    (writes_more _ _ _ _ _ _ _ _ _ c.in_ok-write_object.ensures c.in_ok-ending.ensures.writes)
    c.from_residual-in_err-finish.ensures.1
