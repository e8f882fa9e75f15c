use Rattle.std.proofs.Common.{◌≡◌, map, drop}
use Rattle.std.specs.Prelude.{None}
use Rattle.bracket_poly.specs.Sections.{rewritten_of}
use Rattle.cayley_run.specs.Seen.{starts_of}
use Rattle.cayley_run.proofs.MetSections.{MetSoFar}
use Rattle.cayley_run.proofs.StartRuns.{AreRewritten}
use Rattle.cayley_run.proofs.sections.run_starts.Given as goal

-- so far nothing stopped the run, and the sections have met what they have to
abbrev pub invariant-loop-scalar : goal.invariant-loop-scalar
invariant-loop-scalar g l =
    AreRewritten l.fn.contract l.budget (starts_of l.starts) (map rewritten_of l.done.sections.items) l.done.left
    (starts_of (drop l.scalar-index l.starts))
    × ((l.done.stop ≡ None)
    × MetSoFar l.done.sections.items (starts_of l.starts) (starts_of (drop l.scalar-index l.starts)))
