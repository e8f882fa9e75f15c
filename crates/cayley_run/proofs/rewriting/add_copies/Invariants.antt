use Rattle.std.proofs.Common.{◌≡◌, ◌++◌, map, drop}
use Rattle.bracket_terms.specs.LogUses.{use_of}
use Rattle.cayley_run.proofs.rewriting.add_copies.Given as goal

abbrev pub invariant-loop-log_use : goal.invariant-loop-log_use
invariant-loop-log_use g l =
    map use_of l.uses.items ++ map use_of (drop l.log_use-index l.more)
    ≡ map use_of l.initial.uses.items ++ map use_of l.more
