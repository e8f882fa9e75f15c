use Rattle.std.proofs.Common.{◌≡◌, drop}
use Rattle.std.specs.Cmp.Lexicographic.{pointwise}
use Rattle.std.specs.Str.{bytes_eq}
use Rattle.prover.proofs.difference.same_names.Given as goal

-- it is decided by the names that are left
abbrev pub invariant-loop-name : goal.invariant-loop-name
invariant-loop-name l = pointwise bytes_eq (drop l.name-index l.first) l.others ≡ pointwise bytes_eq l.first l.second
