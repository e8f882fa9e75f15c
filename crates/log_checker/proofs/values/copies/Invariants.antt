use Rattle.std.proofs.Common.{◌≡◌, [], map, take, get_or}
use Rattle.conic_points.specs.Points.{values_of}
use Rattle.log_checker.specs.Ready.{step_at}
use Rattle.log_checker.specs.Seen.{steps_in}
use Rattle.log_checker.proofs.values.copies.Given as goal

abbrev pub invariant-loop-number : goal.invariant-loop-number
invariant-loop-number g l = record {
  entries : values_of l.copies.items ≡ map (λ n. get_or (values_of l.values) n []) (take l.number-index l.numbers);
  steps : steps_in l.copies.items ≡ map (step_at (steps_in l.values)) (take l.number-index l.numbers);
}
