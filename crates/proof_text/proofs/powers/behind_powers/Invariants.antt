use Rattle.std.proofs.Common.{◌≡◌, length}
use Rattle.proof_text.specs.Shapes.{powers_of}
use Rattle.proof_text.proofs.powers.behind_powers.Given as goal

abbrev pub invariant-loop-word : goal.invariant-loop-word
invariant-loop-word l = record {
  same : l.behind ≡ l.rest;
  left : (powers_of l.rest).1 ≡ (powers_of l.words).1;
}

abbrev pub decreases-loop-word : goal.decreases-loop-word
decreases-loop-word l = length l.rest
