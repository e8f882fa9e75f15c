use Rattle.std.proofs.Common.{◌≡◌, ◌+◌, ◌≤◌, length}
use Rattle.proof_text.specs.Cut.{cut}
use Rattle.proof_text.specs.Readings.{reads, read_of}
use Rattle.proof_text.specs.StateSeen.{state_seen, IsSound}
use Rattle.proof_text.proofs.reading.read_lines.Given as goal

abbrev pub invariant-loop-rest : goal.invariant-loop-rest
invariant-loop-rest g l = record {
  counted : l.number + length l.rest ≤ 1073741825;
  same : reads l.names l.steps l.number (cut l.rest) (state_seen l.state) ≡ read_of l.names l.steps l.bytes;
  sound : IsSound l.state;
}

abbrev pub decreases-loop-rest : goal.decreases-loop-rest
decreases-loop-rest g l = length l.rest
