use Rattle.std.proofs.Common.{◌≡◌, ◌+◌, ◌≤◌, length}
use Rattle.construction_reader.specs.Lines.{lines_of}
use Rattle.construction_reader.specs.Texts.{progress, reads, read_of}
use Rattle.construction_reader.proofs.reading.read_lines.Given as goal

abbrev pub invariant-loop-rest : goal.invariant-loop-rest
invariant-loop-rest l = record {
  counted : l.number + length l.rest ≤ 1048577;
  same : reads l.number (lines_of l.rest) (progress l.progress) ≡ read_of l.text;
}

abbrev pub decreases-loop-rest : goal.decreases-loop-rest
decreases-loop-rest l = length l.rest
