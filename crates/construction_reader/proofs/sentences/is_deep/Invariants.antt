use Rattle.std.proofs.Common.{◌≡◌, ◌≤◌, drop}
use Rattle.construction_reader.specs.Lines.{is_deep}
use Rattle.construction_reader.proofs.sentences.is_deep.Given as goal

abbrev pub invariant-loop-token : goal.invariant-loop-token
invariant-loop-token l = record {
  small : l.depth ≤ 32;
  same : is_deep l.depth (drop l.token-index l.tokens) ≡ is_deep 0 l.tokens;
}
