use Rattle.std.proofs.Common.{◌≡◌, ◌+◌, ◌++◌, length, take}
use Rattle.proof_text.proofs.WordSteps.{LackSemicolons}
use Rattle.proof_text.proofs.line_words.cut.Given as goal

abbrev pub invariant-loop-word : goal.invariant-loop-word
invariant-loop-word l = record {
  whole : take l.before l.words ++ l.rest ≡ l.words;
  count : l.before + length l.rest ≡ length l.words;
  none : LackSemicolons (take l.before l.words);
}

abbrev pub decreases-loop-word : goal.decreases-loop-word
decreases-loop-word l = length l.rest
