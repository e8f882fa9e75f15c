use Rattle.std.proofs.Common.{◌≡◌, ◌++◌}
use Rattle.proof_text.proofs.line_words.list.Given as goal

abbrev pub invariant-loop-word : goal.invariant-loop-word
invariant-loop-word l = l.list.items ++ l.word-iterator ≡ l.words
