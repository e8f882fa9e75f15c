use Rattle.std.proofs.Common.{◌≡◌}
use Rattle.std.specs.List.{list_all}
use Rattle.proof_text.specs.Numbers.{is_run}
use Rattle.proof_text.proofs.line_words.are_names.Given as goal

abbrev pub invariant-loop-word : goal.invariant-loop-word
invariant-loop-word l = list_all is_run l.word-iterator ≡ list_all is_run l.words
