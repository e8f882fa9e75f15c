use Rattle.std.proofs.Common.{◌≡◌}
use Rattle.std.specs.List.{list_all}
use Rattle.proof_text.specs.Meant.{is_among}
use Rattle.proof_text.proofs.kinds.are_among.Given as goal

abbrev pub invariant-loop-word : goal.invariant-loop-word
invariant-loop-word l = list_all (is_among l.names) l.word-iterator ≡ list_all (is_among l.names) l.words
