use Rattle.std.proofs.Common.{◌≡◌, ◌++◌, map}
use Rattle.proof_text.specs.Meant.{place_of}
use Rattle.proof_text.proofs.points.points.Given as goal

abbrev pub invariant-loop-word : goal.invariant-loop-word
invariant-loop-word l = l.points.items ++ map (place_of l.names) l.word-iterator ≡ map (place_of l.names) l.words
