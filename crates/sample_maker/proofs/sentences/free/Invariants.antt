use Rattle.std.proofs.Common.{◌≡◌, ◌∷◌, []}
use Rattle.std.specs.Prelude.{map, take}
use Rattle.sample_maker.proofs.sentences.free.Given as goal

abbrev pub invariant-loop-letter : goal.invariant-loop-letter
invariant-loop-letter l = l.names.items ≡ map (λ letter. letter ∷ []) (take l.letter-index l.letter-items)
