use Rattle.std.proofs.Common.{◌≡◌, ◌∷◌, [], take, map}
use Rattle.worked_proofs.proofs.names.letters.Given as goal

abbrev pub invariant-loop-byte : goal.invariant-loop-byte
invariant-loop-byte l = l.names.items ≡ map (λ byte. byte ∷ []) (take l.byte-index l.bytes)
