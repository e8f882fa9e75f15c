use Rattle.std.proofs.Common.{length}
use Rattle.proof_text.specs.Seen.{powers_seen}
use Rattle.proof_text.proofs.products.+params_meant.Given as goal

abbrev pub decreases-params_meant : goal.decreases-params_meant
decreases-params_meant l = length (powers_seen l.powers)
