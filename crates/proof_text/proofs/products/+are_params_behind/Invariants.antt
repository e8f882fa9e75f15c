use Rattle.std.proofs.Common.{length}
use Rattle.proof_text.specs.Seen.{powers_seen}
use Rattle.proof_text.proofs.products.+are_params_behind.Given as goal

abbrev pub decreases-are_params_behind : goal.decreases-are_params_behind
decreases-are_params_behind l = length (powers_seen l.powers)
