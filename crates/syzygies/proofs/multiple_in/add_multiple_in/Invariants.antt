use Rattle.std.proofs.Common.{◌∷◌, [], drop}
use Rattle.bracket_terms.specs.LogUses.{use_of}
use Rattle.syzygies.specs.Terms.{term_of}
use Rattle.bracket_poly.proofs.Additions.{SoFar}
use Rattle.syzygies.specs.Additions.{addition}
use Rattle.syzygies.proofs.multiple_in.add_multiple_in.Given as goal

abbrev pub invariant-loop-pair : goal.invariant-loop-pair
invariant-loop-pair g l =
    SoFar (λ p. addition (use_of l.log_use) (term_of p) ∷ []) l.fn.poly.tracked l.poly.tracked l.pair-items
    (drop l.pair-index l.pair-items)
