use Rattle.bracket_poly.proofs.Additions.{SoFar}
use Rattle.bracket_poly.proofs.Signs.{signed_term}
use Rattle.bracket_poly.proofs.poly.Poly.add_signed.Given as goal

abbrev pub invariant-loop-key : goal.invariant-loop-key
invariant-loop-key g l =
    SoFar (signed_term l.negative) l.fn.self.tracked l.self.tracked l.other.tracked.sum.terms l.key-iterator
