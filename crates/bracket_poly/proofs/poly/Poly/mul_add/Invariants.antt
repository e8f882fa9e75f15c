use Rattle.bracket_poly.specs.Products.{multiple_terms}
use Rattle.bracket_poly.proofs.Additions.{SoFar}
use Rattle.bracket_poly.proofs.poly.Poly.mul_add.Given as goal

abbrev pub invariant-loop-left : goal.invariant-loop-left
invariant-loop-left g l =
    SoFar (multiple_terms l.row l.sign l.b.tracked.sum.terms) l.fn.self.tracked l.self.tracked
    l.a.tracked.sum.terms l.left-iterator
