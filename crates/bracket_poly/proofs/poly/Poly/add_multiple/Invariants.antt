use Rattle.std.proofs.Common.{◌∷◌, []}
use Rattle.std.specs.Option.{option_copied}
use Rattle.bracket_poly.specs.Products.{product_term}
use Rattle.bracket_poly.proofs.Additions.{SoFar}
use Rattle.bracket_poly.proofs.poly.Poly.add_multiple.Given as goal

abbrev pub invariant-loop-right : goal.invariant-loop-right
invariant-loop-right g l =
    SoFar (λ u. product_term (option_copied l.row) l.sign (l.left, l.first) u ∷ []) l.fn.self.tracked
    l.self.tracked l.b.tracked.sum.terms l.right-iterator
