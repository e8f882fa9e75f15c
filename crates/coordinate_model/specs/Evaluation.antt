-- Values of coordinate polynomials in a ring: the evaluation of a polynomial, as in any algebra textbook.
use Rattle.coordinate_model.specs.Ring.{Ops}
use Rattle.coordinate_model.specs.Words.{product_of}
use Rattle.coordinate_model.specs.Sums.{sum_value}
use Rattle.coordinate_model.specs.Polynomial.{Variable, Monomial, Polynomial}

-- each variable has an element of R
module _ (R : Ops) (at : Variable → R.carrier) where
  -- the value of a monomial: the product of the elements of its variables
  abbrev pub monomial_in : Monomial → R.carrier
  monomial_in m = product_of R at m.letters

  -- the value of a polynomial: the sum of the integers times the values of the monomials
  unfoldable pub value_in : Polynomial → R.carrier
  value_in p = sum_value R monomial_in p.terms
