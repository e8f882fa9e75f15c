use Rattle.bracket_poly.proofs.Totals.{term_adds, terms_add, product_adds, use_adds}
use Rattle.bracket_poly.proofs.laws.sums.Goals as goal

pub returns-clause-term : goal.returns-clause-term
returns-clause-term c = term_adds

pub returns-clause-terms : goal.returns-clause-terms
returns-clause-terms c = terms_add

pub returns-clause-product : goal.returns-clause-product
returns-clause-product c = product_adds

pub returns-clause-uses : goal.returns-clause-uses
returns-clause-uses c = use_adds
