use Rattle.bracket_poly.proofs.ProductKeys.{product_degree}
use Rattle.bracket_poly.proofs.Totals.{makes_product}
use Rattle.bracket_poly.proofs.laws.products.Goals as goal

pub returns-clause-product : goal.returns-clause-product
returns-clause-product c = makes_product

pub returns-clause-degree : goal.returns-clause-degree
returns-clause-degree c = product_degree
