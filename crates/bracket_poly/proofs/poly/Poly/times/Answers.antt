use Rattle.bracket_poly.proofs.Makings.{product_ok, product_err, error_answers}
use Rattle.bracket_poly.proofs.poly.Poly.times.Goals as goal

pub returns-in_err-mul_add : goal.returns-in_err-mul_add
returns-in_err-mul_add g c =
    error_answers _ c.from_residual.result c.in_err-mul_add.field-0.0 _ c.from_residual.ensures.1
    (product_err c.new-product.result.tracked _ c.args.self.now.tracked.sum c.args.other.now.tracked.sum c.new-product.ensures
    c.in_err-mul_add.field-0.0 c.in_err-mul_add.ensures)

pub returns : goal.returns
returns g c =
    product_ok c.new-product.result.tracked _ c.args.self.now.tracked.sum c.args.other.now.tracked.sum c.new-product.ensures _
    c.in_ok-mul_add.ensures
