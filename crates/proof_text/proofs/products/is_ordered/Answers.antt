use Rattle.std.proofs.Common.{map, sym, ap, ◌∙◌}
use Rattle.std.specs.Prelude.{◌&&◌}
use Rattle.proof_text.specs.Forms.{Power}
use Rattle.proof_text.specs.Shapes.{powers_of}
use Rattle.proof_text.specs.Meant.{place_of, is_rising}
use Rattle.proof_text.proofs.ProductSteps.{ordered_is}
use Rattle.proof_text.proofs.products.is_ordered.Goals as goal

pub returns-then-are_rows_ordered : goal.returns-then-are_rows_ordered
returns-then-are_rows_ordered g c =
    let names = c.args.names.now in
    let last = is_rising (map (λ (power : Power). place_of names.params power.name) (powers_of c.args.term.now.behind).0) in
    rw (c.of.ensures, c.items.ensures) at c.are_params_rising.ensures
    ∙ sym (ordered_is names c.args.term.now c.args.rows.now c.requires
    ∙ ap (λ b. b && last) (sym c.are_rows_ordered.ensures ∙ c.if-are_rows_ordered.true))

pub returns-else-are_rows_ordered : goal.returns-else-are_rows_ordered
returns-else-are_rows_ordered g c =
    let names = c.args.names.now in
    let last = is_rising (map (λ (power : Power). place_of names.params power.name) (powers_of c.args.term.now.behind).0) in
    c.if-are_rows_ordered.false
    ∙ sym (ordered_is names c.args.term.now c.args.rows.now c.requires
    ∙ ap (λ b. b && last) (sym c.are_rows_ordered.ensures ∙ c.if-are_rows_ordered.false))
