use Rattle.std.proofs.Common.{arith, sym, ◌∙◌}
use Rattle.proof_text.proofs.ProductSteps.{found_rising}
use Rattle.proof_text.proofs.products.ordered_rows.Goals as goal

pub brackets-requires : goal.brackets-requires
brackets-requires g c =
    let good = sym c.is_ordered.ensures ∙ c.if-is_ordered.true in
    let found = rw c.deref.ensures.value at c.in_ok-rows.ensures in (
      omega (arith, c.requires.rank.1),
      (
        omega (arith, c.requires.rank.1),
        (
          c.requires.rank,
          rw c.deref-then-is_ordered.ensures.value
              (found_rising c.args.names.now c.args.term.now c.in_ok-rows.rows.items found good),
        ),
      ),
    )
