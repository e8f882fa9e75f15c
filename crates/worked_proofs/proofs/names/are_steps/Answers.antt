use Rattle.std.proofs.Common.{◌≡◌, ℕ, ◌<◌, ◌==◌, zero, suc, false, T, length, sym, subst, ◌∙◌, arith}
use Rattle.bracket_terms.proofs.ExponentLaws.{all_up_to}
use Rattle.worked_proofs.proofs.names.are_steps.Goals as goal

some : (n : ℕ) → (n == 0) ≡ false → 0 < n
some zero e = absurd cc
some (suc n) e = omega arith

pub returns-then-steps-lt1000 : goal.returns-then-steps-lt1000
returns-then-steps-lt1000 g c = λ e. record {
  some = some (length c.args.steps.now) (sym c.is_empty.ensures ∙ c.if-steps-lt1000.true.0);
  few = omega arith;
  within = all_up_to g.row.D c.args.steps.now (subst T (sym (sym c.are_within.ensures ∙ e)) tt);
}
