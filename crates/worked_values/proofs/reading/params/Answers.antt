use Rattle.std.proofs.Common.{◌≤◌, ℕ, List, replicate, slice_set, sym, subst}
use Rattle.std.specs.List.{AllByRecursion}
use Rattle.bracket_terms.proofs.ExponentLaws.{all_up_to}
use Rattle.worked_values.proofs.reading.params.Goals as goal

pub returns-then-is_there : goal.returns-then-is_there
returns-then-is_there c =
    subst (λ (es : List ℕ). AllByRecursion (λ e. e ≤ 1000) es) (sym c.single.ensures)
    (all_up_to 1000 (slice_set (replicate 64 0) 0 1) tt)

pub returns-else-is_there : goal.returns-else-is_there
returns-else-is_there c =
    subst (λ (es : List ℕ). AllByRecursion (λ e. e ≤ 1000) es) (sym c.one.ensures)
    (all_up_to 1000 (replicate 64 0) tt)
