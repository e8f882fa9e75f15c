-- The points of rows as the code picks them.
use Rattle.std.proofs.Common.{◌≡◌, ℕ, ◌==◌, ◌||◌, List, [], ◌∷◌, refl, sym, ap₂, ◌∙◌, inl, inr}
use Rattle.std.proofs.Common.{eq-eqb, ne_eqb}
use Rattle.std.proofs.Common.{nat_cmp}
use Rattle.std.proofs.lemmas.Bool.Decides.{eqb_tells}
use Rattle.std.proofs.lemmas.List.Sorted.{IsNonDecreasingBy-from_sort}
use Rattle.std.specs.Prelude.{IsSorted}
use Rattle.std.specs.List.Sorted.{IsPermutation}
use Rattle.std.specs.List.{list_any}
use Rattle.coordinate_model.specs.Sequences.{has}
use Rattle.coordinate_model.specs.Syzygy.{sorted}
use Rattle.coordinate_model.proofs.StdSort.{sorted-is}

pub same_turned : (x y : ℕ) → (y == x) ≡ (x == y)
same_turned x y = elim (eqb_tells x y) [
  | inl h ↦ eq-eqb y x (sym h.1) ∙ sym h.0
  | inr h ↦ ne_eqb y x (λ e. h.1 (sym e)) ∙ sym h.0
]

-- whether a point is there, either way round
pub any_has : (x : ℕ) (ys : List ℕ) → list_any (λ y. y == x) ys ≡ has ys x
any_has x [] = refl
any_has x (y ∷ ys) = ap₂ ◌||◌ (same_turned x y) (any_has x ys)

-- what std's sort gives is the sequence in ascending order
pub sorted_by_std : (ps qs : List ℕ) → IsPermutation ps qs → IsSorted nat_cmp qs → qs ≡ sorted ps
sorted_by_std ps qs p s = sorted-is ps qs p (IsNonDecreasingBy-from_sort (λ x. x) qs s)
