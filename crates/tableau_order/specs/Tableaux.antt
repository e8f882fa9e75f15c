-- Row lists that are tableaux.
use Rattle.std.specs.Prelude.{◌≡◌, ℕ, List, IsTrue, IsSorted}
use Rattle.std.specs.Cmp.{Equal-is}
use Rattle.std.specs.FinMap.{slice_cmp-IsAntisymmetric, nat_cmp-IsAntisymmetric}
use Rattle.std.specs.List.{AllByRecursion}
use Rattle.std.specs.Ordering.{eq_by_cmp}
use Rattle.std.proofs.Common.{ap}
use Rattle.coordinate_model.specs.Sequences.{IsRank}
use Rattle.coordinate_model.specs.Key.{IsRow, row_cmp, rows_cmp}

-- rows of rank d that ascend
pub record IsTableau (d : ℕ) (rows : List (List ℕ)) : Type 0 where
  pub rank : IsRank d
  pub each : AllByRecursion (IsRow d) rows
  pub ascending : IsSorted row_cmp rows

-- row lists that compare as equal give the same
pub same_rows : {V : Type 0} (f : List (List ℕ) → V) (x y : List (List ℕ)) → IsTrue (eq_by_cmp rows_cmp x y) → f x ≡ f y
same_rows f x y e =
    ap f (slice_cmp-IsAntisymmetric (slice_cmp-IsAntisymmetric nat_cmp-IsAntisymmetric) x y
    ((Equal-is (rows_cmp x y)).0 e))
