-- Exponents of parameters.
use Rattle.std.specs.Prelude.{◌≡◌, ℕ, zero, suc, List, [], ◌∷◌, IsTrue}
use Rattle.std.specs.Ordering.{eq_by_cmp, nat_cmp}
use Rattle.std.specs.Cmp.{Equal-is}
use Rattle.std.specs.Cmp.Lexicographic.{slice_cmp}
use Rattle.std.specs.FinMap.{slice_cmp-IsAntisymmetric, nat_cmp-IsAntisymmetric}
use Rattle.std.proofs.Common.{ap}

-- exponents that compare as equal give the same
pub same_exponents : {V : Type 0} (f : List ℕ → V) (x y : List ℕ) → IsTrue (eq_by_cmp (slice_cmp nat_cmp) x y)
    → f x ≡ f y
same_exponents f x y e =
    ap f (slice_cmp-IsAntisymmetric nat_cmp-IsAntisymmetric x y ((Equal-is (slice_cmp nat_cmp x y)).0 e))

-- an exponent before those in use, which is one of them unless it is 0 and none is behind it
abbrev pub before_used : ℕ → List ℕ → List ℕ
before_used zero [] = []
before_used (suc e) [] = suc e ∷ []
before_used e (f ∷ fs) = e ∷ f ∷ fs

-- the exponents up to the last that is not 0
abbrev pub in_use : List ℕ → List ℕ
in_use [] = []
in_use (e ∷ es) = before_used e (in_use es)
