-- The laws of joins with points that stand nowhere in an object, as the contracts cite them.
use Rattle.std.specs.Prelude.{◌≡◌, ◌↔◌, ℕ, ◌<◌, ◌≤◌, pos, All}
use Rattle.std.specs.List.{AllByRecursion}
use Rattle.coordinate_model.specs.Sequences.{IsRank, subsets}
use Rattle.coordinate_model.specs.Sums.{sum_of}
use Rattle.coordinate_model.specs.Polynomial.{coordinate, parameter, Polynomials}
use Rattle.coordinate_model.specs.Placement.{Placement, value_at}
use Rattle.coordinate_model.specs.Key.{key_cmp}
use Rattle.coordinate_model.specs.BracketPolynomial.{value}
use Rattle.coordinate_model.specs.Value.{Value, HasStep, coordinates}
use Rattle.degeneracy_report.specs.Joined.{fresh_points, joined, start_terms, IsBefore, IsZero}

-- a value of step a in rank d, of which all points come before this one
pub record IsObject (d a fresh : ℕ) (V : Value) : Type 0 where
  pub rank : IsRank d
  pub least : 1 ≤ a
  pub most : a < d
  pub sizes : HasStep a V
  pub points : AllByRecursion (IsBefore fresh) V

-- the sum of the terms of the join is the coordinate of the join
abbrev pub TermsAreJoin : Type 0
TermsAreJoin =
    (d a fresh : ℕ) (V : Value) → IsObject d a fresh V
    → value (sum_of key_cmp (start_terms (fresh_points d a fresh) V))
    ≡ joined d a (coordinates V) (fresh_points d a fresh)

-- it is the zero polynomial exactly where all coordinates of the object are
abbrev pub ZeroWhereObject : Type 0
ZeroWhereObject =
    (d a fresh : ℕ) (V : Value) → IsObject d a fresh V
    → ((joined d a (coordinates V) (fresh_points d a fresh) ≡ Polynomials.𝟘) ↔ IsZero d a (coordinates V))

-- the placements have the same integers for the points before this one and for the parameters
pub record AgreeBefore (fresh : ℕ) (at other : Placement) : Type 0 where
  pub points : (i j : ℕ) → i < fresh → other (coordinate i j) ≡ at (coordinate i j)
  pub parameters : (k : ℕ) → other (parameter k) ≡ at (parameter k)

-- the object is zero at a placement exactly where the join is, wherever the fresh points are placed
abbrev pub ZeroAtPlacement : Type 0
ZeroAtPlacement =
    (d a fresh : ℕ) (V : Value) (at : Placement) → IsObject d a fresh V
    → (((other : Placement) → AgreeBefore fresh at other
    → value_at other (joined d a (coordinates V) (fresh_points d a fresh)) ≡ pos 0)
    ↔ All (λ K. value_at at (coordinates V K) ≡ pos 0) (subsets d a))
