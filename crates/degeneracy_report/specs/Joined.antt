-- The join of an object with free points that stand nowhere in it (Sturmfels, Algorithms in Invariant Theory, section
-- 3.3).
use Rattle.std.specs.Prelude.{◌≡◌, ℕ, ◌-◌, ◌<◌, List, [], ◌∷◌, ◌++◌, map, flat_map, All}
use Rattle.std.specs.List.{AllByRecursion}
use Rattle.coordinate_model.specs.Sequences.{range_from, columns, subsets}
use Rattle.coordinate_model.specs.Brackets.{Coords, extensor, join}
use Rattle.coordinate_model.specs.Sums.{Terms}
use Rattle.coordinate_model.specs.Polynomial.{Polynomial, Polynomials, free_point}
use Rattle.coordinate_model.specs.Words.{ordered}
use Rattle.coordinate_model.specs.Key.{Key, row_cmp}
use Rattle.coordinate_model.specs.BracketPolynomial.{AllKeys}
use Rattle.coordinate_model.specs.Value.{Value}
use Rattle.coordinate_model.specs.Starts.{Entry}

-- the points from this one on that an object of step a in rank d lacks to step d
abbrev pub fresh_points : (d a fresh : ℕ) → List ℕ
fresh_points d a fresh = range_from fresh (d - a)

-- the coordinate, at all columns, of the join of an object of step a with these points
abbrev pub joined : (d a : ℕ) → Coords Polynomials → List ℕ → Polynomial
joined d a A points = join Polynomials a A (extensor Polynomials (map free_point points)) (columns d)

-- all points of the entry come before this one
pub record IsBefore (fresh : ℕ) (e : Entry) : Type 0 where
  pub extensor : AllByRecursion (λ p. p < fresh) e.0
  pub rows : AllKeys (λ k. AllByRecursion (λ row. AllByRecursion (λ p. p < fresh) row) k.rows) e.1

-- all coordinates of an object of step a are the zero polynomial
abbrev pub IsZero : (d a : ℕ) → Coords Polynomials → Type 0
IsZero d a A = All (λ K. A K ≡ Polynomials.𝟘) (subsets d a)

-- ---- the join as a bracket polynomial

-- the key with one row more
abbrev pub with_row : List ℕ → Key → Key
with_row row k = record { exponents = k.exponents; rows = ordered row_cmp (k.rows ++ row ∷ []) }

-- the terms of an entry, each with the bracket of the entry's points and of these
abbrev pub joined_terms : List ℕ → Entry → Terms Key
joined_terms points e = map (λ t. (with_row (e.0 ++ points) t.0, t.1)) e.1.terms

-- the terms of the join: for each entry in order, those of its polynomial in order
abbrev pub start_terms : List ℕ → Value → Terms Key
start_terms points V = flat_map (joined_terms points) V
