-- Coordinate polynomials: finite sums of integers times monomials in the coordinates x(i, j) of the free points and in
-- parameters. Monomials have the lexicographic order in which the diagonal of a bracket is its greatest monomial, the
-- diagonal order of Sturmfels, Algorithms in Invariant Theory, section 3.1.
use Rattle.std.specs.Prelude.{ℕ, List, [], ◌∷◌, map, count_by}
use Rattle.std.specs.declared.cmp.Ordering.{Ordering}
use Rattle.std.specs.Ordering.{on, eq_by_cmp, flip_args, nat_cmp}
use Rattle.std.specs.Cmp.Lexicographic.{slice_cmp}
use Rattle.coordinate_model.specs.Ring.{Ops}
use Rattle.coordinate_model.specs.Brackets.{Point, bracket}
use Rattle.coordinate_model.specs.Words.{Word, no_letters, word_of, join_words}
use Rattle.coordinate_model.specs.Sums.{Sum, Sums, single}

-- a variable: x(i, j), the column j of the point i, or a parameter
pub data Variable : Type 0 where
  coordinate : ℕ → ℕ → Variable
  parameter : ℕ → Variable

-- the list of numbers by which a variable is compared
abbrev pub variable_key : Variable → List ℕ
variable_key (coordinate i j) = 0 ∷ i ∷ j ∷ []
variable_key (parameter k) = 1 ∷ k ∷ []

-- the order of variables: coordinates by point and then by column, and after them the parameters
abbrev pub variable_cmp : Variable → Variable → Ordering
variable_cmp = on variable_key (slice_cmp nat_cmp)

-- a product of variables: each stands as often as its exponent says
abbrev pub Monomial : Type 0
Monomial = Word variable_cmp

-- the lexicographic order of monomials, with x(1, 1) > x(1, 2) > .. > x(2, 1) > .. > the parameters from 0 on
abbrev pub monomial_cmp : Monomial → Monomial → Ordering
monomial_cmp = on (λ m. m.letters) (slice_cmp (flip_args variable_cmp))

-- how often the variable stands in the monomial
abbrev pub exponent : Variable → Monomial → ℕ
exponent v m = count_by (eq_by_cmp variable_cmp v) m.letters

-- a coordinate polynomial: each monomial with its integer
abbrev pub Polynomial : Type 0
Polynomial = Sum monomial_cmp

-- the coordinate polynomials with the operations of a ring
abbrev pub Polynomials : Ops
Polynomials = Sums monomial_cmp (join_words variable_cmp) (no_letters variable_cmp)

-- the monomial with these variables
abbrev pub monomial_of : List Variable → Monomial
monomial_of = word_of variable_cmp

-- the product of variables as a polynomial
abbrev pub monomial : List Variable → Polynomial
monomial vs = single monomial_cmp (monomial_of vs)

-- the free point i has the coordinates x(i, 1), x(i, 2), ..
abbrev pub free_point : ℕ → Point Polynomials
free_point i j = monomial (coordinate i j ∷ [])

-- the bracket of free points, which may come in any order and more than once
unfoldable pub br : List ℕ → Polynomial
br ps = bracket Polynomials (map free_point ps)
