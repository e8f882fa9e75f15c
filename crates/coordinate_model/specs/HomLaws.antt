-- What a map keeps that keeps the operations of a ring, as the contracts cite it: what is made from points and objects
-- is made, in the same way, from their images.
use Rattle.std.specs.Prelude.{◌≡◌, ℕ, List, [], ◌∷◌, map}
use Rattle.coordinate_model.specs.Ring.{Ops, IsHom}
use Rattle.coordinate_model.specs.Brackets.{Point, Coords, bracket, join, extensor, meet, on, six_point, join_bracket}
use Rattle.coordinate_model.specs.Polynomial.{Variable, Polynomial, Polynomials, monomial}
use Rattle.coordinate_model.specs.Evaluation.{value_in}

module _ (A B : Ops) (to : A.carrier → B.carrier) where
  -- the image of a point
  abbrev pub point_by : Point A → Point B
  point_by p = λ j. to (p j)

  -- the coordinates of the image of an object
  abbrev pub coords_by : Coords A → Coords B
  coords_by X = λ K. to (X K)

  -- the image of a bracket of points
  abbrev pub KeepsBrackets : Type 0
  KeepsBrackets = (ps : List (Point A)) → to (bracket A ps) ≡ bracket B (map point_by ps)

  -- of an extensor, at each list of columns
  abbrev pub KeepsExtensors : Type 0
  KeepsExtensors = (ps : List (Point A)) (K : List ℕ) → to (extensor A ps K) ≡ extensor B (map point_by ps) K

  -- of a join
  abbrev pub KeepsJoins : Type 0
  KeepsJoins = (a : ℕ) (X Y : Coords A) (K : List ℕ) → to (join A a X Y K) ≡ join B a (coords_by X) (coords_by Y) K

  -- of a meet
  abbrev pub KeepsMeets : Type 0
  KeepsMeets =
      (d a b : ℕ) (X Y : Coords A) (K : List ℕ) → to (meet A d a b X Y K) ≡ meet B d a b (coords_by X) (coords_by Y) K

  -- of s * X + t * Y
  abbrev pub KeepsCombinations : Type 0
  KeepsCombinations =
      (s t : A.carrier) (X Y : Coords A) (K : List ℕ)
      → to (on A s t X Y K) ≡ on B (to s) (to t) (coords_by X) (coords_by Y) K

  -- of the bracket of objects
  abbrev pub KeepsJoinBrackets : Type 0
  KeepsJoinBrackets = (Xs : List (Coords A)) → to (join_bracket A Xs) ≡ join_bracket B (map coords_by Xs)

  -- of the six-point polynomial
  abbrev pub KeepsSixPoint : Type 0
  KeepsSixPoint =
      (X1 X2 X3 X4 X5 X6 : Coords A) → let by = coords_by in
      to (six_point A (join_bracket A) X1 X2 X3 X4 X5 X6)
      ≡ six_point B (join_bracket B) (by X1) (by X2) (by X3) (by X4) (by X5) (by X6)

  -- of the value of a polynomial
  abbrev pub KeepsValues : Type 0
  KeepsValues = (at : Variable → A.carrier) (p : Polynomial) → to (value_in A at p) ≡ value_in B (λ v. to (at v)) p

-- all of these, as every map does that keeps the operations
pub record Keeps (A B : Ops) (to : A.carrier → B.carrier) : Type 0 where
  pub brackets : KeepsBrackets A B to
  pub extensors : KeepsExtensors A B to
  pub joins : KeepsJoins A B to
  pub meets : KeepsMeets A B to
  pub combinations : KeepsCombinations A B to
  pub join_brackets : KeepsJoinBrackets A B to
  pub six_points : KeepsSixPoint A B to
  pub values : KeepsValues A B to

-- values of polynomials keep the operations, as in every commutative ring, and a variable has its element as its value
pub record Evaluates (R : Ops) (at : Variable → R.carrier) : Type 0 where
  pub operations : IsHom Polynomials R (value_in R at)
  pub variables : (v : Variable) → value_in R at (monomial (v ∷ [])) ≡ at v
