-- The join of an object with fresh points is zero exactly where the object is: fresh points that are unit vectors give
-- each coordinate.
use Rattle.std.proofs.Common.{◌≡◌, ℕ, ◌+◌, ◌-◌, ◌<◌, Bool, T, List, [], ◌∷◌, map, length, All, refl, sym, ap, ◌∙◌, arith}
use Rattle.std.specs.List.{AllByRecursion, list_all}
use Rattle.coordinate_model.specs.Ring.{Ops, IsCommRing, Integers}
use Rattle.coordinate_model.specs.Sequences.{columns, splits, subsets, range_from}
use Rattle.coordinate_model.specs.Brackets.{extensor}
use Rattle.coordinate_model.specs.Polynomial.{Variable, coordinate, parameter, Polynomial, Polynomials, monomial, free_point}
use Rattle.coordinate_model.specs.Evaluation.{value_in}
use Rattle.coordinate_model.specs.Value.{Value, coordinates}
use Rattle.coordinate_model.proofs.Bools.{first, second}
use Rattle.coordinate_model.proofs.Hom.{join-hom}
use Rattle.coordinate_model.proofs.IntegerRing.{integer_ring}
use Rattle.coordinate_model.proofs.PolynomialRing.{polynomial_ring, value_in-operations}
use Rattle.coordinate_model.proofs.Putting.{put_in-none}
use Rattle.coordinate_model.proofs.Splits.{IsSplit, splits-are, length-range_from, all_map, all_of_map, all_so, all_both, all_items, at_each}
use Rattle.degeneracy_report.specs.Joined.{fresh_points, joined}
use Rattle.degeneracy_report.specs.ZeroLaws.{IsObject, ZeroWhereObject, ZeroAtPlacement}
use Rattle.degeneracy_report.proofs.Fixed.{coordinates_same}
use Rattle.degeneracy_report.proofs.Units.{picks, unit, picked_each, with_units, before_units, units_parameters}
use Rattle.degeneracy_report.proofs.Units.{value_of_units, coordinate_of_units, zero_joined}

-- what passes a test at each item
all_pass : {A : Type 0} (p : A → Bool) (xs : List A) → T (list_all p xs) → AllByRecursion (λ x. T (p x)) xs
all_pass p [] h = tt
all_pass p (x ∷ xs) h = (first (p x) (list_all p xs) h, all_pass p xs (second (p x) (list_all p xs) h))

any : {A : Type 0} (xs : List A) → AllByRecursion (λ x. Unit {0}) xs
any [] = tt
any (x ∷ xs) = (tt, any xs)

module _ (d a n : ℕ) (V : Value) (o : IsObject d a n V) where
  -- how many points an object lacks
  lacks : (s : List ℕ × List ℕ) → IsSplit (λ (x : ℕ). Unit {0}) a (length (columns d)) s → length s.1 ≡ d - a
  lacks s i =
      let long : length (columns d) ≡ d = length-range_from 1 d in
      let all : length s.1 + a ≡ length (columns d) = i.all in
      omega arith

  module _ (R : Ops) (L : IsCommRing R) (base : Variable → R.carrier) where
    -- where the value of the join is zero with unit vectors put in, so is that of the coordinate
    one_zero : (s : List ℕ × List ℕ) → length s.1 ≡ d - a
        → T (picks (extensor Integers (map unit s.1)) s.0 (splits a (columns d)))
        → value_in R (with_units R L base n s.1) (joined d a (coordinates V) (fresh_points d a n)) ≡ R.𝟘
        → value_in R base (coordinates V s.0) ≡ R.𝟘
    one_zero s l h e =
        let at : Variable → R.carrier = with_units R L base n s.1 in
        sym (coordinates_same R L at base n (before_units R L base n s.1) (units_parameters R L base n s.1) V s.0 o.points)
        ∙ coordinate_of_units R L base d a s.1 s.0 (λ K. value_in R at (coordinates V K)) h
        (sym (value_of_units R L base d a n s.1 (coordinates V))
        ∙ ap (λ m. value_in R at (joined d a (coordinates V) (range_from n m))) l ∙ e)

    all_zero : ((J : List ℕ) → value_in R (with_units R L base n J) (joined d a (coordinates V) (fresh_points d a n)) ≡ R.𝟘)
        → All (λ K. value_in R base (coordinates V K) ≡ R.𝟘) (subsets d a)
    all_zero e =
        at_each _ (subsets d a)
        (all_map _ (λ K. value_in R base (coordinates V K) ≡ R.𝟘) (λ s. s.0) (λ s h. one_zero s (lacks s h.1) h.0 (e s.1))
        (splits a (columns d))
        (all_both _ _ (splits a (columns d))
        (all_pass (λ s. picks (extensor Integers (map unit s.1)) s.0 (splits a (columns d))) (splits a (columns d))
        (picked_each d a o.rank.0 o.rank.1 o.least o.most))
        (splits-are (λ x. Unit {0}) a (columns d) (any (columns d)))))

    -- and back, for every choice of the variables that agrees at the object's points
    joined_zero : (at : Variable → R.carrier) → ((i j : ℕ) → i < n → at (coordinate i j) ≡ base (coordinate i j))
        → ((k : ℕ) → at (parameter k) ≡ base (parameter k))
        → All (λ K. value_in R base (coordinates V K) ≡ R.𝟘) (subsets d a)
        → value_in R at (joined d a (coordinates V) (fresh_points d a n)) ≡ R.𝟘
    joined_zero at p q h =
        join-hom Polynomials R (value_in-operations R L at) a (λ K. refl) (λ K. refl) (columns d)
        ∙ zero_joined R L a (λ K. value_in R at (coordinates V K))
        (λ K. value_in R at (extensor Polynomials (map free_point (fresh_points d a n)) K)) (columns d)
        (all_so (λ s. value_in R base (coordinates V s.0) ≡ R.𝟘) (λ s. value_in R at (coordinates V s.0) ≡ R.𝟘)
        (λ s e. coordinates_same R L at base n p q V s.0 o.points ∙ e) (splits a (columns d))
        (all_of_map (λ K. value_in R base (coordinates V K) ≡ R.𝟘) (λ s. s.0) (splits a (columns d))
        (all_items _ (subsets d a) h)))

-- ---- zero polynomials

-- each variable put in for itself
abbrev itself : Variable → Polynomial
itself v = monomial (v ∷ [])

pub zero_where_object : ZeroWhereObject
zero_where_object d a n V o = (
  λ e. at_each _ (subsets d a)
      (all_so (λ K. value_in Polynomials itself (coordinates V K) ≡ Polynomials.𝟘) (λ K. coordinates V K ≡ Polynomials.𝟘)
      (λ K h. sym (put_in-none (coordinates V K)) ∙ h) (subsets d a)
      (all_items _ (subsets d a)
      (all_zero d a n V o Polynomials polynomial_ring itself
      (λ J. ap (value_in Polynomials (with_units Polynomials polynomial_ring itself n J)) e
      ∙ (value_in-operations Polynomials polynomial_ring (with_units Polynomials polynomial_ring itself n J)).to_zero)))),
  λ h. zero_joined Polynomials polynomial_ring a (coordinates V)
      (extensor Polynomials (map free_point (fresh_points d a n))) (columns d)
      (all_of_map (λ K. coordinates V K ≡ Polynomials.𝟘) (λ s. s.0) (splits a (columns d)) (all_items _ (subsets d a) h)),
)

-- ---- at a placement

pub zero_at_placement : ZeroAtPlacement
unfolding value_in
zero_at_placement d a n V at o = (
  λ h. all_zero d a n V o Integers integer_ring at
      (λ J. h (with_units Integers integer_ring at n J)
      (record {
        points = before_units Integers integer_ring at n J;
        parameters = units_parameters Integers integer_ring at n J;
      })),
  λ h other g. joined_zero d a n V o Integers integer_ring at other g.points g.parameters h,
)
