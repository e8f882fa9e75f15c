-- Values, numbers put in and degrees at small polynomials, by computing.
use Rattle.std.specs.Prelude.{◌≡◌, ℕ, ◌+◌, ◌*◌, ◌==◌, if◌then◌else◌, pos, negsuc, None, Some, [], ◌∷◌}
use Rattle.std.proofs.Common.{refl}
use Rattle.coordinate_model.specs.Ring.{Integers}
use Rattle.coordinate_model.specs.Brackets.{Coords, bracket, join, join_bracket}
use Rattle.coordinate_model.specs.Words.{word_of}
use Rattle.coordinate_model.specs.Sums.{sum_of, single, plus, minus, times}
use Rattle.coordinate_model.specs.Polynomial.{coordinate, parameter, Polynomials, monomial, br}
use Rattle.coordinate_model.specs.Key.{key_cmp}
use Rattle.coordinate_model.specs.Evaluation.{value_in}
use Rattle.coordinate_model.specs.Placement.{Placement, value_at}
use Rattle.coordinate_model.specs.Numbers.{put_in, number_for, degree}
use Rattle.coordinate_model.specs.Weights.{left_exponents, weights_product, weight, special}

-- the bracket of the points 1 and 2, where the coordinate j of the point i is 3 * i + j * j
abbrev placed : Placement
placed (coordinate i j) = pos (3 * i + j * j)
placed (parameter k) = pos 0

value_of_two : value_at placed (br (1 ∷ 2 ∷ [])) ≡ negsuc 8
unfolding value_in word_of sum_of single plus minus times br bracket
value_of_two = refl

-- x(1, 1) * x(2, 2) - x(1, 2) * x(2, 1) with 1 for x(1, 1)
one_put_in : put_in (number_for (coordinate 1 1) (pos 1)) (br (1 ∷ 2 ∷ []))
    ≡ Polynomials.◌⊕◌ (monomial (coordinate 2 2 ∷ []))
    (Polynomials.neg (monomial (coordinate 1 2 ∷ coordinate 2 1 ∷ [])))
unfolding value_in word_of sum_of single plus minus times br bracket
one_put_in = refl

degree_of_one : degree (coordinate 1 1) (br (1 ∷ 2 ∷ [])) ≡ 1
unfolding degree word_of sum_of single plus minus times br bracket
degree_of_one = refl

degree_of_none : degree (coordinate 3 1) (br (1 ∷ 2 ∷ [])) ≡ 0
unfolding degree word_of sum_of single plus minus times br bracket
degree_of_none = refl

degree_of_square : degree (parameter 0)
    (Polynomials.◌⊕◌ (monomial (parameter 1 ∷ [])) (monomial (parameter 0 ∷ parameter 1 ∷ parameter 0 ∷ []))) ≡ 2
unfolding degree word_of sum_of single plus minus times
degree_of_square = refl

-- three objects of step 1, whose bracket is their determinant
abbrev object : ℕ → ℕ → ℕ → Coords Integers
object x y z [] = pos 0
object x y z (j ∷ js) = if j == 1 then pos x else if j == 2 then pos y else pos z

determinant : join_bracket Integers (object 1 2 3 ∷ object 4 5 6 ∷ object 7 8 10 ∷ []) ≡ negsuc 2
unfolding join
determinant = refl

-- three weights, of which the second is -3: the third is parameter 1 afterwards
left_over : left_exponents (None ∷ Some (negsuc 2) ∷ None ∷ []) (2 ∷ 3 ∷ 1 ∷ []) ≡ 2 ∷ 1 ∷ []
left_over = refl

numbers_over : weights_product (None ∷ Some (negsuc 2) ∷ None ∷ []) (2 ∷ 3 ∷ 1 ∷ []) ≡ negsuc 26
numbers_over = refl

third_weight : weight 0 (None ∷ Some (negsuc 2) ∷ None ∷ []) 2 ≡ monomial (parameter 1 ∷ [])
third_weight = refl

-- two keys that fall together: 2 * p0 p1 [12] and -1 * p0 [12] with 3 for p1
together : special (None ∷ Some (pos 3) ∷ [])
    (sum_of key_cmp ((record { exponents = 1 ∷ 1 ∷ []; rows = (1 ∷ 2 ∷ []) ∷ [] }, pos 2)
    ∷ (record { exponents = 1 ∷ 0 ∷ []; rows = (1 ∷ 2 ∷ []) ∷ [] }, negsuc 0) ∷ []))
    ≡ sum_of key_cmp ((record { exponents = 1 ∷ []; rows = (1 ∷ 2 ∷ []) ∷ [] }, pos 5) ∷ [])
unfolding special sum_of
together = refl
