-- The definitions at small values, by computing: signs, splits, orders, determinants, meets with every sign, syzygies,
-- and the normal forms of products of two brackets in rank 3.
use Rattle.std.specs.Prelude.{◌≡◌, ℕ, ◌+◌, ◌-◌, ◌*◌, ◌^◌, ◌<◌, ◌≤◌, ◌==◌, if◌then◌else◌, List, [], ◌∷◌, ◌++◌, map}
use Rattle.std.specs.Prelude.{ℤ, pos, negsuc, ◌+ℤ◌, ◌-ℤ◌, ◌*ℤ◌, true, false, T, length, nat_lt, IsSorted}
use Rattle.std.specs.declared.cmp.Ordering.TheVariants.{Less}
use Rattle.std.proofs.Common.{refl, zero, suc, arith}
use Rattle.std.proofs.lemmas.Bool.{ltb-true, ltb-false}
use Rattle.std.proofs.lemmas.Int.{ints}
use Rattle.std.specs.List.{AllByRecursion}
use Rattle.std.specs.List.Sorted.{IsNonDecreasing}
use Rattle.std.specs.Ordering.{is_lt}
use Rattle.coordinate_model.specs.Ring.{Integers}
use Rattle.coordinate_model.specs.Sequences.{inversions, range_from, permutations, columns, splits, subsets}
use Rattle.coordinate_model.specs.Brackets.{Point, Coords, signed, bracket, syzygy, join, join_points, extensor, meet}
use Rattle.coordinate_model.specs.Brackets.{shuffle, six_point}
use Rattle.coordinate_model.specs.Words.{word_of}
use Rattle.coordinate_model.specs.Sums.{Terms, coefficient, sum_of, single, plus, minus, times}
use Rattle.coordinate_model.specs.Polynomial.{coordinate, parameter, monomial_of, monomial_cmp, br}
use Rattle.coordinate_model.specs.Key.{Key, row_cmp, key_cmp, rows_key, column, IsRow, IsStandardKey}
use Rattle.coordinate_model.specs.BracketPolynomial.{IsNormal, parameter_of, value}
use Rattle.coordinate_model.specs.Syzygy.{sorted_bracket, syz, Use, IsUse, multiple}
use Rattle.coordinate_model.specs.Value.{Value}
use Rattle.coordinate_model.specs.Starts.{Product, join_products, meet_products, on_products, starts}
use Rattle.coordinate_model.proofs.Increasing.{increasing_next}
use Rattle.coordinate_model.proofs.KeySets.{all_sum_of}
use Rattle.coordinate_model.proofs.KeyTests.{Tableaux, terms_of, tableaux, same_at, same_value}

-- ---- sequences

orders_of_three : permutations (columns 3)
    ≡ (1 ∷ 2 ∷ 3 ∷ []) ∷ (2 ∷ 1 ∷ 3 ∷ []) ∷ (2 ∷ 3 ∷ 1 ∷ []) ∷ (1 ∷ 3 ∷ 2 ∷ []) ∷ (3 ∷ 1 ∷ 2 ∷ []) ∷
    (3 ∷ 2 ∷ 1 ∷ []) ∷ []
orders_of_three = refl

turned : inversions (3 ∷ 1 ∷ 2 ∷ []) ≡ 2
turned = refl

-- a list of places or columns, read as the digits of a number
abbrev digits_after : ℕ → List ℕ → ℕ
digits_after n [] = n
digits_after n (i ∷ is) = digits_after (10 * n + i) is

abbrev digits : List ℕ → ℕ
digits = digits_after 0

-- the splits of n places, counted from 1, into k chosen ones and the rest: the chosen ones, with sign(chosen, rest)
abbrev signs : ℕ → ℕ → List (ℕ × ℤ)
signs n k = map (λ s. (digits s.0, signed Integers (s.0 ++ s.1) (pos 1))) (splits k (range_from 1 n))

abbrev up : ℤ
up = pos 1

abbrev down : ℤ
down = negsuc 0

splits_none : map (λ n. signs n 0) (0 ∷ 1 ∷ 5 ∷ []) ≡ ((0, up) ∷ []) ∷ ((0, up) ∷ []) ∷ ((0, up) ∷ []) ∷ []
splits_none = refl

splits_2_1 : signs 2 1 ≡ (1, up) ∷ (2, down) ∷ []
splits_2_1 = refl

splits_3_1 : signs 3 1 ≡ (1, up) ∷ (2, down) ∷ (3, up) ∷ []
splits_3_1 = refl

splits_3_2 : signs 3 2 ≡ (12, up) ∷ (13, down) ∷ (23, up) ∷ []
splits_3_2 = refl

splits_4_1 : signs 4 1 ≡ (1, up) ∷ (2, down) ∷ (3, up) ∷ (4, down) ∷ []
splits_4_1 = refl

splits_4_2 : signs 4 2 ≡ (12, up) ∷ (13, down) ∷ (14, up) ∷ (23, up) ∷ (24, down) ∷ (34, up) ∷ []
splits_4_2 = refl

splits_4_3 : signs 4 3 ≡ (123, up) ∷ (124, down) ∷ (134, up) ∷ (234, down) ∷ []
splits_4_3 = refl

splits_5_1 : signs 5 1 ≡ (1, up) ∷ (2, down) ∷ (3, up) ∷ (4, down) ∷ (5, up) ∷ []
splits_5_1 = refl

splits_5_2 : signs 5 2
    ≡ (12, up) ∷ (13, down) ∷ (14, up) ∷ (15, down) ∷ (23, up) ∷ (24, down) ∷ (25, up) ∷ (34, up) ∷ (35, down) ∷
    (45, up) ∷ []
splits_5_2 = refl

splits_5_4 : signs 5 4 ≡ (1234, up) ∷ (1235, down) ∷ (1245, up) ∷ (1345, down) ∷ (2345, up) ∷ []
splits_5_4 = refl

-- ---- monomials, keys and brackets

-- a square of a lesser variable is less than a greater variable
square : monomial_cmp (monomial_of (coordinate 1 2 ∷ coordinate 1 2 ∷ [])) (monomial_of (coordinate 1 1 ∷ [])) ≡ Less
unfolding word_of
square = refl

-- coordinates stand above parameters
parameters : monomial_cmp (monomial_of (parameter 0 ∷ parameter 0 ∷ [])) (monomial_of (coordinate 9 4 ∷ [])) ≡ Less
unfolding word_of
parameters = refl

-- exponents decide before rows do
exponents_first : key_cmp record { exponents = 0 ∷ 1 ∷ []; rows = (2 ∷ 3 ∷ []) ∷ [] }
    record { exponents = 1 ∷ 0 ∷ []; rows = (1 ∷ 2 ∷ []) ∷ [] } ≡ Less
exponents_first = refl

-- a tableau with fewer rows comes first, where it is a prefix
prefix_first : key_cmp (rows_key ((1 ∷ 2 ∷ []) ∷ [])) (rows_key ((1 ∷ 2 ∷ []) ∷ (1 ∷ 3 ∷ []) ∷ [])) ≡ Less
prefix_first = refl

diagonal_of_two : coefficient (br (1 ∷ 2 ∷ [])) (monomial_of (coordinate 2 2 ∷ coordinate 1 1 ∷ [])) ≡ pos 1
unfolding word_of sum_of single plus minus times br bracket
diagonal_of_two = refl

exchanged : coefficient (br (1 ∷ 2 ∷ [])) (monomial_of (coordinate 1 2 ∷ coordinate 2 1 ∷ [])) ≡ negsuc 0
unfolding word_of sum_of single plus minus times br bracket
exchanged = refl

-- ---- determinants

-- the point with these coordinates
abbrev point : ℕ → ℕ → ℕ → Point Integers
point x y z j = if j == 1 then pos x else if j == 2 then pos y else pos z

determinant : bracket Integers (point 1 2 3 ∷ point 4 5 6 ∷ point 7 8 10 ∷ []) ≡ negsuc 2
unfolding bracket
determinant = refl

-- the point (1, t, t * t, ..), as a conic has it
abbrev at : ℕ → Point Integers
at t j = pos (t ^ (j - 1))

-- the product of the brackets of three such points each
abbrev product_at : List ℕ → List ℕ → ℤ
product_at r s = bracket Integers (map at r) *ℤ bracket Integers (map at s)

-- the points 1, .., 6 at t = 0, .., 5: [145][236] and the five tableaux of its normal form are 144 and
-- 256 - 72 - 72 + 36 - 4
six_products : product_at (0 ∷ 3 ∷ 4 ∷ []) (1 ∷ 2 ∷ 5 ∷ []) ∷ product_at (0 ∷ 2 ∷ 4 ∷ []) (1 ∷ 3 ∷ 5 ∷ [])
    ∷ product_at (0 ∷ 2 ∷ 3 ∷ []) (1 ∷ 4 ∷ 5 ∷ []) ∷ product_at (0 ∷ 1 ∷ 4 ∷ []) (2 ∷ 3 ∷ 5 ∷ [])
    ∷ product_at (0 ∷ 1 ∷ 3 ∷ []) (2 ∷ 4 ∷ 5 ∷ []) ∷ product_at (0 ∷ 1 ∷ 2 ∷ []) (3 ∷ 4 ∷ 5 ∷ []) ∷ []
    ≡ pos 144 ∷ pos 256 ∷ pos 72 ∷ pos 72 ∷ pos 36 ∷ pos 4 ∷ []
unfolding bracket
six_products = refl

-- six points of a conic
of_a_conic : six_point Integers (bracket Integers) (at 0) (at 1) (at 2) (at 3) (at 4) (at 5) ≡ pos 0
unfolding six_point bracket
of_a_conic = refl

-- ---- joins and meets

-- the coordinate at the columns that the digits name
abbrev named : List (ℕ × ℤ) → ℕ → ℤ
named [] n = pos 0
named (e ∷ es) n = if e.0 == n then e.1 else named es n

-- the object with these coordinates
abbrev object : List (ℕ × ℤ) → Coords Integers
object es K = named es (digits K)

-- rank 3, steps 2 and 2: at 1 the meet is A(12) B(13) - A(13) B(12), at 2 A(12) B(23) - A(23) B(12), and at 3
-- A(13) B(23) - A(23) B(13)
two_lines : map
    (meet Integers 3 2 2 (object ((12, pos 1) ∷ (13, pos 2) ∷ (23, pos 3) ∷ []))
    (object ((12, pos 1) ∷ (13, pos 100) ∷ (23, pos 10000) ∷ [])))
    (subsets 3 1)
    ≡ (pos 100 -ℤ pos 2) ∷ (pos 10000 -ℤ pos 3) ∷ (pos 20000 -ℤ pos 300) ∷ []
unfolding meet
two_lines = refl

-- rank 4, steps 2 and 3: at 1 the meet is A(12) B(134) - A(13) B(124) + A(14) B(123), at 2 A(12) B(234) - A(23) B(124)
-- + A(24) B(123), at 3 A(13) B(234) - A(23) B(134) + A(34) B(123), at 4 A(14) B(234) - A(24) B(134) + A(34) B(124)
line_and_plane : map
    (meet Integers 4 2 3
    (object ((12, pos 1) ∷ (13, pos 2) ∷ (14, pos 3) ∷ (23, pos 4) ∷ (24, pos 5) ∷ (34, pos 6) ∷ []))
    (object ((123, pos 1) ∷ (124, pos 100) ∷ (134, pos 10000) ∷ (234, pos 1000000) ∷ [])))
    (subsets 4 1)
    ≡ (pos 10000 -ℤ pos 200 +ℤ pos 3) ∷ (pos 1000000 -ℤ pos 400 +ℤ pos 5) ∷ (pos 2000000 -ℤ pos 40000 +ℤ pos 6) ∷
    (pos 3000000 -ℤ pos 50000 +ℤ pos 600) ∷ []
unfolding meet
line_and_plane = refl

-- rank 3, step 1 and step 2: at 123 the join is A(1) B(23) - A(2) B(13) + A(3) B(12)
point_and_line : join Integers 1 (object ((1, pos 1) ∷ (2, pos 2) ∷ (3, pos 3) ∷ []))
    (object ((12, pos 1) ∷ (13, pos 100) ∷ (23, pos 10000) ∷ [])) (1 ∷ 2 ∷ 3 ∷ [])
    ≡ pos 10000 -ℤ pos 200 +ℤ pos 3
unfolding join
point_and_line = refl

-- the line through the points of 2 and 3
line_at : map (extensor Integers (at 2 ∷ at 3 ∷ [])) (subsets 3 2) ≡ pos 1 ∷ pos 5 ∷ pos 6 ∷ []
unfolding extensor join_points join
line_at = refl

-- the meet of a line and a plane by its shuffle product: [a c e f] b - [b c e f] a is 48 * (1, 1, 1, 1) less
-- 12 * (1, 0, 0, 0)
by_shuffle : map (shuffle Integers 4 (map at (0 ∷ 1 ∷ [])) (map at (2 ∷ 3 ∷ 4 ∷ []))) (subsets 4 1)
    ≡ pos 36 ∷ pos 48 ∷ pos 48 ∷ pos 48 ∷ []
unfolding extensor join_points join shuffle bracket
by_shuffle = refl

-- ---- syzygies, their terms collected

-- the key of two rows
abbrev pair : List ℕ → List ℕ → Key
pair r s = rows_key (r ∷ s ∷ [])

-- alpha 1, beta 2 3 4 5 and gamma 6: [145][236] - [135][246] + [134][256] + [125][346] - [124][356] + [123][456]
all_terms : (syz (1 ∷ []) (2 ∷ 3 ∷ 4 ∷ 5 ∷ []) (6 ∷ [])).terms
    ≡ (pair (1 ∷ 2 ∷ 3 ∷ []) (4 ∷ 5 ∷ 6 ∷ []), pos 1) ∷ (pair (1 ∷ 2 ∷ 4 ∷ []) (3 ∷ 5 ∷ 6 ∷ []), negsuc 0)
    ∷ (pair (1 ∷ 2 ∷ 5 ∷ []) (3 ∷ 4 ∷ 6 ∷ []), pos 1) ∷ (pair (1 ∷ 3 ∷ 4 ∷ []) (2 ∷ 5 ∷ 6 ∷ []), pos 1)
    ∷ (pair (1 ∷ 3 ∷ 5 ∷ []) (2 ∷ 4 ∷ 6 ∷ []), negsuc 0) ∷ (pair (1 ∷ 4 ∷ 5 ∷ []) (2 ∷ 3 ∷ 6 ∷ []), pos 1) ∷ []
unfolding sum_of single plus minus times sorted_bracket syz syzygy
all_terms = refl

-- with one point chosen the sign is that of (τ, τ*), and not of (τ*, τ)
first_chosen : coefficient (syz [] (1 ∷ 2 ∷ 3 ∷ 4 ∷ []) (5 ∷ 6 ∷ [])) (pair (1 ∷ 5 ∷ 6 ∷ []) (2 ∷ 3 ∷ 4 ∷ [])) ≡ pos 1
unfolding sum_of single plus minus times sorted_bracket syz syzygy
first_chosen = refl

-- where a point comes twice, alpha 1, beta 2 3 4 1 and gamma 6: three terms are left
three_left : length (syz (1 ∷ []) (2 ∷ 3 ∷ 4 ∷ 1 ∷ []) (6 ∷ [])).terms ≡ 3
unfolding sum_of single plus minus times sorted_bracket syz syzygy
three_left = refl

-- a use in rank 2: 3 * t0 * [45] times [23][14] - [13][24] + [12][34]
abbrev one_use : Use
one_use =
    record {
      alpha = [];
      beta = 1 ∷ 2 ∷ 3 ∷ [];
      gamma = 4 ∷ [];
      multiplier = pos 3;
      exponents = 1 ∷ [];
      rest = (4 ∷ 5 ∷ []) ∷ [];
    }

-- it is well formed
one_use_is : IsUse 2 one_use
one_use_is =
    record {
      beta_points = refl;
      other_points = refl;
      not_zero = λ e. omega (arith, ints);
      not_least = λ e. omega (arith, ints);
      ascending = λ k d h l. absurd (omega arith);
      small = (omega arith, tt);
    }

-- a key with the parameter 0 and these rows
abbrev with_parameter : List (List ℕ) → Key
with_parameter rows = record { exponents = 1 ∷ []; rows = rows }

multiple_terms : (multiple one_use).terms
    ≡ (with_parameter ((1 ∷ 2 ∷ []) ∷ (3 ∷ 4 ∷ []) ∷ (4 ∷ 5 ∷ []) ∷ []), pos 3)
    ∷ (with_parameter ((1 ∷ 3 ∷ []) ∷ (2 ∷ 4 ∷ []) ∷ (4 ∷ 5 ∷ []) ∷ []), negsuc 2)
    ∷ (with_parameter ((1 ∷ 4 ∷ []) ∷ (2 ∷ 3 ∷ []) ∷ (4 ∷ 5 ∷ []) ∷ []), pos 3) ∷ []
unfolding sum_of single plus minus times sorted_bracket syz syzygy multiple
multiple_terms = refl

-- ---- starts

-- the value with one entry of coefficient 1 for each of these extensors
abbrev value_of : List (List ℕ) → Value
value_of xs = map (λ x. (x, single key_cmp (rows_key []))) xs

-- the starts by their terms
abbrev start_terms : List Product → List (List ℕ × Terms Key)
start_terms ps = map (λ e. (e.0, e.1.terms)) (starts ps)

-- the key of one row
abbrev one_row : List ℕ → Key
one_row r = rows_key (r ∷ [])

-- the key of these exponents
abbrev powers_key : List ℕ → Key
powers_key exponents = record { exponents = exponents; rows = [] }

-- the meet of 12 and 34 in rank 3: -[234] * 1 + [134] * 2
meet_starts : start_terms (meet_products 3 (value_of ((1 ∷ 2 ∷ []) ∷ [])) (value_of ((3 ∷ 4 ∷ []) ∷ [])))
    ≡ (1 ∷ [], (one_row (2 ∷ 3 ∷ 4 ∷ []), negsuc 0) ∷ []) ∷ (2 ∷ [], (one_row (1 ∷ 3 ∷ 4 ∷ []), pos 1) ∷ []) ∷ []
unfolding sum_of single
meet_starts = refl

-- the join of 3 + 2 and 2 + 1 in rank 3: the point 2 with itself adds nothing, and 13, 12 and 23 come with -1
join_starts : start_terms (join_products 3 (value_of ((3 ∷ []) ∷ (2 ∷ []) ∷ [])) (value_of ((2 ∷ []) ∷ (1 ∷ []) ∷ [])))
    ≡ (1 ∷ 2 ∷ [], (rows_key [], negsuc 0) ∷ []) ∷ (1 ∷ 3 ∷ [], (rows_key [], negsuc 0) ∷ [])
    ∷ (2 ∷ 3 ∷ [], (rows_key [], negsuc 0) ∷ []) ∷ []
unfolding sum_of single
join_starts = refl

-- the join of 12 and 3 + 1 in rank 3 is the bracket [123] times the extensor of no points
full_join_starts : start_terms (join_products 3 (value_of ((1 ∷ 2 ∷ []) ∷ [])) (value_of ((3 ∷ []) ∷ (1 ∷ []) ∷ [])))
    ≡ ([], (one_row (1 ∷ 2 ∷ 3 ∷ []), pos 1) ∷ []) ∷ []
unfolding sum_of single
full_join_starts = refl

-- the combination of 1 with the first of two parameters and of 2 + 1 with the second
combined_starts : start_terms
    (on_products (parameter_of 2 0) (parameter_of 2 1) (value_of ((1 ∷ []) ∷ [])) (value_of ((2 ∷ []) ∷ (1 ∷ []) ∷ [])))
    ≡ (1 ∷ [], (powers_key (0 ∷ 1 ∷ []), pos 1) ∷ (powers_key (1 ∷ 0 ∷ []), pos 1) ∷ [])
    ∷ (2 ∷ [], (powers_key (0 ∷ 1 ∷ []), pos 1) ∷ []) ∷ []
unfolding sum_of single
combined_starts = refl

-- ---- normal forms in rank 3

-- the rows of three points each
abbrev rows : (a b c x y z : ℕ) → List (List ℕ)
rows a b c x y z = (a ∷ b ∷ c ∷ []) ∷ (x ∷ y ∷ z ∷ []) ∷ []

-- the product of the brackets of the rows has this normal form
record HasNormalForm (product : List (List ℕ)) (form : Tableaux) : Type 0 where
  normal : IsNormal 3 0 (tableaux form)
  same : value (tableaux ((product, pos 1) ∷ [])) ≡ value (tableaux form)

two_rising : (x y : ℕ) → x ≤ y → IsNonDecreasing (x ∷ y ∷ [])
two_rising x y l zero zero e h k = omega arith
two_rising x y l zero (suc zero) e h k = omega arith
two_rising x y l (suc zero) (suc zero) e h k = omega arith
two_rising x y l (suc i) zero e h k = absurd (omega arith)
two_rising x y l (suc (suc i)) (suc zero) e h k = absurd (omega arith)
two_rising x y l i (suc (suc j)) e h k = absurd (omega arith)

row_of : (a b c : ℕ) → a < b → b < c → IsRow 3 (a ∷ b ∷ c ∷ [])
row_of a b c h k = (refl, increasing_next (a ∷ b ∷ c ∷ []) ((h, (omega arith, tt)), ((k, tt), (tt, tt))))

two_sorted : (r s : List ℕ) → is_lt (row_cmp s r) ≡ false → IsSorted row_cmp (r ∷ s ∷ [])
two_sorted r s e zero d h l = e
two_sorted r s e (suc k) d h l = absurd (omega arith)

-- two rows are standard where both ascend, each strictly increases, and each column weakly
standard : (a b c x y z : ℕ) → nat_lt a b ≡ true → nat_lt b c ≡ true → nat_lt x y ≡ true → nat_lt y z ≡ true
    → is_lt (row_cmp (x ∷ y ∷ z ∷ []) (a ∷ b ∷ c ∷ [])) ≡ false
    → nat_lt x a ≡ false → nat_lt y b ≡ false → nat_lt z c ≡ false → IsStandardKey 3 0 (rows_key (rows a b c x y z))
standard a b c x y z ab bc xy yz ascending ax by cz =
    record {
      key =
          record {
            parameters = refl;
            each = (
              row_of a b c (ltb-true a b ab) (ltb-true b c bc),
              (row_of x y z (ltb-true x y xy) (ltb-true y z yz), tt),
            );
            ascending = two_sorted (a ∷ b ∷ c ∷ []) (x ∷ y ∷ z ∷ []) ascending;
          };
      columns = each_column;
    }
  where
    each_column : (j : ℕ) → j < 3 → IsNonDecreasing (column j (rows a b c x y z))
    each_column zero l = two_rising a x (ltb-false x a ax)
    each_column (suc zero) l = two_rising b y (ltb-false y b by)
    each_column (suc (suc zero)) l = two_rising c z (ltb-false z c cz)
    each_column (suc (suc (suc j))) l = absurd (omega arith)

s_125_346 : IsStandardKey 3 0 (rows_key (rows 1 2 5 3 4 6))
s_125_346 = standard 1 2 5 3 4 6 refl refl refl refl refl refl refl refl

s_124_356 : IsStandardKey 3 0 (rows_key (rows 1 2 4 3 5 6))
s_124_356 = standard 1 2 4 3 5 6 refl refl refl refl refl refl refl refl

s_123_456 : IsStandardKey 3 0 (rows_key (rows 1 2 3 4 5 6))
s_123_456 = standard 1 2 3 4 5 6 refl refl refl refl refl refl refl refl

s_135_246 : IsStandardKey 3 0 (rows_key (rows 1 3 5 2 4 6))
s_135_246 = standard 1 3 5 2 4 6 refl refl refl refl refl refl refl refl

s_134_256 : IsStandardKey 3 0 (rows_key (rows 1 3 4 2 5 6))
s_134_256 = standard 1 3 4 2 5 6 refl refl refl refl refl refl refl refl

s_124_135 : IsStandardKey 3 0 (rows_key (rows 1 2 4 1 3 5))
s_124_135 = standard 1 2 4 1 3 5 refl refl refl refl refl refl refl refl

s_123_145 : IsStandardKey 3 0 (rows_key (rows 1 2 3 1 4 5))
s_123_145 = standard 1 2 3 1 4 5 refl refl refl refl refl refl refl refl

-- [145][236] is not standard: its first column rises from 1 to 2, and its second falls from 4 to 3
not_standard : IsStandardKey 3 0 (rows_key (rows 1 4 5 2 3 6)) → ⊥
not_standard h = let falls : 4 ≤ 3 = h.columns 1 (omega arith) 0 1 0 (omega arith) (omega arith) in omega arith

-- a normal form is one where its keys are standard and the test at generic points holds
has_form : (product : List (List ℕ)) (form : Tableaux) → AllByRecursion (λ t. IsStandardKey 3 0 t.0) (terms_of form)
    → T (same_at ((product, pos 1) ∷ []) form) → HasNormalForm product form
has_form product form h t =
    record {
      normal = all_sum_of (IsStandardKey 3 0) (terms_of form) h;
      same = same_value ((product, pos 1) ∷ []) form t;
    }

-- [126][345] = [125][346] - [124][356] + [123][456]
form_126_345 : HasNormalForm (rows 1 2 6 3 4 5)
    ((rows 1 2 5 3 4 6, pos 1) ∷ (rows 1 2 4 3 5 6, negsuc 0) ∷ (rows 1 2 3 4 5 6, pos 1) ∷ [])
unfolding bracket
form_126_345 = has_form _ _ (s_125_346, (s_124_356, (s_123_456, tt))) tt

-- [136][245] = [135][246] - [134][256] - [123][456]
form_136_245 : HasNormalForm (rows 1 3 6 2 4 5)
    ((rows 1 3 5 2 4 6, pos 1) ∷ (rows 1 3 4 2 5 6, negsuc 0) ∷ (rows 1 2 3 4 5 6, negsuc 0) ∷ [])
unfolding bracket
form_136_245 = has_form _ _ (s_135_246, (s_134_256, (s_123_456, tt))) tt

-- [145][236] = [135][246] - [134][256] - [125][346] + [124][356] - [123][456]
form_145_236 : HasNormalForm (rows 1 4 5 2 3 6)
    ((rows 1 3 5 2 4 6, pos 1) ∷ (rows 1 3 4 2 5 6, negsuc 0) ∷ (rows 1 2 5 3 4 6, negsuc 0)
    ∷ (rows 1 2 4 3 5 6, pos 1) ∷ (rows 1 2 3 4 5 6, negsuc 0) ∷ [])
unfolding bracket
form_145_236 = has_form _ _ (s_135_246, (s_134_256, (s_125_346, (s_124_356, (s_123_456, tt))))) tt

-- [156][234] = [134][256] - [124][356] + [123][456]
form_156_234 : HasNormalForm (rows 1 5 6 2 3 4)
    ((rows 1 3 4 2 5 6, pos 1) ∷ (rows 1 2 4 3 5 6, negsuc 0) ∷ (rows 1 2 3 4 5 6, pos 1) ∷ [])
unfolding bracket
form_156_234 = has_form _ _ (s_134_256, (s_124_356, (s_123_456, tt))) tt

-- [125][134] = [124][135] - [123][145]
form_125_134 : HasNormalForm (rows 1 2 5 1 3 4) ((rows 1 2 4 1 3 5, pos 1) ∷ (rows 1 2 3 1 4 5, negsuc 0) ∷ [])
unfolding bracket
form_125_134 = has_form _ _ (s_124_135, (s_123_145, tt)) tt
