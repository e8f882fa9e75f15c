-- Passes at small values, by computing.
use Rattle.std.specs.Prelude.{◌≡◌, [], ◌∷◌, pos, negsuc, Some, None}
use Rattle.std.proofs.Common.{refl}
use Rattle.coordinate_model.specs.Brackets.{syzygy}
use Rattle.coordinate_model.specs.Sums.{sum_of, single, plus, minus, times}
use Rattle.coordinate_model.specs.Key.{key_cmp, rows_key}
use Rattle.coordinate_model.specs.BracketPolynomial.{BracketPolynomial, add}
use Rattle.coordinate_model.specs.Syzygy.{Use, multiple, syz, sorted_bracket}
use Rattle.contraction.specs.Passes.{pass, contraction}

-- +[1 3 4][2 3 5] - [1 3 5][2 3 4]
abbrev given : BracketPolynomial
given =
    sum_of key_cmp
    ((rows_key ((1 ∷ 3 ∷ 4 ∷ []) ∷ (2 ∷ 3 ∷ 5 ∷ []) ∷ []), pos 1) ∷
    (rows_key ((1 ∷ 3 ∷ 5 ∷ []) ∷ (2 ∷ 3 ∷ 4 ∷ []) ∷ []), negsuc 0) ∷ [])

abbrev made : Use
made = record {
  alpha = [];
  beta = 3 ∷ 2 ∷ 4 ∷ 5 ∷ [];
  gamma = 3 ∷ 1 ∷ [];
  multiplier = negsuc 0;
  exponents = [];
  rest = [];
}

its_pass : pass given ≡ Some made
unfolding sum_of syz syzygy sorted_bracket single plus minus times
its_pass = refl

-- it turns both terms into +[1 2 3][3 4 5]
one_left : (add given (multiple made)).terms ≡ (rows_key ((1 ∷ 2 ∷ 3 ∷ []) ∷ (3 ∷ 4 ∷ 5 ∷ []) ∷ []), pos 1) ∷ []
unfolding sum_of syz syzygy sorted_bracket single plus minus times multiple
one_left = refl

-- with the other sign it would not cancel both: there is no pass
no_pass :
    pass
    (sum_of key_cmp
    ((rows_key ((1 ∷ 3 ∷ 4 ∷ []) ∷ (2 ∷ 3 ∷ 5 ∷ []) ∷ []), pos 1) ∷
    (rows_key ((1 ∷ 3 ∷ 5 ∷ []) ∷ (2 ∷ 3 ∷ 4 ∷ []) ∷ []), pos 1) ∷ []))
    ≡ None
unfolding sum_of syz syzygy sorted_bracket single plus minus times
no_pass = refl

-- nor is there one of -[1 3 6][2 4 5] + [1 4 5][2 3 6], whose rows share no point
none_shared :
    pass
    (sum_of key_cmp
    ((rows_key ((1 ∷ 3 ∷ 6 ∷ []) ∷ (2 ∷ 4 ∷ 5 ∷ []) ∷ []), negsuc 0) ∷
    (rows_key ((1 ∷ 4 ∷ 5 ∷ []) ∷ (2 ∷ 3 ∷ 6 ∷ []) ∷ []), pos 1) ∷ []))
    ≡ None
unfolding sum_of syz syzygy sorted_bracket single plus minus times
none_shared = refl

-- with a row in common, which comes twice in the first term
abbrev with_rest : BracketPolynomial
with_rest =
    sum_of key_cmp
    ((record { exponents = 2 ∷ []; rows = (1 ∷ 3 ∷ 4 ∷ []) ∷ (1 ∷ 3 ∷ 4 ∷ []) ∷ (2 ∷ 3 ∷ 5 ∷ []) ∷ [] }, pos 2) ∷
    (record { exponents = 2 ∷ []; rows = (1 ∷ 3 ∷ 4 ∷ []) ∷ (1 ∷ 3 ∷ 5 ∷ []) ∷ (2 ∷ 3 ∷ 4 ∷ []) ∷ [] }, negsuc 1) ∷ [])

its_rest : pass with_rest
    ≡ Some (record made { multiplier = negsuc 1; exponents = 2 ∷ []; rest = (1 ∷ 3 ∷ 4 ∷ []) ∷ [] })
unfolding sum_of syz syzygy sorted_bracket single plus minus times
its_rest = refl

-- the whole run of passes
one_pass : (contraction (record { sum = given; met = [] })).uses ≡ made ∷ []
unfolding contraction sum_of syz syzygy sorted_bracket single plus minus times
one_pass = refl
