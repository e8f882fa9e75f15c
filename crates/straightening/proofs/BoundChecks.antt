-- The keys that a run may turn, by computing: of -[1 3 6][2 4 5] + [1 4 5][2 3 6], whose terms have one class. Of its ten
-- keys five are standard.
use Rattle.std.specs.Prelude.{◌≡◌, ◌&&◌, not, [], ◌∷◌, map, filter, length, pos, negsuc}
use Rattle.std.proofs.Common.{refl}
use Rattle.std.specs.List.{list_all}
use Rattle.coordinate_model.specs.Sequences.{range_from, repeats}
use Rattle.coordinate_model.specs.Sums.{sum_of}
use Rattle.coordinate_model.specs.Words.{is_ascending}
use Rattle.coordinate_model.specs.Key.{key_cmp, row_cmp, rows_key}
use Rattle.coordinate_model.specs.BracketPolynomial.{BracketPolynomial}
use Rattle.straightening.specs.Bounds.{row_lists, turnable_keys}

abbrev given : BracketPolynomial
given =
    sum_of key_cmp
    ((rows_key ((1 ∷ 3 ∷ 6 ∷ []) ∷ (2 ∷ 4 ∷ 5 ∷ []) ∷ []), negsuc 0) ∷
    (rows_key ((1 ∷ 4 ∷ 5 ∷ []) ∷ (2 ∷ 3 ∷ 6 ∷ []) ∷ []), pos 1) ∷ [])

-- all keys of the class
ten_keys : length
    (filter (λ rows. list_all (λ r. not (repeats r)) rows && is_ascending row_cmp rows) (row_lists 3 2 (range_from 1 6)))
    ≡ 10
ten_keys = refl

-- those that are not standard
five_turnable : map (λ k. k.rows) (turnable_keys 3 given)
    ≡ ((1 ∷ 2 ∷ 6 ∷ []) ∷ (3 ∷ 4 ∷ 5 ∷ []) ∷ []) ∷ ((1 ∷ 3 ∷ 6 ∷ []) ∷ (2 ∷ 4 ∷ 5 ∷ []) ∷ []) ∷
    ((1 ∷ 4 ∷ 5 ∷ []) ∷ (2 ∷ 3 ∷ 6 ∷ []) ∷ []) ∷ ((1 ∷ 4 ∷ 6 ∷ []) ∷ (2 ∷ 3 ∷ 5 ∷ []) ∷ []) ∷
    ((1 ∷ 5 ∷ 6 ∷ []) ∷ (2 ∷ 3 ∷ 4 ∷ []) ∷ []) ∷ []
unfolding sum_of
five_turnable = refl

-- with points that come twice, of [1 2 5][1 3 4]: one of the two tableaux of its other rows is standard
abbrev twice : BracketPolynomial
twice = sum_of key_cmp ((rows_key ((1 ∷ 2 ∷ 5 ∷ []) ∷ (1 ∷ 3 ∷ 4 ∷ []) ∷ []), pos 1) ∷ [])

one_turnable : map (λ k. k.rows) (turnable_keys 3 twice) ≡ ((1 ∷ 2 ∷ 5 ∷ []) ∷ (1 ∷ 3 ∷ 4 ∷ []) ∷ []) ∷ []
unfolding sum_of
one_turnable = refl
