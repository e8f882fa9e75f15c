-- Terms and uses: what is read is written again and lies within the limits, and what is written is read again.
use Rattle.std.proofs.Common.{◌≡◌, ℕ, zero, suc, ◌-◌, ◌^◌, ◌<◌, ◌≤◌, Bool, true, false, List, [], ◌∷◌, ◌++◌, length, map, replicate, drop, refl, sym, ap, subst, ◌∙◌, arith, codes, ℤ}
use Rattle.std.specs.Prelude.{decimal, ◌&&◌, slice_set}
use Rattle.std.specs.List.{list_all, AllByRecursion}
use Rattle.std.proofs.lemmas.List.{drop-set-lt}
use Rattle.std.proofs.lemmas.List.Folds.{list_all-append}
use Rattle.coordinate_model.specs.Sums.{is_zero}
use Rattle.coordinate_model.specs.Key.{Key, IsKey, IsRow}
use Rattle.bracket_poly.specs.Sizes.{KeyWithin}
use Rattle.bracket_poly.specs.Tracked.{fits}
use Rattle.step_types.specs.declared.names.Names.{Names}
use Rattle.proof_text.specs.Lines.{spaced}
use Rattle.proof_text.specs.Numbers.{is_run, is_counted, number_of}
use Rattle.proof_text.specs.Forms.{Power, Spelt, signed_word, power_word, row_word, spelt_words, AreRuns, IsRowOf, IsSpelt}
use Rattle.proof_text.specs.Meant.{is_among, place_of, points_meant, exponents_meant, term_meant, is_rising, is_ascending, is_ordered}
use Rattle.proof_text.specs.Terms.{signed_text, point_names, row_text, power_texts, term_words}
use Rattle.proof_text.specs.Kinds.{powers_named, is_named, is_numbered}
use Rattle.proof_text.specs.Told.{IsKeyTold}
use Rattle.proof_text.specs.Outcome.{AreNames}
use Rattle.proof_text.proofs.NumberLaws.{and_true}
use Rattle.proof_text.proofs.NameLaws.{AreDifferent, different_front, different_back, names_again, points_below, points_again, points_among, points_run, length-map, place_below}
use Rattle.proof_text.proofs.OrderLaws.{rising_increases, increases_rising, ascending_sorted, sorted_ascending}
use Rattle.proof_text.proofs.IntegerLaws.{text_again, integer_fits, is_below, size_of, spelt_integer, counted_is}
use Rattle.proof_text.proofs.PowerLaws.{length-meant, powers_written, powers_spelt, powers_word, powers_read}

-- what is known of the names of a text
pub record KnowsNames (names : Names) : Type 0 where
  pub few : length names.params ≤ 64
  pub points_run : AreRuns names.free
  pub params_run : AreRuns names.params
  pub points_differ : AreDifferent names.free
  pub params_differ : AreDifferent names.params

pub knows_names : (names : Names) → AreNames names.rank names → KnowsNames names
knows_names names good =
    let runs = and_true (list_all is_run names.free) (list_all is_run names.params)
    (sym (list_all-append is_run names.free names.params) ∙ good.runs) in
    record {
      few = good.few_params;
      points_run = runs.0;
      params_run = runs.1;
      points_differ = different_front names.free names.params good.different;
      params_differ = different_back names.free names.params good.different;
    }

-- ---- rows that are read

-- all names of the rows are those of points
abbrev pub are_rows_named : Names → List (List (List ℕ)) → Bool
are_rows_named names rows = list_all (λ row. list_all (is_among names.free) row) rows

abbrev pub are_rows_rising : Names → List (List (List ℕ)) → Bool
are_rows_rising names rows = list_all (λ row. is_rising (points_meant names row)) rows

row_written : (names : Names) (row : List (List ℕ)) → list_all (is_among names.free) row ≡ true
    → row_text names (points_meant names row) ≡ row_word row
row_written names row named = ap (λ ws. codes "[" ++ (spaced ws ++ codes "]")) (names_again names row named)

rows_written : (names : Names) (rows : List (List (List ℕ))) → are_rows_named names rows ≡ true
    → map (row_text names) (map (points_meant names) rows) ≡ map row_word rows
rows_written names [] named = refl
rows_written names (row ∷ rows) named =
    let both = and_true (list_all (is_among names.free) row) (are_rows_named names rows) named in
    ap (λ w. w ∷ map (row_text names) (map (points_meant names) rows)) (row_written names row both.0)
    ∙ ap (λ ws. row_word row ∷ ws) (rows_written names rows both.1)

rows_formed : (names : Names) (d : ℕ) (rows : List (List (List ℕ))) → AllByRecursion (IsRowOf d) rows
    → are_rows_rising names rows ≡ true → AllByRecursion (IsRow d) (map (points_meant names) rows)
rows_formed names d [] formed rising = tt
rows_formed names d (row ∷ rows) formed rising =
    let both = and_true (is_rising (points_meant names row)) (are_rows_rising names rows) rising in (
      (length-map (place_of names.free) row ∙ formed.0.count, rising_increases (points_meant names row) both.0),
      rows_formed names d rows formed.1 both.1,
    )

rows_below : (names : Names) (rows : List (List (List ℕ))) → are_rows_named names rows ≡ true
    → AllByRecursion (λ row. AllByRecursion (λ p. p < length names.free) row) (map (points_meant names) rows)
rows_below names [] named = tt
rows_below names (row ∷ rows) named =
    let both = and_true (list_all (is_among names.free) row) (are_rows_named names rows) named in
    (points_below names row both.0, rows_below names rows both.1)

-- ---- exponents that are read

pub all_set : (P : ℕ → Type 0) (xs : List ℕ) (i x : ℕ) → AllByRecursion P xs → P x → AllByRecursion P (slice_set xs i x)
all_set P [] i x all p = tt
all_set P (y ∷ xs) zero x all p = (p, all.1)
all_set P (y ∷ xs) (suc i) x all p = (all.0, all_set P xs i x all.1 p)

pub all_replicate : (P : ℕ → Type 0) (n : ℕ) → P 0 → AllByRecursion P (replicate n 0)
all_replicate P zero p = tt
all_replicate P (suc n) p = (p, all_replicate P n p)

zeros_drop : (n m : ℕ) → AllByRecursion {X = ℕ} (λ e. e ≡ 0) (drop n (replicate m 0))
zeros_drop zero m = all_replicate (λ e. e ≡ 0) m refl
zeros_drop (suc n) zero = tt
zeros_drop (suc n) (suc m) = zeros_drop n m

no_others : (names : Names) (powers : List Power) → powers_named names powers ≡ true
    → AllByRecursion (λ e. e ≡ 0) (drop (length names.params) (exponents_meant names powers))
no_others names [] named = zeros_drop (length names.params) 64
no_others names (power ∷ powers) named =
    let both = and_true (is_among names.params power.name) (powers_named names powers) named in
    subst (AllByRecursion (λ e. e ≡ 0))
    (sym (drop-set-lt (length names.params) (exponents_meant names powers) (place_of names.params power.name)
    (number_of power.digits) (place_below names.params power.name both.0)))
    (no_others names powers both.1)

small_exponents : (names : Names) (powers : List Power) → list_all (λ power. is_counted 1000 power.digits) powers ≡ true
    → AllByRecursion (λ e. e ≤ 1000) (exponents_meant names powers)
small_exponents names [] counted = all_replicate (λ e. e ≤ 1000) 64 (omega arith)
small_exponents names (power ∷ powers) counted =
    let both = and_true (is_counted 1000 power.digits) (list_all (λ power. is_counted 1000 power.digits) powers) counted in
    all_set (λ e. e ≤ 1000) (exponents_meant names powers) (place_of names.params power.name) (number_of power.digits)
    (small_exponents names powers both.1) (counted_is 1000 power.digits both.0).few

-- ---- terms that are read

-- the term that is meant is written so, and lies within the limits
pub record IsTermRead (names : Names) (most : ℕ) (t : Spelt (List (List ℕ))) : Type 0 where
  pub written : term_words names (term_meant names t) ≡ spelt_words row_word t
  pub key : IsKeyTold names most (term_meant names t).0
  pub small : fits (term_meant names t).1 ≡ true
  pub some : is_zero (term_meant names t).1 ≡ false

pub term_read : (names : Names) (most : ℕ) (t : Spelt (List (List ℕ))) → length names.params ≤ 64
    → IsSpelt (IsRowOf names.rank) most t → is_named names t ≡ true → is_numbered t ≡ true → is_ordered names t ≡ true
    → IsTermRead names most t
term_read names most t few formed named numbered ordered =
    let names_of = and_true (powers_named names t.powers) (are_rows_named names t.rows) named in
    let numbers = and_true (is_counted (2 ^ 127 - 1) t.digits) (list_all (λ power. is_counted 1000 power.digits) t.powers) numbered in
    let orders = and_true (are_rows_rising names t.rows && is_ascending (map (points_meant names) t.rows))
    (is_rising (map (λ power. place_of names.params power.name) t.powers)) ordered in
    let rows = and_true (are_rows_rising names t.rows) (is_ascending (map (points_meant names) t.rows)) orders.0 in
    let sizes = integer_fits t.is_negative t.digits numbers.0 in
    record {
      written =
          ap (λ w. w ∷ (power_texts names.params (exponents_meant names t.powers) ++ map (row_text names) (map (points_meant names) t.rows)))
          (text_again t.is_negative t.digits numbers.0)
          ∙ ap (λ ps. signed_word t.is_negative t.digits ∷ (ps ++ map (row_text names) (map (points_meant names) t.rows)))
          (powers_written names t.powers few names_of.0 numbers.1 orders.1)
          ∙ ap (λ rs. signed_word t.is_negative t.digits ∷ (map power_word t.powers ++ rs)) (rows_written names t.rows names_of.1);
      key = record {
        formed = record {
          parameters = length-meant names t.powers;
          each = rows_formed names names.rank t.rows formed.rows rows.0;
          ascending = ascending_sorted (map (points_meant names) t.rows) rows.1;
        };
        within = record {
          points_below = rows_below names t.rows names_of.1;
          no_others = no_others names t.powers names_of.0;
          few_rows = subst (λ n. n ≤ most) (sym (length-map (points_meant names) t.rows)) formed.few_rows;
          small = small_exponents names t.powers numbers.1;
        };
      };
      small = sizes.0;
      some = sizes.1;
    }

-- ---- terms that are written

-- how a term is spelt
abbrev pub term_spelt : Names → Key × ℤ → Spelt (List (List ℕ))
term_spelt names t = record {
  is_negative = is_below t.1;
  digits = decimal (size_of t.1);
  powers = powers_spelt names.params t.0.exponents;
  rows = map (point_names names) t.0.rows;
}

rows_word : (names : Names) (rows : List (List ℕ)) → map row_word (map (point_names names) rows) ≡ map (row_text names) rows
rows_word names [] = refl
rows_word names (row ∷ rows) = ap (λ ws. row_text names row ∷ ws) (rows_word names rows)

abbrev AreRowsBelow : Names → List (List ℕ) → Type 0
AreRowsBelow names rows = AllByRecursion (λ row. AllByRecursion (λ p. p < length names.free) row) rows

rows_again : (names : Names) (rows : List (List ℕ)) → AreDifferent names.free → AreRowsBelow names rows
    → map (points_meant names) (map (point_names names) rows) ≡ rows
rows_again names [] differ below = refl
rows_again names (row ∷ rows) differ below =
    ap (λ r. r ∷ map (points_meant names) (map (point_names names) rows)) (points_again names row differ below.0)
    ∙ ap (λ rs. row ∷ rs) (rows_again names rows differ below.1)

rows_among : (names : Names) (rows : List (List ℕ)) → AreRowsBelow names rows
    → are_rows_named names (map (point_names names) rows) ≡ true
rows_among names [] below = refl
rows_among names (row ∷ rows) below = rw (points_among names row below.0) (rows_among names rows below.1)

rows_spelt : (names : Names) (d : ℕ) (rows : List (List ℕ)) → AreRuns names.free → AreRowsBelow names rows
    → AllByRecursion (IsRow d) rows → AllByRecursion (IsRowOf d) (map (point_names names) rows)
rows_spelt names d [] runs below formed = tt
rows_spelt names d (row ∷ rows) runs below formed = (
  record { count = length-map _ row ∙ formed.0.0; each = points_run names row runs below.0 },
  rows_spelt names d rows runs below.1 formed.1,
)

rows_rise : (names : Names) (d : ℕ) (rows : List (List ℕ)) → AreDifferent names.free → AreRowsBelow names rows
    → AllByRecursion (IsRow d) rows → are_rows_rising names (map (point_names names) rows) ≡ true
rows_rise names d [] differ below formed = refl
rows_rise names d (row ∷ rows) differ below formed =
    rw (points_again names row differ below.0, increases_rising row formed.0.1)
    (rows_rise names d rows differ below.1 formed.1)

-- what is spelt so means the term, has its words and passes the tests
pub record IsTermWritten (names : Names) (most : ℕ) (t : Key × ℤ) : Type 0 where
  pub formed : IsSpelt (IsRowOf names.rank) most (term_spelt names t)
  pub means : term_meant names (term_spelt names t) ≡ t
  pub words : spelt_words row_word (term_spelt names t) ≡ term_words names t
  pub named : is_named names (term_spelt names t) ≡ true
  pub numbered : is_numbered (term_spelt names t) ≡ true
  pub ordered : is_ordered names (term_spelt names t) ≡ true

pub term_written : (names : Names) (most : ℕ) (t : Key × ℤ) → KnowsNames names → IsKey names.rank 64 t.0
    → KeyWithin (length names.free) (length names.params) most 1000 t.0 → fits t.1 ≡ true → is_zero t.1 ≡ false
    → IsTermWritten names most t
term_written names most t know formed within small some =
    let integer = spelt_integer t.1 small some in
    let powers = powers_read names [] names.params t.0.exponents refl know.params_differ know.params_run
    (omega (arith, formed.parameters)) within.no_others within.small in
    let rows = rows_again names t.0.rows know.points_differ within.points_below in
    record {
      formed = record {
        digits = integer.number;
        powers = powers.formed;
        rows = rows_spelt names names.rank t.0.rows know.points_run within.points_below formed.each;
        few_rows = subst (λ n. n ≤ most) (sym (length-map (point_names names) t.0.rows)) within.few_rows;
      };
      means =
          ap (λ c. (record { exponents = exponents_meant names (powers_spelt names.params t.0.exponents); rows = map (points_meant names) (map (point_names names) t.0.rows) }, c))
          integer.means
          ∙ ap (λ es. (record { exponents = es; rows = map (points_meant names) (map (point_names names) t.0.rows) }, t.1)) powers.means
          ∙ ap (λ rs. (record { exponents = t.0.exponents; rows = rs }, t.1)) rows;
      words =
          ap (λ w. w ∷ (map power_word (powers_spelt names.params t.0.exponents) ++ map row_word (map (point_names names) t.0.rows)))
          integer.word
          ∙ ap (λ ps. signed_text t.1 ∷ (ps ++ map row_word (map (point_names names) t.0.rows))) (powers_word names.params t.0.exponents)
          ∙ ap (λ rs. signed_text t.1 ∷ (power_texts names.params t.0.exponents ++ rs)) (rows_word names t.0.rows);
      named = rw powers.named (rows_among names t.0.rows within.points_below);
      numbered = rw integer.counted powers.counted;
      ordered =
          rw (
            rows_rise names names.rank t.0.rows know.points_differ within.points_below formed.each,
            rows,
            sorted_ascending t.0.rows formed.ascending,
          ) powers.rising;
    }
