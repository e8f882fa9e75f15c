-- The terms of a join with free points come to its coordinate at all columns.
use Rattle.std.proofs.Common.{◌≡◌, ℕ, ◌+◌, ◌-◌, ◌<◌, ◌≤◌, List, [], ◌∷◌, ◌++◌, map, length, refl, sym, ap, ap₂, ◌∙◌, subst, arith, All, lit≤}
use Rattle.std.proofs.lemmas.List.{length-map}
use mathlib.Core.Path.{fun_ext}
use lib.ListN.{length-append}
use Rattle.coordinate_model.specs.Ring.{of_int}
use Rattle.coordinate_model.specs.Sequences.{IsRank, columns, subsets}
use Rattle.coordinate_model.specs.Brackets.{Coords, join}
use Rattle.coordinate_model.specs.Sums.{Terms, sum_value}
use Rattle.coordinate_model.specs.Polynomial.{Polynomial, Polynomials, free_point, br}
use Rattle.coordinate_model.specs.Key.{Key, key_times, key_value, rows_key}
use Rattle.coordinate_model.specs.BracketPolynomial.{value}
use Rattle.coordinate_model.specs.ObjectLaws.{times_coords}
use Rattle.coordinate_model.specs.Starts.{Entry}
use Rattle.coordinate_model.specs.Value.{Value, HasStep, coordinates}
use Rattle.coordinate_model.proofs.Bilinear.{linear-joins}
use Rattle.coordinate_model.proofs.BracketPolynomialLaws.{br-is, row_value, value_of_terms}
use Rattle.coordinate_model.proofs.JoinLaws.{full-extensor}
use Rattle.coordinate_model.proofs.KeyProducts.{key_value-times}
use Rattle.coordinate_model.proofs.Openings.{value-is}
use Rattle.coordinate_model.proofs.PolynomialRing.{polynomial_ring}
use Rattle.coordinate_model.proofs.Ranks.{by_rank}
use Rattle.coordinate_model.proofs.RingLemmas as Ring
use Rattle.coordinate_model.proofs.Splits.{length-range_from}
use Rattle.coordinate_model.proofs.ValueLaws.{free, coordinates-none, coordinates-more, join_free}
use Rattle.bracket_terms.proofs.ExponentLaws.{add_exponents-nothing}
use Rattle.bracket_poly.proofs.KeyParts.{same_parts}
use Rattle.degeneracy_report.specs.Joined.{fresh_points, with_row, joined_terms, start_terms}
use Rattle.degeneracy_report.specs.ZeroLaws.{TermsAreJoin}

infixl 45 ◌⊕◌
infixl 55 ◌⊗◌
open Polynomials use {𝟘, 𝟙, ◌⊕◌, ◌⊗◌}

-- ---- a row more

-- the key with one row more is its product with the row
pub with_row-is : (row : List ℕ) (k : Key) → with_row row k ≡ key_times k (rows_key (row ∷ []))
with_row-is row k = same_parts (with_row row k) (key_times k (rows_key (row ∷ []))) (sym (add_exponents-nothing k.exponents)) refl

row_times : (row : List ℕ) (k : Key) → key_value (with_row row k) ≡ key_value k ⊗ br row
row_times row k =
    ap key_value (with_row-is row k) ∙ key_value-times k (rows_key (row ∷ [])) ∙ ap (λ p. key_value k ⊗ p) (row_value row)

-- the sum of the integers times the keys
abbrev total : Terms Key → Polynomial
total ts = sum_value Polynomials key_value ts

rows_times : (row : List ℕ) (ts : Terms Key) → total (map (λ t. (with_row row t.0, t.1)) ts) ≡ total ts ⊗ br row
rows_times row [] = sym (Ring.zero_mul Polynomials polynomial_ring (br row))
rows_times row (t ∷ ts) =
    ap₂ ◌⊕◌
    (ap (λ p. of_int Polynomials t.1 ⊗ p) (row_times row t.0)
    ∙ sym (polynomial_ring.mul_assoc (of_int Polynomials t.1) (key_value t.0) (br row)))
    (rows_times row ts)
    ∙ sym (Ring.add_mul Polynomials polynomial_ring (of_int Polynomials t.1 ⊗ key_value t.0) (total ts) (br row))

total-append : (ts us : Terms Key) → total (ts ++ us) ≡ total ts ⊕ total us
total-append [] us = sym (Ring.zero_add Polynomials polynomial_ring (total us))
total-append (t ∷ ts) us =
    ap (λ p. of_int Polynomials t.1 ⊗ key_value t.0 ⊕ p) (total-append ts us)
    ∙ sym (polynomial_ring.add_assoc (of_int Polynomials t.1 ⊗ key_value t.0) (total ts) (total us))

-- ---- the join, entry by entry

-- there is one set of all columns
at_all_columns : (d : ℕ) → IsRank d → (F G : Coords Polynomials) → All (λ K. F K ≡ G K) (subsets d d)
    → F (columns d) ≡ G (columns d)
at_all_columns =
    by_rank (λ d. (F G : Coords Polynomials) → All (λ K. F K ≡ G K) (subsets d d) → F (columns d) ≡ G (columns d))
    (λ F G h. h 0 [] (lit≤ tt)) (λ F G h. h 0 [] (lit≤ tt)) (λ F G h. h 0 [] (lit≤ tt))

module _ (d a : ℕ) (points : List ℕ) (rank : IsRank d) (least : 1 ≤ a) (most : a < d) (lacks : length points ≡ d - a) where
  -- the join of an extensor with the points is the bracket of both
  full : (ps : List ℕ) → length ps ≡ a → join Polynomials a (free ps) (free points) (columns d) ≡ br (ps ++ points)
  full ps l =
      at_all_columns d rank (join Polynomials a (free ps) (free points)) (free (ps ++ points))
      (subst (λ (m : ℕ). All (λ K. join Polynomials a (free ps) (free points) K ≡ free (ps ++ points) K) (subsets d m))
      (omega arith)
      (join_free d a (d - a) ps points rank (least, omega arith, omega arith) l lacks))
      ∙ whole
    where
      long : length (map free_point (ps ++ points)) ≡ d
      long = length-map (ps ++ points) free_point ∙ length-append ps points ∙ ap₂ (λ m n. m + n) l lacks ∙ omega arith

      whole : free (ps ++ points) (columns d) ≡ br (ps ++ points)
      whole =
          ap (λ m. free (ps ++ points) (columns m)) (sym long)
          ∙ full-extensor polynomial_ring (map free_point (ps ++ points)) (subst IsRank (sym long) rank)
          ∙ sym (br-is (ps ++ points))

  entry_joined : (e : Entry) → length e.0 ≡ a
      → total (joined_terms points e) ≡ value e.1 ⊗ join Polynomials a (free e.0) (free points) (columns d)
  entry_joined e l =
      rows_times (e.0 ++ points) e.1.terms ∙ ap₂ ◌⊗◌ (sym (value-is e.1)) (sym (full e.0 l))

  nothing_joined : join Polynomials a (coordinates []) (free points) (columns d) ≡ 𝟘
  nothing_joined =
      ap (λ (A : Coords Polynomials). join Polynomials a A (free points) (columns d))
      (fun_ext (λ K. coordinates-none K ∙ sym (Ring.zero_mul Polynomials polynomial_ring 𝟘)))
      ∙ (linear-joins Polynomials polynomial_ring a).left_multiple 𝟘 (λ K. 𝟘) (free points) (columns d)
      ∙ Ring.zero_mul Polynomials polynomial_ring (join Polynomials a (λ K. 𝟘) (free points) (columns d))

  terms_joined : (V : Value) → HasStep a V
      → total (start_terms points V) ≡ join Polynomials a (coordinates V) (free points) (columns d)
  terms_joined [] h = sym nothing_joined
  terms_joined (e ∷ V) h =
      total-append (joined_terms points e) (start_terms points V)
      ∙ ap₂ ◌⊕◌
      (entry_joined e h.0
      ∙ sym ((linear-joins Polynomials polynomial_ring a).left_multiple (value e.1) (free e.0) (free points) (columns d)))
      (terms_joined V h.1)
      ∙ sym ((linear-joins Polynomials polynomial_ring a).left_sum (times_coords Polynomials (value e.1) (free e.0))
      (coordinates V) (free points) (columns d))
      ∙ ap (λ (A : Coords Polynomials). join Polynomials a A (free points) (columns d))
      (fun_ext (λ K. sym (coordinates-more e V K)))

pub terms_are_join : TermsAreJoin
terms_are_join d a n V o =
    value_of_terms (start_terms (fresh_points d a n) V)
    ∙ terms_joined d a (fresh_points d a n) o.rank o.least o.most (length-range_from n (d - a)) V o.sizes
