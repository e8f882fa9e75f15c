-- The laws of brackets of free points, and values of bracket polynomials: of sums, of products and of syzygies.
use Rattle.std.proofs.Common.{◌≡◌, ℕ, zero, suc, ◌+◌, ◌<◌, true, false, Bool, cond, List, [], ◌∷◌, map, length, replicate}
use Rattle.std.proofs.Common.{slice_set, add-zero, zero-add, refl, sym, ap, ap₂}
use Rattle.std.proofs.Common.{◌∙◌, subst, arith, nat_cmp}
use Rattle.std.proofs.lemmas.List.{length-map}
use Rattle.coordinate_model.specs.Ring.{IsHom}
use Rattle.coordinate_model.specs.Sequences.{repeats, IsRank}
use Rattle.coordinate_model.specs.Brackets.{bracket, signed, syzygy}
use Rattle.coordinate_model.specs.Words.{ordered}
use Rattle.coordinate_model.specs.Sums.{Terms, single, sum_of, sum_value}
use Rattle.coordinate_model.specs.Polynomial.{Polynomials, parameter, monomial, free_point, br}
use Rattle.coordinate_model.specs.Key.{Key, key_cmp, key_value, key_times, rows_key, powers}
use Rattle.coordinate_model.specs.BracketPolynomial.{KeySums, BracketPolynomial, value}
use Rattle.coordinate_model.specs.Syzygy.{sorted_bracket, syz, use_term, multiple, AreSizes}
use Rattle.coordinate_model.specs.SyzygyLaws.{SortedBracket, ValueOfSorted, SyzygyOfFreePoints, ValueOfSyzygy}
use Rattle.coordinate_model.specs.SyzygyLaws.{ValueOfMultiple}
use Rattle.coordinate_model.specs.NormalLaws.{ValueOfSum, ValueOfProduct}
use Rattle.coordinate_model.specs.StartLaws.{ValueOfParameter}
use Rattle.coordinate_model.proofs.RingLemmas as L
use Rattle.coordinate_model.proofs.Hom.{syzygy-hom, signed-hom}
use Rattle.coordinate_model.proofs.BracketLaws.{syzygy-law}
use Rattle.coordinate_model.proofs.Alternating.{bracket-sorted, bracket-repeats}
use Rattle.coordinate_model.proofs.SumLemmas.{value-sum_of}
use Rattle.coordinate_model.proofs.SumRing.{sum_hom, value-single}
use Rattle.coordinate_model.proofs.PolynomialRing.{polynomial_ring, monomial-none}
use Rattle.coordinate_model.proofs.KeyProducts.{key_value-times, key_total, key_same}

-- the bracket of free points, as it is defined
pub br-is : (ps : List ℕ) → br ps ≡ bracket Polynomials (map free_point ps)
unfolding br
br-is ps = refl

-- ---- brackets

pub sorted_bracket_law : SortedBracket
unfolding br
sorted_bracket_law ps r = bracket-sorted Polynomials polynomial_ring free_point ps r

pub repeated_point : (ps : List ℕ) → IsRank (length ps) → repeats ps ≡ true → br ps ≡ Polynomials.𝟘
unfolding br
repeated_point ps r h = bracket-repeats Polynomials polynomial_ring free_point ps r h

-- ---- values

-- the value of the key without rows, and of one row
pub unit_value : key_value (rows_key []) ≡ Polynomials.𝟙
unfolding key_value
unit_value = ap (λ c. Polynomials.◌⊗◌ c Polynomials.𝟙) monomial-none ∙ polynomial_ring.mul_one Polynomials.𝟙

pub row_value : (r : List ℕ) → key_value (rows_key (r ∷ [])) ≡ br r
unfolding key_value
row_value r =
    ap₂ Polynomials.◌⊗◌ monomial-none (polynomial_ring.mul_one (br r)) ∙ L.one_mul Polynomials polynomial_ring (br r)

-- the value keeps the operations
pub value-hom : IsHom KeySums Polynomials value
unfolding value
value-hom =
    sum_hom key_cmp key_total key_same key_times
    (rows_key []) Polynomials polynomial_ring key_value unit_value key_value-times

pub value_of_sum : ValueOfSum
value_of_sum = value-hom.to_add

pub value_of_product : ValueOfProduct
value_of_product = value-hom.to_mul

-- the value of a key, once
pub value_of_single : (k : Key) → value (single key_cmp k) ≡ key_value k
unfolding value
value_of_single = value-single key_cmp key_total key_same Polynomials polynomial_ring key_value

-- the value of no term, and of 1 as a polynomial of n parameters
pub value_of_none : (f : BracketPolynomial) → f.terms ≡ [] → value f ≡ Polynomials.𝟘
unfolding value
value_of_none f e = ap (sum_value Polynomials key_value) e

powers-none : (i n : ℕ) → powers i (replicate n 0) ≡ []
powers-none i zero = refl
powers-none i (suc n) = powers-none (suc i) n

pub value_of_one : (n : ℕ) → value (single key_cmp (record { exponents = replicate n 0; rows = [] })) ≡ Polynomials.𝟙
unfolding key_value
value_of_one n =
    value_of_single (record { exponents = replicate n 0; rows = [] })
    ∙ ap (λ vs. Polynomials.◌⊗◌ (monomial vs) Polynomials.𝟙) (powers-none 0 n) ∙ unit_value

-- the value of a parameter
powers-one : (i n j : ℕ) → j < n → powers i (slice_set (replicate n 0) j 1) ≡ parameter (i + j) ∷ []
powers-one i zero j h = absurd (omega arith)
powers-one i (suc n) zero h =
    ap₂ (λ k vs. parameter k ∷ vs) (sym (add-zero i)) (powers-none (suc i) n)
powers-one i (suc n) (suc j) h =
    powers-one (suc i) n j (omega arith) ∙ ap (λ k. parameter k ∷ []) later
  where
    later : suc i + j ≡ i + suc j
    later = omega arith

pub value_of_parameter : ValueOfParameter
unfolding key_value
value_of_parameter n i h =
    value_of_single (record { exponents = slice_set (replicate n 0) i 1; rows = [] })
    ∙ polynomial_ring.mul_one (monomial (powers 0 (slice_set (replicate n 0) i 1)))
    ∙ ap monomial (powers-one 0 n i h ∙ ap (λ k. parameter k ∷ []) (zero-add i))

-- the value of a list of terms, in any order and number
pub value_of_terms : (ts : Terms Key) → value (sum_of key_cmp ts) ≡ sum_value Polynomials key_value ts
unfolding value
value_of_terms = value-sum_of Polynomials polynomial_ring key_value key_cmp key_total key_same

-- ---- syzygies

-- the value of a sorted bracket is the bracket
pub value_of_sorted : ValueOfSorted
unfolding sorted_bracket
value_of_sorted ps r = step (repeats ps) refl
  where
    step : (b : Bool) → repeats ps ≡ b
        → value (cond b KeySums.𝟘 (signed KeySums ps (single key_cmp (rows_key (ordered nat_cmp ps ∷ []))))) ≡ br ps
    step true h = value-hom.to_zero ∙ sym (repeated_point ps r h)
    step false h =
        signed-hom KeySums Polynomials value-hom ps
        (value_of_single (rows_key (ordered nat_cmp ps ∷ [])) ∙ row_value (ordered nat_cmp ps))
        ∙ sym (sorted_bracket_law ps r)

-- polynomials as they are
pub identity : IsHom Polynomials Polynomials (λ f. f)
identity = record { to_zero = refl; to_one = refl; to_add = λ f g. refl; to_mul = λ f g. refl; to_neg = λ f. refl }

-- the sizes of other lists as long
sizes-map : {P Q : Type 0} (f : P → Q) (d : ℕ) (α β γ : List P) → AreSizes d α β γ
    → AreSizes d (map f α) (map f β) (map f γ)
sizes-map f d α β γ s = record {
  rank = s.rank;
  beta = length-map β f ∙ s.beta;
  others = ap₂ (λ k l. k + l + 1) (length-map α f) (length-map γ f) ∙ s.others;
}

-- for brackets whose values are the brackets of free points
module _ (d : ℕ) (α β γ : List ℕ) (s : AreSizes d α β γ) where
  at_free_points : syzygy Polynomials (bracket Polynomials) (map free_point α) (map free_point β) (map free_point γ)
      ≡ Polynomials.𝟘
  at_free_points =
      syzygy-law polynomial_ring d (map free_point α) (map free_point β) (map free_point γ)
      (sizes-map free_point d α β γ s)

  free_syzygy : syzygy Polynomials br α β γ ≡ Polynomials.𝟘
  free_syzygy =
      syzygy-hom Polynomials Polynomials identity free_point br (bracket Polynomials) d
      (λ ps l. br-is ps) α β γ s.beta s.others
      ∙ at_free_points

  value_syz : value (syz α β γ) ≡ Polynomials.𝟘
  unfolding syz
  value_syz =
      syzygy-hom KeySums Polynomials value-hom free_point sorted_bracket (bracket Polynomials) d
      (λ ps l. value_of_sorted ps (subst IsRank (sym l) s.rank) ∙ br-is ps) α β γ s.beta s.others
      ∙ at_free_points

pub syzygy_of_free_points : SyzygyOfFreePoints
syzygy_of_free_points = free_syzygy

pub value_of_syzygy : ValueOfSyzygy
value_of_syzygy = value_syz

pub value_of_multiple : ValueOfMultiple
unfolding multiple
value_of_multiple d u r h =
    value-hom.to_mul (use_term u) (syz u.alpha u.beta u.gamma)
    ∙ ap (Polynomials.◌⊗◌ (value (use_term u)))
    (value_of_syzygy d u.alpha u.beta u.gamma record { rank = r; beta = h.beta_points; others = h.other_points })
    ∙ L.mul_zero Polynomials polynomial_ring (value (use_term u))
