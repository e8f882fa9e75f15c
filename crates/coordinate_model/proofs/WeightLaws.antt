-- Bracket polynomials with numbers put in for some of their parameters: their values, and that they stay normal.
use Rattle.std.proofs.Common.{◌≡◌, ℕ, zero, suc, ◌+◌, ℤ, pos, ◌*ℤ◌, None, Some, List, [], ◌∷◌, map, length}
use Rattle.std.proofs.Common.{replicate, count_by, is_none, refl, sym, ap, ap₂, ◌∙◌, arith}
use Rattle.std.proofs.lemmas.Simd.{map-map}
use Rattle.std.specs.List.{AllByRecursion}
use Rattle.coordinate_model.specs.Ring.{IsHom, of_int}
use Rattle.coordinate_model.specs.Brackets.{bracket}
use Rattle.coordinate_model.specs.Words.{product_of}
use Rattle.coordinate_model.specs.Sums.{Terms, sum_value}
use Rattle.coordinate_model.specs.Polynomial.{Variable, variable_cmp, coordinate, parameter, monomial_of, monomial}
use Rattle.coordinate_model.specs.Polynomial.{Polynomial, Polynomials, free_point, br}
use Rattle.coordinate_model.specs.Key.{Key, powers, brackets, key_value, IsStandardKey}
use Rattle.coordinate_model.specs.BracketPolynomial.{value}
use Rattle.coordinate_model.specs.Weights.{Weights, power, left_exponents, weights_product, left_key, special, weight}
use Rattle.coordinate_model.specs.Weights.{weighted, put_weights, ValueOfSpecial, SpecialIsNormal}
use Rattle.coordinate_model.proofs.RingLemmas as Ring
use Rattle.coordinate_model.proofs.RingIntegers as Ints
use Rattle.coordinate_model.proofs.Counts.{many}
use Rattle.coordinate_model.proofs.Sorting.{count-many}
use Rattle.coordinate_model.proofs.KeySets.{AllTerms, all_sum_of}
use Rattle.coordinate_model.proofs.WordLemmas.{letters-word_of, value-ordered, value-append}
use Rattle.coordinate_model.proofs.BracketPolynomialLaws.{value_of_terms}
use Rattle.coordinate_model.proofs.Hom.{bracket-hom, sum_value-hom}
use Rattle.coordinate_model.proofs.PolynomialRing.{variable_total, polynomial_ring, monomial-append, monomial-none}
use Rattle.coordinate_model.proofs.PolynomialRing.{value_in-operations, value_in-single, value_in-variable}

infixl 55 ◌⊗◌
open Polynomials use {𝟙, ◌⊗◌}

-- ---- powers of parameters

-- 1 as an integer times the monomial without letters
none_left : 𝟙 ≡ of_int Polynomials (pos 1) ⊗ monomial []
none_left = sym (ap₂ ◌⊗◌ (polynomial_ring.add_zero 𝟙) monomial-none ∙ polynomial_ring.mul_one 𝟙)

module _ (g : Variable → Polynomial) where
  number-times : (v : Variable) (z : ℤ) → g v ≡ of_int Polynomials z → (e : ℕ)
      → product_of Polynomials g (replicate e v) ≡ of_int Polynomials (power z e)
  number-times v z h zero = sym (polynomial_ring.add_zero 𝟙)
  number-times v z h (suc e) =
      ap₂ ◌⊗◌ h (number-times v z h e) ∙ sym (Ints.of_int-mul Polynomials polynomial_ring z (power z e))

  variable-times : (v w : Variable) → g v ≡ monomial (w ∷ []) → (e : ℕ)
      → product_of Polynomials g (replicate e v) ≡ monomial (replicate e w)
  variable-times v w h zero = sym monomial-none
  variable-times v w h (suc e) =
      ap₂ ◌⊗◌ h (variable-times v w h e) ∙ sym (monomial-append (w ∷ []) (replicate e w))

  split_powers : (s e : ℕ) (es : List ℕ) → product_of Polynomials g (powers s (e ∷ es))
      ≡ product_of Polynomials g (replicate e (parameter s)) ⊗ product_of Polynomials g (powers (suc s) es)
  split_powers s e es =
      value-append variable_cmp Polynomials polynomial_ring g (replicate e (parameter s)) (powers (suc s) es)

  later : (s : ℕ) (to : ℕ → Polynomial) → ((k : ℕ) → g (parameter (s + k)) ≡ to k) → (k : ℕ)
      → g (parameter (suc s + k)) ≡ to (suc k)
  later s to h k = ap (λ n. g (parameter n)) (turn s k) ∙ h (suc k)
    where
      turn : (s k : ℕ) → suc s + k ≡ s + suc k
      turn s k = omega arith

  first_one : (s : ℕ) (to : ℕ → Polynomial) → ((k : ℕ) → g (parameter (s + k)) ≡ to k) → g (parameter s) ≡ to 0
  first_one s to h = ap (λ n. g (parameter n)) (turn s) ∙ h 0
    where
      turn : (s : ℕ) → s ≡ s + 0
      turn s = omega arith

  kept_power : (i s e : ℕ) (es fs : List ℕ) (c : ℤ) → g (parameter s) ≡ monomial (parameter i ∷ [])
      → product_of Polynomials g (powers (suc s) es) ≡ of_int Polynomials c ⊗ monomial (powers (suc i) fs)
      → product_of Polynomials g (powers s (e ∷ es)) ≡ of_int Polynomials c ⊗ monomial (powers i (e ∷ fs))
  kept_power i s e es fs c h r =
      split_powers s e es ∙ ap₂ ◌⊗◌ (variable-times (parameter s) (parameter i) h e) r
      ∙ Ring.mul_left_comm Polynomials polynomial_ring (monomial (replicate e (parameter i))) (of_int Polynomials c)
      (monomial (powers (suc i) fs))
      ∙ ap (◌⊗◌ (of_int Polynomials c)) (sym (monomial-append (replicate e (parameter i)) (powers (suc i) fs)))

  all_kept : (i s : ℕ) (es : List ℕ) → ((k : ℕ) → g (parameter (s + k)) ≡ monomial (parameter (i + k) ∷ []))
      → product_of Polynomials g (powers s es) ≡ of_int Polynomials (pos 1) ⊗ monomial (powers i es)
  all_kept i s [] h = none_left
  all_kept i s (e ∷ es) h =
      kept_power i s e es es (pos 1)
      (first_one s (λ k. monomial (parameter (i + k) ∷ [])) h ∙ ap (λ n. monomial (parameter n ∷ [])) (nothing i))
      (all_kept (suc i) (suc s) es
      (λ k. later s (λ k. monomial (parameter (i + k) ∷ [])) h k ∙ ap (λ n. monomial (parameter n ∷ [])) (turn i k)))
    where
      nothing : (i : ℕ) → i + 0 ≡ i
      nothing i = omega arith

      turn : (i k : ℕ) → i + suc k ≡ suc i + k
      turn i k = omega arith

  weighted_powers : (i s : ℕ) (ws : Weights) (es : List ℕ) → ((k : ℕ) → g (parameter (s + k)) ≡ weight i ws k)
      → product_of Polynomials g (powers s es)
      ≡ of_int Polynomials (weights_product ws es) ⊗ monomial (powers i (left_exponents ws es))
  weighted_powers i s [] es h = all_kept i s es h
  weighted_powers i s (w ∷ ws) [] h = none_left
  weighted_powers i s (None ∷ ws) (e ∷ es) h =
      kept_power i s e es (left_exponents ws es) (weights_product ws es) (first_one s (weight i (None ∷ ws)) h)
      (weighted_powers (suc i) (suc s) ws es (later s (weight i (None ∷ ws)) h))
  weighted_powers i s (Some z ∷ ws) (e ∷ es) h =
      split_powers s e es
      ∙ ap₂ ◌⊗◌ (number-times (parameter s) z (first_one s (weight i (Some z ∷ ws)) h) e)
      (weighted_powers i (suc s) ws es (later s (weight i (Some z ∷ ws)) h))
      ∙ sym (polynomial_ring.mul_assoc (of_int Polynomials (power z e)) (of_int Polynomials (weights_product ws es))
      (monomial (powers i (left_exponents ws es))))
      ∙ ap (λ c. c ⊗ monomial (powers i (left_exponents ws es)))
      (sym (Ints.of_int-mul Polynomials polynomial_ring (power z e) (weights_product ws es)))

-- ---- keys and polynomials

module _ (ws : Weights) where
  keeps : IsHom Polynomials Polynomials (put_weights ws)
  keeps = value_in-operations Polynomials polynomial_ring (weighted ws)

  of_monomial : (vs : List Variable) → put_weights ws (monomial vs) ≡ product_of Polynomials (weighted ws) vs
  of_monomial vs =
      value_in-single Polynomials polynomial_ring (weighted ws) (monomial_of vs)
      ∙ ap (product_of Polynomials (weighted ws)) (letters-word_of variable_cmp variable_total vs)
      ∙ value-ordered variable_cmp Polynomials polynomial_ring (weighted ws) vs

  of_bracket : (r : List ℕ) → put_weights ws (br r) ≡ br r
  unfolding br
  of_bracket r =
      bracket-hom Polynomials Polynomials keeps (map free_point r)
      ∙ ap (bracket Polynomials) (map-map _ free_point r
      ∙ ap (λ f. map f r)
      (λ k i j. value_in-variable Polynomials polynomial_ring (weighted ws) (coordinate i j) k))

  of_brackets : (rows : List (List ℕ)) → put_weights ws (brackets rows) ≡ brackets rows
  of_brackets [] = keeps.to_one
  of_brackets (r ∷ rows) = keeps.to_mul (br r) (brackets rows) ∙ ap₂ ◌⊗◌ (of_bracket r) (of_brackets rows)

  of_key : (k : Key) → put_weights ws (key_value k)
      ≡ of_int Polynomials (weights_product ws k.exponents) ⊗ key_value (left_key ws k)
  unfolding key_value
  of_key k =
      keeps.to_mul (monomial (powers 0 k.exponents)) (brackets k.rows)
      ∙ ap₂ ◌⊗◌ (of_monomial (powers 0 k.exponents) ∙ weighted_powers (weighted ws) 0 0 ws k.exponents
      (λ i. ap (weight 0 ws) (nothing i)))
      (of_brackets k.rows)
      ∙ polynomial_ring.mul_assoc (of_int Polynomials (weights_product ws k.exponents))
      (monomial (powers 0 (left_exponents ws k.exponents))) (brackets k.rows)
    where
      nothing : (i : ℕ) → 0 + i ≡ i
      nothing i = omega arith

  by_terms : (ts : Terms Key)
      → sum_value Polynomials key_value (map (λ t. (left_key ws t.0, t.1 *ℤ weights_product ws t.0.exponents)) ts)
      ≡ sum_value Polynomials
      (λ k. of_int Polynomials (weights_product ws k.exponents) ⊗ key_value (left_key ws k)) ts
  by_terms [] = refl
  by_terms (t ∷ ts) =
      ap₂ Polynomials.◌⊕◌
      (ap (λ c. c ⊗ key_value (left_key ws t.0))
      (Ints.of_int-mul Polynomials polynomial_ring t.1 (weights_product ws t.0.exponents))
      ∙ polynomial_ring.mul_assoc (of_int Polynomials t.1) (of_int Polynomials (weights_product ws t.0.exponents))
      (key_value (left_key ws t.0)))
      (by_terms ts)

  each_key : (ts : Terms Key) → AllByRecursion (λ t. put_weights ws (key_value t.0)
      ≡ of_int Polynomials (weights_product ws t.0.exponents) ⊗ key_value (left_key ws t.0)) ts
  each_key [] = tt
  each_key (t ∷ ts) = (of_key t.0, each_key ts)

pub value_of_special : ValueOfSpecial
unfolding special value
value_of_special ws f =
    value_of_terms (map (λ t. (left_key ws t.0, t.1 *ℤ weights_product ws t.0.exponents)) f.terms)
    ∙ by_terms ws f.terms
    ∙ sym (sum_value-hom Polynomials Polynomials (keeps ws) key_value _ f.terms (each_key ws f.terms))

-- ---- normal polynomials

length-left : (ws : Weights) (es : List ℕ) → length es ≡ length ws
    → length (left_exponents ws es) ≡ many is_none ws
length-left [] [] h = refl
length-left [] (e ∷ es) h = absurd (omega (arith, h))
length-left (w ∷ ws) [] h = absurd (omega (arith, h))
length-left (None ∷ ws) (e ∷ es) h =
    let r : length (left_exponents ws es) ≡ many is_none ws = length-left ws es (omega (arith, h)) in omega (arith, r)
length-left (Some z ∷ ws) (e ∷ es) h =
    let r : length (left_exponents ws es) ≡ many is_none ws = length-left ws es (omega (arith, h)) in omega (arith, r)

pub special_is_normal : SpecialIsNormal
unfolding special
special_is_normal d ws f h =
    all_sum_of (IsStandardKey d (count_by is_none ws))
    (map (λ t. (left_key ws t.0, t.1 *ℤ weights_product ws t.0.exponents)) f.terms) (each f.terms h)
  where
    one : (k : Key) → IsStandardKey d (length ws) k → IsStandardKey d (count_by is_none ws) (left_key ws k)
    one k s = record {
      key = record {
        parameters = length-left ws k.exponents s.key.parameters ∙ sym (count-many is_none ws);
        each = s.key.each;
        ascending = s.key.ascending;
      };
      columns = s.columns;
    }

    each : (ts : Terms Key) → AllTerms (IsStandardKey d (length ws)) ts
        → AllTerms (IsStandardKey d (count_by is_none ws))
        (map (λ t. (left_key ws t.0, t.1 *ℤ weights_product ws t.0.exponents)) ts)
    each [] h = tt
    each (t ∷ ts) h = (one t.0 h.0, each ts h.1)
