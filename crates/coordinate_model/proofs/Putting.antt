-- Numbers put in for variables: what becomes of each monomial, one number after the other, and the value at a
-- placement.
use Rattle.std.specs.Prelude.{◌≡◌, ℕ, zero, suc, ℤ, pos, negsuc, ◌+ℤ◌, ◌*ℤ◌, neg_ℤ, Option, None, Some, List, [], ◌∷◌}
use Rattle.std.proofs.Common.{refl, sym, ap, ap₂, ◌∙◌}
use Rattle.coordinate_model.specs.Ring.{Integers, of_nat, of_int}
use Rattle.coordinate_model.specs.Words.{product_of}
use Rattle.coordinate_model.specs.Sums.{Terms, sum_value}
use Rattle.coordinate_model.specs.Polynomial.{Variable, variable_cmp, Monomial, monomial_cmp, monomial_of, monomial}
use Rattle.coordinate_model.specs.Polynomial.{Polynomial, Polynomials}
use Rattle.coordinate_model.specs.Evaluation.{monomial_in, value_in}
use Rattle.coordinate_model.specs.Placement.{Placement, value_at}
use Rattle.coordinate_model.specs.Numbers.{Numbers, number_or_itself, put_in, no_numbers, number_for, and_then, numbers_of}
use Rattle.coordinate_model.specs.Numbers.{put_in_turn, number_or}
use Rattle.coordinate_model.proofs.RingLemmas as Ring
use Rattle.coordinate_model.proofs.RingIntegers as Ints
use Rattle.coordinate_model.proofs.IntegerRing.{integer_ring, of_int-int}
use Rattle.coordinate_model.proofs.WordLemmas.{letters-word_of, ordered_letters, same_letters, join_monoid}
use Rattle.coordinate_model.proofs.SumLemmas.{same_values}
use Rattle.coordinate_model.proofs.SumRing.{value-plus, value-minus, value-single, value-times}
use Rattle.coordinate_model.proofs.SumValues.{value_alike}
use Rattle.coordinate_model.proofs.Hom.{value_in-hom, of_int-hom}
use Rattle.coordinate_model.proofs.PolynomialRing.{variable_total, variable_same, monomial_total, monomial_same, join, unit}
use Rattle.coordinate_model.proofs.PolynomialRing.{polynomial_ring, monomial-append, monomial-none, value_in-operations}
use Rattle.coordinate_model.proofs.PolynomialRing.{value_in-variable, value_at-hom, value_at-variable}

infixl 55 ◌⊗◌
open Polynomials use {◌⊗◌}

-- ---- maps of the monomials to the integers

-- the sum of the integers times those of the monomials
abbrev pub total : (Monomial → ℤ) → Polynomial → ℤ
total v f = sum_value Integers v f.terms

total_of_nat : (v : Monomial → ℤ) (n : ℕ) → total v (of_nat Polynomials n) ≡ of_nat Integers n *ℤ v unit
total_of_nat v zero = sym (Ring.zero_mul Integers integer_ring (v unit))
total_of_nat v (suc n) =
    value-plus monomial_cmp monomial_total monomial_same Integers integer_ring v Polynomials.𝟙 (of_nat Polynomials n)
    ∙ ap₂ ◌+ℤ◌
    (value-single monomial_cmp monomial_total monomial_same Integers integer_ring v unit
    ∙ sym (Ring.one_mul Integers integer_ring (v unit)))
    (total_of_nat v n)
    ∙ sym (Ring.add_mul Integers integer_ring (pos 1) (of_nat Integers n) (v unit))

total_of_int : (v : Monomial → ℤ) (c : ℤ) → total v (of_int Polynomials c) ≡ of_int Integers c *ℤ v unit
total_of_int v (pos n) = total_of_nat v n
total_of_int v (negsuc n) =
    value-minus monomial_cmp monomial_total monomial_same Integers integer_ring v (of_nat Polynomials (suc n))
    ∙ ap neg_ℤ (total_of_nat v (suc n))
    ∙ sym (Ring.neg_mul Integers integer_ring (of_nat Integers (suc n)) (v unit))

total_scaled : (v : Monomial → ℤ) (c : ℤ) (f : Polynomial)
    → total v (of_int Polynomials c ⊗ f) ≡ of_int Integers c *ℤ total v f
total_scaled v c f =
    value-times monomial_cmp monomial_total monomial_same Integers integer_ring v join (of_int Polynomials c) f
    ∙ total_of_int (λ a. total (λ b. v (join a b)) f) c
    ∙ ap (λ z. of_int Integers c *ℤ z) (value_alike Integers integer_ring _ _ (λ b. ap v (left b)) f.terms)
  where
    left : (b : Monomial) → join unit b ≡ b
    left b =
        let M = join_monoid variable_cmp variable_total variable_same in M.comm unit b ∙ M.unit_right b

total_sum : (v : Monomial → ℤ) (g : Monomial → Polynomial) (ts : Terms Monomial)
    → total v (sum_value Polynomials g ts) ≡ sum_value Integers (λ m. total v (g m)) ts
total_sum v g [] = refl
total_sum v g (t ∷ ts) =
    value-plus monomial_cmp monomial_total monomial_same Integers integer_ring v
    (of_int Polynomials t.1 ⊗ g t.0) (sum_value Polynomials g ts)
    ∙ ap₂ ◌+ℤ◌ (total_scaled v t.1 (g t.0)) (total_sum v g ts)

-- ---- a monomial with the numbers put in

-- the product of the numbers of the letters that have one
abbrev pub numbered : Numbers → List Variable → ℤ
numbered ns [] = pos 1
numbered ns (v ∷ vs) = elim (ns v) [ None ↦ numbered ns vs | Some z ↦ z *ℤ numbered ns vs ]

-- the letters that have none
abbrev pub others : Numbers → List Variable → List Variable
others ns [] = []
others ns (v ∷ vs) = elim (ns v) [ None ↦ v ∷ others ns vs | Some z ↦ others ns vs ]

abbrev pub left_of : Numbers → Monomial → Monomial
left_of ns m = monomial_of (others ns m.letters)

monomial-put : (ns : Numbers) (vs : List Variable) → product_of Polynomials (number_or_itself ns) vs
    ≡ of_int Polynomials (numbered ns vs) ⊗ monomial (others ns vs)
monomial-put ns [] =
    sym (ap₂ ◌⊗◌ (polynomial_ring.add_zero Polynomials.𝟙) monomial-none ∙ polynomial_ring.mul_one Polynomials.𝟙)
monomial-put ns (v ∷ vs) = ap (◌⊗◌ (number_or_itself ns v)) (monomial-put ns vs) ∙ elim (ns v) as
    (λ (o : Option ℤ). elim o as (λ x. Polynomial) [ None ↦ monomial (v ∷ []) | Some z ↦ of_int Polynomials z ]
    ⊗ (of_int Polynomials (numbered ns vs) ⊗ monomial (others ns vs))
    ≡ of_int Polynomials (elim o as (λ x. ℤ) [ None ↦ numbered ns vs | Some z ↦ z *ℤ numbered ns vs ])
    ⊗ monomial (elim o as (λ x. List Variable) [ None ↦ v ∷ others ns vs | Some z ↦ others ns vs ])) [
      | None ↦ Ring.mul_left_comm Polynomials polynomial_ring (monomial (v ∷ [])) (of_int Polynomials (numbered ns vs))
          (monomial (others ns vs))
          ∙ ap (◌⊗◌ (of_int Polynomials (numbered ns vs))) (sym (monomial-append (v ∷ []) (others ns vs)))
      | Some z ↦ sym (ap (λ w. w ⊗ monomial (others ns vs)) (Ints.of_int-mul Polynomials polynomial_ring z (numbered ns vs))
          ∙ polynomial_ring.mul_assoc (of_int Polynomials z) (of_int Polynomials (numbered ns vs))
          (monomial (others ns vs)))
    ]

-- the sum over the monomials with the numbers put in, by the monomials themselves
pub total-put : (v : Monomial → ℤ) (ns : Numbers) (p : Polynomial)
    → total v (put_in ns p) ≡ total (λ m. numbered ns m.letters *ℤ v (left_of ns m)) p
unfolding value_in
total-put v ns p =
    total_sum v (monomial_in Polynomials (number_or_itself ns)) p.terms
    ∙ value_alike Integers integer_ring _ _ each p.terms
  where
    each : (m : Monomial) → total v (monomial_in Polynomials (number_or_itself ns) m)
        ≡ numbered ns m.letters *ℤ v (left_of ns m)
    each m =
        ap (total v) (monomial-put ns m.letters)
        ∙ total_scaled v (numbered ns m.letters) (monomial (others ns m.letters))
        ∙ ap₂ ◌*ℤ◌ (of_int-int (numbered ns m.letters))
        (value-single monomial_cmp monomial_total monomial_same Integers integer_ring v (left_of ns m))

-- ---- no number, and numbers one after the other

pub monomial_of-letters : (m : Monomial) → monomial_of m.letters ≡ m
monomial_of-letters m =
    same_letters variable_cmp variable_total (monomial_of m.letters) m
    (letters-word_of variable_cmp variable_total m.letters ∙ ordered_letters variable_cmp variable_total m)

none_numbered : (vs : List Variable) → numbered no_numbers vs ≡ pos 1
none_numbered [] = refl
none_numbered (v ∷ vs) = none_numbered vs

all_others : (vs : List Variable) → others no_numbers vs ≡ vs
all_others [] = refl
all_others (v ∷ vs) = ap {B = List Variable} (λ r. v ∷ r) (all_others vs)

pub put_in-none : (p : Polynomial) → put_in no_numbers p ≡ p
put_in-none p =
    same_values monomial_cmp monomial_total monomial_same (put_in no_numbers p) p
    (λ v. total-put v no_numbers p ∙ value_alike Integers integer_ring _ _ (each v) p.terms)
  where
    each : (v : Monomial → ℤ) (m : Monomial) → numbered no_numbers m.letters *ℤ v (left_of no_numbers m) ≡ v m
    each v m =
        ap₂ ◌*ℤ◌ (none_numbered m.letters) (ap (λ vs. v (monomial_of vs)) (all_others m.letters))
        ∙ Ring.one_mul Integers integer_ring (v (monomial_of m.letters)) ∙ ap v (monomial_of-letters m)

-- the numbers of ns, and then those of ms
pub put_in-and_then : (ns ms : Numbers) (p : Polynomial) → put_in ms (put_in ns p) ≡ put_in (and_then ns ms) p
put_in-and_then ns ms p =
    value_in-hom Polynomials Polynomials (value_in-operations Polynomials polynomial_ring (number_or_itself ms))
    (number_or_itself ns) p
    ∙ ap (λ g. value_in Polynomials g p) (λ j v. each v j)
  where
    each : (v : Variable) → put_in ms (number_or_itself ns v) ≡ number_or_itself (and_then ns ms) v
    each v = elim (ns v) as
        (λ (o : Option ℤ). put_in ms (elim o as
        (λ x. Polynomial) [ None ↦ monomial (v ∷ []) | Some z ↦ of_int Polynomials z ])
        ≡ elim (elim o as (λ x. Option ℤ) [ None ↦ ms v | Some z ↦ Some z ]) as
        (λ x. Polynomial) [ None ↦ monomial (v ∷ []) | Some z ↦ of_int Polynomials z ]) [
          | None ↦ value_in-variable Polynomials polynomial_ring (number_or_itself ms) v
          | Some z ↦ of_int-hom Polynomials Polynomials
              (value_in-operations Polynomials polynomial_ring (number_or_itself ms)) z
        ]

pub put_in-turn : (ns : List (Variable × ℤ)) (p : Polynomial) → put_in_turn ns p ≡ put_in (numbers_of ns) p
put_in-turn [] p = sym (put_in-none p)
put_in-turn (n ∷ ns) p =
    put_in-turn ns (put_in (number_for n.0 n.1) p) ∙ put_in-and_then (number_for n.0 n.1) (numbers_of ns) p

-- ---- the value at a placement

pub value_at-put : (at : Placement) (ns : Numbers) (p : Polynomial)
    → value_at at (put_in ns p) ≡ value_at (number_or ns at) p
value_at-put at ns p =
    value_in-hom Polynomials Integers (value_at-hom at) (number_or_itself ns) p
    ∙ ap (λ g. value_at g p) (λ j v. each v j)
  where
    each : (v : Variable) → value_at at (number_or_itself ns v) ≡ number_or ns at v
    each v = elim (ns v) as
        (λ (o : Option ℤ). value_at at (elim o as
        (λ x. Polynomial) [ None ↦ monomial (v ∷ []) | Some z ↦ of_int Polynomials z ])
        ≡ elim o as (λ x. ℤ) [ None ↦ at v | Some z ↦ z ]) [
          | None ↦ value_at-variable at v
          | Some z ↦ of_int-hom Polynomials Integers (value_at-hom at) z ∙ of_int-int z
        ]
