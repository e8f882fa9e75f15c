-- The value of a product of a start: its sign times its row, and the two polynomials.
use Rattle.std.proofs.Common.{◌≡◌, ℕ, Bool, true, false, cond, List, [], ◌∷◌, map, flat_map, refl, sym, ap, ap₂, ◌∙◌}
use Rattle.std.specs.Prelude.{ℤ, pos, negsuc, ◌*ℤ◌}
use Rattle.coordinate_model.specs.Ring.{of_int}
use Rattle.coordinate_model.specs.Sequences.{is_odd, sign_of}
use Rattle.coordinate_model.specs.Brackets.{sum_over, signed}
use Rattle.coordinate_model.specs.Sums.{Terms, products, sum_value}
use Rattle.coordinate_model.specs.Polynomial.{Polynomial, Polynomials}
use Rattle.coordinate_model.specs.Key.{Key, key_times, key_value}
use Rattle.coordinate_model.specs.BracketPolynomial.{value}
use Rattle.coordinate_model.specs.Starts.{Product, row_key, terms_of, products_at, start_at}
use Rattle.coordinate_model.proofs.RingLemmas as L
use Rattle.coordinate_model.proofs.RingIntegers.{of_int-mul}
use Rattle.coordinate_model.proofs.SumLemmas.{value-append}
use Rattle.coordinate_model.proofs.PolynomialRing.{polynomial_ring}
use Rattle.coordinate_model.proofs.KeyProducts.{key_value-times}
use Rattle.coordinate_model.proofs.Openings.{mul-is}
use Rattle.coordinate_model.proofs.BracketPolynomialLaws.{value-hom, value_of_terms}

infixl 55 ◌⊗◌
open Polynomials use {𝟙, ◌⊕◌, ◌⊗◌, neg}

-- the sum of the values of terms
abbrev total : Terms Key → Polynomial
total ts = sum_value Polynomials key_value ts

-- each key times k, and each integer times c
scaled : (k : Key) (c : ℤ) (ts : Terms Key)
    → total (map (λ t. (key_times t.0 k, c *ℤ t.1)) ts) ≡ (of_int Polynomials c ⊗ key_value k) ⊗ total ts
scaled k c [] = sym (L.mul_zero Polynomials polynomial_ring (of_int Polynomials c ⊗ key_value k))
scaled k c (t ∷ ts) =
    let u : Polynomial = of_int Polynomials c in
    let v : Polynomial = of_int Polynomials t.1 in
    ap₂ ◌⊕◌
    (ap₂ ◌⊗◌ (of_int-mul Polynomials polynomial_ring c t.1)
    (key_value-times t.0 k ∙ polynomial_ring.mul_comm (key_value t.0) (key_value k))
    ∙ L.mul_swap_four Polynomials polynomial_ring u v (key_value k) (key_value t.0))
    (scaled k c ts)
    ∙ sym (polynomial_ring.mul_add (u ⊗ key_value k) (v ⊗ key_value t.0) (total ts))

-- the value of a product
abbrev pub product_value : Product → Polynomial
product_value p = (of_int Polynomials p.sign ⊗ key_value (row_key p.row)) ⊗ (value p.left ⊗ value p.right)

value_of_product : (p : Product) → total (terms_of p) ≡ product_value p
value_of_product p =
    scaled (row_key p.row) p.sign (products key_times p.left.terms p.right.terms)
    ∙ ap (λ v. (of_int Polynomials p.sign ⊗ key_value (row_key p.row)) ⊗ v)
    (sym (value_of_terms (products key_times p.left.terms p.right.terms)) ∙ ap value (sym (mul-is p.left p.right))
    ∙ value-hom.to_mul p.left p.right)

value_of_products : (ps : List Product)
    → total (flat_map terms_of ps) ≡ sum_over Polynomials product_value ps
value_of_products [] = refl
value_of_products (p ∷ ps) =
    value-append Polynomials polynomial_ring key_value (terms_of p) (flat_map terms_of ps)
    ∙ ap₂ ◌⊕◌ (value_of_product p) (value_of_products ps)

-- the value of the start of an extensor
pub value_of_start : (x : List ℕ) (ps : List Product)
    → value (start_at x ps) ≡ sum_over Polynomials product_value (products_at x ps)
value_of_start x ps = value_of_terms (flat_map terms_of (products_at x ps)) ∙ value_of_products (products_at x ps)

-- the integer of a sign times p
pub signed-integer : (w : List ℕ) (p : Polynomial) → of_int Polynomials (sign_of w) ⊗ p ≡ signed Polynomials w p
signed-integer w p = step (is_odd w)
  where
    step : (b : Bool) → of_int Polynomials (cond b (negsuc 0) (pos 1)) ⊗ p ≡ cond b (neg p) p
    step true =
        L.neg_mul Polynomials polynomial_ring (𝟙 ⊕ Polynomials.𝟘) p
        ∙ ap neg (ap (λ c. c ⊗ p) (polynomial_ring.add_zero 𝟙) ∙ L.one_mul Polynomials polynomial_ring p)
    step false = ap (λ c. c ⊗ p) (polynomial_ring.add_zero 𝟙) ∙ L.one_mul Polynomials polynomial_ring p
