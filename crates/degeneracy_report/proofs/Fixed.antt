-- Values of polynomials in a ring at two choices of the variables, where these agree for all points of an object.
use Rattle.std.proofs.Common.{◌≡◌, ℕ, ◌<◌, List, [], ◌∷◌, map, replicate, refl, sym, ap, ap₂, ◌∙◌}
use Rattle.std.specs.Prelude.{suc, ℤ}
use Rattle.std.specs.List.{AllByRecursion}
use Rattle.coordinate_model.specs.Ring.{Ops, IsCommRing, IsHom, of_int}
use Rattle.coordinate_model.specs.Brackets.{Point, bracket, extensor}
use Rattle.coordinate_model.specs.Sums.{Terms, sum_value}
use Rattle.coordinate_model.specs.Polynomial.{Variable, coordinate, parameter, Polynomial, Polynomials, monomial, free_point, br}
use Rattle.coordinate_model.specs.Evaluation.{value_in}
use Rattle.coordinate_model.specs.Key.{Key, powers, brackets, key_value}
use Rattle.coordinate_model.specs.BracketPolynomial.{BracketPolynomial, AllKeys, value}
use Rattle.coordinate_model.specs.Value.{Value, coordinates}
use Rattle.coordinate_model.proofs.Openings.{key_value-is, value-is}
use Rattle.coordinate_model.proofs.BracketPolynomialLaws.{br-is}
use Rattle.coordinate_model.proofs.Hom.{of_int-hom, bracket-hom, extensor-hom}
use Rattle.coordinate_model.proofs.PolynomialRing.{monomial-append, monomial-none, value_in-operations, value_in-variable}
use Rattle.coordinate_model.proofs.Splits.{all_append, all_replicate}
use Rattle.coordinate_model.proofs.ValueLaws.{coordinates-none, coordinates-more}
use Rattle.degeneracy_report.specs.Joined.{IsBefore}

infixl 45 ◌⊕◌
infixl 55 ◌⊗◌
open Polynomials use {𝟘, 𝟙, ◌⊕◌, ◌⊗◌}

module _ (R : Ops) (L : IsCommRing R) (at base : Variable → R.carrier) (n : ℕ)
    (at_points : (i j : ℕ) → i < n → at (coordinate i j) ≡ base (coordinate i j))
    (at_parameters : (k : ℕ) → at (parameter k) ≡ base (parameter k)) where
  -- the values of the polynomial agree
  abbrev pub Same : Polynomial → Type 0
  Same p = value_in R at p ≡ value_in R base p

  at_hom : IsHom Polynomials R (value_in R at)
  at_hom = value_in-operations R L at

  base_hom : IsHom Polynomials R (value_in R base)
  base_hom = value_in-operations R L base

  -- ---- the operations

  zero_same : Same 𝟘
  zero_same = at_hom.to_zero ∙ sym base_hom.to_zero

  one_same : Same 𝟙
  one_same = at_hom.to_one ∙ sym base_hom.to_one

  add_same : (p q : Polynomial) → Same p → Same q → Same (p ⊕ q)
  add_same p q e f = at_hom.to_add p q ∙ ap₂ R.◌⊕◌ e f ∙ sym (base_hom.to_add p q)

  mul_same : (p q : Polynomial) → Same p → Same q → Same (p ⊗ q)
  mul_same p q e f = at_hom.to_mul p q ∙ ap₂ R.◌⊗◌ e f ∙ sym (base_hom.to_mul p q)

  int_same : (c : ℤ) → Same (of_int Polynomials c)
  int_same c = of_int-hom Polynomials R at_hom c ∙ sym (of_int-hom Polynomials R base_hom c)

  variable_same : (v : Variable) → at v ≡ base v → Same (monomial (v ∷ []))
  variable_same v e = value_in-variable R L at v ∙ e ∙ sym (value_in-variable R L base v)

  monomial_same : (vs : List Variable) → AllByRecursion (λ v. at v ≡ base v) vs → Same (monomial vs)
  monomial_same [] h = ap (value_in R at) monomial-none ∙ one_same ∙ ap (value_in R base) (sym monomial-none)
  monomial_same (v ∷ vs) h =
      ap (value_in R at) (monomial-append (v ∷ []) vs)
      ∙ mul_same (monomial (v ∷ [])) (monomial vs) (variable_same v h.0) (monomial_same vs h.1)
      ∙ ap (value_in R base) (sym (monomial-append (v ∷ []) vs))

  -- ---- free points

  -- the point with the values of its coordinates
  abbrev pub valued : (Variable → R.carrier) → Point Polynomials → Point R
  valued g p = λ j. value_in R g (p j)

  point_same : (i : ℕ) → i < n → valued at (free_point i) ≡ valued base (free_point i)
  point_same i h = λ x j. variable_same (coordinate i j) (at_points i j h) x

  points_same : (ps : List ℕ) → AllByRecursion (λ p. p < n) ps
      → map (valued at) (map free_point ps) ≡ map (valued base) (map free_point ps)
  points_same [] h = refl
  points_same (p ∷ ps) h = ap₂ {C = List (Point R)} (λ x xs. x ∷ xs) (point_same p h.0) (points_same ps h.1)

  br_same : (ps : List ℕ) → AllByRecursion (λ p. p < n) ps → Same (br ps)
  br_same ps h =
      ap (value_in R at) (br-is ps) ∙ bracket-hom Polynomials R at_hom (map free_point ps) ∙ ap (bracket R) (points_same ps h)
      ∙ sym (bracket-hom Polynomials R base_hom (map free_point ps)) ∙ ap (value_in R base) (sym (br-is ps))

  extensor_same : (ps : List ℕ) (K : List ℕ) → AllByRecursion (λ p. p < n) ps
      → Same (extensor Polynomials (map free_point ps) K)
  extensor_same ps K h =
      extensor-hom Polynomials R at_hom (map free_point ps) K ∙ ap (λ qs. extensor R qs K) (points_same ps h)
      ∙ sym (extensor-hom Polynomials R base_hom (map free_point ps) K)

  -- ---- keys and bracket polynomials

  powers_same : (i : ℕ) (es : List ℕ) → AllByRecursion (λ v. at v ≡ base v) (powers i es)
  powers_same i [] = tt
  powers_same i (e ∷ es) =
      all_append (λ v. at v ≡ base v) (replicate e (parameter i)) (powers (suc i) es)
      (all_replicate (λ v. at v ≡ base v) e (parameter i) (at_parameters i)) (powers_same (suc i) es)

  brackets_same : (rows : List (List ℕ)) → AllByRecursion (λ row. AllByRecursion (λ p. p < n) row) rows
      → Same (brackets rows)
  brackets_same [] h = one_same
  brackets_same (r ∷ rows) h = mul_same (br r) (brackets rows) (br_same r h.0) (brackets_same rows h.1)

  key_same : (k : Key) → AllByRecursion (λ row. AllByRecursion (λ p. p < n) row) k.rows → Same (key_value k)
  key_same k h =
      ap (value_in R at) (key_value-is k)
      ∙ mul_same (monomial (powers 0 k.exponents)) (brackets k.rows)
      (monomial_same (powers 0 k.exponents) (powers_same 0 k.exponents)) (brackets_same k.rows h)
      ∙ ap (value_in R base) (sym (key_value-is k))

  value_same : (f : BracketPolynomial)
      → AllKeys (λ k. AllByRecursion (λ row. AllByRecursion (λ p. p < n) row) k.rows) f → Same (value f)
  value_same f h = ap (value_in R at) (value-is f) ∙ each f.terms h ∙ ap (value_in R base) (sym (value-is f))
    where
      each : (ts : Terms Key)
          → AllByRecursion (λ t. AllByRecursion (λ row. AllByRecursion (λ p. p < n) row) t.0.rows) ts
          → Same (sum_value Polynomials key_value ts)
      each [] h = zero_same
      each (t ∷ ts) h =
          add_same (of_int Polynomials t.1 ⊗ key_value t.0) (sum_value Polynomials key_value ts)
          (mul_same (of_int Polynomials t.1) (key_value t.0) (int_same t.1) (key_same t.0 h.0)) (each ts h.1)

  -- ---- objects

  -- the coordinates of a value whose points all come before n
  pub coordinates_same : (V : Value) (K : List ℕ) → AllByRecursion (IsBefore n) V → Same (coordinates V K)
  coordinates_same [] K h =
      ap (value_in R at) (coordinates-none K) ∙ zero_same ∙ ap (value_in R base) (sym (coordinates-none K))
  coordinates_same (e ∷ V) K h =
      ap (value_in R at) (coordinates-more e V K)
      ∙ add_same (value e.1 ⊗ extensor Polynomials (map free_point e.0) K) (coordinates V K)
      (mul_same (value e.1) (extensor Polynomials (map free_point e.0) K) (value_same e.1 h.0.rows)
      (extensor_same e.0 K h.0.extensor))
      (coordinates_same V K h.1)
      ∙ ap (value_in R base) (sym (coordinates-more e V K))
