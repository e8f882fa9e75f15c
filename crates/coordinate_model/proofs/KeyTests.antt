-- Equations between values of bracket polynomials without parameters, decided by computing at generic points.
use Rattle.std.proofs.Common.{◌≡◌, List, [], ◌∷◌, map, refl, sym, ap, ap₂, ◌∙◌, T, ℕ, Bool}
use lib.IntN.{ℤ}
use mathlib.Core.Path.{fun_ext}
use Rattle.std.specs.List.{AllByRecursion}
use Rattle.coordinate_model.specs.Ring.{IsHom, of_int}
use Rattle.coordinate_model.specs.Brackets.{bracket}
use Rattle.coordinate_model.specs.Sums.{Terms, sum_of, sum_value}
use Rattle.coordinate_model.specs.Polynomial.{Polynomials, free_point, br}
use Rattle.coordinate_model.specs.Key.{Key, key_cmp, rows_key, brackets, key_value}
use Rattle.coordinate_model.specs.BracketPolynomial.{BracketPolynomial, value}
use Rattle.coordinate_model.proofs.Grid.{Polys, meaning, variable, is_zero, add, mul, negate, values, variable-is}
use Rattle.coordinate_model.proofs.Grid.{equal_of_test}
use Rattle.coordinate_model.proofs.Hom.{bracket-hom, sum_value-hom}
use Rattle.coordinate_model.proofs.PolynomialRing.{polynomial_ring, monomial-none}
use Rattle.coordinate_model.proofs.BracketPolynomialLaws.{br-is, value_of_terms}
use Rattle.coordinate_model.proofs.RingLemmas as L

-- integers times tableaux
abbrev pub Tableaux : Type 0
Tableaux = List (List (List ℕ) × ℤ)

-- the terms without parameters
abbrev pub terms_of : Tableaux → Terms Key
terms_of ts = map (λ t. (rows_key t.0, t.1)) ts

-- the bracket polynomial of tableaux
abbrev pub tableaux : Tableaux → BracketPolynomial
tableaux ts = sum_of key_cmp (terms_of ts)

-- a tableau at generic points
abbrev pub tableau_at : List (List ℕ) → Polys.carrier
tableau_at [] = Polys.𝟙
tableau_at (r ∷ rs) = mul (bracket Polys (map variable r)) (tableau_at rs)

-- whether two sums are equal at generic points
abbrev pub same_at : Tableaux → Tableaux → Bool
same_at ts us = is_zero (add (sum_value Polys tableau_at ts) (negate (sum_value Polys tableau_at us)))

-- ---- from generic points to free points

-- the value at the free points
abbrev at_free : Polys.carrier → Polynomials.carrier
at_free = meaning Polynomials polynomial_ring free_point

hom : IsHom Polys Polynomials at_free
hom = values Polynomials polynomial_ring free_point

map-variable : (is : List ℕ) → map (λ p j. at_free (p j)) (map variable is) ≡ map free_point is
map-variable [] = refl
map-variable (i ∷ is) =
    ap₂ {C = List (ℕ → Polynomials.carrier)} (λ p r. p ∷ r)
    (fun_ext (variable-is Polynomials polynomial_ring free_point i)) (map-variable is)

row-is : (r : List ℕ) → at_free (bracket Polys (map variable r)) ≡ br r
row-is r =
    bracket-hom Polys Polynomials hom (map variable r) ∙ ap (bracket Polynomials) (map-variable r) ∙ sym (br-is r)

rows-is : (rows : List (List ℕ)) → at_free (tableau_at rows) ≡ brackets rows
rows-is [] = hom.to_one
rows-is (r ∷ rs) =
    hom.to_mul (bracket Polys (map variable r)) (tableau_at rs) ∙ ap₂ Polynomials.◌⊗◌ (row-is r) (rows-is rs)

key-is : (rows : List (List ℕ)) → at_free (tableau_at rows) ≡ key_value (rows_key rows)
unfolding key_value
key-is rows =
    rows-is rows ∙ sym (ap (λ c. Polynomials.◌⊗◌ c (brackets rows)) monomial-none
    ∙ L.one_mul Polynomials polynomial_ring (brackets rows))

terms-is : (ts : Tableaux) → at_free (sum_value Polys tableau_at ts) ≡ sum_value Polynomials key_value (terms_of ts)
terms-is ts = sum_value-hom Polys Polynomials hom tableau_at (λ rows. key_value (rows_key rows)) ts (each ts) ∙ along ts
  where
    each : (ts : Tableaux) → AllByRecursion (λ t. at_free (tableau_at t.0) ≡ key_value (rows_key t.0)) ts
    each [] = tt
    each (t ∷ ts) = (key-is t.0, each ts)

    along : (ts : Tableaux)
        → sum_value Polynomials (λ rows. key_value (rows_key rows)) ts ≡ sum_value Polynomials key_value (terms_of ts)
    along [] = refl
    along (t ∷ ts) =
        ap (Polynomials.◌⊕◌ (Polynomials.◌⊗◌ (of_int Polynomials t.1) (key_value (rows_key t.0)))) (along ts)

value-is : (ts : Tableaux) → value (tableaux ts) ≡ at_free (sum_value Polys tableau_at ts)
value-is ts = value_of_terms (terms_of ts) ∙ sym (terms-is ts)

-- two bracket polynomials that are equal at generic points have one value
pub same_value : (ts us : Tableaux) → T (same_at ts us) → value (tableaux ts) ≡ value (tableaux us)
same_value ts us t =
    value-is ts
    ∙ equal_of_test Polynomials polynomial_ring free_point (sum_value Polys tableau_at ts)
    (sum_value Polys tableau_at us) t
    ∙ sym (value-is us)
