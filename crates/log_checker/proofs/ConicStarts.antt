-- The value of the six-point polynomial of six points.
use Rattle.std.proofs.Common.{◌≡◌, [], ◌∷◌, map, All, refl, sym, ap, subst, ◌∙◌, arith}
use Rattle.std.specs.Prelude.{Ok}
use Rattle.std.specs.List.{AllByRecursion}
use Rattle.coordinate_model.specs.Sequences.{subsets}
use Rattle.coordinate_model.specs.Brackets.{join, six_point, join_bracket}
use Rattle.coordinate_model.specs.Ring.{IsHom}
use Rattle.coordinate_model.specs.Polynomial.{Polynomials}
use Rattle.coordinate_model.specs.BracketPolynomial.{value}
use Rattle.coordinate_model.specs.Conics.{conic_value}
use Rattle.coordinate_model.specs.Value.{Value, HasStep, coordinates}
use Rattle.coordinate_model.proofs.Agreement.{same-joins}
use Rattle.coordinate_model.proofs.ConicLaws.{conic_of_values_law}
use Rattle.coordinate_model.proofs.Hom.{six_point-hom}
use Rattle.coordinate_model.proofs.StartSizes.{IsEntry, has_step}
use Rattle.bracket_poly.specs.Tracked.{Tracked}
use Rattle.cayley_terms.specs.Figures.{Figure}
use Rattle.conic_points.specs.Makings.{made_conic}
use Rattle.conic_points.proofs.Sums.{conic_sum}
use Rattle.log_checker.proofs.StartFacts.{IsValueOf}

-- ---- values

-- the value of a point of the plane, and its object
pub record IsPlanePoint (v : Value) (figure : Figure Polynomials) : Type 0 where
  pub one : figure.step ≡ 1
  pub is_value : IsValueOf 3 v figure
  pub entries : AllByRecursion (IsEntry 3 64 1) v

-- what a value and an object of the plane are alike in
abbrev Pair : Type 0
Pair = (v : Value) × (figure : Figure Polynomials) × IsPlanePoint v figure

itself : IsHom Polynomials Polynomials (λ f. f)
itself = record {
  to_zero = refl;
  to_one = refl;
  to_add = λ a b. refl;
  to_mul = λ a b. refl;
  to_neg = λ a. refl;
}

point_same : (p : Pair) → All (λ K. coordinates p.0 K ≡ p.1.coordinates K) (subsets 3 1)
point_same p = subst (λ k. All (λ K. coordinates p.0 K ≡ p.1.coordinates K) (subsets 3 k)) p.2.one p.2.is_value

-- the brackets of their values are those of the objects
same_bracket : (p q r : Pair)
    → join_bracket Polynomials (coordinates p.0 ∷ coordinates q.0 ∷ coordinates r.0 ∷ [])
    ≡ join_bracket Polynomials (p.1.coordinates ∷ q.1.coordinates ∷ r.1.coordinates ∷ [])
same_bracket p q r =
    same-joins Polynomials 3 2 1 (join Polynomials 1 (coordinates p.0) (coordinates q.0)) (coordinates r.0)
    (join Polynomials 1 p.1.coordinates q.1.coordinates) r.1.coordinates
    (same-joins Polynomials 3 1 1 (coordinates p.0) (coordinates q.0) p.1.coordinates q.1.coordinates (point_same p)
    (point_same q))
    (point_same r) 0 [] (omega arith)

module _ (v1 v2 v3 v4 v5 v6 : Value) (f1 f2 f3 f4 f5 f6 : Figure Polynomials) (h1 : IsPlanePoint v1 f1)
    (h2 : IsPlanePoint v2 f2) (h3 : IsPlanePoint v3 f3) (h4 : IsPlanePoint v4 f4) (h5 : IsPlanePoint v5 f5)
    (h6 : IsPlanePoint v6 f6) (q : Tracked) (made : made_conic v1 v2 v3 v4 v5 v6 ≡ Ok q) where
  sum_is : q.sum ≡ conic_value v1 v2 v3 v4 v5 v6
  sum_is = conic_sum v1 v2 v3 v4 v5 v6 q made

  steps : (v : Value) → AllByRecursion (IsEntry 3 64 1) v → HasStep 1 v
  steps v h = has_step 3 64 1 v h

  pub conic_same : value q.sum
      ≡ six_point Polynomials (join_bracket Polynomials) f1.coordinates f2.coordinates f3.coordinates f4.coordinates
      f5.coordinates f6.coordinates
  conic_same =
      ap value sum_is
      ∙ conic_of_values_law v1 v2 v3 v4 v5 v6 (
        steps v1 h1.entries,
        (
          steps v2 h2.entries,
          (steps v3 h3.entries, (steps v4 h4.entries, (steps v5 h5.entries, (steps v6 h6.entries, tt)))),
        ),
      )
      ∙ sym
      (six_point-hom Polynomials Polynomials itself {P = Pair} (λ p. coordinates p.0)
      (λ ps. join_bracket Polynomials (map (λ p. p.1.coordinates) ps)) (join_bracket Polynomials)
      (λ p q r. sym (same_bracket p q r)) (v1, f1, h1) (v2, f2, h2) (v3, f3, h3) (v4, f4, h4) (v5, f5, h5) (v6, f6, h6))
      ∙ six_point-hom Polynomials Polynomials itself {P = Pair} (λ p. p.1.coordinates)
      (λ ps. join_bracket Polynomials (map (λ p. p.1.coordinates) ps)) (join_bracket Polynomials) (λ p q r. refl)
      (v1, f1, h1) (v2, f2, h2) (v3, f3, h3) (v4, f4, h4) (v5, f5, h5) (v6, f6, h6)
