-- Values at a placement keep all that is defined by the operations of a ring.
use Rattle.std.proofs.Common.{map, refl, ap, ◌∙◌}
use Rattle.std.proofs.lemmas.Simd.{map-map}
use Rattle.coordinate_model.specs.Ring.{Integers}
use Rattle.coordinate_model.specs.Brackets.{bracket}
use Rattle.coordinate_model.specs.Polynomial.{coordinate, Polynomials, free_point, br}
use Rattle.coordinate_model.specs.Placement.{Placement, point_at}
use Rattle.coordinate_model.specs.PlacementLaws.{ValueOfZero, ValueOfVariable, ValueOfBracket, KeepsBrackets}
use Rattle.coordinate_model.specs.PlacementLaws.{KeepsExtensors, KeepsJoins, KeepsMeets, KeepsCombinations}
use Rattle.coordinate_model.specs.PlacementLaws.{KeepsSixPoint}
use Rattle.coordinate_model.proofs.Hom.{bracket-hom, join-hom, meet-hom, extensor-hom, on-hom, hom_keeps}
use Rattle.coordinate_model.proofs.PolynomialRing.{value_at-hom, value_at-variable}

module _ (at : Placement) where
  pub value_of_zero : ValueOfZero at
  value_of_zero = (value_at-hom at).to_zero

  pub value_of_variable : ValueOfVariable at
  value_of_variable = value_at-variable at

  pub keeps_brackets : KeepsBrackets at
  keeps_brackets = bracket-hom Polynomials Integers (value_at-hom at)

  pub value_of_bracket : ValueOfBracket at
  unfolding br
  value_of_bracket ps =
      keeps_brackets (map free_point ps)
      ∙ ap (bracket Integers) (map-map (point_at at) free_point ps
      ∙ ap (λ f. map f ps) (λ k i j. value_at-variable at (coordinate i j) k))

  pub keeps_extensors : KeepsExtensors at
  keeps_extensors = extensor-hom Polynomials Integers (value_at-hom at)

  pub keeps_joins : KeepsJoins at
  keeps_joins a A B K = join-hom Polynomials Integers (value_at-hom at) a (λ I. refl) (λ I. refl) K

  pub keeps_meets : KeepsMeets at
  keeps_meets d a b A B K = meet-hom Polynomials Integers (value_at-hom at) d a b (λ I. refl) (λ I. refl) K

  pub keeps_combinations : KeepsCombinations at
  keeps_combinations s t A B K =
      on-hom Polynomials Integers (value_at-hom at) refl refl (λ I. refl) (λ I. refl) K

  pub keeps_six_point : KeepsSixPoint at
  keeps_six_point = (hom_keeps Polynomials Integers (value_at-hom at)).six_points
