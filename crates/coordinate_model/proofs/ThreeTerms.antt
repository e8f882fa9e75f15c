-- The three-term identity of Grassmann and Pluecker holds in every commutative ring: each rank by computing at generic
-- points.
use Rattle.std.proofs.Common.{◌≡◌, ℕ, ◌+◌, List, [], ◌∷◌, ◌++◌, map, sym, ap, ◌∙◌, subst, T, arith}
use Rattle.std.proofs.lemmas.List.{length-map}
use Rattle.coordinate_model.specs.Ring.{Ops, IsCommRing}
use Rattle.coordinate_model.specs.Sequences.{IsRank}
use Rattle.coordinate_model.specs.Brackets.{Point, bracket, three_term}
use Rattle.coordinate_model.specs.Polynomial.{Polynomials, free_point, br}
use Rattle.coordinate_model.specs.SyzygyLaws.{ThreeTerms, ThreeTermsOfFreePoints}
use Rattle.coordinate_model.proofs.Grid.{Polys, variable, is_zero, zero_of_test}
use Rattle.coordinate_model.proofs.Generic.{entry, values_at, bracket-generic}
use Rattle.coordinate_model.proofs.Hom.{three_term-hom, map-append}
use Rattle.coordinate_model.proofs.PolynomialRing.{polynomial_ring}
use Rattle.coordinate_model.proofs.BracketPolynomialLaws.{br-is, identity}

-- the bracket of generic points
abbrev generic_bracket : List ℕ → Polys.carrier
generic_bracket is = bracket Polys (map variable is)

-- the three-term sum of the generic points 0, 1, 2 and 3, with others in common
abbrev generic_sum : List ℕ → Polys.carrier
generic_sum common = three_term Polys generic_bracket common 0 1 2 3

rank_2 : T (is_zero (generic_sum []))
unfolding three_term bracket
rank_2 = tt

rank_3 : T (is_zero (generic_sum (4 ∷ [])))
unfolding three_term bracket
rank_3 = tt

rank_4 : T (is_zero (generic_sum (4 ∷ 5 ∷ [])))
unfolding three_term bracket
rank_4 = tt

-- where the sum is zero at generic points, it is so at the points of a list
at_points : (A : Ops) (R : IsCommRing A) (ps : List (Point A)) (common : List ℕ) → T (is_zero (generic_sum common))
    → three_term A (λ is. bracket A (map (entry A R ps) is)) common 0 1 2 3 ≡ A.𝟘
at_points A R ps common t =
    sym (three_term-hom Polys A (values_at A R ps) (λ i. i) generic_bracket (λ is. bracket A (map (entry A R ps) is))
    common common (λ i j. bracket-generic A R ps (common ++ i ∷ j ∷ [])) 0 1 2 3)
    ∙ zero_of_test A R (entry A R ps) (generic_sum common) t

-- the three-term law
pub three-terms : {A : Ops} → IsCommRing A → ThreeTerms A
unfolding three_term
three-terms {A} R [] a b c e r = at_points A R (a ∷ b ∷ c ∷ e ∷ []) [] rank_2
three-terms {A} R (s ∷ []) a b c e r = at_points A R (a ∷ b ∷ c ∷ e ∷ s ∷ []) (4 ∷ []) rank_3
three-terms {A} R (s ∷ t ∷ []) a b c e r = at_points A R (a ∷ b ∷ c ∷ e ∷ s ∷ t ∷ []) (4 ∷ 5 ∷ []) rank_4
three-terms {A} R (s ∷ t ∷ u ∷ S) a b c e r = absurd (omega (arith, r.1))

pub three_terms_of_free_points : ThreeTermsOfFreePoints
three_terms_of_free_points S a b c e r =
    three_term-hom Polynomials Polynomials identity free_point br (bracket Polynomials) S (map free_point S)
    (λ p q. br-is (S ++ p ∷ q ∷ []) ∙ ap (bracket Polynomials) (map-append free_point S (p ∷ q ∷ []))) a b c e
    ∙ three-terms polynomial_ring (map free_point S) (free_point a) (free_point b) (free_point c) (free_point e)
    (subst (λ n. IsRank (n + 2)) (sym (length-map S free_point)) r)
