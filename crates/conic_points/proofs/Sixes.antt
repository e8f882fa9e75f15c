-- Lists of six.
use Rattle.std.specs.Prelude.{◌≡◌, ℕ, List, [], ◌∷◌, length, replicate, drop, Ok}
use Rattle.std.specs.List.{AllByRecursion}
use Rattle.std.proofs.Common.{refl, sym, ap, subst, ◌∙◌, arith, get_or, lit≤}
use Rattle.coordinate_model.specs.Sequences.{IsRank}
use Rattle.coordinate_model.specs.BracketPolynomial.{value}
use Rattle.coordinate_model.proofs.ConicLaws.{conic_of_values_law}
use Rattle.bracket_poly.specs.Tracked.{Tracked}
use Rattle.bracket_poly.specs.Values.{value_of}
use Rattle.bracket_poly.specs.declared.value.Value.{Value}
use Rattle.conic_points.specs.Makings.{made_of}
use Rattle.conic_points.specs.Points.{IsSmall, IsPoint, values_of, IsSixPoint}
use Rattle.conic_points.proofs.Rows.{has_step_one}
use Rattle.conic_points.proofs.Sums.{conic_sum}

pub three_is_rank : (d : ℕ) → d ≡ 3 → IsRank d
three_is_rank d e = subst IsRank (sym e) (lit≤ tt, lit≤ tt)

-- nothing stands behind three points
pub none_behind : (d : ℕ) → d ≡ 3 → drop 3 (replicate {A = ℕ} d 0) ≡ []
none_behind d e = subst (λ (n : ℕ). drop 3 (replicate {A = ℕ} n 0) ≡ []) (sym e) refl

-- the six of a list
pub record AreSix {A : Type 0} (xs : List A) : Type 0 where
  pub first : A
  pub second : A
  pub third : A
  pub fourth : A
  pub fifth : A
  pub sixth : A
  pub same : xs ≡ first ∷ second ∷ third ∷ fourth ∷ fifth ∷ sixth ∷ []

pub six_of : {A : Type 0} (xs : List A) → length xs ≡ 6 → AreSix xs
six_of (a ∷ b ∷ c ∷ d ∷ e ∷ f ∷ []) h =
    record { first = a; second = b; third = c; fourth = d; fifth = e; sixth = f; same = refl }
six_of others h = absurd (omega arith)

-- the list of the six that stand in it
pub these_six : {A : Type 0} (xs : List A) (a b c d e f : A) → length xs ≡ 6 → a ≡ get_or xs 0 a → b ≡ get_or xs 1 b
    → c ≡ get_or xs 2 c → d ≡ get_or xs 3 d → e ≡ get_or xs 4 e → f ≡ get_or xs 5 f
    → xs ≡ a ∷ b ∷ c ∷ d ∷ e ∷ f ∷ []
these_six (x1 ∷ x2 ∷ x3 ∷ x4 ∷ x5 ∷ x6 ∷ []) a b c d e f long h1 h2 h3 h4 h5 h6 = cc
these_six others a b c d e f long h1 h2 h3 h4 h5 h6 = absurd (omega arith)

-- points whose exponents are small
pub are_points : {d : ℕ} (vs : List (Value d)) → AllByRecursion (λ v. v.step ≡ 1) vs
    → AllByRecursion (λ v. AllByRecursion IsSmall v.entries) vs → AllByRecursion IsPoint vs
are_points [] h k = tt
are_points (v ∷ vs) h k = (record { one = h.0; small = k.0 }, are_points vs h.1 k.1)

-- what is made of six points is their six-point polynomial
pub is_six_point : (d : ℕ) (six : List (Value d)) (p : Tracked) → d ≡ 3 → length six ≡ 6
    → AllByRecursion (λ v. v.step ≡ 1) six → made_of (values_of six) ≡ Ok p → IsSixPoint (values_of six) p.sum
is_six_point d six p rank long steps made =
    let s = six_of six long in
    subst (λ (vs : List (Value d)). IsSixPoint (values_of vs) p.sum) (sym s.same)
    (of_six s.first s.second s.third s.fourth s.fifth s.sixth
    (subst (AllByRecursion (λ v. v.step ≡ 1)) s.same steps)
    (sym (ap (λ vs. made_of (values_of vs)) s.same) ∙ made))
  where
    of_six : (a b c e f g : Value d) → AllByRecursion (λ v. v.step ≡ 1) (a ∷ b ∷ c ∷ e ∷ f ∷ g ∷ [])
        → made_of (values_of (a ∷ b ∷ c ∷ e ∷ f ∷ g ∷ [])) ≡ Ok p
        → IsSixPoint (values_of (a ∷ b ∷ c ∷ e ∷ f ∷ g ∷ [])) p.sum
    of_six a b c e f g h k =
        let r : IsRank d = three_is_rank d rank in
        ap value (conic_sum _ _ _ _ _ _ p k)
        ∙ conic_of_values_law (value_of a.entries) (value_of b.entries) (value_of c.entries) (value_of e.entries)
        (value_of f.entries) (value_of g.entries) (
          has_step_one a r h.0,
          (
            has_step_one b r h.1.0,
            (
              has_step_one c r h.1.1.0,
              (has_step_one e r h.1.1.1.0, (has_step_one f r h.1.1.1.1.0, (has_step_one g r h.1.1.1.1.1.0, tt))),
            ),
          ),
        )
