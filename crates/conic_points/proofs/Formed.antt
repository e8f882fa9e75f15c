-- What is made of points of rank 3 is a bracket polynomial of rank 3.
use Rattle.std.specs.Prelude.{ℕ, ◌+◌, [], ◌∷◌, ◌++◌}
use Rattle.std.specs.List.{AllByRecursion}
use Rattle.std.proofs.Common.{sym, ap₂, subst, ◌∙◌}
use lib.ListN.{length-append}
use Rattle.coordinate_model.specs.Brackets.{six_point}
use Rattle.coordinate_model.specs.BracketPolynomial.{BracketPolynomial, IsBracketPolynomial, mul}
use Rattle.coordinate_model.specs.Conics.{bracket_of_entries, bracket_of_values, conic_value}
use Rattle.coordinate_model.specs.Key.{IsKey}
use Rattle.coordinate_model.specs.Starts.{Entry}
use Rattle.coordinate_model.specs.Syzygy.{sorted_bracket}
use Rattle.coordinate_model.specs.Value.{Value}
use Rattle.coordinate_model.proofs.Closure.{key_times-is, length-add_exponents, length-add_none, sorted_bracket-is, all_sum_over}
use Rattle.coordinate_model.proofs.KeySets.{all_plus, all_minus, all_times}
use Rattle.coordinate_model.proofs.Splits.{all_so}
use Rattle.coordinate_model.proofs.StartSizes.{IsEntry}
use Rattle.conic_points.specs.Laws.{IsPointIn, MadeIsFormed}
use Rattle.conic_points.proofs.Sums.{conic_sum}

module _ (n : ℕ) where
  product_is : (f g : BracketPolynomial) → IsBracketPolynomial 3 n f → IsBracketPolynomial 3 n g
      → IsBracketPolynomial 3 n (mul f g)
  product_is f g h i =
      all_times (IsKey 3 n) (IsKey 3 n) (IsKey 3 n)
      (λ k l p q. key_times-is 3 n k l p.each q.each
      (length-add_exponents n k.exponents l.exponents p.parameters q.parameters)) f g h i

  -- the bracket of three entries of points
  entries_are : (a b c : Entry) → IsEntry 3 n 1 a → IsEntry 3 n 1 b → IsEntry 3 n 1 c
      → IsBracketPolynomial 3 n (bracket_of_entries a b c)
  entries_are a b c h i j =
      all_times (IsKey 3 n) (IsKey 3 0) (IsKey 3 n)
      (λ k l u v. key_times-is 3 n k l u.each v.each
      (length-add_none n k.exponents l.exponents u.parameters v.parameters))
      (mul (mul a.1 b.1) c.1) (sorted_bracket (a.0 ++ b.0 ++ c.0))
      (product_is (mul a.1 b.1) c.1 (product_is a.1 b.1 h.keys i.keys) j.keys)
      (sorted_bracket-is 3 (a.0 ++ b.0 ++ c.0)
      (length-append (a.0 ++ b.0) c.0 ∙ ap₂ ◌+◌ (length-append a.0 b.0 ∙ ap₂ ◌+◌ h.points i.points) j.points))

  bracket_is : (A B C : Value) → IsPointIn n A → IsPointIn n B → IsPointIn n C
      → IsBracketPolynomial 3 n (bracket_of_values A B C)
  unfolding bracket_of_values
  bracket_is A B C h i j =
      all_sum_over (IsKey 3 n) _ A
      (all_so (IsEntry 3 n 1) _
      (λ a p. all_sum_over (IsKey 3 n) _ B
      (all_so (IsEntry 3 n 1) _
      (λ b q. all_sum_over (IsKey 3 n) _ C (all_so (IsEntry 3 n 1) _ (λ c r. entries_are a b c p q r) C j)) B i)) A h)

  conic_is : (p1 p2 p3 p4 p5 p6 : Value) → AllByRecursion (IsPointIn n) (p1 ∷ p2 ∷ p3 ∷ p4 ∷ p5 ∷ p6 ∷ [])
      → IsBracketPolynomial 3 n (conic_value p1 p2 p3 p4 p5 p6)
  unfolding conic_value six_point
  conic_is p1 p2 p3 p4 p5 p6 h =
      let h1 : IsPointIn n p1 = h.0 in
      let h2 : IsPointIn n p2 = h.1.0 in
      let h3 : IsPointIn n p3 = h.1.1.0 in
      let h4 : IsPointIn n p4 = h.1.1.1.0 in
      let h5 : IsPointIn n p5 = h.1.1.1.1.0 in
      let h6 : IsPointIn n p6 = h.1.1.1.1.1.0 in
      all_plus (IsKey 3 n) _ _
      (product_is _ _
      (product_is _ _ (product_is _ _ (bracket_is p1 p2 p3 h1 h2 h3) (bracket_is p1 p4 p5 h1 h4 h5)) (bracket_is p2 p4 p6 h2 h4 h6))
      (bracket_is p3 p5 p6 h3 h5 h6))
      (all_minus (IsKey 3 n) _
      (product_is _ _
      (product_is _ _ (product_is _ _ (bracket_is p1 p2 p4 h1 h2 h4) (bracket_is p1 p3 p5 h1 h3 h5)) (bracket_is p2 p3 p6 h2 h3 h6))
      (bracket_is p4 p5 p6 h4 h5 h6)))

pub conic_formed : MadeIsFormed
conic_formed n p1 p2 p3 p4 p5 p6 q made h =
    subst (IsBracketPolynomial 3 n) (sym (conic_sum p1 p2 p3 p4 p5 p6 q made)) (conic_is n p1 p2 p3 p4 p5 p6 h)
