-- The syzygy of empty alpha, of S b c e and of S a is minus the three-term sum.
use Rattle.std.proofs.Common.{◌≡◌, ℕ, true, List, [], ◌∷◌, refl, sym, ap, ap₂, ◌∙◌, arith, ◌||◌}
use Rattle.coordinate_model.specs.Sequences.{repeats}
use Rattle.coordinate_model.specs.Brackets.{three_term}
use Rattle.coordinate_model.specs.BracketPolynomial.{KeySums, BracketPolynomial, add, mul}
use Rattle.coordinate_model.specs.Syzygy.{sorted_bracket, syz}
use Rattle.coordinate_model.proofs.KeySumLaws.{add_assoc, add_zero, mul_comm}
use Rattle.coordinate_model.proofs.Openings.{syz-is, sorted_bracket-repeats}
use Rattle.contraction.specs.PassLaws.{SyzygyIsThreeTerms}
use Rattle.bracket_poly.proofs.Totals.{zero_add}
use Rattle.contraction.proofs.Swaps.{zero_right, neg_zero, neg_neg, neg_add, mul_neg, swapped, has_there, twice_there}

-- ---- a point brought behind the shared ones and another

behind_none : (p a : ℕ) → sorted_bracket (p ∷ a ∷ []) ≡ KeySums.neg (sorted_bracket (a ∷ p ∷ []))
behind_none p a = swapped [] p a []

behind_one : (p s a : ℕ) → sorted_bracket (p ∷ s ∷ a ∷ []) ≡ sorted_bracket (s ∷ a ∷ p ∷ [])
behind_one p s a =
    swapped [] p s (a ∷ []) ∙ ap KeySums.neg (swapped (s ∷ []) p a []) ∙ neg_neg (sorted_bracket (s ∷ a ∷ p ∷ []))

behind_two : (p s t a : ℕ)
    → sorted_bracket (p ∷ s ∷ t ∷ a ∷ []) ≡ KeySums.neg (sorted_bracket (s ∷ t ∷ a ∷ p ∷ []))
behind_two p s t a =
    swapped [] p s (t ∷ a ∷ []) ∙ ap KeySums.neg (swapped (s ∷ []) p t (a ∷ []))
    ∙ neg_neg (sorted_bracket (s ∷ t ∷ p ∷ a ∷ [])) ∙ swapped (s ∷ t ∷ []) p a []

-- ---- products

minus_product : (f g h : BracketPolynomial) → g ≡ KeySums.neg h → mul f g ≡ KeySums.neg (mul h f)
minus_product f g h e = ap (mul f) e ∙ mul_neg f h ∙ ap KeySums.neg (mul_comm f h)

plus_product : (f g h : BracketPolynomial) → g ≡ h → mul f g ≡ mul h f
plus_product f g h e = ap (mul f) e ∙ mul_comm f h

no_product : (f : BracketPolynomial) (ps : List ℕ) → repeats ps ≡ true → mul f (sorted_bracket ps) ≡ KeySums.𝟘
no_product f ps e = ap (mul f) (sorted_bracket-repeats ps e) ∙ zero_right f

-- ---- sums

abbrev sum_of_three : (x y z : BracketPolynomial) → BracketPolynomial
sum_of_three x y z = add x (add y (add z KeySums.𝟘))

minus_sum : (t u v x y z : BracketPolynomial) → t ≡ KeySums.neg x → u ≡ y → v ≡ KeySums.neg z
    → sum_of_three t u v ≡ KeySums.neg (add (add x (KeySums.neg y)) z)
minus_sum t u v x y z e f g =
    ap₂ (λ p q. add p (add q (add v KeySums.𝟘))) e f
    ∙ ap (λ r. add (KeySums.neg x) (add y r)) (add_zero v ∙ g)
    ∙ sym (add_assoc (KeySums.neg x) y (KeySums.neg z))
    ∙ sym (neg_add (add x (KeySums.neg y)) z
    ∙ ap (λ r. add r (KeySums.neg z)) (neg_add x (KeySums.neg y) ∙ ap (add (KeySums.neg x)) (neg_neg y)))

-- ---- the ranks

module _ (a b c e : ℕ) where
  rank_2 : syz [] (b ∷ c ∷ e ∷ []) (a ∷ []) ≡ KeySums.neg (three_term KeySums sorted_bracket [] a b c e)
  unfolding three_term
  rank_2 =
      let at = λ (p q : ℕ). sorted_bracket (p ∷ q ∷ []) in
      syz-is [] (b ∷ c ∷ e ∷ []) (a ∷ [])
      ∙ minus_sum _ _ _ (mul (at a b) (at c e)) (mul (at a c) (at b e)) (mul (at a e) (at b c))
      (minus_product (at c e) (at b a) (at a b) (behind_none b a))
      (ap KeySums.neg (minus_product (at b e) (at c a) (at a c) (behind_none c a)) ∙ neg_neg (mul (at a c) (at b e)))
      (minus_product (at b c) (at e a) (at a e) (behind_none e a))

  rank_3 : (s : ℕ) → syz [] (s ∷ b ∷ c ∷ e ∷ []) (s ∷ a ∷ [])
      ≡ KeySums.neg (three_term KeySums sorted_bracket (s ∷ []) a b c e)
  unfolding three_term
  rank_3 s =
      let at = λ (p q : ℕ). sorted_bracket (s ∷ p ∷ q ∷ []) in
      syz-is [] (s ∷ b ∷ c ∷ e ∷ []) (s ∷ a ∷ [])
      ∙ ap₂ add (no_product (sorted_bracket (b ∷ c ∷ e ∷ [])) (s ∷ s ∷ a ∷ []) (twice_there s [] (a ∷ []))) refl
      ∙ zero_add _
      ∙ minus_sum _ _ _ (mul (at a b) (at c e)) (mul (at a c) (at b e)) (mul (at a e) (at b c))
      (ap KeySums.neg (plus_product (at c e) (sorted_bracket (b ∷ s ∷ a ∷ [])) (at a b) (behind_one b s a)))
      (plus_product (at b e) (sorted_bracket (c ∷ s ∷ a ∷ [])) (at a c) (behind_one c s a))
      (ap KeySums.neg (plus_product (at b c) (sorted_bracket (e ∷ s ∷ a ∷ [])) (at a e) (behind_one e s a)))

  rank_4 : (s t : ℕ) → syz [] (s ∷ t ∷ b ∷ c ∷ e ∷ []) (s ∷ t ∷ a ∷ [])
      ≡ KeySums.neg (three_term KeySums sorted_bracket (s ∷ t ∷ []) a b c e)
  unfolding three_term
  rank_4 s t =
      let at = λ (p q : ℕ). sorted_bracket (s ∷ t ∷ p ∷ q ∷ []) in
      syz-is [] (s ∷ t ∷ b ∷ c ∷ e ∷ []) (s ∷ t ∷ a ∷ [])
      ∙ ap₂ add
      (no_product (sorted_bracket (t ∷ b ∷ c ∷ e ∷ [])) (s ∷ s ∷ t ∷ a ∷ []) (twice_there s [] (t ∷ a ∷ []))) refl
      ∙ zero_add _
      ∙ ap₂ add
      (ap KeySums.neg (no_product (sorted_bracket (s ∷ b ∷ c ∷ e ∷ [])) (t ∷ s ∷ t ∷ a ∷ [])
      (ap (λ w. w || repeats (s ∷ t ∷ a ∷ [])) (has_there t (s ∷ []) (a ∷ []))))
      ∙ neg_zero) refl
      ∙ zero_add _
      ∙ minus_sum _ _ _ (mul (at a b) (at c e)) (mul (at a c) (at b e)) (mul (at a e) (at b c))
      (minus_product (at c e) (sorted_bracket (b ∷ s ∷ t ∷ a ∷ [])) (at a b) (behind_two b s t a))
      (ap KeySums.neg
      (minus_product (at b e) (sorted_bracket (c ∷ s ∷ t ∷ a ∷ [])) (at a c) (behind_two c s t a))
      ∙ neg_neg (mul (at a c) (at b e)))
      (minus_product (at b c) (sorted_bracket (e ∷ s ∷ t ∷ a ∷ [])) (at a e) (behind_two e s t a))

pub syzygy_is_three_terms : SyzygyIsThreeTerms
syzygy_is_three_terms [] a b c e r = rank_2 a b c e
syzygy_is_three_terms (s ∷ []) a b c e r = rank_3 a b c e s
syzygy_is_three_terms (s ∷ t ∷ []) a b c e r = rank_4 a b c e s t
syzygy_is_three_terms (s ∷ t ∷ u ∷ S) a b c e r = absurd (omega (arith, r.1))
