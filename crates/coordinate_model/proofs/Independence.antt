-- Two normal bracket polynomials with equal values are equal: else the key of the greatest monomial in their
-- difference is left.
use Rattle.std.specs.Prelude.{◌≡◌, ℕ, ◌<◌, Bool, true, not, cond, ◌&&◌, T, ℤ, pos, ◌+ℤ◌, neg_ℤ, [], ◌∷◌}
use Rattle.std.specs.FinMap.{is_sorted}
use Rattle.std.specs.Cmp.{tied_itself}
use Rattle.std.specs.Ordering.{is_gt, is_eq, ordering_reverse}
use Rattle.std.specs.declared.cmp.Ordering.{Ordering}
use Rattle.std.specs.declared.cmp.Ordering.TheVariants.{Less, Equal, Greater}
use Rattle.std.proofs.Common.{refl, sym, ap, subst, ◌∙◌, arith}
use Rattle.std.proofs.lemmas.Int.{ints}
use Rattle.coordinate_model.specs.Ring.{of_int}
use Rattle.coordinate_model.specs.Sums.{Terms, has_no_zero, coefficient, count_at, sum_value}
use Rattle.coordinate_model.specs.Polynomial.{Monomial, monomial_cmp, Polynomial, Polynomials}
use Rattle.coordinate_model.specs.Key.{Key, key_cmp, key_value, key_lead, IsStandardKey}
use Rattle.coordinate_model.specs.BracketPolynomial.{KeySums, BracketPolynomial, value, IsNormal}
use Rattle.coordinate_model.specs.Sequences.{IsRank}
use Rattle.coordinate_model.proofs.Bools.{both, first, second}
use Rattle.coordinate_model.proofs.Ranks.{rank_pos}
use Rattle.coordinate_model.proofs.SumLemmas.{same_coefficients}
use Rattle.coordinate_model.proofs.PolynomialRing.{polynomial_ring, monomial_total, monomial_same}
use Rattle.coordinate_model.proofs.KeyProducts.{key_total, key_same}
use Rattle.coordinate_model.proofs.BracketPolynomialLaws.{value-hom}
use Rattle.coordinate_model.proofs.Members.{Mem, here, there, member_of_all, nonzero_member, count_member}
use Rattle.coordinate_model.proofs.Leading.{Top-plus, Top-empty, count-plus, count-minus}
use Rattle.coordinate_model.proofs.Diagonal.{HasTop, top_under, top_key, top_scaled}
use Rattle.coordinate_model.proofs.Keys.{same_key}
use Rattle.coordinate_model.proofs.KeySets.{AllTerms, all_plus, all_minus}

-- ---- the key of the greatest monomial
abbrev lm : Key × ℤ → Monomial
lm t = key_lead t.0

abbrev at_most : Monomial → Terms Key → Bool
at_most m [] = true
at_most m (t ∷ ts) = not (is_gt (monomial_cmp (lm t) m)) && at_most m ts

at_most_up : (m n : Monomial) (ts : Terms Key) → monomial_cmp m n ≡ Less → T (at_most m ts) → T (at_most n ts)
at_most_up m n [] e h = tt
at_most_up m n (t ∷ ts) e h =
    both _ _ (step (monomial_cmp (lm t) m) refl (first _ _ h)) (at_most_up m n ts e (second _ _ h))
  where
    is_less : (r : Ordering) → r ≡ Less → T (not (is_gt r))
    is_less r e = subst (λ (z : Ordering). T (not (is_gt z))) (sym e) tt

    step : (r : Ordering) → monomial_cmp (lm t) m ≡ r → T (not (is_gt r)) → T (not (is_gt (monomial_cmp (lm t) n)))
    step Less f p = is_less _ (monomial_total.trans (lm t) m n f e)
    step Equal f p = is_less _ (monomial_total.congr (lm t) m n f ∙ e)
    step Greater f p = absurd p

pub record Greatest (ts : Terms Key) : Type 0 where
  member : Key × ℤ
  stands : Mem member ts
  above : T (at_most (lm member) ts)

at_itself : (m : Monomial) → T (not (is_gt (monomial_cmp m m)))
at_itself m = subst (λ (z : Ordering). T (not (is_gt z))) (sym (tied_itself monomial_total m)) tt

greater_of : (t : Key × ℤ) (ts : Terms Key) (g : Greatest ts) (r : Ordering) → monomial_cmp (lm t) (lm g.member) ≡ r
    → Greatest (t ∷ ts)
greater_of t ts g Less e = record {
  member = g.member;
  stands = there g.stands;
  above = both _ _
      (subst (λ (z : Ordering). T (not (is_gt z))) (sym e) tt) g.above;
}
greater_of t ts g Equal e = record {
  member = g.member;
  stands = there g.stands;
  above = both _ _
      (subst (λ (z : Ordering). T (not (is_gt z))) (sym e) tt) g.above;
}
greater_of t ts g Greater e = record {
  member = t;
  stands = here;
  above = both _ _ (at_itself (lm t))
      (at_most_up (lm g.member) (lm t) ts (monomial_total.antisymm (lm g.member) (lm t)
      ∙ ap ordering_reverse e) g.above);
}

greatest : (t : Key × ℤ) (ts : Terms Key) → Greatest (t ∷ ts)
greatest t [] = record { member = t; stands = here; above = both _ _ (at_itself (lm t)) tt }
greatest t (u ∷ us) =
    let g : Greatest (u ∷ us) = greatest u us in greater_of t (u ∷ us) g (monomial_cmp (lm t) (lm g.member)) refl

-- ---- its coefficient
abbrev at_monomial : Monomial → Terms Key → ℤ
at_monomial m [] = pos 0
at_monomial m (t ∷ ts) = cond (is_eq (monomial_cmp (lm t) m)) t.1 (pos 0) +ℤ at_monomial m ts

module _ (d n : ℕ) (rank : IsRank d) where
  abbrev scaled : Key × ℤ → Polynomial
  scaled t = Polynomials.◌⊗◌ (of_int Polynomials t.1) (key_value t.0)

  top_scaled_key : (t : Key × ℤ) → IsStandardKey d n t.0 → HasTop (lm t) t.1 (scaled t)
  top_scaled_key t s = top_scaled t.1 (lm t) (key_value t.0) (top_key d t.0 rank s.key.each)

  top_at : (m : Monomial) (t : Key × ℤ) → IsStandardKey d n t.0 → T (not (is_gt (monomial_cmp (lm t) m)))
      → HasTop m (cond (is_eq (monomial_cmp (lm t) m)) t.1 (pos 0)) (scaled t)
  top_at m t s h = by_case (monomial_cmp (lm t) m) refl h
    where
      by_case : (r : Ordering) → monomial_cmp (lm t) m ≡ r → T (not (is_gt r))
          → HasTop m (cond (is_eq r) t.1 (pos 0)) (scaled t)
      by_case Less e p = top_under (lm t) m e t.1 (scaled t) (top_scaled_key t s)
      by_case Equal e p =
          subst (λ (k : Monomial). HasTop k t.1 (scaled t)) (monomial_same (lm t) m e) (top_scaled_key t s)
      by_case Greater e p = absurd p

  top_sum : (m : Monomial) (ts : Terms Key) → AllTerms (IsStandardKey d n) ts → T (at_most m ts)
      → HasTop m (at_monomial m ts) (sum_value Polynomials (key_value) ts)
  top_sum m [] a h = Top-empty monomial_cmp monomial_total monomial_same m
  top_sum m (t ∷ ts) a h =
      Top-plus monomial_cmp monomial_total monomial_same m _ _ _ _ (top_at m t a.0 (first _ _ h))
      (top_sum m ts a.1 (second _ _ h))

  positive : 0 < d
  positive = rank_pos d rank

  -- keys and their monomials agree in which are the same
  same_test : (k l : Key) → IsStandardKey d n k → IsStandardKey d n l
      → is_eq (monomial_cmp (key_lead l) (key_lead k)) ≡ is_eq (key_cmp k l)
  same_test k l s t = by_case (key_cmp k l) (monomial_cmp (key_lead l) (key_lead k)) refl refl
    where
      by_case : (r q : Ordering) → key_cmp k l ≡ r → monomial_cmp (key_lead l) (key_lead k) ≡ q → is_eq q ≡ is_eq r
      by_case Equal q e f =
          ap is_eq (sym f ∙ ap (λ (z : Key). monomial_cmp (key_lead l) (key_lead z)) (key_same k l e)
          ∙ tied_itself monomial_total (key_lead l))
      by_case Less Less e f = refl
      by_case Less Equal e f =
          let is : Less ≡ Equal = sym e ∙ ap (key_cmp k) (same_key d n l k positive t s (monomial_same _ _ f))
          ∙ tied_itself key_total k in cc
      by_case Less Greater e f = refl
      by_case Greater Less e f = refl
      by_case Greater Equal e f =
          let is : Greater ≡ Equal = sym e ∙ ap (key_cmp k) (same_key d n l k positive t s (monomial_same _ _ f))
          ∙ tied_itself key_total k in cc
      by_case Greater Greater e f = refl

  at_key : (k : Key) (ts : Terms Key) → IsStandardKey d n k → AllTerms (IsStandardKey d n) ts
      → at_monomial (key_lead k) ts ≡ count_at key_cmp k ts
  at_key k [] s a = refl
  at_key k (t ∷ ts) s a =
      ap (λ b. cond b t.1 (pos 0) +ℤ at_monomial (key_lead k) ts) (same_test k t.0 s a.0)
      ∙ ap (λ z. cond (is_eq (key_cmp k t.0)) t.1 (pos 0) +ℤ z) (at_key k ts s a.1)

  -- a normal list of terms whose value is zero is empty
  none_left : (ts : Terms Key) → T (is_sorted key_cmp ts) → T (has_no_zero ts) → AllTerms (IsStandardKey d n) ts
      → sum_value Polynomials (key_value) ts ≡ Polynomials.𝟘 → ts ≡ []
  none_left [] h g a e = refl
  none_left (t ∷ ts) h g a e =
      let best : Greatest (t ∷ ts) = greatest t ts in
      let k = best.member.0 in
      let s : IsStandardKey d n k = member_of_all (λ e. IsStandardKey d n e.0) best.member (t ∷ ts) best.stands a in
      let top : HasTop (key_lead k) (at_monomial (key_lead k) (t ∷ ts))
      (sum_value Polynomials (key_value) (t ∷ ts)) = top_sum (key_lead k) (t ∷ ts) a best.above in
      absurd (nonzero_member key_cmp best.member (t ∷ ts) best.stands g
      (sym (count_member key_cmp key_total key_same best.member (t ∷ ts) best.stands h) ∙ sym (at_key k (t ∷ ts) s a) ∙ sym top.at
      ∙ ap (λ (f : Polynomial). count_at monomial_cmp (key_lead k) f.terms) e))

  -- two normal bracket polynomials with equal values are equal
  pub same_normal : (F G : BracketPolynomial) → IsNormal d n F → IsNormal d n G → value F ≡ value G → F ≡ G
  unfolding value
  same_normal F G a b e =
      let H : BracketPolynomial = KeySums.◌⊕◌ F (KeySums.neg G) in
      let zero' : value H ≡ Polynomials.𝟘 =
      value-hom.to_add F (KeySums.neg G) ∙ ap (Polynomials.◌⊕◌ (value F)) (value-hom.to_neg G
      ∙ ap Polynomials.neg (sym e))
      ∙ polynomial_ring.add_neg (value F) in
      let normal : IsNormal d n H = all_plus (IsStandardKey d n) F (KeySums.neg G) a
      (all_minus (IsStandardKey d n) G b) in
      let empty' : H.terms ≡ [] = none_left H.terms (first _ _ H.canonical) (second _ _ H.canonical) normal zero' in
      same_coefficients key_cmp key_total key_same F G (λ k. equal (coefficient F k) (coefficient G k)
      (sym (count-plus key_cmp key_total key_same k F (KeySums.neg G)
      ∙ ap (λ z. coefficient F k +ℤ z) (count-minus key_cmp key_total key_same k G)) ∙ ap (count_at key_cmp k) empty'))
    where
      equal : (x y : ℤ) → x +ℤ neg_ℤ y ≡ pos 0 → x ≡ y
      equal x y e = omega (arith, ints)
