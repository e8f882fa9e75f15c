-- A product of coordinate polynomials that are not zero is not zero: their greatest monomials multiply.
use Rattle.std.specs.Prelude.{◌≡◌, T, not, zero, suc, ℤ, pos, negsuc, ◌*ℤ◌, neg_ℤ, [], ◌∷◌}
use Rattle.std.specs.FinMap.{is_sorted}
use Rattle.std.specs.Cmp.{tied_itself}
use Rattle.std.specs.Ordering.{is_gt}
use Rattle.std.specs.declared.cmp.Ordering.{Ordering}
use Rattle.std.proofs.Common.{refl, sym, ap, subst, ◌∙◌, arith}
use Rattle.std.proofs.lemmas.Int.{ints}
use Rattle.coordinate_model.specs.Ring.{Integers}
use Rattle.coordinate_model.specs.Sums.{Terms, count_at}
use Rattle.coordinate_model.specs.Polynomial.{variable_cmp, Monomial, monomial_cmp, Polynomial, Polynomials}
use Rattle.coordinate_model.specs.NumberLaws.{NonzeroProduct}
use Rattle.coordinate_model.proofs.RingLemmas as Ring
use Rattle.coordinate_model.proofs.IntegerRing.{integer_ring}
use Rattle.coordinate_model.proofs.Bools.{both, first, second, under}
use Rattle.coordinate_model.proofs.Leading.{Top, within, Top-times}
use Rattle.coordinate_model.proofs.Members.{Mem, here, there, below_member, nonzero_member, count_member, no_terms}
use Rattle.coordinate_model.proofs.PolynomialRing.{variable_total, variable_same, monomial_total, monomial_same}
use Rattle.coordinate_model.proofs.PolynomialRing.{join, unit, join_cmp}
use Rattle.coordinate_model.proofs.Roots.{drop_factor}
use Rattle.coordinate_model.proofs.WordLemmas.{join_monoid}

-- a product of integers that is zero has a factor that is zero
other_factor : (x y : ℤ) → (x ≡ pos 0 → ⊥) → x *ℤ y ≡ pos 0 → y ≡ pos 0
other_factor (pos zero) y h e = absurd (h refl)
other_factor (pos (suc i)) y h e = drop_factor i y e
other_factor (negsuc i) y h e =
    drop_factor i y (negated (pos (suc i) *ℤ y) (sym (Ring.neg_mul Integers integer_ring (pos (suc i)) y) ∙ e))
  where
    negated : (a : ℤ) → neg_ℤ a ≡ pos 0 → a ≡ pos 0
    negated a e = omega (arith, ints, e)

-- the last term of ascending ones has the greatest monomial
pub record Last (ts : Terms Monomial) : Type 0 where
  pub term : Monomial × ℤ
  pub stands : Mem term ts
  pub bound : T (within monomial_cmp term.0 ts)

at_itself : (m : Monomial) → T (not (is_gt (monomial_cmp m m)))
at_itself m = subst (λ (r : Ordering). T (not (is_gt r))) (sym (tied_itself monomial_total m)) tt

last_of : (t : Monomial × ℤ) (ts : Terms Monomial) → T (is_sorted monomial_cmp (t ∷ ts)) → Last (t ∷ ts)
last_of t [] h = record { term = t; stands = here; bound = both _ _ (at_itself t.0) tt }
last_of t (u ∷ us) h =
    let l : Last (u ∷ us) = last_of u us (second _ _ h) in
    record {
      term = l.term;
      stands = there l.stands;
      bound = both _ _ (under _ (below_member monomial_cmp t.0 l.term (u ∷ us) l.stands (first _ _ h))) l.bound;
    }

-- a polynomial that is not zero has a greatest monomial, with a coefficient that is not 0
pub record Leads (p : Polynomial) : Type 0 where
  pub monomial : Monomial
  pub integer : ℤ
  pub nonzero : integer ≡ pos 0 → ⊥
  pub top : Top monomial_cmp monomial integer p

of_last : (p : Polynomial) → Last p.terms → Leads p
of_last p l = record {
  monomial = l.term.0;
  integer = l.term.1;
  nonzero = nonzero_member monomial_cmp l.term p.terms l.stands (second _ _ p.canonical);
  top = record {
    bound = l.bound;
    at = count_member monomial_cmp monomial_total monomial_same l.term p.terms l.stands (first _ _ p.canonical);
  };
}

pub leads : (p : Polynomial) → (p ≡ Polynomials.𝟘 → ⊥) → Leads p
leads p h = by_case p.terms refl
  where
    by_case : (ts : Terms Monomial) → p.terms ≡ ts → Leads p
    by_case [] e = absurd (h (no_terms monomial_cmp monomial_total monomial_same p e))
    by_case (t ∷ ts) e =
        of_last p (subst Last (sym e) (last_of t ts (subst (λ (us : Terms Monomial). T (is_sorted monomial_cmp us)) e
        (first _ _ p.canonical))))

pub nonzero_product : NonzeroProduct
nonzero_product p q h k z =
    let a : Leads p = leads p h in
    let b : Leads q = leads q k in
    let top = Top-times monomial_cmp monomial_total monomial_same join unit
    (join_monoid variable_cmp variable_total variable_same) join_cmp a.monomial b.monomial a.integer b.integer p q
    a.top b.top in
    b.nonzero (other_factor a.integer b.integer a.nonzero
    (sym top.at ∙ ap (λ (f : Polynomial). count_at monomial_cmp (join a.monomial b.monomial) f.terms) z))
