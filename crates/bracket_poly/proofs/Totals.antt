-- The sum behind terms that are added one after another, and behind products.
use Rattle.std.proofs.Common.{◌≡◌, ℕ, ℤ, pos, ◌*ℤ◌, List, [], ◌∷◌, ◌++◌, map, refl, sym, ap, ap₂, ◌∙◌, append-nil}
use Rattle.std.specs.Prelude.{Option, None, Ok}
use Rattle.std.specs.Cmp.Lexicographic.{nat_list_cmp_total}
use Rattle.std.proofs.Math.IntN.{*ℤ_comm}
use Rattle.coordinate_model.specs.Sums.{Terms, products, sum_of, single}
use Rattle.coordinate_model.specs.Key.{Key, key_cmp, key_times, row_cmp, rows_key}
use Rattle.coordinate_model.specs.BracketPolynomial.{KeySums, BracketPolynomial, add, mul}
use Rattle.coordinate_model.specs.Starts.{row_key, product_terms}
use Rattle.coordinate_model.specs.Syzygy.{additions}
use Rattle.coordinate_model.specs.Words.{ordered}
use Rattle.coordinate_model.proofs.KeyProducts.{key_total, key_same}
use Rattle.coordinate_model.proofs.KeySets.{AllTerms, all_times}
use Rattle.coordinate_model.proofs.KeySumLaws.{add_assoc, add_comm, add_zero, terms-add, terms-mul, terms-same, row_same}
use Rattle.coordinate_model.proofs.Openings.{mul-is}
use Rattle.coordinate_model.proofs.StartLaws.{additions_of_multiple}
use Rattle.coordinate_model.proofs.SumRing.{times_one_on}
use Rattle.coordinate_model.proofs.WordLemmas.{ordered_ordered}
use Rattle.bracket_terms.proofs.ExponentLaws.{add_exponents-nothing}
use Rattle.bracket_poly.specs.Laws.{TermAdds, TermsAdd, ProductAdds, UseAdds, MakesProduct}
use Rattle.bracket_poly.specs.Makings.{adding}
use Rattle.bracket_poly.specs.Tracked.{Tracked, nothing, plus_term, plus_terms}
use Rattle.bracket_poly.proofs.KeyParts.{same_parts}
use Rattle.bracket_poly.proofs.Makings.{made_terms}

-- ---- terms

pub term_adds : TermAdds
term_adds p t =
    terms-add (t ∷ []) p.sum.terms ∙ ap (add (sum_of key_cmp (t ∷ []))) (terms-same p.sum)
    ∙ add_comm (sum_of key_cmp (t ∷ [])) p.sum

pub terms_add : TermsAdd
terms_add p [] = sym (ap (add p.sum) (terms-same KeySums.𝟘) ∙ add_zero p.sum)
terms_add p (t ∷ ts) =
    terms_add (plus_term p t) ts ∙ ap (λ (g : BracketPolynomial). add g (sum_of key_cmp ts)) (term_adds p t)
    ∙ add_assoc p.sum (sum_of key_cmp (t ∷ [])) (sum_of key_cmp ts)
    ∙ ap (add p.sum) (sym (terms-add (t ∷ []) ts))

-- so it is that of the terms before and of all that are added
pub adds_all : (p : Tracked) (ts : Terms Key) → (plus_terms p ts).sum ≡ sum_of key_cmp (p.sum.terms ++ ts)
adds_all p ts =
    terms_add p ts ∙ ap (λ (f : BracketPolynomial). add f (sum_of key_cmp ts)) (sym (terms-same p.sum))
    ∙ sym (terms-add p.sum.terms ts)

pub use_adds : UseAdds
use_adds p u = terms_add p (additions u) ∙ ap (add p.sum) (additions_of_multiple u)

pub zero_add : (f : BracketPolynomial) → add KeySums.𝟘 f ≡ f
zero_add f = add_comm KeySums.𝟘 f ∙ add_zero f

-- and so it is for what is made
pub added : (p : Tracked) (ts : Terms Key) (q : Tracked) → adding p ts ≡ Ok q → q.sum ≡ add p.sum (sum_of key_cmp ts)
added p ts q e = ap (λ (r : Tracked). r.sum) (made_terms p ts q e) ∙ terms_add p ts

-- ---- products

scaled : (k : Key) (c : ℤ) (ts : Terms Key) → map (λ t. (key_times t.0 k, c *ℤ t.1)) ts ≡ products key_times ts ((k, c) ∷ [])
scaled k c [] = refl
scaled k c (t ∷ ts) = ap₂ (λ z us. (key_times t.0 k, z) ∷ us) (*ℤ_comm c t.1) (scaled k c ts)

-- the sum of the terms of a product
pub sum_of_product : (f g : BracketPolynomial) (row : Option (List ℕ)) (sign : ℤ)
    → sum_of key_cmp (product_terms f g row sign) ≡ mul (mul f g) (sum_of key_cmp ((row_key row, sign) ∷ []))
sum_of_product f g row sign =
    ap (sum_of key_cmp) (scaled (row_key row) sign (products key_times f.terms g.terms))
    ∙ terms-mul (products key_times f.terms g.terms) ((row_key row, sign) ∷ [])
    ∙ ap (λ h. mul h (sum_of key_cmp ((row_key row, sign) ∷ []))) (sym (mul-is f g))

pub product_adds : ProductAdds
product_adds p f g row sign = terms_add p (product_terms f g row sign) ∙ ap (add p.sum) (sum_of_product f g row sign)

-- the rows of a product ascend, so that 1 is one for it
unit_key : (k l : Key) → key_times (key_times k l) (rows_key []) ≡ key_times k l
unit_key k l =
    same_parts _ _ (add_exponents-nothing _)
    (ordered_ordered row_cmp nat_list_cmp_total row_same (k.rows ++ l.rows) []
    ∙ ap (ordered row_cmp) (append-nil (k.rows ++ l.rows)))

mul_unit : (f g : BracketPolynomial) → mul (mul f g) KeySums.𝟙 ≡ mul f g
mul_unit f g =
    times_one_on key_cmp key_total key_same key_times (rows_key []) (mul f g)
    (all_times (λ k. Unit {0}) (λ k. Unit {0}) (λ k. key_times k (rows_key []) ≡ k) (λ k l h i. unit_key k l) f g
    (any f.terms) (any g.terms))
  where
    any : (ts : Terms Key) → AllTerms (λ k. Unit {0}) ts
    any [] = tt
    any (t ∷ ts) = (tt, any ts)

pub makes_product : MakesProduct
unfolding single
makes_product f g q e =
    added nothing (product_terms f g None (pos 1)) q e ∙ zero_add _ ∙ sum_of_product f g None (pos 1) ∙ mul_unit f g

pub mul_nothing : (f : BracketPolynomial) → mul f KeySums.𝟘 ≡ KeySums.𝟘
mul_nothing f = mul-is f KeySums.𝟘 ∙ ap (sum_of key_cmp) (none f.terms) ∙ terms-same KeySums.𝟘
  where
    none : (ts : Terms Key) → products key_times ts [] ≡ []
    none [] = refl
    none (t ∷ ts) = none ts
