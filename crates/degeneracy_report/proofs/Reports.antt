-- What straightening says of the join of a value with fresh points, as a report of the value.
use Rattle.std.proofs.Common.{◌≡◌, ℕ, ◌+◌, ◌-◌, ◌<◌, ◌≤◌, [], refl, sym, ap, subst, ◌∙◌, arith}
use Rattle.std.specs.Prelude.{◌↔◌, Ok, Err, Result, IfOk, length}
use Rattle.std.specs.List.{AllByRecursion}
use Rattle.coordinate_model.specs.Key.{Key, points, IsKey}
use Rattle.coordinate_model.specs.BracketPolynomial.{BracketPolynomial, KeySums, AllKeys, IsNormal, value}
use Rattle.coordinate_model.proofs.BracketPolynomialLaws.{value_of_none}
use Rattle.coordinate_model.proofs.Independence.{same_normal}
use Rattle.coordinate_model.proofs.Splits.{all_so, all_both}
use Rattle.bracket_poly.specs.Kept.{TrackedOf}
use Rattle.bracket_poly.specs.Makings.{adding}
use Rattle.bracket_poly.specs.Sizes.{KeyWithin}
use Rattle.bracket_poly.specs.Tracked.{nothing}
use Rattle.bracket_poly.specs.Values.{value_of}
use Rattle.bracket_poly.specs.declared.value.Value.{Value}
use Rattle.bracket_poly.proofs.Totals.{added, zero_add}
use Rattle.straightening.specs.Bounds.{turnable_keys}
use Rattle.straightening.specs.Results.{AnswersInClasses, IsWithin}
use Rattle.straightening.specs.RunLaws.{HasLike}
use Rattle.straightening.specs.declared.straight.Straight.{Straight}
use Rattle.straightening.specs.declared.straight.StopError.{StopError}
use Rattle.straightening.proofs.TermLists.{holds_of_term}
use Rattle.degeneracy_report.specs.Joined.{IsBefore}
use Rattle.degeneracy_report.specs.Reports.{terms_joined, start_of, IsJoin, IsZeroEverywhere, HasOneRowMore}
use Rattle.degeneracy_report.specs.ZeroLaws.{IsObject}
use Rattle.degeneracy_report.proofs.StartKeys.{start_within, like_within}
use Rattle.degeneracy_report.proofs.StartSteps.{has_step}
use Rattle.degeneracy_report.proofs.StartTerms.{terms_are_join}
use Rattle.degeneracy_report.proofs.ZeroLaws.{zero_where_object}

module _ {d : ℕ} (v : Value d) (fresh : ℕ) (least : 1 ≤ v.step) (most : v.step < d)
    (before : AllByRecursion (IsBefore fresh) (value_of v.entries)) (start : TrackedOf d)
    (made : adding nothing (terms_joined v fresh) ≡ Ok start.tracked) where
  object : IsObject d v.step fresh (value_of v.entries)
  object = record { rank = v.formed.rank; least = least; most = most; sizes = has_step v most; points = before }

  -- the start is the sum of the terms
  pub start_is : start.tracked.sum ≡ start_of v fresh
  start_is = added nothing (terms_joined v fresh) start.tracked made ∙ zero_add (start_of v fresh)

  -- a polynomial with the value of the start is the join
  pub is_join : (f : BracketPolynomial) → value f ≡ value start.tracked.sum → IsJoin v fresh f
  is_join f e = e ∙ ap value start_is ∙ terms_are_join d v.step fresh (value_of v.entries) object

  -- and where it is normal, it has no term exactly where the value is zero everywhere
  pub zero_where : (f : BracketPolynomial) → IsNormal d 64 f → value f ≡ value start.tracked.sum
      → ((f.terms ≡ []) ↔ IsZeroEverywhere v)
  zero_where f normal e =
      let law = zero_where_object d v.step fresh (value_of v.entries) object in (
        λ none. law.0 (sym (is_join f e) ∙ value_of_none f none),
        λ zero. ap (λ (g : BracketPolynomial). g.terms)
            (same_normal d 64 v.formed.rank f KeySums.𝟘 normal tt
            (is_join f e ∙ law.1 zero ∙ sym (value_of_none KeySums.𝟘 refl))),
      )

  pub zero_if : {E : Type 0} (r : Result (Straight d) E)
      → IfOk r (λ end. value end.normal.tracked.sum ≡ value start.tracked.sum)
      → IfOk r (λ end. IsNormal d 64 end.normal.tracked.sum)
      → IfOk r (λ end. (end.normal.tracked.sum.terms ≡ []) ↔ IsZeroEverywhere v)
  zero_if (Ok end) e normal = zero_where end.normal.tracked.sum normal e
  zero_if (Err error) e normal = tt

  pub classes_of : (r : Result (Straight d) (StopError d)) → AnswersInClasses r start.tracked.sum
      → AnswersInClasses r (start_of v fresh)
  classes_of r h = subst (λ (f : BracketPolynomial). AnswersInClasses r f) start_is h

  pub bound_of : (r : Result (Straight d) (StopError d)) (budget : ℕ)
      → IsWithin r budget (length (turnable_keys d start.tracked.sum))
      → IsWithin r budget (length (turnable_keys d (start_of v fresh)))
  bound_of r budget h =
      subst (λ (f : BracketPolynomial). IsWithin r budget (length (turnable_keys d f))) start_is h

  -- a polynomial whose keys have the parameters and the points of keys of the start has one row more than the value
  pub one_row_more : (end : TrackedOf d)
      → AllKeys (λ k. HasLike start.tracked.sum k.exponents (points k.rows)) end.tracked.sum
      → HasOneRowMore v fresh end.tracked.sum
  one_row_more end like parameters rows degree h =
      all_so _ (λ t. KeyWithin (fresh + (d - v.step)) parameters (rows + 1) degree t.0)
      (λ t both. within t.0 both.0 both.1) end.tracked.sum.terms
      (all_both (λ t. HasLike start.tracked.sum t.0.exponents (points t.0.rows)) (λ t. IsKey d 64 t.0) end.tracked.sum.terms
      like end.formed.keys)
    where
      within : (k : Key) → HasLike start.tracked.sum k.exponents (points k.rows) → IsKey d 64 k
          → KeyWithin (fresh + (d - v.step)) parameters (rows + 1) degree k
      within k l key =
          like_within d (fresh + (d - v.step)) parameters (rows + 1) degree l.key k (omega (arith, v.formed.rank.0))
          (holds_of_term (IsKey d 64) start.tracked.sum l.key start.formed.keys l.there) key l.parameters l.same_points
          (holds_of_term (KeyWithin (fresh + (d - v.step)) parameters (rows + 1) degree) start.tracked.sum l.key
          (start_within fresh (d - v.step) parameters rows degree v.entries start.tracked made h) l.there)

  pub sizes_if : (r : Result (Straight d) (StopError d)) → AnswersInClasses r start.tracked.sum
      → IfOk r (λ end. HasOneRowMore v fresh end.normal.tracked.sum)
  sizes_if (Ok end) h = one_row_more end.normal h.0
  sizes_if (Err error) h = tt
