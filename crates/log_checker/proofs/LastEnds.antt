-- The end of the last object of a proof, in the code and in what it claims.
use Rattle.std.proofs.Common.{◌≡◌, ◌↔◌, ℕ, ◌+◌, ◌-◌, ◌==◌, List, [], ◌∷◌, ◌++◌, length, refl, sym, ap, ◌∙◌}
use Rattle.std.proofs.Common.{arith, eqb-true, eq-eqb}
use Rattle.std.proofs.lemmas.List.{length-map}
use Rattle.std.proofs.lemmas.Option.{slice_get-map}
use Rattle.std.specs.Prelude.{IsTrue, Option, Some, None, slice_get}
use Rattle.std.specs.Option.{option_map}
use lib.ListN.{length-append}
use Rattle.coordinate_model.specs.BracketPolynomial.{BracketPolynomial}
use Rattle.coordinate_model.specs.Key.{Key, key_cmp}
use Rattle.coordinate_model.specs.Sums.{Terms, empty}
use Rattle.coordinate_model.proofs.KeyProducts.{key_total, key_same}
use Rattle.coordinate_model.proofs.Members.{no_terms}
use Rattle.bracket_poly.specs.Kept.{TrackedOf}
use Rattle.bracket_poly.specs.declared.section.ObjectLog.{ObjectLog}
use Rattle.bracket_poly.specs.declared.section.Section.{Section}
use Rattle.log_checker.specs.Claims.{Claim, claim_of, claims_of, end_or_zero, object_claims}

at_end : {A : Type 0} (xs : List A) (x : A) → slice_get (xs ++ x ∷ []) (length xs) ≡ Some x
at_end [] x = refl
at_end (y ∷ xs) x = at_end xs x

last_at : {A : Type 0} (xs : List A) (x : A) → slice_get (xs ++ x ∷ []) (length (xs ++ x ∷ []) - 1) ≡ Some x
last_at xs x =
    ap (slice_get (xs ++ x ∷ []))
    (let l : length (xs ++ x ∷ []) ≡ length xs + 1 = length-append xs (x ∷ []) in
    let e : length (xs ++ x ∷ []) - 1 ≡ length xs = omega arith in e)
    ∙ at_end xs x

-- what is claimed ends with an object of one section
abbrev pub EndsWith : List (List Claim) → List (List Claim) → Claim → Type 0
EndsWith claims front c = claims ≡ front ++ (c ∷ []) ∷ []

abbrev of_object : {d : ℕ} → ObjectLog d → List Claim
of_object o = claims_of o.sections

module _ {d : ℕ} (objects : List (ObjectLog d)) (front : List (List Claim)) (c : Claim)
    (ends : EndsWith (object_claims objects) front c) where
  last_claims : (o : Option (ObjectLog d)) → o ≡ slice_get objects (length objects - 1)
      → option_map of_object o ≡ Some (c ∷ [])
  last_claims o e =
      ap (option_map of_object) e ∙ sym (slice_get-map of_object objects (length objects - 1))
      ∙ ap (λ n. slice_get (object_claims objects) (n - 1)) (sym (length-map objects of_object))
      ∙ ap (λ cs. slice_get cs (length cs - 1)) ends ∙ last_at front (c ∷ [])

  -- there is one
  pub no_object : None ≡ slice_get objects (length objects - 1) → ⊥
  no_object e = let h : option_map (of_object {d = d}) None ≡ Some (c ∷ []) = last_claims None e in absurd cc

  some_claims : (o : ObjectLog d) → Some o ≡ slice_get objects (length objects - 1) → claims_of o.sections ≡ c ∷ []
  some_claims o e = let h : Some (claims_of o.sections) ≡ Some (c ∷ []) = last_claims (Some o) e in cc

  module _ (o : ObjectLog d) (last : Some o ≡ slice_get objects (length objects - 1)) (ss : List (Section d))
      (sections : ss ≡ o.sections) where
    -- its one section is the first
    first_claim : (s : Option (Section d)) → s ≡ slice_get ss 0 → option_map claim_of s ≡ Some c
    first_claim s e =
        ap (option_map claim_of) (e ∙ ap (λ xs. slice_get xs 0) sections) ∙ sym (slice_get-map claim_of o.sections 0)
        ∙ ap (λ cs. slice_get cs 0) (some_claims o last)

    module _ (s : Section d) (first : Some s ≡ slice_get ss 0) where
      claim_is : claim_of s ≡ c
      claim_is = let h : Some (claim_of s) ≡ Some c = first_claim (Some s) first in cc

      end_is : (e : Option (TrackedOf d)) → s.end ≡ e → end_or_zero (option_map (λ p. p.tracked.sum) e) ≡ c.end
      end_is e h =
          ap (λ o. end_or_zero (option_map (λ p. p.tracked.sum) o)) (sym h) ∙ ap (λ x. x.end) claim_is

      -- whether its end is zero, by the number of terms
      pub end_zero : (e : TrackedOf d) (n : ℕ) → s.end ≡ Some e → n ≡ length e.tracked.sum.terms
          → IsTrue (n == 0) ↔ (c.end ≡ empty key_cmp)
      end_zero e n h l = (
        λ t.
            sym (end_is (Some e) h)
            ∙ no_terms key_cmp key_total key_same e.tracked.sum (none e.tracked.sum.terms (sym l ∙ eqb-true n 0 t)),
        λ z. eq-eqb n 0 (l ∙ ap (λ (f : BracketPolynomial). length f.terms) (end_is (Some e) h ∙ z)),
      )
        where
          none : (ts : Terms Key) → length ts ≡ 0 → ts ≡ []
          none [] k = refl
          none (t ∷ ts) k = absurd (omega arith)

      -- without an end it is zero
      pub no_end : s.end ≡ None → c.end ≡ empty key_cmp
      no_end h = sym (end_is None h)
