-- What a proof that was read for a program gives its check.
use Rattle.std.proofs.Common.{◌≡◌, ℕ, zero, suc, ◌+◌, ◌≤◌, List, [], ◌∷◌, map, drop, length}
use Rattle.std.proofs.Common.{get_or, refl, arith}
use Rattle.std.specs.Prelude.{Option, Some, None, IsSomeAnd}
use Rattle.std.specs.Option.{option_map}
use Rattle.std.specs.List.{AllByRecursion}
use Rattle.coordinate_model.specs.BracketPolynomial.{BracketPolynomial}
use Rattle.coordinate_model.specs.Key.{Key}
use Rattle.coordinate_model.specs.Syzygy.{Use}
use Rattle.coordinate_model.proofs.Splits.{all_so}
use Rattle.bracket_terms.specs.LogUses.{use_of}
use Rattle.bracket_poly.specs.Kept.{TrackedOf}
use Rattle.bracket_poly.specs.Products.{HasDegree}
use Rattle.bracket_poly.specs.Sections.{rewritten_of, worked_of}
use Rattle.bracket_poly.specs.Sizes.{KeyWithin}
use Rattle.bracket_poly.specs.declared.section.ObjectLog.{ObjectLog}
use Rattle.bracket_poly.specs.declared.section.Section.{Section}
use Rattle.step_types.specs.declared.names.Names.{Names}
use Rattle.proof_text.specs.Told.{AreObjectsTold, IsEndTold, IsKeyTold, IsSectionTold, IsSumTold, IsUseTold}
use Rattle.log_checker.specs.Bounds.{IsClaimWithin, IsKeyWithin, IsPolynomialWithin, IsUseWithin}
use Rattle.log_checker.specs.Checked.{HasSmallEnd, ReadClaims, ReadObjects}
use Rattle.log_checker.specs.Claims.{claim_of, claims_of, end_or_zero, object_claims}

module _ (names : Names) where
  abbrev n : ℕ
  n = length names.free

  abbrev m : ℕ
  m = length names.params

  -- ---- keys

  zero_from : (xs : List ℕ) (m i : ℕ) → AllByRecursion (λ e. e ≡ 0) (drop m xs) → m ≤ i → get_or xs i 0 ≡ 0
  zero_from [] m i h l = refl
  zero_from (x ∷ xs) zero zero h l = h.0
  zero_from (x ∷ xs) zero (suc i) h l = zero_from xs zero i h.1 (omega arith)
  zero_from (x ∷ xs) (suc m) zero h l = absurd (omega arith)
  zero_from (x ∷ xs) (suc m) (suc i) h l = zero_from xs m i h (omega arith)

  key_within : (most : ℕ) (k : Key) → KeyWithin n m most 1000 k → IsKeyWithin n m k
  key_within most k h =
      record { points = h.points_below; parameters = λ i l. zero_from k.exponents m i h.no_others l }

  sum_within : (f : BracketPolynomial) → IsSumTold names f → IsPolynomialWithin n m f
  sum_within f h =
      all_so (λ t. IsKeyTold names 64 t.0) (λ t. IsKeyWithin n m t.0) (λ t k. key_within 64 t.0 k.within) f.terms h.keys

  sum_small : (f : BracketPolynomial) → IsSumTold names f → HasDegree 1000 f
  sum_small f h =
      all_so (λ t. IsKeyTold names 64 t.0) (λ t. AllByRecursion (λ e. e ≤ 1000) t.0.exponents)
      (λ t k. k.within.small) f.terms h.keys

  -- ---- sections

  end_small : {d : ℕ} (o : Option (TrackedOf d)) → IsEndTold names (option_map (λ p. p.tracked.sum) o)
      → IsSomeAnd o (λ end. HasDegree 1000 end.tracked.sum)
  end_small None h = absurd h
  end_small (Some f) h = sum_small f.tracked.sum h

  end_within : {d : ℕ} (o : Option (TrackedOf d)) → IsEndTold names (option_map (λ p. p.tracked.sum) o)
      → IsPolynomialWithin n m (end_or_zero (option_map (λ p. p.tracked.sum) o))
  end_within None h = absurd h
  end_within (Some f) h = sum_within f.tracked.sum h

  use_within : (u : Use) → IsUseTold names u → IsUseWithin n m u
  use_within u h =
      record { key = key_within 62 _ h.key; alpha = h.alpha; beta = h.beta; gamma = h.gamma }

  section_within : {d : ℕ} (step : ℕ) (s : Section d) → IsSectionTold names step (rewritten_of s)
      → IsClaimWithin n m (claim_of s)
  section_within step s h = record {
    scalar = h.points;
    start = sum_within s.start.tracked.sum h.start;
    uses = all_so (IsUseTold names) (IsUseWithin n m) (λ u k. use_within u k) (map use_of s.uses) h.uses;
    end = end_within s.end h.end;
  }

  sections_small : {d : ℕ} (step : ℕ) (ss : List (Section d))
      → AllByRecursion (IsSectionTold names step) (map rewritten_of ss) → AllByRecursion HasSmallEnd ss
  sections_small step [] h = tt
  sections_small step (s ∷ ss) h = (end_small s.end h.0.end, sections_small step ss h.1)

  sections_within : {d : ℕ} (step : ℕ) (ss : List (Section d))
      → AllByRecursion (IsSectionTold names step) (map rewritten_of ss)
      → AllByRecursion (IsClaimWithin n m) (claims_of ss)
  sections_within step [] h = tt
  sections_within step (s ∷ ss) h = (section_within step s h.0, sections_within step ss h.1)

  -- ---- objects

  steps_are : {d : ℕ} (number : ℕ) (steps : List ℕ) (os : List (ObjectLog d))
      → AreObjectsTold names number steps (map worked_of os) → map (λ o. o.step) os ≡ steps
  steps_are number [] [] h = refl
  steps_are number [] (o ∷ os) h = absurd h
  steps_are number (step ∷ steps) [] h = absurd h
  steps_are number (step ∷ steps) (o ∷ os) h = λ j. h.0.step_is j ∷ steps_are (number + 1) steps os h.1 j

  ends_small : {d : ℕ} (number : ℕ) (steps : List ℕ) (os : List (ObjectLog d))
      → AreObjectsTold names number steps (map worked_of os)
      → AllByRecursion (λ o. AllByRecursion HasSmallEnd o.sections) os
  ends_small number [] [] h = tt
  ends_small number [] (o ∷ os) h = absurd h
  ends_small number (step ∷ steps) [] h = absurd h
  ends_small number (step ∷ steps) (o ∷ os) h =
      (sections_small step o.sections h.0.sections, ends_small (number + 1) steps os h.1)

  claims_within : {d : ℕ} (number : ℕ) (steps : List ℕ) (os : List (ObjectLog d))
      → AreObjectsTold names number steps (map worked_of os)
      → AllByRecursion (AllByRecursion (IsClaimWithin n m)) (object_claims os)
  claims_within number [] [] h = tt
  claims_within number [] (o ∷ os) h = absurd h
  claims_within number (step ∷ steps) [] h = absurd h
  claims_within number (step ∷ steps) (o ∷ os) h =
      (sections_within step o.sections h.0.sections, claims_within (number + 1) steps os h.1)

pub read_objects : ReadObjects
read_objects d names p proof h = record {
  steps = steps_are names 1 _ proof.objects h.objects;
  ends = ends_small names 1 _ proof.objects h.objects;
}

pub read_claims : ReadClaims
read_claims d names steps proof h = claims_within names 1 steps proof.objects h.objects
