-- Objects whose sections are accepted: their values have the coordinates of their starts.
use Rattle.std.proofs.Common.{◌≡◌, ℕ, Bool, true, false, cond, List, [], ◌∷◌, map, filter, refl, sym, ap, ap₂, subst}
use Rattle.std.proofs.Common.{◌∙◌}
use Rattle.std.specs.Prelude.{Option, Some, None, Result, Ok, Err}
use Rattle.std.specs.List.{AllByRecursion, cons_option}
use Rattle.coordinate_model.specs.Sequences.{IsRank}
use Rattle.coordinate_model.specs.BracketPolynomial.{BracketPolynomial, value}
use Rattle.coordinate_model.specs.Polynomial.{Polynomials}
use Rattle.coordinate_model.specs.Starts.{Entry, Product, has_term}
use Rattle.coordinate_model.specs.Value.{coordinates}
use Rattle.coordinate_model.proofs.KeySumLaws.{normal-is}
use Rattle.coordinate_model.proofs.Splits.{all_filter}
use Rattle.coordinate_model.proofs.StartLaws.{zero_entries}
use Rattle.coordinate_model.proofs.StartSizes.{IsEntry}
use Rattle.coordinate_model.proofs.ValueLaws.{free, coordinates-more}
use Rattle.bracket_poly.specs.Tracked.{Limit}
use Rattle.shuffle_meet.specs.Stops.{Start, first_stop}
use Rattle.shuffle_meet.specs.SectionStarts.{section_starts}
use Rattle.shuffle_meet.proofs.StartSums.{entries_at}
use Rattle.log_checker.specs.Claims.{Claim, ended_value}
use Rattle.log_checker.specs.Starts.{starts_by}
use Rattle.log_checker.specs.Accepted.{IsAccepted, start_entry, claimed_entry}
use Rattle.log_checker.specs.ProofLaws.{HaveUses}
use Rattle.log_checker.specs.SectionLaws.{AcceptedKeepsValue}
use Rattle.log_checker.proofs.StartFacts.{IsStart}

-- the ends, each with its extensor
abbrev pub claimed_end : Claim → Entry
claimed_end c = (c.scalar, c.end)

-- the value that they end with has the ends with a term
pub value_of_claims : (claims : List Claim) → ended_value claims ≡ filter has_term (map claimed_end claims)
value_of_claims [] = refl
value_of_claims (c ∷ claims) =
    ap (λ es. cons_option (cond (has_term (claimed_end c)) (Some (claimed_end c)) None) es) (value_of_claims claims)
    ∙ step (has_term (claimed_end c))
  where
    step : (b : Bool)
        → cons_option (cond b (Some (claimed_end c)) None) (filter has_term (map claimed_end claims))
        ≡ cond b (claimed_end c ∷ filter has_term (map claimed_end claims)) (filter has_term (map claimed_end claims))
    step true = refl
    step false = refl

-- the starts of products that pass no limit
pub starts_are : (d step : ℕ) (ps : List Product) (starts : List Start) → starts_by d step ps ≡ Ok starts
    → section_starts d step ps ≡ starts
starts_are d step ps starts = by_stop (first_stop [] ps)
  where
    by_stop : (o : Option Limit)
        → elim o as (λ _. Result (List Start) Limit) [ Some limit ↦ Err limit | None ↦ Ok (section_starts d step ps) ]
        ≡ Ok starts
        → section_starts d step ps ≡ starts
    by_stop (Some limit) e = absurd cc
    by_stop None e = cc

same_head : {A : Type 0} (x y : A) (xs ys : List A) → x ∷ xs ≡ y ∷ ys → (x ≡ y) × (xs ≡ ys)
same_head x y xs ys e = (cc, cc)

module _ (keeps : AcceptedKeepsValue) (d : ℕ) (rank : IsRank d) where
  same_ends : (claims : List Claim) → AllByRecursion (IsAccepted d) claims → HaveUses d claims → (K : List ℕ)
      → coordinates (map claimed_end claims) K ≡ coordinates (map claimed_entry claims) K
  same_ends [] h u K = refl
  same_ends (c ∷ claims) h u K =
      coordinates-more (claimed_end c) (map claimed_end claims) K
      ∙ ap₂ (λ f r. Polynomials.◌⊕◌ (Polynomials.◌⊗◌ f (free c.scalar K)) r) (keeps d c rank u.0 h.0)
      (same_ends claims h.1 u.1 K)
      ∙ sym (coordinates-more (claimed_entry c) (map claimed_entry claims) K)

  -- their value has the coordinates of the starts
  pub accepted_coordinates : (starts : List Start) (claims : List Claim)
      → map start_entry starts ≡ map claimed_entry claims → AllByRecursion (IsAccepted d) claims → HaveUses d claims
      → (K : List ℕ) → coordinates (ended_value claims) K ≡ coordinates (entries_at starts) K
  accepted_coordinates starts claims same h u K =
      ap (λ A. coordinates A K) (value_of_claims claims) ∙ zero_entries (map claimed_end claims) K
      ∙ same_ends claims h u K ∙ ap (λ A. coordinates A K) (sym same)

  ends_are : (a : ℕ) (claims : List Claim) → AllByRecursion (IsEntry d 64 a) (map claimed_entry claims)
      → AllByRecursion (IsAccepted d) claims → AllByRecursion (IsEntry d 64 a) (map claimed_end claims)
  ends_are a [] p h = tt
  ends_are a (c ∷ claims) p h =
      (record { points = p.0.points; keys = normal-is d 64 c.end h.0.normal }, ends_are a claims p.1 h.1)

  starts_entries : (a : ℕ) (starts : List Start) → AllByRecursion (IsStart d a) starts
      → AllByRecursion (IsEntry d 64 a) (map start_entry starts)
  starts_entries a [] h = tt
  starts_entries a (start ∷ starts) h = (h.0, starts_entries a starts h.1)

  -- and is a value of the same extensors
  pub accepted_entries : (a : ℕ) (starts : List Start) (claims : List Claim)
      → map start_entry starts ≡ map claimed_entry claims → AllByRecursion (IsAccepted d) claims
      → AllByRecursion (IsStart d a) starts → AllByRecursion (IsEntry d 64 a) (ended_value claims)
  accepted_entries a starts claims same h p =
      subst (AllByRecursion (IsEntry d 64 a)) (sym (value_of_claims claims))
      (all_filter (IsEntry d 64 a) has_term (map claimed_end claims)
      (ends_are a claims (subst (AllByRecursion (IsEntry d 64 a)) same (starts_entries a starts p)) h))

  -- of one start there is one section, whose end has its value
  pub record EndsOne (start : BracketPolynomial) (claims : List Claim) : Type 0 where
    pub claim : Claim
    pub only : claims ≡ claim ∷ []
    pub accepted : IsAccepted d claim
    pub same : value claim.end ≡ value start

  pub one_section : (start : Start) (claims : List Claim) → map start_entry (start ∷ []) ≡ map claimed_entry claims
      → AllByRecursion (IsAccepted d) claims → HaveUses d claims → EndsOne start.1.sum claims
  one_section start [] e h u = absurd cc
  one_section start (c ∷ x ∷ claims) e h u =
      absurd (let z = (same_head (start_entry start) (claimed_entry c) [] (map claimed_entry (x ∷ claims)) e).1 in cc)
  one_section start (c ∷ []) e h u = record {
    claim = c;
    only = refl;
    accepted = h.0;
    same =
        keeps d c rank u.0 h.0
        ∙ ap (λ (x : Entry). value x.1) (sym (same_head (start_entry start) (claimed_entry c) [] [] e).0);
  }
