-- The key of a refusal has points and parameters of the program and of the proof alone.
use Rattle.std.proofs.Common.{◌≡◌, ◌⊎◌, inl, inr, ℕ, zero, suc, ◌+◌, List, [], ◌∷◌, ◌++◌, zip, length, refl, sym}
use Rattle.std.proofs.Common.{subst}
use Rattle.std.specs.Prelude.{Option, Some, None, Result, Ok, Err}
use Rattle.std.specs.List.{AllByRecursion}
use Rattle.coordinate_model.specs.BracketPolynomial.{BracketPolynomial}
use Rattle.coordinate_model.specs.Starts.{Product, terms_of}
use Rattle.coordinate_model.specs.SyzygyLaws.{PointsOfMultiple}
use Rattle.coordinate_model.specs.Value.{Value}
use Rattle.coordinate_model.proofs.KeySets.{AllTerms}
use Rattle.coordinate_model.proofs.Splits.{all_append}
use Rattle.bracket_poly.specs.Tracked.{Tracked, Limit, coefficient_limit, keys_limit}
use Rattle.cayley_terms.specs.declared.instr.Instr.{Instr}
use Rattle.cayley_terms.specs.declared.instr.Instr.TheVariants.{Free, Join, Meet, On, Conic}
use Rattle.cayley_terms.specs.Starts.{free_value, value_at, products_of}
use Rattle.cayley_terms.specs.Starts as operation
use Rattle.conic_points.specs.Makings.{made_conic}
use Rattle.shuffle_meet.specs.Stops.{Start}
use Rattle.log_checker.specs.declared.fault.CheckKind.{CheckKind}
use Rattle.log_checker.specs.declared.fault.CheckKind.TheVariants.{Coefficient, Keys, Differs, NotStandard}
use Rattle.log_checker.specs.declared.refusal.ProofRefusal.{ProofRefusal}
use Rattle.log_checker.specs.declared.refusal.ProofRefusal.TheVariants as refusal
use Rattle.log_checker.specs.Accepted.{claimed_sum, IsObjectAccepted}
use Rattle.log_checker.specs.Bounds.{HasNumbers, IsKeyWithin, IsClaimWithin, IsPolynomialWithin, IsKindWithin}
use Rattle.log_checker.specs.Bounds.{IsRefusalWithin}
use Rattle.log_checker.specs.Bounds.{RefusalIsWithin}
use Rattle.log_checker.specs.Claims.{Claim, ended_value}
use Rattle.log_checker.specs.Objects.{point_of}
use Rattle.log_checker.specs.ProofRefused.{IsSectionRefused, AreSectionsRefused, IsObjectRefused, AreRefused}
use Rattle.log_checker.specs.ProofRefused.{limit_refusal}
use Rattle.log_checker.specs.Refused.{IsKind}
use Rattle.log_checker.specs.Starts.{starts_by, start_made, starts_of}
use Rattle.log_checker.proofs.AcceptedObjects.{starts_are}
use Rattle.log_checker.proofs.Instructions.{point_is, refused_next, refused_none, refused_point}
use Rattle.log_checker.proofs.KeyBounds.{IsValueWithin, IsStartWithin, joins_within, meets_within, mixed_within}
use Rattle.log_checker.proofs.KeyBounds.{starts_within}
use Rattle.log_checker.proofs.KeyBounds.{conic_within, free_within, ended_within, sum_within, difference_within}
use Rattle.log_checker.proofs.LeastKeys.{of_all}

module _ (law : PointsOfMultiple) (n m : ℕ) where
  -- ---- sections

  kind_within : {d : ℕ} (c : Claim) (number : ℕ) (k : CheckKind d) → IsClaimWithin n m c → IsKind c number k
      → IsKindWithin n m k
  kind_within c number Coefficient h i = tt
  kind_within c number Keys h i = tt
  kind_within c number (Differs k x y) h i =
      difference_within (IsKeyWithin n m) (claimed_sum c) c.end k x y
      (sum_within n m law c.start.sum c.uses h.start h.uses)
      h.end i.1
  kind_within c number (NotStandard k) h i = of_all (IsKeyWithin n m) k c.end.terms h.end i.2.is_there

  section_within : {d : ℕ} (start : BracketPolynomial) (c : Claim) (number : ℕ) (r : ProofRefusal d)
      → IsPolynomialWithin n m start → IsClaimWithin n m c → IsSectionRefused start c number r → IsRefusalWithin n m r
  section_within start c number (refusal.Start section k x y) s h i =
      difference_within (IsKeyWithin n m) start c.start.sum k x y s h.start i.1
  section_within start c number (refusal.Section section fault) s h i =
      kind_within c fault.use_number fault.kind h i.2
  section_within start c number (refusal.Scalars object) s h i = tt
  section_within start c number (refusal.ObjectCoefficient object) s h i = tt
  section_within start c number (refusal.ObjectKeys object) s h i = tt
  section_within start c number refusal.Memory s h i = tt

  sections_within : {d : ℕ} (starts : List Start) (claims : List Claim) (number : ℕ) (r : ProofRefusal d)
      → AllByRecursion (IsStartWithin n m) starts → AllByRecursion (IsClaimWithin n m) claims
      → AreSectionsRefused starts claims number r → IsRefusalWithin n m r
  sections_within [] claims number r s h i = absurd i
  sections_within (start ∷ starts) [] number r s h i = absurd i
  sections_within (start ∷ starts) (c ∷ claims) number r s h (inl i) = section_within start.1.sum c number r s.0 h.0 i
  sections_within (start ∷ starts) (c ∷ claims) number r s h (inr i) =
      sections_within starts claims (number + 1) r s.1 h.1 i.2

  -- ---- starts

  value_there : (values : List Value) (k : ℕ) → AllByRecursion (IsValueWithin n m) values
      → IsValueWithin n m (value_at values k)
  value_there [] k h = tt
  value_there (v ∷ values) zero h = h.0
  value_there (v ∷ values) (suc k) h = value_there values k h.1

  made_within : (d step : ℕ) (ps : List Product) (starts : List Start)
      → AllByRecursion (λ p. AllTerms (IsKeyWithin n m) (terms_of p)) ps → starts_by d step ps ≡ Ok starts
      → AllByRecursion (IsStartWithin n m) starts
  made_within d step ps starts h e =
      subst (AllByRecursion (IsStartWithin n m)) (starts_are d step ps starts e) (starts_within n m d step ps h)

  one_within : (made : Result Tracked Limit) (starts : List Start)
      → ((q : Tracked) → made ≡ Ok q → IsPolynomialWithin n m q.sum) → start_made made ≡ Ok starts
      → AllByRecursion (IsStartWithin n m) starts
  one_within (Err limit) starts h e = absurd cc
  one_within (Ok q) starts h e =
      subst (AllByRecursion (IsStartWithin n m)) (let same : ([], q) ∷ [] ≡ starts = cc in same) (h q refl, tt)

  object_starts : (d : ℕ) (values : List Value) (instr : Instr) (step : ℕ) (starts : List Start) → HasNumbers n m instr
      → AllByRecursion (IsValueWithin n m) values → starts_of d values instr step ≡ Ok starts
      → AllByRecursion (IsStartWithin n m) starts
  object_starts d values (Free i) step starts h v e =
      subst (AllByRecursion (IsStartWithin n m)) (let same : [] ≡ starts = cc in same) tt
  object_starts d values (Join a b) step starts h v e =
      made_within d step (products_of operation.Join d values a b) starts
      (joins_within n m d (value_at values a) (value_at values b) (value_there values a v) (value_there values b v)) e
  object_starts d values (Meet a b) step starts h v e =
      made_within d step (products_of operation.Meet d values a b) starts
      (meets_within n m d (value_at values a) (value_at values b) (value_there values a v) (value_there values b v)) e
  object_starts d values (On a b s t) step starts h v e =
      made_within d step (products_of (operation.On s t) d values a b) starts
      (mixed_within n m s t h.0 h.1 (value_at values a) (value_at values b) (value_there values a v)
      (value_there values b v)) e
  object_starts d values (Conic p1 p2 p3 p4 p5 p6) step starts h v e =
      one_within
      (made_conic (value_at values p1) (value_at values p2) (value_at values p3) (value_at values p4)
      (value_at values p5)
      (value_at values p6)) starts
      (λ q f. conic_within n m (value_at values p1) (value_at values p2) (value_at values p3) (value_at values p4)
      (value_at values p5) (value_at values p6) (value_there values p1 v) (value_there values p2 v)
      (value_there values p3 v) (value_there values p4 v) (value_there values p5 v) (value_there values p6 v) q f) e

  -- ---- objects

  limit_within : (d object : ℕ) (limit : Limit) → IsRefusalWithin {d = d} n m (limit_refusal object limit)
  limit_within d object coefficient_limit = tt
  limit_within d object keys_limit = tt

  object_within : {d : ℕ} (made : Result (List Start) Limit) (claims : List Claim) (object section : ℕ)
      (r : ProofRefusal d) → ((starts : List Start) → made ≡ Ok starts → AllByRecursion (IsStartWithin n m) starts)
      → AllByRecursion (IsClaimWithin n m) claims → IsObjectRefused made claims object section r → IsRefusalWithin n m r
  object_within {d} (Err limit) claims object section r s h i =
      subst (λ x. IsRefusalWithin {d = d} n m x) (sym i) (limit_within d object limit)
  object_within {d} (Ok starts) claims object section r s h (inl i) =
      subst (λ x. IsRefusalWithin {d = d} n m x) (sym i.1) tt
  object_within (Ok starts) claims object section r s h (inr i) =
      sections_within starts claims section r (s starts refl) h i.1

  refused_within : (d : ℕ) (values : List Value) (instrs : List Instr) (steps : List ℕ) (objects : List (List Claim))
      (object section : ℕ) (r : ProofRefusal d) → AllByRecursion (HasNumbers n m) instrs
      → AllByRecursion (IsValueWithin n m) values → AllByRecursion (AllByRecursion (IsClaimWithin n m)) objects
      → AreRefused values (zip instrs steps) objects object section r → IsRefusalWithin n m r
  refused_within d values [] steps objects object section r h v c i = absurd i
  refused_within d values (instr ∷ instrs) [] objects object section r h v c i = absurd i
  refused_within d values (instr ∷ instrs) (step ∷ steps) objects object section r h v c i =
      by_point (point_of instr) refl objects c i
      (λ vs os o s a b e. refused_within d vs instrs steps os o s r h.1 a b e)
    where
      Others : Type 0
      Others =
          (vs : List Value) (os : List (List Claim)) (o s : ℕ) → AllByRecursion (IsValueWithin n m) vs
          → AllByRecursion (AllByRecursion (IsClaimWithin n m)) os → AreRefused vs (zip instrs steps) os o s r
          → IsRefusalWithin n m r

      by_refusal : (claims : List Claim) (others : List (List Claim)) → AllByRecursion (IsClaimWithin n m) claims
          → AllByRecursion (AllByRecursion (IsClaimWithin n m)) others
          → IsObjectRefused (starts_of d values instr step) claims object section r
          ⊎ (IsObjectAccepted d values instr step claims
          × AreRefused (values ++ ended_value claims ∷ []) (zip instrs steps) others (object + 1)
          (section + length claims) r)
          → Others → IsRefusalWithin n m r
      by_refusal claims others k l (inl e) ih =
          object_within (starts_of d values instr step) claims object section r
          (λ starts f. object_starts d values instr step starts h.0 v f) k e
      by_refusal claims others k l (inr e) ih =
          ih (values ++ ended_value claims ∷ []) others (object + 1) (section + length claims)
          (all_append (IsValueWithin n m) values (ended_value claims ∷ []) v (ended_within n m claims k, tt)) l e.1

      by_point : (o : Option ℕ) → point_of instr ≡ o → (objects : List (List Claim))
          → AllByRecursion (AllByRecursion (IsClaimWithin n m)) objects
          → AreRefused values ((instr, step) ∷ zip instrs steps) objects object section r → Others
          → IsRefusalWithin n m r
      by_point (Some p) e objects c i ih =
          ih (values ++ free_value 64 p ∷ []) objects object section
          (all_append (IsValueWithin n m) values (free_value 64 p ∷ []) v
          (free_within n m p (subst (HasNumbers n m) (point_is instr p e) h.0), tt)) c
          (refused_point d values instr p step (zip instrs steps) objects object section r e i)
      by_point None e [] c i ih = absurd (refused_none d values instr step (zip instrs steps) object section r e i)
      by_point None e (claims ∷ others) c i ih =
          by_refusal claims others c.0 c.1
          (refused_next d values instr step (zip instrs steps) claims others object section r e i) ih

pub refusal_is_within : PointsOfMultiple → RefusalIsWithin
refusal_is_within law d n m p objects r h c i =
    refused_within law n m d [] p.instrs p.steps objects 1 1 r h tt c i
