-- What a section's sum, its end and its refused use come to: it is accepted or has one fault.
use Rattle.std.proofs.Common.{◌≡◌, ◌⊎◌, inl, inr, ℕ, List, [], ◌∷◌, map, length, refl}
use Rattle.std.proofs.Common.{sym, ap, subst, ◌∙◌}
use Rattle.std.proofs.Common.{Ordering, Less, Equal, Greater}
use Rattle.std.proofs.lemmas.List.{length-map}
use Rattle.std.specs.Option.{option_map}
use Rattle.std.specs.Prelude.{Option, Some, None, MatchOption, ℤ}
use Rattle.std.specs.List.{AllByRecursion}
use Rattle.std.specs.Ordering.{ordering_reverse}
use Rattle.coordinate_model.specs.Sequences.{IsRank}
use Rattle.coordinate_model.specs.Sums.{coefficient}
use Rattle.coordinate_model.specs.Key.{Key, key_cmp, HasRisingColumns}
use Rattle.coordinate_model.specs.Polynomial.{Polynomials}
use Rattle.coordinate_model.specs.Ring.{IsCommRing}
use Rattle.coordinate_model.specs.BracketPolynomial.{BracketPolynomial, IsNormal, add, value}
use Rattle.coordinate_model.specs.NormalLaws.{ValueOfSum}
use Rattle.coordinate_model.specs.Syzygy.{Use, IsUse, multiple}
use Rattle.coordinate_model.specs.SyzygyLaws.{ValueOfMultiple}
use Rattle.coordinate_model.proofs.KeyProducts.{key_total, key_same}
use Rattle.bracket_terms.specs.LogUses.{use_of}
use Rattle.bracket_terms.specs.declared.log_use.LogUse.{LogUse}
use Rattle.bracket_poly.specs.Kept.{TrackedOf}
use Rattle.bracket_poly.specs.Laws.{UseAdds}
use Rattle.bracket_poly.specs.Tracked.{Tracked, Limit, coefficient_limit, keys_limit}
use Rattle.bracket_poly.specs.declared.section.Section.{Section}
use Rattle.log_checker.specs.declared.fault.CheckKind.{CheckKind}
use Rattle.log_checker.specs.declared.fault.CheckKind.TheVariants.{Coefficient, Keys, Differs, NotStandard}
use Rattle.log_checker.specs.declared.fault.CheckFault.{CheckFault}
use Rattle.log_checker.specs.declared.fault.SectionError.{SectionError}
use Rattle.log_checker.specs.declared.fault.SectionError.TheVariants as error
use Rattle.log_checker.specs.Claims.{Claim, claim_of, end_or_zero}
use Rattle.log_checker.specs.Accepted.{with_multiples, behind_uses, first_refused, refused_use, claimed_sum, IsAccepted}
use Rattle.log_checker.specs.Differences.{IsLeastDifference, IsLeastNonstandard}
use Rattle.log_checker.specs.Refused.{IsKind, IsSectionFault, IsSectionCause, IsUseKind, IsUseCause, IsEndKind}
use Rattle.log_checker.specs.Refused.{FindsKind}
use Rattle.log_checker.proofs.LeastKeys.{of_all, columns_of}
use Rattle.log_checker.proofs.UseSteps.{behind_sum}
use Rattle.log_checker.proofs.Decisions.{find_difference, find_nonstandard}
use Rattle.log_checker.specs.SectionLaws.{SectionNotBoth, OneSectionFault, SectionEither, AcceptedKeepsValue}

-- ---- from the steps of the code

-- a fault, by its parts
abbrev fault_by : {d : ℕ} → ℕ → CheckKind d → CheckFault d
fault_by n k = record { use_number = n; kind = k }

use_cause : {d : ℕ} (c : Claim) (n : ℕ) (k : CheckKind d) → IsUseKind (refused_use c) n k → IsKind c n k
use_cause c n Coefficient h = h
use_cause c n Keys h = h
use_cause c n (Differs k x y) h = absurd h
use_cause c n (NotStandard k) h = absurd h

-- the use that is refused
pub refused_cause : {d : ℕ} (c : Claim) (e : SectionError d) → IsUseCause (refused_use c) e → IsSectionCause c e
refused_cause c (error.Fault fault) h = use_cause c fault.use_number fault.kind h
refused_cause c error.Memory h = tt

-- what is wrong with the end
pub end_fault : {d : ℕ} (c : Claim) (sum : BracketPolynomial) (n : ℕ) (k : CheckKind d) → refused_use c ≡ None
    → sum ≡ claimed_sum c → n ≡ length c.uses → IsEndKind sum c.end k → IsKind c n k
end_fault c sum n Coefficient none e l h = absurd h
end_fault c sum n Keys none e l h = absurd h
end_fault c sum n (Differs k x y) none e l h =
    ((none, l), subst (λ f. IsLeastDifference f c.end k x y) e h)
end_fault {d = d} c sum n (NotStandard k) none e l h = ((none, l), sym e ∙ h.0, h.1)

-- ---- the section of the code

uses_formed : {d : ℕ} (uses : List (LogUse d)) → AllByRecursion (IsUse d) (map use_of uses)
uses_formed [] = tt
uses_formed (u ∷ uses) = (u.formed.formed, uses_formed uses)

-- the uses of a section are well formed
pub section_uses : {d : ℕ} (s : Section d) → AllByRecursion (IsUse d) (claim_of s).uses
section_uses s = uses_formed s.uses

module _ (adds : UseAdds) {d : ℕ} (s : Section d) (end : TrackedOf d) (sum : Tracked) (uses : List (LogUse d))
    (found : Option (CheckKind d)) (ends : s.end ≡ Some end) (same : uses ≡ s.uses)
    (sums : sum ≡ behind_uses s.start.tracked (map use_of uses))
    (within : first_refused 1 s.start.tracked (map use_of uses) ≡ None)
    (finds : FindsKind sum.sum end.tracked.sum found) where
  end_is : (claim_of s).end ≡ end.tracked.sum
  end_is = ap (λ (o : Option (TrackedOf d)). end_or_zero (option_map (λ p. p.tracked.sum) o)) ends

  sum_is : sum.sum ≡ claimed_sum (claim_of s)
  sum_is =
      ap (λ (p : Tracked). p.sum) sums ∙ behind_sum adds s.start.tracked (map use_of uses)
      ∙ ap (λ (us : List (LogUse d)). with_multiples s.start.tracked.sum (map use_of us)) same

  none_refused : refused_use (claim_of s) ≡ None
  none_refused = ap (λ (us : List (LogUse d)). first_refused 1 s.start.tracked (map use_of us)) (sym same) ∙ within

  -- what is found is its fault
  pub found_fault : (k : CheckKind d) → found ≡ Some k → IsSectionFault (claim_of s) (fault_by (length uses) k)
  found_fault k e =
      end_fault (claim_of s) sum.sum (length uses) k none_refused sum_is
      (ap (λ (us : List (LogUse d)). length us) same ∙ sym (length-map s.uses (λ (u : LogUse d). use_of u)))
      (subst (λ f. IsEndKind sum.sum f k) (sym end_is)
      (subst (λ (o : Option (CheckKind d)). MatchOption o ((sum.sum ≡ end.tracked.sum) × IsNormal d 64 end.tracked.sum)
      (IsEndKind sum.sum end.tracked.sum)) e finds))

  -- and where nothing is found it is accepted
  pub found_right : found ≡ None → IsAccepted d (claim_of s)
  found_right e =
      let h = subst (λ (o : Option (CheckKind d)). MatchOption o
      ((sum.sum ≡ end.tracked.sum) × IsNormal d 64 end.tracked.sum) (IsEndKind sum.sum end.tracked.sum)) e finds in
      record {
        within = none_refused;
        sums = sym sum_is ∙ h.0 ∙ sym end_is;
        normal = subst (λ f. IsNormal d 64 f) (sym end_is) h.1;
      }

-- ---- the value

module _ (ring : IsCommRing Polynomials) (sums : ValueOfSum) (multiples : ValueOfMultiple) (d : ℕ)
    (rank : IsRank d) where
  value_behind : (f : BracketPolynomial) (us : List Use) → AllByRecursion (IsUse d) us
      → value (with_multiples f us) ≡ value f
  value_behind f [] h = refl
  value_behind f (u ∷ us) h =
      value_behind (add f (multiple u)) us h.1 ∙ sums f (multiple u)
      ∙ ap (λ z. Polynomials.◌⊕◌ (value f) z) (multiples d u rank h.0) ∙ ring.add_zero (value f)

pub accepted_keeps_value : IsCommRing Polynomials → ValueOfSum → ValueOfMultiple → AcceptedKeepsValue
accepted_keeps_value ring sums multiples d c rank h a =
    ap value (sym a.sums) ∙ value_behind ring sums multiples d rank c.start.sum c.uses h

-- ---- not both

some_none : {A : Type 0} (o : Option A) (x : A) → o ≡ None → o ≡ Some x → ⊥
some_none o x e f = absurd (let z = sym e ∙ f in cc)

-- a polynomial does not differ from itself, and no key of a normal one is not standard
pub differs_not : (f g : BracketPolynomial) (k : Key) (x y : ℤ) → f ≡ g → IsLeastDifference f g k x y → ⊥
differs_not f g k x y e h =
    h.differ (sym h.computed_is ∙ ap (λ (p : BracketPolynomial). coefficient p k) e ∙ h.written_is)

normal_not : (d : ℕ) (f : BracketPolynomial) (k : Key) → IsNormal d 64 f → IsLeastNonstandard d f k → ⊥
normal_not d f k n h = h.nonstandard (of_all (λ x. HasRisingColumns d x.rows) k f.terms
    (columns_of d f.terms n) h.is_there)

pub section_not_both : SectionNotBoth
section_not_both d c fault a h = by_kind fault.kind h
  where
    by_kind : (k : CheckKind d) → IsKind c fault.use_number k → ⊥
    by_kind Coefficient h = some_none (refused_use c) (fault.use_number, coefficient_limit) a.within h
    by_kind Keys h = some_none (refused_use c) (fault.use_number, keys_limit) a.within h
    by_kind (Differs k x y) h = differs_not (claimed_sum c) c.end k x y a.sums h.1
    by_kind (NotStandard k) h = normal_not d c.end k a.normal h.2

-- ---- one fault

-- two keys of which neither is less than the other
same_least : (k l : Key) → (key_cmp k l ≡ Less → ⊥) → (key_cmp l k ≡ Less → ⊥) → k ≡ l
same_least k l below above = by_order (key_cmp k l) refl
  where
    by_order : (r : Ordering) → key_cmp k l ≡ r → k ≡ l
    by_order Less e = absurd (below e)
    by_order Equal e = key_same k l e
    by_order Greater e = absurd (above (key_total.antisymm l k ∙ ap ordering_reverse e))

pub one_difference : (f g : BracketPolynomial) (k l : Key) (x y v w : ℤ) → IsLeastDifference f g k x y
    → IsLeastDifference f g l v w → (k ≡ l) × (x ≡ v) × (y ≡ w)
one_difference f g k l x y v w h i =
    let same : k ≡ l =
    same_least k l
    (λ e. h.differ (sym h.computed_is ∙ i.least k e ∙ h.written_is))
    (λ e. i.differ (sym i.computed_is ∙ h.least l e ∙ i.written_is)) in (
      same,
      sym h.computed_is ∙ ap (λ z. coefficient f z) same ∙ i.computed_is,
      sym h.written_is ∙ ap (λ z. coefficient g z) same ∙ i.written_is,
    )

one_nonstandard : (d : ℕ) (f : BracketPolynomial) (k l : Key) → IsLeastNonstandard d f k → IsLeastNonstandard d f l
    → k ≡ l
one_nonstandard d f k l h i =
    same_least k l (λ e. h.nonstandard (i.least k e h.is_there)) (λ e. i.nonstandard (h.least l e i.is_there))

first_of : {A B : Type 0} → A → Option (A × B) → A
first_of a None = a
first_of a (Some x) = x.0

second_of : {A B : Type 0} → B → Option (A × B) → B
second_of b None = b
second_of b (Some x) = x.1

same_pair : {A B : Type 0} (o : Option (A × B)) (a c : A) (b d : B) → o ≡ Some (a, b) → o ≡ Some (c, d)
    → (a ≡ c) × (b ≡ d)
unfolding first_of second_of
same_pair o a c b d e f = (ap (first_of a) (sym e ∙ f), ap (second_of b) (sym e ∙ f))

limits_differ : coefficient_limit ≡ keys_limit → ⊥
limits_differ e = absurd cc

one_kind : {d : ℕ} (c : Claim) (m n : ℕ) (k l : CheckKind d) → IsKind c m k → IsKind c n l → fault_by m k ≡ fault_by n l
one_kind c m n Coefficient Coefficient h i =
    ap (λ x. fault_by x Coefficient) (same_pair (refused_use c) m n coefficient_limit coefficient_limit h i).0
one_kind c m n Coefficient Keys h i =
    absurd (limits_differ (same_pair (refused_use c) m n coefficient_limit keys_limit h i).1)
one_kind c m n Coefficient (Differs l v w) h i = absurd (some_none (refused_use c) (m, coefficient_limit) i.0.0 h)
one_kind c m n Coefficient (NotStandard l) h i = absurd (some_none (refused_use c) (m, coefficient_limit) i.0.0 h)
one_kind c m n Keys Coefficient h i =
    absurd (limits_differ (sym (same_pair (refused_use c) m n keys_limit coefficient_limit h i).1))
one_kind c m n Keys Keys h i =
    ap (λ x. fault_by x Keys) (same_pair (refused_use c) m n keys_limit keys_limit h i).0
one_kind c m n Keys (Differs l v w) h i = absurd (some_none (refused_use c) (m, keys_limit) i.0.0 h)
one_kind c m n Keys (NotStandard l) h i = absurd (some_none (refused_use c) (m, keys_limit) i.0.0 h)
one_kind c m n (Differs k x y) Coefficient h i = absurd (some_none (refused_use c) (n, coefficient_limit) h.0.0 i)
one_kind c m n (Differs k x y) Keys h i = absurd (some_none (refused_use c) (n, keys_limit) h.0.0 i)
one_kind c m n (Differs k x y) (Differs l v w) h i =
    let e = one_difference (claimed_sum c) c.end k l x y v w h.1 i.1 in
    let u : m ≡ n = h.0.1 ∙ sym i.0.1 in
    λ j. fault_by (u j) (Differs (e.0 j) (e.1 j) (e.2 j))
one_kind c m n (Differs k x y) (NotStandard l) h i = absurd (differs_not (claimed_sum c) c.end k x y i.1 h.1)
one_kind c m n (NotStandard k) Coefficient h i = absurd (some_none (refused_use c) (n, coefficient_limit) h.0.0 i)
one_kind c m n (NotStandard k) Keys h i = absurd (some_none (refused_use c) (n, keys_limit) h.0.0 i)
one_kind c m n (NotStandard k) (Differs l v w) h i = absurd (differs_not (claimed_sum c) c.end l v w h.1 i.1)
one_kind {d = d} c m n (NotStandard k) (NotStandard l) h i =
    let e = one_nonstandard d c.end k l h.2 i.2 in
    let u : m ≡ n = h.0.1 ∙ sym i.0.1 in
    λ j. fault_by (u j) (NotStandard (e j))

pub one_section_fault : OneSectionFault
one_section_fault d c fault other h i = one_kind c fault.use_number other.use_number fault.kind other.kind h i

-- ---- either

pub section_either : SectionEither
section_either d c keys = by_use (refused_use c) refl
  where
    Answer : Type 0
    Answer = IsAccepted d c ⊎ ((fault : CheckFault d) × IsSectionFault c fault)

    by_end : refused_use c ≡ None → claimed_sum c ≡ c.end
        → IsNormal d 64 c.end ⊎ ((k : Key) × IsLeastNonstandard d c.end k) → Answer
    by_end e s (inl n) = inl (record { within = e; sums = s; normal = n })
    by_end e s (inr x) = inr (fault_by (length c.uses) (NotStandard x.0), ((e, refl), s, x.1))

    by_sum : refused_use c ≡ None
        → (claimed_sum c ≡ c.end) ⊎ ((k : Key) × (x : ℤ) × (y : ℤ) × IsLeastDifference (claimed_sum c) c.end k x y)
        → Answer
    by_sum e (inl s) = by_end e s (find_nonstandard d c.end keys)
    by_sum e (inr x) = inr (fault_by (length c.uses) (Differs x.0 x.1 x.2), ((e, refl), x.3))

    by_use : (o : Option (ℕ × Limit)) → refused_use c ≡ o → Answer
    by_use None e = by_sum e (find_difference (claimed_sum c) c.end)
    by_use (Some (n, coefficient_limit)) e = inr (fault_by n Coefficient, e)
    by_use (Some (n, keys_limit)) e = inr (fault_by n Keys, e)
