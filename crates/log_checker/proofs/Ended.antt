-- The values of free points, and the values that sections of the code end with.
use Rattle.std.proofs.Common.{◌≡◌, ℕ, ◌+◌, ◌<◌, ◌≤◌, Bool, true, false, cond, List, [], ◌∷◌, ◌++◌, map, drop}
use Rattle.std.proofs.Common.{length, get_or, refl, sym, ap, ◌∙◌, append_assoc, append-nil, replicate, arith, subst}
use Rattle.std.proofs.Common.{is_lt}
use Rattle.std.proofs.lemmas.List.{drop_more}
use Rattle.std.specs.Prelude.{T, Option, Some, None, IsSomeAnd, pos}
use Rattle.std.specs.Option.{option_map}
use Rattle.std.specs.FinMap.{is_sorted}
use Rattle.std.specs.FinMap.Entries.{below_all}
use Rattle.std.specs.List.{AllByRecursion, cons_option}
use Rattle.coordinate_model.specs.Sequences.{IsRank}
use Rattle.coordinate_model.specs.BracketPolynomial.{BracketPolynomial}
use Rattle.coordinate_model.specs.Key.{row_cmp}
use Rattle.coordinate_model.specs.Sums.{sum_of, single}
use Rattle.coordinate_model.specs.Starts.{Entry, has_term}
use Rattle.coordinate_model.specs.Value.{Value, HasStep}
use Rattle.coordinate_model.proofs.Bools.{both, first, second}
use Rattle.coordinate_model.proofs.Hom.{map-append}
use Rattle.coordinate_model.proofs.KeySets.{all_single}
use Rattle.coordinate_model.proofs.Ranks.{by_rank}
use Rattle.coordinate_model.proofs.Splits.{all_replicate}
use Rattle.bracket_terms.specs.declared.extensor.Extensor.{Extensor}
use Rattle.bracket_terms.specs.Joins.{points_of}
use Rattle.bracket_poly.specs.Kept.{TrackedOf}
use Rattle.bracket_poly.specs.Products.{HasDegree}
use Rattle.bracket_poly.specs.Sections.{entry_from}
use Rattle.bracket_poly.specs.Tracked.{nothing, plus_term}
use Rattle.bracket_poly.specs.Values.{IsValue, entry_of, value_of, extensor_size}
use Rattle.bracket_poly.specs.declared.section.Section.{Section}
use Rattle.cayley_terms.specs.Starts.{one_of, free_value}
use Rattle.log_checker.specs.Accepted.{claimed_entry}
use Rattle.log_checker.specs.Checked.{HasSmallEnd}
use Rattle.log_checker.specs.Claims.{Claim, claim_of, claims_of, end_or_zero, ended_value, rewriting}
use Rattle.log_checker.specs.Ready.{AreScalars, IsSmall}
use Rattle.log_checker.specs.Seen.{IsCheckable}

-- the entry that is claimed at the end of a section, where that has a term
abbrev pub entry_of_end : Claim → Option Entry
entry_of_end c = entry_from (rewriting c)

-- ---- the value that sections end with

-- what holds without a section's end, and with it where it has a term
from_one : (Q : Value → Type 0) (c : Claim) (v : Value) → Q v
    → (has_term (c.scalar, c.end) ≡ true → Q ((c.scalar, c.end) ∷ v)) → Q (cons_option (entry_of_end c) v)
from_one Q c v none some = by_test (has_term (c.scalar, c.end)) refl
  where
    by_test : (b : Bool) → has_term (c.scalar, c.end) ≡ b → Q (cons_option (cond b (Some (c.scalar, c.end)) None) v)
    by_test true e = some e
    by_test false e = none

value_below : (x : List ℕ) (cs : List Claim) → T (below_all row_cmp x (map claimed_entry cs))
    → T (below_all row_cmp x (ended_value cs))
value_below x [] h = tt
value_below x (c ∷ cs) h =
    let rest = value_below x cs (second (is_lt (row_cmp x c.scalar)) (below_all row_cmp x (map claimed_entry cs)) h) in
    from_one (λ v. T (below_all row_cmp x v)) c (ended_value cs) rest
    (λ e. both (is_lt (row_cmp x c.scalar)) (below_all row_cmp x (ended_value cs))
    (first (is_lt (row_cmp x c.scalar)) (below_all row_cmp x (map claimed_entry cs)) h) rest)

value_sorted : (cs : List Claim) → T (is_sorted row_cmp (map claimed_entry cs)) → T (is_sorted row_cmp (ended_value cs))
value_sorted [] h = tt
value_sorted (c ∷ cs) h =
    let v = map claimed_entry cs in
    let below = first (below_all row_cmp c.scalar v) (is_sorted row_cmp v) h in
    let rest = value_sorted cs (second (below_all row_cmp c.scalar v) (is_sorted row_cmp v) h) in
    from_one (λ v. T (is_sorted row_cmp v)) c (ended_value cs) rest
    (λ e. both (below_all row_cmp c.scalar (ended_value cs)) (is_sorted row_cmp (ended_value cs))
    (value_below c.scalar cs below) rest)

value_sizes : (n : ℕ) (cs : List Claim) → AllByRecursion (λ e. length e.0 ≡ n) (map claimed_entry cs)
    → HasStep n (ended_value cs)
value_sizes n [] h = tt
value_sizes n (c ∷ cs) h =
    let rest = value_sizes n cs h.1 in from_one (HasStep n) c (ended_value cs) rest (λ e. (h.0, rest))

value_terms : (cs : List Claim) → AllByRecursion (λ e. has_term e ≡ true) (ended_value cs)
value_terms [] = tt
value_terms (c ∷ cs) =
    from_one (λ v. AllByRecursion (λ e. has_term e ≡ true) v) c (ended_value cs) (value_terms cs)
    (λ e. (e, value_terms cs))

-- entries that are the value of sections are a value
pub value_formed : (d step : ℕ) (cs : List Claim) (entries : List (Extensor × TrackedOf d)) → IsRank d
    → AreScalars d step (map claimed_entry cs) → value_of entries ≡ ended_value cs → IsValue d step entries
value_formed d step cs entries rank h e = record {
  rank = rank;
  within = h.within;
  sizes = subst (HasStep (extensor_size d step)) (sym e) (value_sizes (extensor_size d step) cs h.sizes);
  ascending = subst (λ v. T (is_sorted row_cmp v)) (sym e) (value_sorted cs h.ascending);
  terms = subst (AllByRecursion (λ x. has_term x ≡ true)) (sym e) (value_terms cs);
}

-- the value with one more section, by the entry that it ends with
module _ {d : ℕ} (sections : List (Section d)) (i : ℕ) (s : Section d) (below : i < length sections)
    (there : s ≡ get_or sections i s) (old : List (Extensor × TrackedOf d)) (v : Value)
    (so_far : value_of old ++ ended_value (claims_of (drop i sections)) ≡ v) where
  first_there : ended_value (claims_of (drop i sections))
      ≡ cons_option (entry_of_end (claim_of s)) (ended_value (claims_of (drop (i + 1) sections)))
  first_there =
      ap (λ ss. ended_value (claims_of ss))
      (drop_more sections i s below ∙ ap (λ x. x ∷ drop (i + 1) sections) (sym there))

  pub value_without : (o : Option (Extensor × TrackedOf d)) → option_map entry_of o ≡ entry_of_end (claim_of s)
      → o ≡ None → value_of old ++ ended_value (claims_of (drop (i + 1) sections)) ≡ v
  value_without o e none =
      ap (λ p. value_of old ++ cons_option p (ended_value (claims_of (drop (i + 1) sections))))
      (ap (option_map entry_of) (sym none) ∙ e)
      ∙ ap (λ w. value_of old ++ w) (sym first_there) ∙ so_far

  pub value_with : (o : Option (Extensor × TrackedOf d)) (x : Extensor × TrackedOf d)
      (new : List (Extensor × TrackedOf d)) → option_map entry_of o ≡ entry_of_end (claim_of s)
      → o ≡ Some x → new ≡ old ++ x ∷ [] → value_of new ++ ended_value (claims_of (drop (i + 1) sections)) ≡ v
  value_with o x new e some added =
      ap (λ es. value_of es ++ ended_value (claims_of (drop (i + 1) sections))) added
      ∙ ap (λ w. w ++ ended_value (claims_of (drop (i + 1) sections))) (map-append entry_of old (x ∷ []))
      ∙ append_assoc (value_of old) (entry_of x ∷ []) (ended_value (claims_of (drop (i + 1) sections)))
      ∙ ap (λ p. value_of old ++ cons_option p (ended_value (claims_of (drop (i + 1) sections))))
      (ap (option_map entry_of) (sym some) ∙ e)
      ∙ ap (λ w. value_of old ++ w) (sym first_there) ∙ so_far

-- where no section is left, the whole value is done
pub value_done : (done : Value) (cs rest : List Claim) → done ++ ended_value rest ≡ ended_value cs → rest ≡ []
    → done ≡ ended_value cs
value_done done cs rest h e = sym (append-nil done) ∙ ap (λ xs. done ++ ended_value xs) (sym e) ∙ h

module _ {d : ℕ} (s : Section d) where
  abbrev end_by : Option (TrackedOf d) → BracketPolynomial
  end_by o = end_or_zero (option_map (λ p. p.tracked.sum) o)

  -- the end of one that can be checked is small
  pub end_small : HasSmallEnd s → HasDegree 1000 (claim_of s).end
  end_small h = by_some s.end h
    where
      by_some : (o : Option (TrackedOf d)) → IsSomeAnd o (λ end. HasDegree 1000 end.tracked.sum)
          → HasDegree 1000 (end_by o)
      by_some None k = absurd k
      by_some (Some end) k = k

-- the value that such sections end with is small
pub ended_small : {d : ℕ} (sections : List (Section d)) → AllByRecursion IsCheckable sections
    → IsSmall (ended_value (claims_of sections))
ended_small [] h = tt
ended_small (s ∷ sections) h =
    let rest = ended_small sections h.1 in
    from_one IsSmall (claim_of s) (ended_value (claims_of sections)) rest (λ e. (end_small s h.0.end, rest))

-- ---- the value of a free point

-- 1, added to nothing
pub one_added : (plus_term nothing (record { exponents = replicate 64 0; rows = [] }, pos 1)).sum ≡ one_of 64
unfolding single
one_added = refl

one_has_term : has_term ([], one_of 64) ≡ true
unfolding single sum_of
one_has_term = refl

free_entry : (d point : ℕ) (x : Extensor) (p : TrackedOf d) → IsRank d → points_of x ≡ point ∷ []
    → p.tracked.sum ≡ one_of 64 → IsValue d 1 ((x, p) ∷ [])
free_entry d point x p rank e h = record {
  rank = rank;
  within = by_rank (λ d. 1 ≤ d) (omega arith) (omega arith) (omega arith) d rank;
  sizes =
      (ap (λ xs. length xs) e ∙ by_rank (λ d. 1 ≡ extensor_size d 1) refl refl refl d rank, tt);
  ascending = tt;
  terms = (ap (λ f. has_term ([], f)) h ∙ one_has_term, tt);
}

pub free_formed : (d point : ℕ) (old new : List (Extensor × TrackedOf d)) (x : Extensor) (p : TrackedOf d)
    → old ≡ [] → new ≡ old ++ (x, p) ∷ [] → IsRank d → points_of x ≡ point ∷ [] → p.tracked.sum ≡ one_of 64
    → IsValue d 1 new
free_formed d point old new x p none only rank e h =
    subst (IsValue d 1) (sym (only ∙ ap (λ es. es ++ (x, p) ∷ []) none)) (free_entry d point x p rank e h)

-- it is small
pub free_small : (i : ℕ) → IsSmall (free_value 64 i)
free_small i = (
  all_single (λ k. AllByRecursion (λ e. e ≤ 1000) k.exponents) (record { exponents = replicate 64 0; rows = [] })
      (all_replicate (λ e. e ≤ 1000) 64 0 (omega arith)),
  tt,
)
