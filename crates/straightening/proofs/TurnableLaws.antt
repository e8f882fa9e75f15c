-- The list of the keys that a run may turn holds exactly these, each once.
use Rattle.std.proofs.Common.{◌≡◌, ℕ, ◌≤◌, ◌==◌, Bool, true, false, not, ◌&&◌, T, List, [], ◌∷◌, flat_map, filter}
use Rattle.std.proofs.Common.{length, refl, sym, ap, subst, ◌∙◌, arith, Option, Some, None, inl, inr, true≢false, cond}
use Rattle.std.proofs.Common.{Ordering}
use Rattle.std.specs.Prelude.{ℤ, Contains, IsSorted, Result, Ok, Err}
use Rattle.std.specs.Cmp.{Equal-is, IsTotalOrder}
use Rattle.std.specs.Cmp.Lexicographic.{nat_list_cmp_total}
use Rattle.std.specs.List.{AllByRecursion, IsDistinct, list_all}
use Rattle.std.specs.List.Sorted.{IsStrictlyIncreasing}
use Rattle.std.specs.Ordering.{eq_by_cmp}
use Rattle.std.proofs.lemmas.List.Elements.{All-contains_itself}
use Rattle.coordinate_model.specs.Sequences.{IsRank, repeats}
use Rattle.coordinate_model.specs.Words.{is_least, is_ascending}
use Rattle.coordinate_model.specs.Key.{Key, key_cmp, row_cmp, IsRow, IsKey, IsStandardKey, points, HasPoints}
use Rattle.coordinate_model.specs.BracketPolynomial.{BracketPolynomial, IsBracketPolynomial}
use Rattle.coordinate_model.specs.Syzygy.{sorted}
use Rattle.coordinate_model.proofs.Exponents.{IsAscending}
use Rattle.coordinate_model.proofs.Increasing.{IsRising, increasing_all}
use Rattle.coordinate_model.proofs.KeyProducts.{key_same}
use Rattle.coordinate_model.proofs.Keys.{times_in, same_items}
use Rattle.coordinate_model.proofs.KeySumLaws.{sorted_ascending}
use Rattle.coordinate_model.proofs.Orders.{IsLeast}
use Rattle.coordinate_model.proofs.SortedRows.{sorted_increasing, sorted-ordered}
use Rattle.coordinate_model.proofs.Sorting.{count-many, length-ordered}
use Rattle.coordinate_model.proofs.Splits.{all_so, all_items, all_filter}
use Rattle.coordinate_model.proofs.StdSort.{increasing-repeats}
use Rattle.coordinate_model.proofs.WordLemmas.{ascending_so, ordered_ascending}
use Rattle.tableau_order.proofs.Columns.{falls_not_standard}
use Rattle.bracket_poly.specs.Kept.{IsTracked}
use Rattle.bracket_poly.specs.Tracked.{Tracked}
use Rattle.straightening.specs.declared.straight.Straight.{Straight}
use Rattle.straightening.specs.declared.straight.StopError.{StopError}
use Rattle.straightening.specs.declared.straight.StopError.TheVariants as Stops
use Rattle.straightening.specs.Results.{AnswersRun, IsWithin}
use Rattle.straightening.specs.Runs.{run}
use Rattle.straightening.specs.Turns.{first_violation}
use Rattle.straightening.specs.RunLaws.{HasTerm}
use Rattle.straightening.specs.Bounds.{IsTurnable, row_lists, is_turnable, turnable_like, each_once, turnable_keys}
use Rattle.straightening.specs.Bounds.{TakesAtMost, TurnableKeys, RunTakesAtMost}
use Rattle.straightening.proofs.BoundLaws.{run_is_bounded}
use Rattle.straightening.proofs.ClassLaws.{sorted_rises, times_sorted, same_length, same_rows, listed, IsListed, of_listed}
use Rattle.straightening.proofs.FirstViolations.{violation_found, columns_rise}
use Rattle.straightening.proofs.Members.{From, contains_here, contains_later, contains_cases, holds_of_member}
use Rattle.straightening.proofs.Members.{contains_filter, of_filter, contains_map, of_map, contains_flat_map, of_flat_map}
use Rattle.straightening.proofs.TermLists.{all_have_terms, holds_of_term}

-- ---- tests that hold together

both : (a b : Bool) → a ≡ true → b ≡ true → (a && b) ≡ true
both a b p q = ap (λ z. z && b) p ∙ q

parts : (a b : Bool) → (a && b) ≡ true → (a ≡ true) × (b ≡ true)
parts true b e = (refl, e)
parts false b e = absurd (true≢false (sym e))

not_false : (b : Bool) → not b ≡ true → b ≡ false
not_false true e = absurd (true≢false (sym e))
not_false false e = refl

-- ---- rows

-- rising points without a repeat increase
increasing_row : (r : List ℕ) → IsRising r → repeats r ≡ false → IsStrictlyIncreasing r
increasing_row r h e =
    subst (λ (xs : List ℕ). IsStrictlyIncreasing xs)
    (same_items (sorted r) r (sorted_rises r) h (λ i. times_sorted i r)) (sorted_increasing r e)

increasing_rows : (d : ℕ) (rows : List (List ℕ)) → AllByRecursion (λ r. (length r ≡ d) × IsRising r) rows
    → list_all (λ r. not (repeats r)) rows ≡ true → AllByRecursion (IsRow d) rows
increasing_rows d [] h e = tt
increasing_rows d (r ∷ rows) h e =
    let w = parts (not (repeats r)) (list_all (λ r. not (repeats r)) rows) e in
    ((h.0.0, increasing_row r h.0.1 (not_false (repeats r) w.0)), increasing_rows d rows h.1 w.1)

none_repeats : (d : ℕ) (rows : List (List ℕ)) → AllByRecursion (IsRow d) rows
    → list_all (λ r. not (repeats r)) rows ≡ true
none_repeats d [] h = refl
none_repeats d (r ∷ rows) h =
    both (not (repeats r)) (list_all (λ r. not (repeats r)) rows) (ap not (increasing-repeats r h.0.1))
    (none_repeats d rows h.1)

module _ {A : Type 0} (S : A → A → Ordering) (o : IsTotalOrder S) where
  least_test : (x : A) (xs : List A) → IsLeast o x xs → is_least S x xs ≡ true
  least_test x [] h = refl
  least_test x (y ∷ ys) h = both _ _ (ap not h.0) (least_test x ys h.1)

  ascending_test : (xs : List A) → IsAscending o xs → is_ascending S xs ≡ true
  ascending_test [] h = refl
  ascending_test (x ∷ xs) h = both _ _ (least_test x xs h.0) (ascending_test xs h.1)

sorted_rows : (rows : List (List ℕ)) → is_ascending row_cmp rows ≡ true → IsSorted row_cmp rows
sorted_rows rows e =
    subst (λ (xs : List (List ℕ)). IsSorted row_cmp xs)
    (ordered_ascending row_cmp nat_list_cmp_total rows
    (ascending_so row_cmp nat_list_cmp_total rows (subst T (sym e) tt)))
    (sorted-ordered nat_list_cmp_total rows)

-- ---- the test

abbrev falls : Option (ℕ × ℕ) → Bool
falls o = elim o [ None ↦ false | Some place ↦ true ]

module _ (d n : ℕ) (k : Key) where
  turnable_so : length k.exponents ≡ n → AllByRecursion (λ r. (length r ≡ d) × IsRising r) k.rows
      → is_turnable k.rows ≡ true → IsKey d n k × (IsStandardKey d n k → ⊥)
  turnable_so l h e =
      let w = parts (list_all (λ r. not (repeats r)) k.rows) _ e in
      let v = parts (is_ascending row_cmp k.rows) (falls (first_violation k.rows)) w.1 in
      let each : AllByRecursion (IsRow d) k.rows = increasing_rows d k.rows h w.0 in
      let key : IsKey d n k = record { parameters = l; each = each; ascending = sorted_rows k.rows v.0 } in
      (key, λ s. standard each s (first_violation k.rows) refl v.1)
    where
      standard : AllByRecursion (IsRow d) k.rows → IsStandardKey d n k → (o : Option (ℕ × ℕ)) → first_violation k.rows ≡ o
          → falls o ≡ true → ⊥
      standard each s None f e = true≢false (sym e)
      standard each s (Some place) f e =
          falls_not_standard d k.rows place.0 place.1 (violation_found d k.rows place each f)
          (record { ascending = s.key.ascending; columns = s.columns })

  turnable_test : IsKey d n k → (IsStandardKey d n k → ⊥) → is_turnable k.rows ≡ true
  turnable_test key not_standard =
      both _ _ (none_repeats d k.rows key.each)
      (both _ _ (ascending_test row_cmp nat_list_cmp_total k.rows (sorted_ascending k.rows key.ascending))
      (some (first_violation k.rows) refl))
    where
      some : (o : Option (ℕ × ℕ)) → first_violation k.rows ≡ o → falls o ≡ true
      some None f = absurd (not_standard (record { key = key; columns = columns_rise d k.rows key.each f }))
      some (Some place) f = refl

-- ---- one class

times_same : (k l : Key) → HasPoints (points l.rows) k → (i : ℕ) → times_in i (points k.rows) ≡ times_in i (points l.rows)
times_same k l h i =
    sym (count-many (λ p. i == p) (points k.rows)) ∙ h i ∙ count-many (λ p. i == p) (points l.rows)

has_points : (k l : Key) → ((i : ℕ) → times_in i (points k.rows) ≡ times_in i (points l.rows)) → HasPoints (points l.rows) k
has_points k l h i =
    count-many (λ p. i == p) (points k.rows) ∙ h i ∙ sym (count-many (λ p. i == p) (points l.rows))

-- a key that is turnable in the class of the key l
record IsTurnableLike (d n : ℕ) (l k : Key) : Type 0 where
  key : IsKey d n k
  not_standard : IsStandardKey d n k → ⊥
  parameters : l.exponents ≡ k.exponents
  same_points : HasPoints (points k.rows) l

module _ (d n : ℕ) (rank : IsRank d) (l : Key) (is_key : IsKey d n l) where
  abbrev lists : List (List (List ℕ))
  lists = row_lists d (length l.rows) (sorted (points l.rows))

  abbrev with_rows : List (List ℕ) → Key
  with_rows rows = record { exponents = l.exponents; rows = rows }

  turnable_of : (k : Key) → Contains (turnable_like d l) k → IsTurnableLike d n l k
  turnable_of k c =
      let f : From (λ rows z. with_rows rows ≡ z) (filter is_turnable lists) k =
      of_map with_rows (filter is_turnable lists) k c in
      let w = of_filter is_turnable lists f.value f.inside in
      let s : IsListed d (sorted (points l.rows)) f.value =
      of_listed d (sorted (points l.rows)) l.rows f.value (all_so _ _ (λ r h. h.0) l.rows is_key.each)
      (length-ordered (points l.rows)) (sorted_rises (points l.rows)) w.0 in
      let t = turnable_so d n (with_rows f.value) is_key.parameters s.each w.1 in
      subst (IsTurnableLike d n l) f.image
      (record {
        key = t.0;
        not_standard = t.1;
        parameters = refl;
        same_points =
            has_points l (with_rows f.value) (λ i. sym (times_sorted i (points l.rows)) ∙ sym (s.times i));
      })

  turnable_there : (k : Key) → IsTurnableLike d n l k → Contains (turnable_like d l) k
  turnable_there k h =
      let times : (i : ℕ) → times_in i (points l.rows) ≡ times_in i (points k.rows) = times_same l k h.same_points in
      let as_many : length k.rows ≡ length l.rows =
      same_rows d k.rows l.rows (let r : 2 ≤ d = rank.0 in omega arith) (all_so _ _ (λ r g. g.0) k.rows h.key.each)
      (all_so _ _ (λ r g. g.0) l.rows is_key.each)
      (sym (same_length (points l.rows) (points k.rows) times)) in
      let c : Contains lists k.rows =
      subst (λ (m : ℕ). Contains (row_lists d m (sorted (points l.rows))) k.rows) as_many
      (listed d (sorted (points l.rows)) k.rows
      (all_so _ _ (λ (r : List ℕ) (g : IsRow d r). (g.0, increasing_all r g.1)) k.rows h.key.each)
      (sorted_rises (points l.rows)) (λ i. sym (times i) ∙ sym (times_sorted i (points l.rows)))) in
      let same : with_rows k.rows ≡ k = λ j. record { exponents = h.parameters j; rows = k.rows } in
      subst (Contains (turnable_like d l)) same
      (contains_map with_rows (filter is_turnable lists) k.rows
      (contains_filter is_turnable lists k.rows c (turnable_test d n k h.key h.not_standard)))

-- ---- each once

abbrev same : Key → Key → Bool
same = eq_by_cmp key_cmp

once_there : (ks : List Key) (k : Key) → Contains ks k → Contains (each_once ks) k
once_there [] k c = c
once_there (l ∷ ks) k c = elim (contains_cases l k ks c) [
  | inl s ↦ subst (λ (z : Key). Contains (l ∷ filter (λ m. not (same l m)) (each_once ks)) z) s (contains_here l _)
  | inr b ↦ step (once_there ks k b) (same l k) refl
]
  where
    step : Contains (each_once ks) k → (b : Bool) → same l k ≡ b
        → Contains (l ∷ filter (λ m. not (same l m)) (each_once ks)) k
    step c true e =
        subst (λ (z : Key). Contains (l ∷ filter (λ m. not (same l m)) (each_once ks)) z)
        (key_same l k ((Equal-is (key_cmp l k)).0 e)) (contains_here l _)
    step c false e =
        contains_later l k _ (contains_filter (λ m. not (same l m)) (each_once ks) k c (ap not e))

of_once : (ks : List Key) (k : Key) → Contains (each_once ks) k → Contains ks k
of_once [] k c = c
of_once (l ∷ ks) k c = elim (contains_cases l k (filter (λ m. not (same l m)) (each_once ks)) c) [
  | inl s ↦ subst (λ (z : Key). Contains (l ∷ ks) z) s (contains_here l ks)
  | inr b ↦ contains_later l k ks (of_once ks k (of_filter (λ m. not (same l m)) (each_once ks) k b).0)
]

distinct_filter : (p : Key → Bool) (ks : List Key) → IsDistinct same ks → IsDistinct same (filter p ks)
unfolding IsDistinct
distinct_filter p [] h = tt
distinct_filter p (k ∷ ks) h = step (p k) (distinct_filter p ks h.1)
  where
    step : (b : Bool) → IsDistinct same (filter p ks) → IsDistinct same (cond b (k ∷ filter p ks) (filter p ks))
    step true i = (all_filter (λ l. same k l ≡ false) p ks h.0, i)
    step false i = i

others_differ : (k : Key) (ks : List Key) → AllByRecursion (λ l. same k l ≡ false) (filter (λ l. not (same k l)) ks)
others_differ k [] = tt
others_differ k (l ∷ ks) = step (same k l) refl (others_differ k ks)
  where
    step : (b : Bool) → same k l ≡ b → AllByRecursion (λ l. same k l ≡ false) (filter (λ l. not (same k l)) ks)
        → AllByRecursion (λ l. same k l ≡ false)
        (cond (not b) (l ∷ filter (λ l. not (same k l)) ks) (filter (λ l. not (same k l)) ks))
    step true e i = i
    step false e i = (e, i)

distinct_once : (ks : List Key) → IsDistinct same (each_once ks)
unfolding IsDistinct
distinct_once [] = tt
distinct_once (k ∷ ks) =
    (others_differ k (each_once ks), distinct_filter (λ l. not (same k l)) (each_once ks) (distinct_once ks))

-- ---- all classes

module _ (d n : ℕ) (f : BracketPolynomial) (rank : IsRank d) (keys : IsBracketPolynomial d n f) where
  abbrev like_term : Key × ℤ → List Key
  like_term t = turnable_like d t.0

  key_of : (t : Key × ℤ) → Contains f.terms t → IsKey d n t.0
  key_of t c = holds_of_member (λ (s : Key × ℤ). IsKey d n s.0) f.terms t keys c

  only : (k : Key) → Contains (turnable_keys d f) k → IsTurnable d n f k
  only k c =
      let w : From (λ t z. Contains (like_term t) z) f.terms k =
      of_flat_map like_term f.terms k (of_once (flat_map like_term f.terms) k c) in
      let t : IsTurnableLike d n w.value.0 k =
      turnable_of d n rank w.value.0 (key_of w.value w.inside) k w.image in
      record {
        key = t.key;
        not_standard = t.not_standard;
        like = record {
          key = w.value.0;
          there = holds_of_member (λ (s : Key × ℤ). HasTerm f s.0) f.terms w.value (all_have_terms f) w.inside;
          parameters = t.parameters;
          same_points = t.same_points;
        };
      }

  every : (k : Key) → IsTurnable d n f k → Contains (turnable_keys d f) k
  every k h =
      let l : Key = h.like.key in
      let w : From (λ (t : Key × ℤ) z. t.0 ≡ z) f.terms l =
      holds_of_term (λ z. From (λ (t : Key × ℤ) y. t.0 ≡ y) f.terms z) f l
      (all_so (Contains f.terms) (λ t. From (λ (s : Key × ℤ) y. s.0 ≡ y) f.terms t.0)
      (λ t c. record { value = t; inside = c; image = refl }) f.terms
      (all_items (Contains f.terms) f.terms (All-contains_itself f.terms))) h.like.there in
      once_there (flat_map like_term f.terms) k
      (contains_flat_map like_term f.terms w.value k w.inside
      (turnable_there d n rank w.value.0 (key_of w.value w.inside) k
      (subst (λ (z : Key). IsTurnableLike d n z k) (sym w.image)
      (record {
        key = h.key;
        not_standard = h.not_standard;
        parameters = h.like.parameters;
        same_points = h.like.same_points;
      }))))

pub turnable_are : TurnableKeys
turnable_are d n f rank keys = record {
  exactly = λ k. (only d n f rank keys k, every d n f rank keys k);
  once = distinct_once (flat_map (λ t. turnable_like d t.0) f.terms);
}

pub run_takes_at_most : RunTakesAtMost
run_takes_at_most d n budget p rank keys =
    run_is_bounded d n budget p (turnable_keys d p.sum) rank keys
    (λ k h. ((turnable_are d n p.sum rank keys).exactly k).1 h)

-- ---- answers

-- every answer of the run keeps within the number of turnable keys
pub within : (d budget : ℕ) (p : Tracked) (r : Result (Straight d) (StopError d)) → IsTracked d p
    → AnswersRun r (run budget p) → IsWithin r budget (length (turnable_keys d p.sum))
within d budget p r formed a = each r a
  where
    bound : TakesAtMost (length (turnable_keys d p.sum)) budget (run budget p)
    bound = run_takes_at_most d 64 budget p formed.rank formed.keys

    few : (turns : ℕ) → turns ≡ length (run budget p).uses → turns ≤ length (turnable_keys d p.sum)
    few turns e = subst (λ (m : ℕ). m ≤ length (turnable_keys d p.sum)) (sym e) bound.turns

    each : (r : Result (Straight d) (StopError d)) → AnswersRun r (run budget p)
        → IsWithin r budget (length (turnable_keys d p.sum))
    each (Ok s) e = few s.turns e.turns
    each (Err (Stops.Turns part)) e =
        let never : length (turnable_keys d p.sum) ≤ budget → ⊥ = λ l. bound.enough l e.stopped in
        (few part.turns e.turns, omega (arith, never))
    each (Err (Stops.Coefficient part)) e = few part.turns e.turns
    each (Err (Stops.Keys part)) e = few part.turns e.turns
    each (Err Stops.Memory) e = tt
