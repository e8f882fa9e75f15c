-- The keys of a polynomial over an arena in their order, and its terms at them.
use Rattle.std.specs.Prelude.{◌≡◌, ◌⊎◌, ℕ, Option, Some, None, Result, Ok, Err, OnOk, OnErr, IfSome, IfNone, is_some, position, slice_get, Bool, true, false, cond, ◌||◌, T, ℤ, pos, ◌+ℤ◌, List, [], ◌∷◌, ◌++◌}
use Rattle.std.specs.List.{AllByRecursion, IsDistinct}
use Rattle.std.specs.List.Sorted.{IsStrictlySortedBy}
use Rattle.std.specs.BTreeSet.{insert_key}
use Rattle.std.specs.Map.{lookup}
use Rattle.std.specs.Cmp.{Equal-is, eq_by_cmp_equiv}
use Rattle.std.specs.FinMap.{is_sorted}
use Rattle.std.specs.FinMap.Entries.{below_all}
use Rattle.std.specs.Ordering.{is_eq, match_ordering}
use Rattle.std.specs.declared.cmp.Ordering.TheVariants.{Less, Equal, Greater}
use Rattle.std.proofs.Common.{refl, sym, ap, subst, ◌∙◌, inl, inr}
use Rattle.coordinate_model.specs.Sums.{Terms, Sum, sum_of, count_at, coefficient, is_zero, has_no_zero, keep}
use Rattle.coordinate_model.specs.Key.{Key, key_cmp}
use Rattle.coordinate_model.proofs.Bools.{both, is_less}
use Rattle.coordinate_model.proofs.KeyProducts.{key_total, key_same}
use Rattle.coordinate_model.proofs.SumLemmas.{same_coefficients}
use Rattle.bracket_poly.specs.Arena.{HasAll, entry_at, terms_at}
use Rattle.bracket_poly.specs.Kept.{TrackedOf}
use Rattle.bracket_poly.specs.Tracked.{Tracked, has_met, meet_key, plus_term}
use Rattle.bracket_poly.proofs.EntryLaws.{zero_left, zero_right}
use Rattle.bracket_poly.proofs.ArenaLaws.{same, untied, count_sum, count_new, apart_later, met_at, looked_up}
use Rattle.bracket_poly.proofs.ArenaSteps.{keys, found_key, unfound_key, none_found}
use Rattle.bracket_poly.proofs.ArenaCopies.{zero_is}

-- ---- one key more

pub or_step : (a b c : Bool) → (a || b) ≡ true → (b ≡ true → c ≡ true) → (a || c) ≡ true
or_step true b c h f = refl
or_step false b c h f = f h

pub or_right : (a b : Bool) → b ≡ true → (a || b) ≡ true
or_right true b h = refl
or_right false b h = h

same-itself : (k : Key) → same k k ≡ true
same-itself k = (eq_by_cmp_equiv key_total).refl k

-- what is there stays where a key is put in
pub put_keeps : (ks : List Key) (k q : Key) → has_met ks q ≡ true → has_met (insert_key key_cmp ks k) q ≡ true
put_keeps [] k q h = cc
put_keeps (x ∷ xs) k q h = elim (key_cmp k x) as (λ r. has_met (match_ordering r (k ∷ x ∷ xs) (x ∷ xs) (x ∷ insert_key key_cmp xs k)) q ≡ true) [
  | Less ↦ or_right (same q k) (same q x || has_met xs q) h
  | Equal ↦ h
  | Greater ↦ or_step (same q x) (has_met xs q) (has_met (insert_key key_cmp xs k) q) h (put_keeps xs k q)
]

-- and the key is there
pub put_there : (ks : List Key) (k : Key) → has_met (insert_key key_cmp ks k) k ≡ true
put_there [] k = ap (λ b. b || false) (same-itself k)
put_there (x ∷ xs) k = elim (key_cmp k x) as (λ r. key_cmp k x ≡ r → has_met (match_ordering r (k ∷ x ∷ xs) (x ∷ xs) (x ∷ insert_key key_cmp xs k)) k ≡ true) [
  | Less ↦ λ p. ap (λ b. b || (same k x || has_met xs k)) (same-itself k)
  | Equal ↦ λ p. ap (λ b. b || has_met xs k) (ap is_eq p)
  | Greater ↦ λ p. or_right (same k x) (has_met (insert_key key_cmp xs k) k) (put_there xs k)
] refl

-- ---- keys that have all of the met ones

-- the key that is met last, or one of those before
last_or : (met : List Key) (k q : Key) → has_met (met ++ k ∷ []) q ≡ true → (has_met met q ≡ true) ⊎ (q ≡ k)
last_or [] k q h = inr (key_same q k ((Equal-is (key_cmp q k)).0 (alone (same q k) h)))
  where
    alone : (b : Bool) → (b || false) ≡ true → b ≡ true
    alone true e = refl
    alone false e = e
last_or (x ∷ xs) k q h = step (same q x) (λ e. last_or xs k q e) h
  where
    step : (b : Bool) → (has_met (xs ++ k ∷ []) q ≡ true → (has_met xs q ≡ true) ⊎ (q ≡ k))
        → (b || has_met (xs ++ k ∷ []) q) ≡ true → ((b || has_met xs q) ≡ true) ⊎ (q ≡ k)
    step true later e = inl refl
    step false later e = later e

pub all_with : (ks more met : List Key) (k : Key) → HasAll ks met → HasAll more ks → has_met more k ≡ true
    → HasAll more (meet_key met k)
all_with ks more met k h wider there q e =
    elim (has_met met k) as (λ b. has_met (cond b met (met ++ k ∷ [])) q ≡ true → has_met more q ≡ true) [
      | true ↦ λ m. wider q (h q m)
      | false ↦ λ m. elim (last_or met k q m) [
        | inl old ↦ wider q (h q old)
        | inr new ↦ subst (λ (x : Key). has_met more x ≡ true) (sym new) there
      ]
    ] e

-- behind a key that was met
pub all_again : (ks met : List Key) (k : Key) → HasAll ks met → has_met met k ≡ true → HasAll ks (meet_key met k)
all_again ks met k h m = all_with ks ks met k h (λ q e. e) (h k m)

-- keys of nothing
pub all_of_none : (ks met : List Key) → met ≡ [] → HasAll ks met
all_of_none ks met e k h = absurd (none (sym (ap (λ xs. has_met xs k) e) ∙ h))
  where
    none : false ≡ true → ⊥
    none f = cc

-- ---- behind an addition that may have been refused
module _ {X E : Type 0} {d : ℕ} (r : Result X E) (old new : TrackedOf d) (k : Key) (c : ℤ) (ks : List Key)
    (h : HasAll ks old.tracked.met) (added : OnOk r (new.tracked ≡ plus_term old.tracked (k, c))) (refused : OnErr r (new ≡ old)) where
  pub all_after_at : (i : ℕ) → slice_get old.tracked.met i ≡ Some k → HasAll ks new.tracked.met
  all_after_at i there = step r added refused
    where
      step : (o : Result X E) → OnOk o (new.tracked ≡ plus_term old.tracked (k, c)) → OnErr o (new ≡ old) → HasAll ks new.tracked.met
      step (Ok x) e f =
          subst (λ (p : Tracked). HasAll ks p.met) (sym e) (all_again ks old.tracked.met k h (met_at old.tracked.met i k there))
      step (Err x) e f = subst (λ (p : TrackedOf d). HasAll ks p.tracked.met) (sym f) h

  pub all_after_new : (more : List Key) → HasAll more ks → has_met more k ≡ true → HasAll more new.tracked.met
  all_after_new more wider there = step r added refused
    where
      step : (o : Result X E) → OnOk o (new.tracked ≡ plus_term old.tracked (k, c)) → OnErr o (new ≡ old) → HasAll more new.tracked.met
      step (Ok x) e f = subst (λ (p : Tracked). HasAll more p.met) (sym e) (all_with ks more old.tracked.met k h wider there)
      step (Err x) e f = subst (λ (p : TrackedOf d). HasAll more p.tracked.met) (sym f) (λ q m. wider q (h q m))

-- ---- where a key is looked for

pub found_there : (o : Option ℕ) (ks : List Key) (k : Key) → o ≡ position (same k) ks
    → IfSome o (λ i. slice_get ks i ≡ Some k)
found_there None ks k e = tt
found_there (Some i) ks k e = found_key ks i k (sym e)

pub found_none : (o : Option ℕ) (entries : Terms Key) (k : Key) → is_some o ≡ is_some (lookup (same k) entries)
    → IfNone o (has_met (keys entries) k ≡ false)
found_none None entries k e = unfound_key entries k (none_found _ e)
found_none (Some i) entries k e = tt

-- ---- all met keys, put in one after another

-- each met key is in, or is left
abbrev pub Reaches : List Key → List Key → Terms Key → Type 0
Reaches met ks left = (k : Key) → has_met met k ≡ true → (has_met ks k ≡ true) ⊎ (has_met (keys left) k ≡ true)

pub none_reached : (met ks : List Key) (left : Terms Key) → met ≡ keys left → Reaches met ks left
none_reached met ks left e k h = inr (sym (ap (λ xs. has_met xs k) e) ∙ h)

pub one_reached : (met ks more : List Key) (left next : Terms Key) (k l : Key) (c : ℤ) → Reaches met ks left
    → left ≡ (k, c) ∷ next → HasAll more ks → has_met more l ≡ true → l ≡ k → Reaches met more next
one_reached met ks more left next k l c h e wider put s q old = elim (h q old) [
  | inl there ↦ inl (wider q there)
  | inr later ↦ step (same q k) refl (sym (ap (λ es. has_met (keys es) q) e) ∙ later)
]
  where
    step : (b : Bool) → same q k ≡ b → (b || has_met (keys next) q) ≡ true
        → (has_met more q ≡ true) ⊎ (has_met (keys next) q ≡ true)
    step true p f =
        inl (subst (λ (x : Key). has_met more x ≡ true) (s ∙ sym (key_same q k ((Equal-is (key_cmp q k)).0 p))) put)
    step false p f = inr f

pub all_reached : (met ks : List Key) (left : Terms Key) → Reaches met ks left → left ≡ [] → HasAll ks met
all_reached met ks left h e k m = elim (h k m) [
  | inl there ↦ there
  | inr later ↦ absurd (none (sym (ap (λ es. has_met (keys es) k) e) ∙ later))
]
  where
    none : false ≡ true → ⊥
    none f = cc

-- ---- the terms at keys that ascend

either_zero : (b : Bool) → cond b (pos 0) (pos 0) ≡ pos 0
either_zero true = refl
either_zero false = refl

count_kept : (k x : Key) (c : ℤ) (rest : Terms Key)
    → count_at key_cmp k (keep x c rest) ≡ cond (same k x) c (pos 0) +ℤ count_at key_cmp k rest
count_kept k x c rest =
    elim (is_zero c) as (λ b. is_zero c ≡ b → count_at key_cmp k (cond b rest ((x, c) ∷ rest)) ≡ cond (same k x) c (pos 0) +ℤ count_at key_cmp k rest) [
      | true ↦ λ e.
          sym (ap (λ z. cond (same k x) z (pos 0) +ℤ count_at key_cmp k rest) (zero_is c e)
          ∙ ap (λ z. z +ℤ count_at key_cmp k rest) (either_zero (same k x)) ∙ zero_left (count_at key_cmp k rest))
      | false ↦ λ e. refl
    ] refl

module _ (entries : Terms Key) where
  below_terms : (x : Key) (ks : List Key) → AllByRecursion (λ y. key_cmp x y ≡ Less) ks
      → T (below_all key_cmp x (terms_at entries ks))
  below_terms x [] h = tt
  below_terms x (k ∷ ks) h =
      elim (is_zero (entry_at entries k)) as (λ b. T (below_all key_cmp x (cond b (terms_at entries ks) ((k, entry_at entries k) ∷ terms_at entries ks)))) [
        | true ↦ below_terms x ks h.1
        | false ↦ both _ _ (is_less _ h.0) (below_terms x ks h.1)
      ]

  sorted_terms : (ks : List Key) → IsStrictlySortedBy key_cmp ks → T (is_sorted key_cmp (terms_at entries ks))
  unfolding IsStrictlySortedBy
  sorted_terms [] h = tt
  sorted_terms (k ∷ ks) h =
      elim (is_zero (entry_at entries k)) as (λ b. T (is_sorted key_cmp (cond b (terms_at entries ks) ((k, entry_at entries k) ∷ terms_at entries ks)))) [
        | true ↦ sorted_terms ks h.1
        | false ↦ both _ _ (below_terms k ks h.0) (sorted_terms ks h.1)
      ]

  no_zeros : (ks : List Key) → T (has_no_zero (terms_at entries ks))
  no_zeros [] = tt
  no_zeros (k ∷ ks) =
      elim (is_zero (entry_at entries k)) as (λ b. is_zero (entry_at entries k) ≡ b → T (has_no_zero (cond b (terms_at entries ks) ((k, entry_at entries k) ∷ terms_at entries ks)))) [
        | true ↦ λ e. no_zeros ks
        | false ↦ λ e. subst (λ (b : Bool). T (cond b false (has_no_zero (terms_at entries ks)))) (sym e) (no_zeros ks)
      ] refl

  count_none : (ks : List Key) (k : Key) → has_met ks k ≡ false → count_at key_cmp k (terms_at entries ks) ≡ pos 0
  count_none [] k h = refl
  count_none (x ∷ xs) k h =
      let apart = untied (same k x) (has_met xs k) h in
      count_kept k x (entry_at entries x) (terms_at entries xs)
      ∙ ap (λ b. cond b (entry_at entries x) (pos 0) +ℤ count_at key_cmp k (terms_at entries xs)) apart.0
      ∙ zero_left (count_at key_cmp k (terms_at entries xs)) ∙ count_none xs k apart.1

  others : (x : Key) (xs : List Key) → AllByRecursion (λ y. key_cmp x y ≡ Less) xs → AllByRecursion (λ y. same x y ≡ false) xs
  others x [] h = tt
  others x (y ∷ ys) h = (ap is_eq h.0, others x ys h.1)

  count_there : (ks : List Key) (k : Key) → IsStrictlySortedBy key_cmp ks → has_met ks k ≡ true
      → count_at key_cmp k (terms_at entries ks) ≡ entry_at entries k
  unfolding IsStrictlySortedBy
  count_there [] k s h = cc
  count_there (x ∷ xs) k s h = elim (same k x) as (λ b. same k x ≡ b → count_at key_cmp k (terms_at entries (x ∷ xs)) ≡ entry_at entries k) [
    | true ↦ λ p.
        count_kept k x (entry_at entries x) (terms_at entries xs)
        ∙ ap (λ b. cond b (entry_at entries x) (pos 0) +ℤ count_at key_cmp k (terms_at entries xs)) p
        ∙ ap (λ w. entry_at entries x +ℤ w) (count_none xs k (apart_later x k xs (others x xs s.0) p))
        ∙ zero_right (entry_at entries x)
        ∙ ap (λ z. entry_at entries z) (sym (key_same k x ((Equal-is (key_cmp k x)).0 p)))
    | false ↦ λ p.
        count_kept k x (entry_at entries x) (terms_at entries xs)
        ∙ ap (λ b. cond b (entry_at entries x) (pos 0) +ℤ count_at key_cmp k (terms_at entries xs)) p
        ∙ zero_left (count_at key_cmp k (terms_at entries xs))
        ∙ count_there xs k s.1 (sym (ap (λ b. b || has_met xs k) p) ∙ h)
  ] refl

  -- they are all terms, where the keys have all of the met ones
  pub terms_are : (ks : List Key) → IsDistinct same (keys entries) → IsStrictlySortedBy key_cmp ks → HasAll ks (keys entries)
      → terms_at entries ks ≡ (sum_of key_cmp entries).terms
  terms_are ks once s h = ap (λ (f : Sum key_cmp). f.terms) (same_coefficients key_cmp key_total key_same made (sum_of key_cmp entries) counts)
    where
      made : Sum key_cmp
      made = record { terms = terms_at entries ks; canonical = both _ _ (sorted_terms ks s) (no_zeros ks) }

      unmet : (k : Key) (b : Bool) → has_met (keys entries) k ≡ b → has_met ks k ≡ false → has_met (keys entries) k ≡ false
      unmet k false e f = e
      unmet k true e f = absurd (clash (sym (h k e) ∙ f))
        where
          clash : true ≡ false → ⊥
          clash g = cc

      at_key : (k : Key) (b : Bool) → has_met ks k ≡ b → count_at key_cmp k (terms_at entries ks) ≡ count_at key_cmp k entries
      at_key k true e = count_there ks k s e ∙ looked_up k entries once
      at_key k false e = count_none ks k e ∙ sym (count_new entries k (unmet k (has_met (keys entries) k) refl e))

      counts : (k : Key) → coefficient made k ≡ coefficient (sum_of key_cmp entries) k
      counts k = at_key k (has_met ks k) refl ∙ sym (count_sum k entries)

  -- ---- a walk over the keys

  -- a key without a term is passed
  pub passed : (left next : List Key) (k : Key) (c : ℤ) → left ≡ k ∷ next → c ≡ entry_at entries k → is_zero c ≡ true
      → terms_at entries left ≡ terms_at entries next
  passed left next k c e n z =
      ap (terms_at entries) e
      ∙ ap (λ b. cond b (terms_at entries next) ((k, entry_at entries k) ∷ terms_at entries next)) (ap is_zero (sym n) ∙ z)

  -- a key with a term is the next
  pub given : (left next : List Key) (k : Key) (c : ℤ) → left ≡ k ∷ next → c ≡ entry_at entries k → is_zero c ≡ false
      → terms_at entries left ≡ (k, c) ∷ terms_at entries next
  given left next k c e n z =
      ap (terms_at entries) e
      ∙ ap (λ b. cond b (terms_at entries next) ((k, entry_at entries k) ∷ terms_at entries next)) (ap is_zero (sym n) ∙ z)
      ∙ ap (λ w. (k, w) ∷ terms_at entries next) (sym n)
