-- The use at the greatest key of a queue.
use Rattle.std.proofs.Common.{◌≡◌, ◌≢◌, ◌-◌, ◌<◌, ◌≤◌, ℕ, zero, suc, Bool, true, false, List, [], ◌∷◌, ◌++◌, Option, Some, None}
use Rattle.std.proofs.Common.{option_map, refl, sym, ap, subst, ◌∙◌, T, cond, arith, length}
use Rattle.std.specs.Prelude.{ℤ, pos, ◌+ℤ◌, ◌||◌, slice_get, unwrap_or}
use Rattle.std.specs.BTreeMap.{is_at}
use Rattle.std.specs.Set.{remove_key}
use Rattle.std.specs.Cmp.{Equal-is}
use Rattle.std.specs.List.{AllByRecursion}
use Rattle.std.specs.List.Sorted.{IsStrictlySortedBy}
use Rattle.std.specs.FinMap.{is_sorted}
use Rattle.std.specs.Ordering.{eq_by_cmp, ordering_reverse}
use Rattle.std.specs.declared.cmp.Ordering.TheVariants.{Less, Greater}
use Rattle.bracket_poly.specs.Kept.{IsTracked}
use Rattle.bracket_poly.specs.Products.{HasDegree}
use Rattle.bracket_poly.specs.Tracked.{Tracked, fits, has_met}
use Rattle.bracket_poly.proofs.Additions.{item_has}
use Rattle.bracket_poly.proofs.ArenaLaws.{met_at}
use Rattle.bracket_poly.proofs.EntryLaws.{zero_left}
use Rattle.coordinate_model.specs.Sums.{Terms, coefficient, count_at}
use Rattle.coordinate_model.specs.Key.{Key, key_cmp, IsKey}
use Rattle.coordinate_model.specs.Syzygy.{Use}
use Rattle.coordinate_model.proofs.Bools.{first, second}
use Rattle.coordinate_model.proofs.KeyProducts.{key_total, key_same}
use Rattle.coordinate_model.proofs.KeySets.{AllTerms}
use Rattle.coordinate_model.proofs.SumLemmas.{count_first}
use Rattle.tableau_order.specs.Standard.{IsFirstViolation}
use Rattle.straightening.specs.Queues.{AreQueued, Covers, IsLast, IsNonstandard, without_key}
use Rattle.straightening.specs.Turns.{IsUseAt, first_violation, use_at, use_of_term, last_use, turn}
use Rattle.straightening.proofs.FirstViolations.{violation_is, standard_none}
use Rattle.straightening.proofs.TermLists.{all_around, between}

-- ---- the last use

abbrev behind : Key × ℤ → Option Use → Option Use
behind t o = elim o [ Some u ↦ Some u | None ↦ use_of_term t ]

last_in : (front : Terms Key) (t : Key × ℤ) (back : Terms Key) (u : Use) → use_of_term t ≡ Some u
    → last_use back ≡ None → last_use (front ++ t ∷ back) ≡ Some u
last_in [] t back u e f = ap (behind t) f ∙ e
last_in (x ∷ front) t back u e f = ap (behind x) (last_in front t back u e f)

none_some : {A : Type 0} (a : A) → ◌≡◌ {A = Option A} None (Some a) → ⊥
none_some a e = cc

-- a standard key has no use
no_use_of : (d : ℕ) (t : Key × ℤ) → IsKey d 64 t.0 → (IsNonstandard d t.0 → ⊥) → use_of_term t ≡ None
no_use_of d t key n = step (first_violation t.0.rows) refl
  where
    step : (o : Option (ℕ × ℕ)) → first_violation t.0.rows ≡ o → use_of_term t ≡ None
    step None e = ap (option_map (use_at t)) e
    step (Some place) e = absurd (n (λ s. none_some place (sym (standard_none d t.0.rows key.each s) ∙ e)))

no_use : (d : ℕ) (ts : Terms Key) → AllByRecursion (λ t. IsKey d 64 t.0) ts
    → AllByRecursion (λ t. IsNonstandard d t.0 → ⊥) ts → last_use ts ≡ None
no_use d [] h n = refl
no_use d (t ∷ ts) h n = ap (behind t) (no_use d ts h.1 n.1) ∙ no_use_of d t h.0 n.0

-- ---- the term of a key

-- the key has its term there
record TermAt (ts : Terms Key) (k : Key) (c : ℤ) : Type 0 where
  pub front : Terms Key
  pub back : Terms Key
  pub split : ts ≡ front ++ (k, c) ∷ back

term_in : (k : Key) (c : ℤ) (ts : Terms Key) → T (is_sorted key_cmp ts) → count_at key_cmp k ts ≡ c → c ≢ pos 0
    → TermAt ts k c
term_in k c [] s e z = absurd (z (sym e))
term_in k c (t ∷ ts) s e z = step (eq_by_cmp key_cmp k t.0) refl (λ f. term_in k c ts (second _ _ s) f z)
  where
    step : (b : Bool) → eq_by_cmp key_cmp k t.0 ≡ b → (count_at key_cmp k ts ≡ c → TermAt ts k c) → TermAt (t ∷ ts) k c
    step true same onward =
        let here : k ≡ t.0 = key_same k t.0 ((Equal-is (key_cmp k t.0)).0 same) in
        let count : t.1 ≡ c =
        sym (ap (λ q. count_at key_cmp q (t ∷ ts)) here ∙ count_first key_cmp key_total key_same t ts (first _ _ s)) ∙ e in
        record { front = []; back = ts; split = λ j. (sym here j, count j) ∷ ts }
    step false other onward =
        let later : TermAt ts k c =
        onward (sym (ap (λ b. cond b t.1 (pos 0) +ℤ count_at key_cmp k ts) other ∙ zero_left (count_at key_cmp k ts)) ∙ e) in
        record { front = t ∷ later.front; back = later.back; split = ap (λ us. t ∷ us) later.split }

-- what holds of each term of a polynomial of the code, where its degrees are small
pub record IsTerm (d : ℕ) (t : Key × ℤ) : Type 0 where
  pub key : IsKey d 64 t.0
  pub degrees : AllByRecursion (λ e. e ≤ 1000) t.0.exponents
  pub not_zero : t.1 ≢ pos 0
  pub small : T (fits t.1)

pub term_of : (d : ℕ) (p : Tracked) (k : Key) (c : ℤ) → IsTracked d p → HasDegree 1000 p.sum → c ≡ coefficient p.sum k
    → c ≢ pos 0 → IsTerm d (k, c)
term_of d p k c formed degrees e z =
    let at : TermAt p.sum.terms k c = term_in k c p.sum.terms (first _ _ p.sum.canonical) (sym e) z in record {
      key = item_has (λ (u : Key × ℤ). IsKey d 64 u.0) p.sum.terms at.front at.back (k, c) formed.keys at.split;
      degrees =
          item_has (λ (u : Key × ℤ). AllByRecursion (λ e. e ≤ 1000) u.0.exponents) p.sum.terms at.front at.back (k, c)
          degrees at.split;
      not_zero = z;
      small = item_has (λ (u : Key × ℤ). T (fits u.1)) p.sum.terms at.front at.back (k, c) formed.small at.split;
    }

-- the use of a term at the place that the code finds
pub use_found : (d : ℕ) (p : Tracked) (k : Key) (c : ℤ) (u : Use) (i j : ℕ) → IsKey d 64 k → c ≡ coefficient p.sum k
    → c ≢ pos 0 → IsFirstViolation d k.rows i j → u ≡ use_at (k, c) (i, j) → IsUseAt p.sum k u
use_found d p k c u i j key e z v h = record {
  there = λ n. z (e ∙ n);
  takes =
      ap (λ x. option_map (use_at (k, x)) (first_violation k.rows)) (sym e)
      ∙ ap (option_map (use_at (k, c))) (violation_is d k.rows i j key.each v) ∙ ap Some (sym h);
}

-- ---- the greatest key

all_get : (P : Key → Type 0) (ks : List Key) (i : ℕ) (k : Key) → AllByRecursion P ks → slice_get ks i ≡ Some k → P k
all_get P [] i k h e = absurd (none_some k e)
all_get P (x ∷ xs) zero k h e = subst P (ap (λ o. unwrap_or o x) e) h.0
all_get P (x ∷ xs) (suc i) k h e = all_get P xs i k h.1 e

-- no key is less than itself, or less and greater than another
less_not_less : (k l : Key) → key_cmp k l ≡ Less → key_cmp l k ≡ Less → ⊥
less_not_less k l e f = differ (sym f ∙ key_total.antisymm l k ∙ ap ordering_reverse e)
  where
    differ : Less ≡ Greater → ⊥
    differ e = cc

or_case : (a b : Bool) → (a || b) ≡ true → (a ≡ true → ⊥) → b ≡ true
or_case true b h n = absurd (n refl)
or_case false b h n = h

nothing_above : (ks : List Key) (i : ℕ) (k q : Key) → suc i ≡ length ks → IsStrictlySortedBy key_cmp ks
    → slice_get ks i ≡ Some k → has_met ks q ≡ true → key_cmp k q ≡ Less → ⊥
unfolding IsStrictlySortedBy
nothing_above [] i k q n s e h l = absurd (omega arith)
nothing_above (x ∷ xs) zero k q n s e h l =
    let here : x ≡ k = ap (λ o. unwrap_or o x) e in
    let same : eq_by_cmp key_cmp q x ≡ true = alone xs (omega arith) h in
    let it : q ≡ x = key_same q x ((Equal-is (key_cmp q x)).0 same) in
    less_not_less k k (subst (λ (y : Key). key_cmp k y ≡ Less) (it ∙ here) l) (subst (λ (y : Key). key_cmp k y ≡ Less) (it ∙ here) l)
  where
    alone : (ys : List Key) → length ys ≡ 0 → (eq_by_cmp key_cmp q x || has_met ys q) ≡ true → eq_by_cmp key_cmp q x ≡ true
    alone [] m g = only (eq_by_cmp key_cmp q x) g
      where
        only : (b : Bool) → (b || false) ≡ true → b ≡ true
        only true g = refl
        only false g = g
    alone (y ∷ ys) m g = absurd (omega arith)
nothing_above (x ∷ xs) (suc i) k q n s e h l =
    nothing_above xs i k q (omega arith) s.1 e (or_case (eq_by_cmp key_cmp q x) (has_met xs q) h other) l
  where
    other : eq_by_cmp key_cmp q x ≡ true → ⊥
    other same =
        let it : q ≡ x = key_same q x ((Equal-is (key_cmp q x)).0 same) in
        less_not_less k x (subst (λ (y : Key). key_cmp k y ≡ Less) it l)
        (all_get (λ y. key_cmp x y ≡ Less) xs i k s.0 e)

last_above : (ks : List Key) (k q : Key) → IsStrictlySortedBy key_cmp ks → IsLast ks k → has_met ks q ≡ true
    → key_cmp k q ≡ Less → ⊥
last_above [] k q s e h l = absurd (none_some k e)
last_above (x ∷ xs) k q s e h l =
    let one : suc (length xs) - 1 ≡ length xs = omega arith in
    nothing_above (x ∷ xs) (length xs) k q refl s (ap (slice_get (x ∷ xs)) (sym one) ∙ e) h l

pub last_met : (ks : List Key) (k : Key) → IsLast ks k → has_met ks k ≡ true
last_met ks k e = met_at ks (length ks - 1) k e

pub shorter_without : (ks : List Key) (k : Key) → has_met ks k ≡ true → length (without_key ks k) < length ks
shorter_without [] k h = cc
shorter_without (x ∷ xs) k h = elim (is_at (key_cmp k) x) as (λ b. is_at (key_cmp k) x ≡ b → length (cond b xs (x ∷ remove_key (is_at (key_cmp k)) xs)) < suc (length xs)) [
  | true ↦ λ p. omega arith
  | false ↦ λ p.
      let rest : length (without_key xs k) < length xs =
      shorter_without xs k (or_case (eq_by_cmp key_cmp k x) (has_met xs k) h (λ same. true_false (sym same ∙ p))) in
      omega arith
] refl
  where
    true_false : true ≡ false → ⊥
    true_false e = cc

-- ---- the turn

module _ (d : ℕ) (p : Tracked) (queue : List Key) (formed : IsTracked d p) (covers : Covers d queue p.sum) where
  -- the use at the greatest key of the queue, where it has a term
  pub turn_here : (k : Key) (u : Use) → AreQueued d queue → IsLast queue k → IsUseAt p.sum k u → turn p.sum ≡ Some u
  turn_here k u queued last taking =
      let c : ℤ = coefficient p.sum k in
      let at : TermAt p.sum.terms k c = term_in k c p.sum.terms (first _ _ p.sum.canonical) refl taking.there in
      let sorted : T (is_sorted key_cmp (at.front ++ (k, c) ∷ at.back)) =
      subst (λ (ts : Terms Key). T (is_sorted key_cmp ts)) at.split (first _ _ p.sum.canonical) in
      let keys =
      all_around (λ (t : Key × ℤ). IsKey d 64 t.0) at.front (k, c) at.back
      (subst (λ (ts : Terms Key). AllByRecursion (λ t. IsKey d 64 t.0) ts) at.split formed.keys) in
      let covered =
      all_around (λ (t : Key × ℤ). IsNonstandard d t.0 → has_met queue t.0 ≡ true) at.front (k, c) at.back
      (subst (λ (ts : Terms Key). AllByRecursion (λ t. IsNonstandard d t.0 → has_met queue t.0 ≡ true) ts) at.split covers) in
      ap last_use at.split
      ∙ last_in at.front (k, c) at.back u taking.takes
      (no_use d at.back keys.behind (above at.back (between at.front (k, c) at.back sorted).behind covered.behind))
    where
      above : (ts : Terms Key) → AllTerms (λ l. key_cmp k l ≡ Less) ts
          → AllByRecursion (λ t. IsNonstandard d t.0 → has_met queue t.0 ≡ true) ts
          → AllByRecursion (λ t. IsNonstandard d t.0 → ⊥) ts
      above [] a b = tt
      above (t ∷ ts) a b = (λ n. last_above queue k t.0 queued.ascending last (b.0 n) a.0, above ts a.1 b.1)

  -- there is none where the queue is empty
  pub turn_none : queue ≡ [] → turn p.sum ≡ None
  turn_none e = no_use d p.sum.terms formed.keys (none p.sum.terms covers)
    where
      empty : (k : Key) → has_met queue k ≡ true → ⊥
      empty k h = false_true (sym (ap (λ ks. has_met ks k) e) ∙ h)
        where
          false_true : false ≡ true → ⊥
          false_true e = cc

      none : (ts : Terms Key) → AllByRecursion (λ t. IsNonstandard d t.0 → has_met queue t.0 ≡ true) ts
          → AllByRecursion (λ t. IsNonstandard d t.0 → ⊥) ts
      none [] a = tt
      none (t ∷ ts) a = (λ n. empty t.0 (a.0 n), none ts a.1)
