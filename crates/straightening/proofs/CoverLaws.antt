-- Queues that have every key of a polynomial that is not standard.
use Rattle.std.specs.Prelude.{◌≡◌, ℕ, Bool, true, false, cond, ◌||◌, ℤ, pos, List, [], ◌∷◌, ◌++◌, map}
use Rattle.std.specs.List.{AllByRecursion}
use Rattle.std.specs.BTreeMap.{is_at}
use Rattle.std.specs.Set.{remove_key}
use Rattle.std.specs.Cmp.{Equal-is}
use Rattle.std.specs.Ordering.{eq_by_cmp}
use Rattle.std.proofs.Common.{refl, sym, ap, subst, ◌∙◌, append_assoc, append-nil}
use Rattle.coordinate_model.specs.Sums.{Terms, coefficient, is_zero}
use Rattle.coordinate_model.specs.Key.{Key, key_cmp, IsKey}
use Rattle.coordinate_model.specs.BracketPolynomial.{BracketPolynomial}
use Rattle.coordinate_model.proofs.KeyProducts.{key_total, key_same}
use Rattle.bracket_poly.specs.Arena.{seen}
use Rattle.bracket_poly.specs.Kept.{IsTracked}
use Rattle.bracket_poly.specs.Tracked.{Tracked, has_met, plus_term}
use Rattle.bracket_poly.proofs.Additions.{item_has}
use Rattle.bracket_poly.proofs.ArenaLaws.{count_sum}
use Rattle.bracket_poly.proofs.ArenaOrder.{or_step}
use Rattle.bracket_poly.proofs.EntryLaws.{all_written}
use Rattle.bracket_poly.proofs.TrackedLaws.{written_terms}
use Rattle.straightening.specs.Queues.{IsNonstandard, Covers, TakesIn, without_key}
use Rattle.straightening.specs.RunLaws.{HasTerm}
use Rattle.straightening.proofs.TermLists.{all_have_terms, holds_at, holds_of_term}

abbrev same : Key → Key → Bool
same = eq_by_cmp key_cmp

-- ---- lists of keys

-- another key stays where one is taken out
pub out_keeps : (ks : List Key) (k q : Key) → (same k q ≡ true → ⊥) → has_met ks q ≡ true → has_met (without_key ks k) q ≡ true
out_keeps [] k q other h = cc
out_keeps (x ∷ xs) k q other h = elim (is_at (key_cmp k) x) as (λ b. is_at (key_cmp k) x ≡ b → has_met (cond b xs (x ∷ remove_key (is_at (key_cmp k)) xs)) q ≡ true) [
  | true ↦ λ p. later (same q x) refl p h
  | false ↦ λ p. or_step (same q x) (has_met xs q) (has_met (without_key xs k) q) h (out_keeps xs k q other)
] refl
  where
    later : (b : Bool) → same q x ≡ b → is_at (key_cmp k) x ≡ true → (b || has_met xs q) ≡ true → has_met xs q ≡ true
    later false e p g = g
    later true e p g =
        let here : q ≡ x = key_same q x ((Equal-is (key_cmp q x)).0 e) in
        absurd (other (subst (λ (z : Key). same k z ≡ true) (sym here) p))

-- ---- what is covered

pub covers_more : (d : ℕ) (old new : List Key) (f : BracketPolynomial) → ((q : Key) → has_met old q ≡ true → has_met new q ≡ true)
    → Covers d old f → Covers d new f
covers_more d old new f wider h = onward f.terms h
  where
    onward : (ts : Terms Key) → AllByRecursion (λ t. IsNonstandard d t.0 → has_met old t.0 ≡ true) ts
        → AllByRecursion (λ t. IsNonstandard d t.0 → has_met new t.0 ≡ true) ts
    onward [] a = tt
    onward (t ∷ ts) a = (λ n. wider t.0 (a.0 n), onward ts a.1)

-- behind a term more, whose key is standard or there
pub covers_added : (d : ℕ) (keys : List Key) (p : Tracked) (k : Key) (c : ℤ) → is_zero c ≡ false → Covers d keys p.sum
    → (IsNonstandard d k → has_met keys k ≡ true) → Covers d keys (plus_term p (k, c)).sum
covers_added d keys p k c z h n =
    subst (λ (ts : Terms Key). AllByRecursion (λ t. IsNonstandard d t.0 → has_met keys t.0 ≡ true) ts)
    (sym (written_terms p.sum k c z))
    (all_written key_cmp key_total key_same (λ x w. IsNonstandard d x → has_met keys x ≡ true) k c (coefficient p.sum k) p.sum.terms h n)

-- behind the removal of a key that has no term
pub covers_out : (d : ℕ) (keys : List Key) (f : BracketPolynomial) (k : Key) → coefficient f k ≡ pos 0 → Covers d keys f
    → Covers d (without_key keys k) f
covers_out d keys f k none h = onward f.terms (all_have_terms f) h
  where
    onward : (ts : Terms Key) → AllByRecursion (λ t. HasTerm f t.0) ts
        → AllByRecursion (λ t. IsNonstandard d t.0 → has_met keys t.0 ≡ true) ts
        → AllByRecursion (λ t. IsNonstandard d t.0 → has_met (without_key keys k) t.0 ≡ true) ts
    onward [] a b = tt
    onward (t ∷ ts) a b = (
      λ n. out_keeps keys k t.0 (λ e. a.0 (ap (coefficient f) (sym (key_same k t.0 ((Equal-is (key_cmp k t.0)).0 e))) ∙ none)) (b.0 n),
      onward ts a.1 b.1,
    )

-- ---- a term more

-- behind a term that is new
pub covers_new : (d : ℕ) (old new : List Key) (p : Tracked) (k : Key) (c : ℤ) → is_zero c ≡ false → Covers d old p.sum
    → TakesIn d old new k → Covers d new (plus_term p (k, c)).sum
covers_new d old new p k c z h takes =
    covers_added d new p k c z (covers_more d old new p.sum takes.kept h) takes.taken

-- behind a term whose key had one
pub covers_same : (d : ℕ) (keys : List Key) (p : Tracked) (k : Key) (c : ℤ) → is_zero c ≡ false → Covers d keys p.sum
    → is_zero (coefficient p.sum k) ≡ false → Covers d keys (plus_term p (k, c)).sum
covers_same d keys p k c z h old =
    covers_added d keys p k c z h (holds_of_term (λ q. IsNonstandard d q → has_met keys q ≡ true) p.sum k h (not_zero old))
  where
    not_zero : {x : ℤ} → is_zero x ≡ false → x ≡ pos 0 → ⊥
    not_zero e f = true_false (sym (ap is_zero f) ∙ e)
      where
        true_false : true ≡ false → ⊥
        true_false e = cc

-- ---- all met keys

-- the keys up to those that are left are looked through
pub record FilledIn (d : ℕ) (p : Tracked) (queue : List Key) (left : Terms Key) : Type 0 where
  pub done : Terms Key
  pub split : seen (done ++ left) ≡ p
  pub taken : AllByRecursion (λ e. IsNonstandard d e.0 → has_met queue e.0 ≡ true) done

pub none_filled : (d : ℕ) (p : Tracked) (queue : List Key) (left : Terms Key) → seen left ≡ p → FilledIn d p queue left
none_filled d p queue left e = record { done = []; split = e; taken = tt }

first_keys : (front : Terms Key) (e : Key × ℤ) (back : Terms Key)
    → map (λ t. t.0) (front ++ e ∷ back) ≡ map (λ t. t.0) front ++ e.0 ∷ map (λ t. t.0) back
first_keys [] e back = refl
first_keys (x ∷ front) e back = ap (λ ks. x.0 ∷ ks) (first_keys front e back)

module _ (d : ℕ) (p : Tracked) (old : List Key) (left next : Terms Key) (e : Key × ℤ) (h : FilledIn d p old left)
    (one : left ≡ e ∷ next) where
  around : seen (h.done ++ e ∷ next) ≡ p
  around = ap (λ es. seen (h.done ++ es)) (sym one) ∙ h.split

  -- the next is a key
  pub filled_key : IsTracked d p → IsKey d 64 e.0
  filled_key formed =
      item_has (IsKey d 64) p.met (map (λ t. t.0) h.done) (map (λ t. t.0) next) e.0 formed.met_keys
      (sym (ap (λ (q : Tracked). q.met) around) ∙ first_keys h.done e next)

  pub one_filled : (new : List Key) → TakesIn d old new e.0 → FilledIn d p new next
  one_filled new takes = record {
    done = h.done ++ e ∷ [];
    split = ap seen (append_assoc h.done (e ∷ []) next) ∙ around;
    taken = onward h.done h.taken;
  }
    where
      onward : (ts : Terms Key) → AllByRecursion (λ t. IsNonstandard d t.0 → has_met old t.0 ≡ true) ts
          → AllByRecursion (λ t. IsNonstandard d t.0 → has_met new t.0 ≡ true) (ts ++ e ∷ [])
      onward [] a = (takes.taken, tt)
      onward (t ∷ ts) a = (λ n. takes.kept t.0 (a.0 n), onward ts a.1)

pub all_filled : (d : ℕ) (p : Tracked) (queue : List Key) (left : Terms Key) → FilledIn d p queue left → left ≡ []
    → Covers d queue p.sum
all_filled d p queue left h none = onward p.sum.terms (all_have_terms p.sum)
  where
    whole : seen h.done ≡ p
    whole = ap seen (sym (ap (λ es. h.done ++ es) none ∙ append-nil h.done)) ∙ h.split

    here : (k : Key) → HasTerm p.sum k → IsNonstandard d k → has_met queue k ≡ true
    here k has =
        holds_at (λ q. IsNonstandard d q → has_met queue q ≡ true) h.done k h.taken
        (λ z. has (sym (ap (λ (q : Tracked). coefficient q.sum k) whole) ∙ count_sum k h.done ∙ z))

    onward : (ts : Terms Key) → AllByRecursion (λ t. HasTerm p.sum t.0) ts
        → AllByRecursion (λ t. IsNonstandard d t.0 → has_met queue t.0 ≡ true) ts
    onward [] a = tt
    onward (t ∷ ts) a = (here t.0 a.0, onward ts a.1)
