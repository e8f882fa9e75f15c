-- The sizes of the keys and extensors of joins and meets.
use Rattle.std.specs.Prelude.{◌≡◌, ℕ, zero, suc, ◌+◌, ◌<◌, ◌≤◌, Bool, true, false, cond, List, [], ◌∷◌, ◌++◌}
use Rattle.std.specs.Prelude.{map, filter, flat_map, drop, length, slice_get, slice_set, replicate, Option, Some, None}
use Rattle.std.specs.List.{AllByRecursion, cons_option}
use Rattle.std.proofs.Common.{refl, sym, ap, subst, ◌∙◌, arith, add-zero, length-append}
use Rattle.coordinate_model.specs.Sequences.{at_places}
use Rattle.std.specs.Ordering.{is_gt}
use Rattle.std.specs.declared.cmp.Ordering.{Ordering}
use Rattle.std.specs.declared.cmp.Ordering.TheVariants.{Less, Equal, Greater}
use Rattle.coordinate_model.specs.Words.{place, ordered}
use Rattle.coordinate_model.proofs.SortedRows.{all_ordered}
use Rattle.coordinate_model.proofs.Splits.{all_so, all_append}
use Rattle.coordinate_model.specs.Sums.{Terms}
use Rattle.coordinate_model.specs.Key.{Key, key_times, row_cmp, add_exponents}
use Rattle.coordinate_model.specs.BracketPolynomial.{AllKeys}
use Rattle.coordinate_model.specs.Starts.{Product, row_key, terms_of, reached, has_term, put_extensor, products_at}
use Rattle.coordinate_model.proofs.KeySets.{AllTerms, all_sum_of}
use Rattle.coordinate_model.proofs.StartKeys.{keys-product, all_products_at}
use Rattle.bracket_poly.specs.Tracked.{Tracked, has_met, nothing, plus_term, plus_terms}
use Rattle.bracket_poly.specs.Sizes.{KeyWithin}
use Rattle.bracket_poly.proofs.Within.{within_times, none_dropped}
use Rattle.shuffle_meet.specs.Sizes.{IsWithin, MetWithin}
use Rattle.shuffle_meet.specs.Stops.{tracked_at, tracked_starts, tracked_entries}
use Rattle.shuffle_meet.specs.Seen.{seen}
use Rattle.shuffle_meet.proofs.SeenLaws.{Entries}

-- ---- lists

pub all_flat : {A B : Type 0} (P : B → Type 0) (f : A → List B) (xs : List A) → AllByRecursion (λ x. AllByRecursion P (f x)) xs
    → AllByRecursion P (flat_map f xs)
all_flat P f [] h = tt
all_flat P f (x ∷ xs) h = all_append P (f x) (flat_map f xs) h.0 (all_flat P f xs h.1)

all_of : {A : Type 0} (Q : A → Type 0) → ((x : A) → Q x) → (xs : List A) → AllByRecursion Q xs
all_of Q f [] = tt
all_of Q f (x ∷ xs) = (f x, all_of Q f xs)

all_and_at : {A : Type 0} (P : A → Type 0) (xs : List A) (i : ℕ) (rest : List A) → AllByRecursion P xs
    → AllByRecursion P rest → AllByRecursion P (cons_option (slice_get xs i) rest)
all_and_at P [] i rest h k = k
all_and_at P (x ∷ xs) zero rest h k = (h.0, k)
all_and_at P (x ∷ xs) (suc i) rest h k = all_and_at P xs i rest h.1 k

pub all_at_places : {A : Type 0} (P : A → Type 0) (xs : List A) (places : List ℕ) → AllByRecursion P xs
    → AllByRecursion P (at_places xs places)
all_at_places P xs [] h = tt
all_at_places P xs (i ∷ places) h = all_and_at P xs i (at_places xs places) h (all_at_places P xs places h)

length_place : {V : Type 0} (R : V → V → Ordering) (v : V) (w : List V) → length (place R v w) ≡ suc (length w)
length_place R v [] = refl
length_place R v (x ∷ w) = step (is_gt (R v x)) (length_place R v w)
  where
    step : (b : Bool) → length (place R v w) ≡ suc (length w)
        → length (cond b (x ∷ place R v w) (v ∷ x ∷ w)) ≡ suc (suc (length w))
    step true ih = ap suc ih
    step false ih = refl

all_filtered : {A : Type 0} (P : A → Type 0) (test : A → Bool) (xs : List A) → AllByRecursion P xs
    → AllByRecursion P (filter test xs)
all_filtered P test [] h = tt
all_filtered P test (x ∷ xs) h = step (test x) (all_filtered P test xs h.1)
  where
    step : (b : Bool) → AllByRecursion P (filter test xs) → AllByRecursion P (cond b (x ∷ filter test xs) (filter test xs))
    step true i = (h.0, i)
    step false i = i

all_put : (P : List ℕ → Type 0) (x : List ℕ) (xs : List (List ℕ)) → P x → AllByRecursion P xs
    → AllByRecursion P (put_extensor x xs)
all_put P x [] p h = (p, tt)
all_put P x (y ∷ ys) p h = step (row_cmp x y) (all_put P x ys p h.1)
  where
    step : (r : Ordering) → AllByRecursion P (put_extensor x ys)
        → AllByRecursion P (elim r [ Less ↦ x ∷ y ∷ ys | Equal ↦ y ∷ ys | Greater ↦ y ∷ put_extensor x ys ])
    step Less i = (p, h)
    step Equal i = h
    step Greater i = (h.0, i)

-- what holds of the extensors of all products holds of those that are reached
all_reached_by : (P : List ℕ → Type 0) (ps : List Product) → AllByRecursion (λ p. P p.extensor) ps
    → AllByRecursion P (reached ps)
all_reached_by P [] h = tt
all_reached_by P (p ∷ ps) h = all_put P p.extensor (reached ps) h.0 (all_reached_by P ps h.1)

-- ---- products of keys

module _ (points parameters : ℕ) where
  abbrev HaveRows : List (List ℕ) → Type 0
  HaveRows rows = AllByRecursion (λ row. AllByRecursion (λ p. p < points) row) rows

  -- a row as a factor, where no row stands for 1
  within_row : (row : Option (List ℕ)) (more : ℕ) → length (row_key row).rows ≤ more → HaveRows (row_key row).rows
      → KeyWithin points parameters more 0 (row_key row)
  within_row None more n h =
      record { points_below = h; no_others = none_dropped parameters; few_rows = n; small = tt }
  within_row (Some row) more n h =
      record { points_below = h; no_others = none_dropped parameters; few_rows = n; small = tt }

  -- a product of two polynomials and a row
  pub record ProductWithin (rows degree : ℕ) (p : Product) : Type 0 where
    pub extensor : AllByRecursion (λ q. q < points) p.extensor
    pub terms : AllTerms (KeyWithin points parameters rows degree) (terms_of p)

  pub within_product : (r e s f more : ℕ) (p : Product) → AllByRecursion (λ q. q < points) p.extensor
      → AllKeys (KeyWithin points parameters r e) p.left → AllKeys (KeyWithin points parameters s f) p.right
      → length (row_key p.row).rows ≤ more → HaveRows (row_key p.row).rows
      → ProductWithin (r + s + more) (e + f) p
  within_product r e s f more p x left right n rows = record {
    extensor = x;
    terms =
        keys-product (KeyWithin points parameters r e) (KeyWithin points parameters s f)
        (KeyWithin points parameters (r + s + more) (e + f)) p
        (λ k l h i. same_degree _ (within_times points parameters (r + s) (e + f) more 0 (key_times k l) (row_key p.row)
        (within_times points parameters r e s f k l h i) (within_row p.row more n rows)))
        left right;
  }
    where
      same_degree : (k : Key) → KeyWithin points parameters (r + s + more) (e + f + 0) k
          → KeyWithin points parameters (r + s + more) (e + f) k
      same_degree k h = subst (λ (n : ℕ). KeyWithin points parameters (r + s + more) n k) (add-zero (e + f)) h

  -- what is within bounds is so within wider ones
  wider_key : (r e s f : ℕ) (k : Key) → r ≤ s → e ≤ f → KeyWithin points parameters r e k → KeyWithin points parameters s f k
  wider_key r e s f k few low h =
      let a : length k.rows ≤ r = h.few_rows in
      record {
        points_below = h.points_below;
        no_others = h.no_others;
        few_rows = omega arith;
        small = all_so (λ x. x ≤ e) (λ x. x ≤ f) (λ x l. omega arith) k.exponents h.small;
      }

  pub wider_product : (r e s f : ℕ) (p : Product) → r ≤ s → e ≤ f → ProductWithin r e p → ProductWithin s f p
  wider_product r e s f p few low h = record {
    extensor = h.extensor;
    terms =
        all_so (λ t. KeyWithin points parameters r e t.0) (λ t. KeyWithin points parameters s f t.0)
        (λ t x. wider_key r e s f t.0 few low x) (terms_of p) h.terms;
  }

  -- ---- sums of products

  module _ (rows degree : ℕ) where
    abbrev Within : Key → Type 0
    Within = KeyWithin points parameters rows degree

    record TrackedWithin (f : Tracked) : Type 0 where
      terms : AllKeys Within f.sum
      met : AllByRecursion Within f.met

    within_terms : (f : Tracked) (ts : Terms Key) → TrackedWithin f → AllTerms Within ts → TrackedWithin (plus_terms f ts)
    within_terms f [] h k = h
    within_terms f (t ∷ ts) h k =
        within_terms (plus_term f t) ts
        (record { terms = all_sum_of Within (t ∷ f.sum.terms) (k.0, h.terms); met = met_too (has_met f.met t.0) }) k.1
      where
        met_too : (b : Bool) → AllByRecursion Within (cond b f.met (f.met ++ t.0 ∷ []))
        met_too true = h.met
        met_too false = all_append Within f.met (t.0 ∷ []) h.met (k.0, tt)

    within_at : (x : List ℕ) (ps : List Product) → AllByRecursion (ProductWithin rows degree) ps
        → TrackedWithin (tracked_at x ps)
    within_at x ps h =
        within_terms nothing (flat_map terms_of (products_at x ps)) (record { terms = tt; met = tt })
        (all_flat (λ t. Within t.0) terms_of (products_at x ps)
        (all_products_at (λ p. AllTerms Within (terms_of p)) x ps
        (all_so (ProductWithin rows degree) (λ p. AllTerms Within (terms_of p)) (λ p w. w.terms) ps h)))

    abbrev StartWithin : List ℕ × Tracked → Type 0
    StartWithin t = AllByRecursion (λ q. q < points) t.0 × TrackedWithin t.1

    within_starts : (ps : List Product) → AllByRecursion (ProductWithin rows degree) ps
        → AllByRecursion StartWithin (tracked_entries ps)
    within_starts ps h = kept (tracked_starts ps) (each (reached ps) (all_reached ps h))
      where
        all_reached : (qs : List Product) → AllByRecursion (ProductWithin rows degree) qs
            → AllByRecursion (AllByRecursion (λ q. q < points)) (reached qs)
        all_reached qs i = all_reached_by (AllByRecursion (λ q. q < points)) qs
            (all_so (ProductWithin rows degree) (λ p. AllByRecursion (λ q. q < points) p.extensor) (λ p w. w.extensor) qs i)

        each : (xs : List (List ℕ)) → AllByRecursion (AllByRecursion (λ q. q < points)) xs
            → AllByRecursion StartWithin (map (λ x. (x, tracked_at x ps)) xs)
        each [] i = tt
        each (x ∷ xs) i = ((i.0, within_at x ps h), each xs i.1)

        kept : (ts : List (List ℕ × Tracked)) → AllByRecursion StartWithin ts
            → AllByRecursion StartWithin (filter (λ e. has_term (e.0, e.1.sum)) ts)
        kept ts i = all_filtered StartWithin (λ e. has_term (e.0, e.1.sum)) ts i

    within_seen : {d : ℕ} (vs : Entries d) → AllByRecursion StartWithin (seen vs)
        → IsWithin points parameters rows degree vs × MetWithin points parameters rows degree vs
    within_seen [] h = (tt, tt)
    within_seen (v ∷ vs) h =
        let rest : IsWithin points parameters rows degree vs × MetWithin points parameters rows degree vs =
        within_seen vs h.1 in
        ((record { points_below = h.0.0; keys = h.0.1.terms }, rest.0), (h.0.1.met, rest.1))

    -- entries that are those starts
    pub within_entries : {d : ℕ} (vs : Entries d) (ps : List Product) → seen vs ≡ tracked_entries ps
        → AllByRecursion (ProductWithin rows degree) ps
        → IsWithin points parameters rows degree vs × MetWithin points parameters rows degree vs
    within_entries vs ps e h = within_seen vs (subst (AllByRecursion StartWithin) (sym e) (within_starts ps h))
