-- Starts that were made within the limits: so are their polynomials, their extensors strictly ascend, and the points
-- of each increase.
use Rattle.std.proofs.Common.{◌≡◌, ℕ, zero, suc, ◌-◌, ◌<◌, ◌==◌, Bool, true, false, cond, T, List, [], ◌∷◌, ◌++◌, map}
use Rattle.std.proofs.Common.{filter}
use Rattle.std.proofs.Common.{flat_map, length, Option, Some, None, refl, sym, ap, subst, ◌∙◌, arith, append-nil}
use Rattle.std.proofs.Common.{append_assoc}
use Rattle.std.specs.Prelude.{Result, Ok, Err, slice_get, ◌*ℤ◌}
use Rattle.std.specs.Cmp.{Equal-is}
use Rattle.std.specs.FinMap.{is_sorted}
use Rattle.std.specs.FinMap.Entries.{below_all}
use Rattle.std.specs.List.{AllByRecursion, cons_option}
use Rattle.std.specs.List.Sorted.{IsStrictlyIncreasing}
use Rattle.std.specs.Ordering.{eq_by_cmp}
use Rattle.std.proofs.lemmas.List.Elements.{filter-append}
use Rattle.std.proofs.lemmas.List.Concat.{flat_map-append}
use Rattle.coordinate_model.specs.Sequences.{range, range_from, splits, at_places, repeats, sign_of}
use Rattle.coordinate_model.specs.Sums.{Terms, negated}
use Rattle.coordinate_model.specs.Key.{Key, row_cmp}
use Rattle.coordinate_model.specs.BracketPolynomial.{BracketPolynomial}
use Rattle.coordinate_model.specs.Starts.{Product, Entry, terms_of, products_at, reached, has_term, join_product}
use Rattle.coordinate_model.specs.Starts.{join_products}
use Rattle.coordinate_model.specs.Starts.{meet_product, meet_products, scaled_product, on_products}
use Rattle.coordinate_model.specs.Syzygy.{sorted}
use Rattle.coordinate_model.specs.Value.{Value}
use Rattle.coordinate_model.proofs.Bools.{both, is_less}
use Rattle.coordinate_model.proofs.Grouping.{Ascend, IsBelow, ascend-reached}
use Rattle.coordinate_model.proofs.Increasing.{IsIncreasing, increasing_all, increasing_next}
use Rattle.coordinate_model.proofs.KeySumLaws.{row_same}
use Rattle.coordinate_model.proofs.SortedRows.{sorted_increasing}
use Rattle.coordinate_model.proofs.Splits.{IsSplit, splits-are, all_so, all_both, all_map, all_append, all_flat_map}
use Rattle.coordinate_model.proofs.Splits.{all_filter}
use Rattle.coordinate_model.proofs.StartSizes.{all_reached}
use Rattle.bracket_poly.specs.Makings.{◌>>=◌, adding}
use Rattle.bracket_poly.specs.Tracked.{Tracked, Limit, nothing, plus_terms, first_limit}
use Rattle.bracket_poly.proofs.Additions.{plus-append}
use Rattle.bracket_poly.proofs.Makings.{then_made}
use Rattle.conic_points.specs.Makings.{made_four, made_difference, made_conic}
use Rattle.shuffle_meet.specs.SectionStarts.{is_conclusion, section_starts}
use Rattle.shuffle_meet.specs.Stops.{Start, tracked_at, first_stop, tracked_entries}
use Rattle.log_checker.specs.Accepted.{start_entry}
use Rattle.prover.proofs.WrittenLimits.{IsWithinLimits, nothing_within, terms_within}

-- ---- products that are added within the limits

more_tracked : (x : List ℕ) (before : List Product) (p : Product) (b : Bool) → eq_by_cmp row_cmp x p.extensor ≡ b
    → tracked_at x (before ++ p ∷ []) ≡ plus_terms (tracked_at x before) (flat_map terms_of (cond b (p ∷ []) []))
more_tracked x before p b e =
    ap (λ qs. plus_terms nothing (flat_map terms_of qs))
    (filter-append (λ q. eq_by_cmp row_cmp x q.extensor) before (p ∷ [])
    ∙ ap (λ c. products_at x before ++ cond c (p ∷ []) []) e)
    ∙ ap (plus_terms nothing) (flat_map-append terms_of (products_at x before) (cond b (p ∷ []) []))
    ∙ plus-append nothing (flat_map terms_of (products_at x before)) (flat_map terms_of (cond b (p ∷ []) []))

one_more : (x : List ℕ) (before : List Product) (p : Product)
    → first_limit (tracked_at p.extensor before) (terms_of p) ≡ None
    → IsWithinLimits (tracked_at x before) → IsWithinLimits (tracked_at x (before ++ p ∷ []))
one_more x before p e h = step (eq_by_cmp row_cmp x p.extensor) refl
  where
    step : (b : Bool) → eq_by_cmp row_cmp x p.extensor ≡ b → IsWithinLimits (tracked_at x (before ++ p ∷ []))
    step true g =
        subst IsWithinLimits
        (sym (more_tracked x before p true g ∙ ap (plus_terms (tracked_at x before)) (append-nil (terms_of p))))
        (terms_within (tracked_at x before) (terms_of p) h
        (subst (λ (y : List ℕ). first_limit (tracked_at y before) (terms_of p) ≡ None)
        (sym (row_same x p.extensor ((Equal-is (row_cmp x p.extensor)).0 g))) e))
    step false g = subst IsWithinLimits (sym (more_tracked x before p false g)) h

-- where no product passes a limit, the polynomial of each extensor is within them
all_tracked : (x : List ℕ) (before ps : List Product) → IsWithinLimits (tracked_at x before)
    → first_stop before ps ≡ None
    → IsWithinLimits (tracked_at x (before ++ ps))
all_tracked x before [] h e = subst (λ qs. IsWithinLimits (tracked_at x qs)) (sym (append-nil before)) h
all_tracked x before (p ∷ ps) h e =
    step (λ g k. all_tracked x (before ++ p ∷ []) ps g k) (first_limit (tracked_at p.extensor before) (terms_of p))
    refl e
  where
    step : (IsWithinLimits (tracked_at x (before ++ p ∷ [])) → first_stop (before ++ p ∷ []) ps ≡ None
        → IsWithinLimits (tracked_at x ((before ++ p ∷ []) ++ ps)))
        → (o : Option Limit) → first_limit (tracked_at p.extensor before) (terms_of p) ≡ o
        → ◌≡◌ {A = Option Limit} (elim o [ Some l ↦ Some l | None ↦ first_stop (before ++ p ∷ []) ps ]) None
        → IsWithinLimits (tracked_at x (before ++ p ∷ ps))
    step ih (Some l) f k = cc
    step ih None f k =
        subst (λ qs. IsWithinLimits (tracked_at x qs)) (append_assoc before (p ∷ []) ps)
        (ih (one_more x before p f h) k)

pub tracked_within : (x : List ℕ) (ps : List Product) → first_stop [] ps ≡ None → IsWithinLimits (tracked_at x ps)
tracked_within x ps e = all_tracked x [] ps nothing_within e

-- ---- the start of six points

ok_same : (a b : Tracked) → ◌≡◌ {A = Result Tracked Limit} (Ok a) (Ok b) → a ≡ b
ok_same a b e = cc

added_within : (p : Tracked) (ts : Terms Key) (q : Tracked) → IsWithinLimits p → adding p ts ≡ Ok q → IsWithinLimits q
added_within p ts q h e = step (first_limit p ts) refl e
  where
    step : (o : Option Limit) → first_limit p ts ≡ o
        → ◌≡◌ {A = Result Tracked Limit} (elim o [ Some limit ↦ Err limit | None ↦ Ok (plus_terms p ts) ]) (Ok q)
        → IsWithinLimits q
    step (Some limit) f k = cc
    step None f k =
        subst IsWithinLimits (ok_same (plus_terms p ts) q k) (terms_within p ts h f)

difference_within : (f g : BracketPolynomial) (q : Tracked) → made_difference f g ≡ Ok q → IsWithinLimits q
difference_within f g q e =
    let first = then_made (adding nothing f.terms) (λ start. adding start (negated g.terms)) q e in
    added_within first.0 (negated g.terms) q (added_within nothing f.terms first.0 nothing_within first.1) first.2

pub six_within : (p1 p2 p3 p4 p5 p6 : Value) (q : Tracked) → made_conic p1 p2 p3 p4 p5 p6 ≡ Ok q → IsWithinLimits q
unfolding made_conic
six_within p1 p2 p3 p4 p5 p6 q e =
    let first = then_made (made_four p1 p2 p3 p4 p5 p6)
    (λ a. made_four p1 p2 p4 p3 p5 p6 >>= λ b. made_difference a.sum b.sum) q e in
    let second = then_made (made_four p1 p2 p4 p3 p5 p6) (λ b. made_difference first.0.sum b.sum) q first.2 in
    difference_within first.0.sum second.0.sum q second.2

-- ---- extensors whose points increase

-- the points of the extensor increase
abbrev pub Rises : Entry → Type 0
Rises e = IsStrictlyIncreasing e.0

abbrev pub RisesAt : Product → Type 0
RisesAt p = IsStrictlyIncreasing p.extensor

no_points : IsStrictlyIncreasing []
no_points = increasing_next [] tt

each : {A : Type 0} (P : A → Type 0) → ((a : A) → P a) → (xs : List A) → AllByRecursion P xs
each P f [] = tt
each P f (x ∷ xs) = (f x, each P f xs)

join_rises : (d : ℕ) (e f : Entry) → AllByRecursion RisesAt (join_product d e f)
join_rises d e f = repeated (repeats ps) refl
  where
    ps : List ℕ
    ps = e.0 ++ f.0

    full : (c : Bool) → repeats ps ≡ false → AllByRecursion RisesAt (cond c
        (record { extensor = []; left = e.1; right = f.1; row = Some (sorted ps); sign = sign_of ps } ∷ [])
        (record { extensor = sorted ps; left = e.1; right = f.1; row = None; sign = sign_of ps } ∷ []))
    full true z = (no_points, tt)
    full false z = (sorted_increasing ps z, tt)

    repeated : (c : Bool) → repeats ps ≡ c → AllByRecursion RisesAt (cond c [] (cond (length ps == d)
        (record { extensor = []; left = e.1; right = f.1; row = Some (sorted ps); sign = sign_of ps } ∷ [])
        (record { extensor = sorted ps; left = e.1; right = f.1; row = None; sign = sign_of ps } ∷ [])))
    repeated true z = tt
    repeated false z = full (length ps == d) z

pub joins_rise : (d : ℕ) (A B : Value) → AllByRecursion Rises A → AllByRecursion Rises B
    → AllByRecursion RisesAt (join_products d A B)
joins_rise d A B h k =
    all_flat_map Rises RisesAt (λ e. flat_map (join_product d e) B)
    (λ e i. all_flat_map Rises RisesAt (join_product d e) (λ f j. join_rises d e f) B k) A h

-- ---- meets

range_above : (n m k : ℕ) → n < m → AllByRecursion (λ q. n < q) (range_from m k)
range_above n m zero l = tt
range_above n m (suc k) l = (l, range_above n (suc m) k (omega arith))

range_rises : (m k : ℕ) → IsIncreasing (range_from m k)
range_rises m zero = tt
range_rises m (suc k) = (range_above m (suc m) k (omega arith), range_rises (suc m) k)

splits_rise : (k : ℕ) (xs : List ℕ) → IsIncreasing xs → AllByRecursion (λ t. IsIncreasing t.1) (splits k xs)
splits_rise zero xs h = (h, tt)
splits_rise (suc k) [] h = tt
splits_rise (suc k) (x ∷ xs) h =
    all_append (λ (t : List ℕ × List ℕ). IsIncreasing t.1) _ _
    (all_map (λ (t : List ℕ × List ℕ). IsIncreasing t.1) (λ (t : List ℕ × List ℕ). IsIncreasing t.1)
    (λ s. (x ∷ s.0, s.1)) (λ s i. i) (splits k xs) (splits_rise k xs h.1))
    (all_map (λ (t : List ℕ × List ℕ). IsSplit (λ q. x < q) (suc k) (length xs) t × IsIncreasing t.1)
    (λ (t : List ℕ × List ℕ). IsIncreasing t.1) (λ s. (s.0, x ∷ s.1)) (λ s i. (i.0.second, i.1)) (splits (suc k) xs)
    (all_both (IsSplit (λ q. x < q) (suc k) (length xs)) (λ (t : List ℕ × List ℕ). IsIncreasing t.1) (splits (suc k) xs)
    (splits-are (λ q. x < q) (suc k) xs h.0) (splits_rise (suc k) xs h.1)))

-- entries at places
at_place : (P : ℕ → Type 0) (xs : List ℕ) (i y : ℕ) → AllByRecursion P xs → slice_get xs i ≡ Some y → P y
at_place P [] i y h e = cc
at_place P (x ∷ xs) zero y h e = let s : x ≡ y = some_same x y e in subst P s h.0
  where
    some_same : (a b : ℕ) → Some a ≡ Some b → a ≡ b
    some_same a b e = cc
at_place P (x ∷ xs) (suc i) y h e = at_place P xs i y h.1 e

later_place : (xs : List ℕ) (i j y z : ℕ) → IsIncreasing xs → i < j → slice_get xs i ≡ Some y → slice_get xs j ≡ Some z
    → y < z
later_place [] i j y z h l e f = cc
later_place (x ∷ xs) i zero y z h l e f = absurd (omega arith)
later_place (x ∷ xs) zero (suc j) y z h l e f =
    let s : x ≡ y = some_same x y e in subst (λ a. a < z) s (at_place (λ q. x < q) xs j z h.0 f)
  where
    some_same : (a b : ℕ) → Some a ≡ Some b → a ≡ b
    some_same a b e = cc
later_place (x ∷ xs) (suc i) (suc j) y z h l e f = later_place xs i j y z h.1 (omega arith) e f

all_places : (P : ℕ → Type 0) (xs is : List ℕ) → AllByRecursion (λ j. (z : ℕ) → slice_get xs j ≡ Some z → P z) is
    → AllByRecursion P (at_places xs is)
all_places P xs [] h = tt
all_places P xs (j ∷ is) h = step (slice_get xs j) refl (all_places P xs is h.1)
  where
    step : (o : Option ℕ) → slice_get xs j ≡ o → AllByRecursion P (at_places xs is)
        → AllByRecursion P (cons_option o (at_places xs is))
    step None e ih = ih
    step (Some z) e ih = (h.0 z e, ih)

places_rise : (xs is : List ℕ) → IsIncreasing xs → IsIncreasing is → IsIncreasing (at_places xs is)
places_rise xs [] h k = tt
places_rise xs (i ∷ is) h k = step (slice_get xs i) refl (places_rise xs is h k.1)
  where
    step : (o : Option ℕ) → slice_get xs i ≡ o → IsIncreasing (at_places xs is)
        → IsIncreasing (cons_option o (at_places xs is))
    step None e ih = ih
    step (Some y) e ih = (
      all_places (λ z. y < z) xs is
          (all_so (λ j. i < j) (λ j. (z : ℕ) → slice_get xs j ≡ Some z → y < z)
          (λ j l z f. later_place xs i j y z h l e f) is k.0),
      ih,
    )

meet_rises : (e f : Entry) (t : List ℕ × List ℕ) → Rises e → IsIncreasing t.1
    → AllByRecursion RisesAt (meet_product e f t)
meet_rises e f t h k = repeated (repeats (at_places e.0 t.0 ++ f.0))
  where
    repeated : (c : Bool) → AllByRecursion RisesAt (cond c [] (record {
      extensor = at_places e.0 t.1;
      left = e.1;
      right = f.1;
      row = Some (sorted (at_places e.0 t.0 ++ f.0));
      sign = sign_of (t.0 ++ t.1) *ℤ sign_of (at_places e.0 t.0 ++ f.0);
    } ∷ []))
    repeated true = tt
    repeated false =
        (increasing_next (at_places e.0 t.1) (places_rise e.0 t.1 (increasing_all e.0 h) k), tt)

pub meets_rise : (d : ℕ) (A B : Value) → AllByRecursion Rises A → AllByRecursion Rises B
    → AllByRecursion RisesAt (meet_products d A B)
meets_rise d A B h k =
    all_flat_map Rises RisesAt
    (λ e. flat_map (λ f. flat_map (meet_product e f) (splits (d - length f.0) (range (length e.0)))) B)
    (λ e i. all_flat_map Rises RisesAt (λ f. flat_map (meet_product e f) (splits (d - length f.0) (range (length e.0))))
    (λ f j. all_flat_map (λ (t : List ℕ × List ℕ). IsIncreasing t.1) RisesAt (meet_product e f)
    (λ t r. meet_rises e f t i r) (splits (d - length f.0) (range (length e.0)))
    (splits_rise (d - length f.0) (range (length e.0)) (range_rises 0 (length e.0)))) B k) A h

-- ---- points by parameters

pub mixed_rise : (s t : BracketPolynomial) (A B : Value) → AllByRecursion Rises A → AllByRecursion Rises B
    → AllByRecursion RisesAt (on_products s t A B)
mixed_rise s t A B h k =
    all_append RisesAt (map (scaled_product s) A) (map (scaled_product t) B)
    (all_map Rises RisesAt (scaled_product s) (λ e i. i) A h)
    (all_map Rises RisesAt (scaled_product t) (λ e i. i) B k)

-- ---- the starts of products

-- within the limits, and with points that increase
pub record IsGoodStart (start : Start) : Type 0 where
  pub points : IsStrictlyIncreasing start.0
  pub within : IsWithinLimits start.1

no_start : IsGoodStart ([], nothing)
no_start = record { points = no_points; within = nothing_within }

module _ (d step : ℕ) (ps : List Product) where
  abbrev kept : List (List ℕ) → List Start
  kept xs = filter (λ e. has_term (e.0, e.1.sum)) (map (λ x. (x, tracked_at x ps)) xs)

  abbrev starts_by : Bool → List Start → List Start
  starts_by b es = elim es [ [] ↦ cond b (([], nothing) ∷ []) [] | start ∷ others ↦ start ∷ others ]

  pub good_starts : AllByRecursion RisesAt ps → first_stop [] ps ≡ None
      → AllByRecursion IsGoodStart (section_starts d step ps)
  good_starts rises e = by_entries (tracked_entries ps) entries (is_conclusion d step)
    where
      entries : AllByRecursion IsGoodStart (tracked_entries ps)
      entries =
          all_filter IsGoodStart (λ e. has_term (e.0, e.1.sum)) (map (λ x. (x, tracked_at x ps)) (reached ps))
          (all_map IsStrictlyIncreasing IsGoodStart (λ x. (x, tracked_at x ps))
          (λ x r. record { points = r; within = tracked_within x ps e }) (reached ps)
          (all_reached IsStrictlyIncreasing ps rises))

      by_entries : (es : List Start) → AllByRecursion IsGoodStart es → (b : Bool)
          → AllByRecursion IsGoodStart (starts_by b es)
      by_entries [] h true = (no_start, tt)
      by_entries [] h false = tt
      by_entries (start ∷ others) h b = h

  below_kept : (x : List ℕ) (xs : List (List ℕ)) → IsBelow x xs → T (below_all row_cmp x (map start_entry (kept xs)))
  below_kept x [] h = tt
  below_kept x (y ∷ ys) h = by_test (has_term (y, (tracked_at y ps).sum)) (below_kept x ys h.1)
    where
      by_test : (b : Bool) → T (below_all row_cmp x (map start_entry (kept ys)))
          → T (below_all row_cmp x (map start_entry (cond b ((y, tracked_at y ps) ∷ kept ys) (kept ys))))
      by_test true ih = both _ _ (is_less (row_cmp x y) h.0) ih
      by_test false ih = ih

  kept_ascend : (xs : List (List ℕ)) → Ascend xs → T (is_sorted row_cmp (map start_entry (kept xs)))
  kept_ascend [] h = tt
  kept_ascend (x ∷ xs) h = by_test (has_term (x, (tracked_at x ps).sum)) (kept_ascend xs h.1)
    where
      by_test : (b : Bool) → T (is_sorted row_cmp (map start_entry (kept xs)))
          → T (is_sorted row_cmp (map start_entry (cond b ((x, tracked_at x ps) ∷ kept xs) (kept xs))))
      by_test true ih = both _ _ (below_kept x xs h.0) ih
      by_test false ih = ih

  -- their extensors strictly ascend
  pub starts_ascend : T (is_sorted row_cmp (map start_entry (section_starts d step ps)))
  starts_ascend =
      by_entries (tracked_entries ps) (kept_ascend (reached ps) (ascend-reached ps)) (is_conclusion d step)
    where
      by_entries : (es : List Start) → T (is_sorted row_cmp (map start_entry es)) → (b : Bool)
          → T (is_sorted row_cmp (map start_entry (starts_by b es)))
      by_entries [] h true = tt
      by_entries [] h false = tt
      by_entries (start ∷ others) h b = h
