-- The points and parameters of keys: of products, of starts, and of the sums of sections.
use Rattle.std.proofs.Common.{◌≡◌, ◌≢◌, ◌⊎◌, inl, inr, ℕ, zero, suc, ◌+◌, ◌-◌, ◌<◌, ◌==◌, Bool, true, false}
use Rattle.std.proofs.Common.{cond, List, [], ◌∷◌, ◌++◌}
use Rattle.std.proofs.Common.{length, refl, sym, ap, ap₂, subst, ◌∙◌, arith, flat_map, map, replicate}
use Rattle.std.proofs.Common.{slice_set, get_or, nat_cmp}
use Rattle.std.specs.Prelude.{Some, None, Ok, ℤ, pos, ◌*ℤ◌, slice_get}
use Rattle.std.specs.List.{AllByRecursion, cons_option}
use Rattle.coordinate_model.specs.Sequences.{range, splits, at_places, repeats, sign_of}
use Rattle.coordinate_model.specs.Sums.{coefficient}
use Rattle.coordinate_model.specs.Key.{Key, key_times, row_cmp, points, rows_key, HasPoints}
use Rattle.coordinate_model.specs.Syzygy.{Use, sorted, multiple}
use Rattle.coordinate_model.specs.SyzygyLaws.{PointsOfMultiple}
use Rattle.coordinate_model.specs.Starts.{Product, Entry, row_key, terms_of, join_product, join_products}
use Rattle.coordinate_model.specs.Starts.{meet_product, has_term}
use Rattle.coordinate_model.specs.Starts.{meet_products, scaled_product, on_products, reached}
use Rattle.coordinate_model.specs.BracketPolynomial.{BracketPolynomial, AllKeys, add, parameter_of}
use Rattle.coordinate_model.specs.Value.{Value}
use Rattle.coordinate_model.proofs.KeySets.{AllTerms, all_single, all_plus}
use Rattle.coordinate_model.proofs.KeySizes.{exponent-added, each_row, all_of_same, all_points}
use Rattle.coordinate_model.proofs.SortedRows.{all_ordered}
use Rattle.coordinate_model.proofs.Splits.{all_so, all_append, all_map, all_flat_map, all_filter}
use Rattle.coordinate_model.proofs.StartKeys.{keys-product, keys-start}
use Rattle.bracket_poly.specs.Tracked.{Tracked, nothing}
use Rattle.cayley_terms.specs.Starts.{free_value}
use Rattle.conic_points.specs.Makings.{made_conic}
use Rattle.conic_points.proofs.Graded.{ValueHas, conic_has}
use Rattle.shuffle_meet.specs.SectionStarts.{is_conclusion, section_starts}
use Rattle.shuffle_meet.specs.Stops.{Start, tracked_at, tracked_entries}
use Rattle.shuffle_meet.proofs.StartSums.{tracked_sum}
use Rattle.log_checker.specs.Accepted.{with_multiples}
use Rattle.log_checker.specs.Bounds.{ArePoints, IsKeyWithin, IsPolynomialWithin, IsUseWithin, IsClaimWithin}
use Rattle.log_checker.specs.Claims.{Claim, ended_value}
use Rattle.log_checker.specs.Differences.{IsLeastDifference}
use Rattle.log_checker.proofs.AcceptedObjects.{claimed_end, value_of_claims}
use Rattle.log_checker.proofs.Decisions.{decide_int}
use Rattle.log_checker.proofs.LeastKeys.{of_all}

-- an entry of a value within these bounds
pub record IsEntryWithin (n m : ℕ) (e : Entry) : Type 0 where
  pub points : ArePoints n e.0
  pub keys : IsPolynomialWithin n m e.1

-- a value of such entries
abbrev pub IsValueWithin : ℕ → ℕ → Value → Type 0
IsValueWithin n m v = AllByRecursion (IsEntryWithin n m) v

-- a start whose polynomial is within them
abbrev pub IsStartWithin : ℕ → ℕ → Start → Type 0
IsStartWithin n m start = IsPolynomialWithin n m start.1.sum

module _ (n m : ℕ) where
  -- ---- products of keys

  times_within : (k l : Key) → IsKeyWithin n m k → IsKeyWithin n m l → IsKeyWithin n m (key_times k l)
  times_within k l h i = record {
    points = all_ordered row_cmp (ArePoints n) (k.rows ++ l.rows) (all_append
        (ArePoints n) k.rows l.rows h.points i.points);
    parameters = λ j g. exponent-added j k.exponents l.exponents ∙ ap₂ ◌+◌ (h.parameters j g) (i.parameters j g);
  }

  no_row : IsKeyWithin n m (rows_key [])
  no_row = record { points = tt; parameters = λ i h. refl }

  one_row : (r : List ℕ) → ArePoints n r → IsKeyWithin n m (rows_key (r ∷ []))
  one_row r h = record { points = (h, tt); parameters = λ i g. refl }

  sorted_within : (ps : List ℕ) → ArePoints n ps → ArePoints n (sorted ps)
  sorted_within ps h = all_ordered nat_cmp (λ p. p < n) ps h

  -- the terms of a product

  product_within : (p : Product) → IsPolynomialWithin n m p.left → IsPolynomialWithin n m p.right
      → IsKeyWithin n m (row_key p.row) → AllTerms (IsKeyWithin n m) (terms_of p)
  product_within p left right row =
      keys-product (IsKeyWithin n m) (IsKeyWithin n m) (IsKeyWithin n m) p
      (λ k l h i. times_within (key_times k l) (row_key p.row) (times_within k l h i) row) left right

  -- ---- joins

  join_within : (d : ℕ) (e f : Entry) → IsEntryWithin n m e → IsEntryWithin n m f
      → AllByRecursion (λ p. AllTerms (IsKeyWithin n m) (terms_of p)) (join_product d e f)
  join_within d e f h i = repeated (repeats ps)
    where
      ps : List ℕ
      ps = e.0 ++ f.0

      all : ArePoints n (sorted ps)
      all = sorted_within ps (all_append (λ p. p < n) e.0 f.0 h.points i.points)

      full : (c : Bool)
          → AllByRecursion (λ p. AllTerms (IsKeyWithin n m) (terms_of p)) (cond c
          (record { extensor = []; left = e.1; right = f.1; row = Some (sorted ps); sign = sign_of ps } ∷ [])
          (record { extensor = sorted ps; left = e.1; right = f.1; row = None; sign = sign_of ps } ∷ []))
      full true = (
        product_within (record {
          extensor = [];
          left = e.1;
          right = f.1;
          row = Some (sorted ps);
          sign = sign_of ps;
        }) h.keys
            i.keys (one_row (sorted ps) all),
        tt,
      )
      full false = (
        product_within (record { extensor = sorted ps; left = e.1; right = f.1; row = None; sign = sign_of ps }) h.keys
            i.keys no_row,
        tt,
      )

      repeated : (c : Bool)
          → AllByRecursion (λ p. AllTerms (IsKeyWithin n m) (terms_of p)) (cond c [] (cond (length ps == d)
          (record { extensor = []; left = e.1; right = f.1; row = Some (sorted ps); sign = sign_of ps } ∷ [])
          (record { extensor = sorted ps; left = e.1; right = f.1; row = None; sign = sign_of ps } ∷ [])))
      repeated true = tt
      repeated false = full (length ps == d)

  pub joins_within : (d : ℕ) (V W : Value) → IsValueWithin n m V → IsValueWithin n m W
      → AllByRecursion (λ p. AllTerms (IsKeyWithin n m) (terms_of p)) (join_products d V W)
  joins_within d V W p q =
      all_flat_map (IsEntryWithin n m) (λ p. AllTerms (IsKeyWithin n m) (terms_of p))
      (λ e. flat_map (join_product d e) W)
      (λ e h. all_flat_map (IsEntryWithin n m) (λ p. AllTerms (IsKeyWithin n m) (terms_of p)) (join_product d e)
      (λ f k. join_within d e f h k) W q) V p

  -- ---- meets

  meet_within : (e f : Entry) → IsEntryWithin n m e → IsEntryWithin n m f → (t : List ℕ × List ℕ)
      → AllByRecursion (λ p. AllTerms (IsKeyWithin n m) (terms_of p)) (meet_product e f t)
  meet_within e f h i t = repeated (repeats ps)
    where
      ps : List ℕ
      ps = at_places e.0 t.0 ++ f.0

      p : Product
      p = record {
        extensor = at_places e.0 t.1;
        left = e.1;
        right = f.1;
        row = Some (sorted ps);
        sign = sign_of (t.0 ++ t.1) *ℤ sign_of ps;
      }

      at_place : (xs : List ℕ) (j : ℕ) (rest : List ℕ) → ArePoints n xs → ArePoints n rest
          → ArePoints n (cons_option (slice_get xs j) rest)
      at_place [] j rest h k = k
      at_place (x ∷ xs) zero rest h k = (h.0, k)
      at_place (x ∷ xs) (suc j) rest h k = at_place xs j rest h.1 k

      at_all : (js : List ℕ) → ArePoints n (at_places e.0 js)
      at_all [] = tt
      at_all (j ∷ js) = at_place e.0 j (at_places e.0 js) h.points (at_all js)

      all : ArePoints n (sorted ps)
      all = sorted_within ps (all_append (λ p. p < n) (at_places e.0 t.0) f.0 (at_all t.0) i.points)

      repeated : (c : Bool) → AllByRecursion (λ p. AllTerms (IsKeyWithin n m) (terms_of p)) (cond c [] (p ∷ []))
      repeated true = tt
      repeated false = (product_within p h.keys i.keys (one_row (sorted ps) all), tt)

  any : (ts : List (List ℕ × List ℕ)) → AllByRecursion (λ t. Unit {0}) ts
  any [] = tt
  any (t ∷ ts) = (tt, any ts)

  pub meets_within : (d : ℕ) (V W : Value) → IsValueWithin n m V → IsValueWithin n m W
      → AllByRecursion (λ p. AllTerms (IsKeyWithin n m) (terms_of p)) (meet_products d V W)
  meets_within d V W p q =
      all_flat_map (IsEntryWithin n m) (λ p. AllTerms (IsKeyWithin n m) (terms_of p))
      (λ e. flat_map (λ f. flat_map (meet_product e f) (splits (d - length f.0) (range (length e.0)))) W)
      (λ e h. all_flat_map (IsEntryWithin n m) (λ p. AllTerms (IsKeyWithin n m) (terms_of p))
      (λ f. flat_map (meet_product e f) (splits (d - length f.0) (range (length e.0))))
      (λ f k. all_flat_map (λ t. Unit {0}) (λ p. AllTerms (IsKeyWithin n m) (terms_of p)) (meet_product e f)
      (λ t u. meet_within e f h k t) (splits (d - length f.0) (range (length e.0)))
      (any (splits (d - length f.0) (range (length e.0))))) W q) V p

  -- ---- points by parameters

  none : (k j : ℕ) → get_or (replicate {A = ℕ} k 0) j 0 ≡ 0
  none zero j = refl
  none (suc k) zero = refl
  none (suc k) (suc j) = none k j

  parameter_within : (s : ℕ) → s < m → IsPolynomialWithin n m (parameter_of 64 s)
  parameter_within s h =
      all_single (IsKeyWithin n m) (record { exponents = slice_set (replicate 64 0) s 1; rows = [] })
      (record { points = tt; parameters = λ j g. others 64 s j (omega arith) })
    where
      others : (k s j : ℕ) → s < j → get_or (slice_set (replicate {A = ℕ} k 0) s 1) j 0 ≡ 0
      others zero s j l = refl
      others (suc k) zero zero l = absurd (omega arith)
      others (suc k) zero (suc j) l = none k j
      others (suc k) (suc s) zero l = refl
      others (suc k) (suc s) (suc j) l = others k s j (omega arith)

  scaled_within : (f : BracketPolynomial) → IsPolynomialWithin n m f → (V : Value) → IsValueWithin n m V
      → AllByRecursion (λ p. AllTerms (IsKeyWithin n m) (terms_of p)) (map (scaled_product f) V)
  scaled_within f small V p =
      all_map (IsEntryWithin n m) (λ p. AllTerms (IsKeyWithin n m) (terms_of p)) (scaled_product f)
      (λ e h. product_within (scaled_product f e) h.keys small no_row) V p

  pub mixed_within : (s t : ℕ) → s < m → t < m → (V W : Value) → IsValueWithin n m V → IsValueWithin n m W
      → AllByRecursion (λ p. AllTerms (IsKeyWithin n m) (terms_of p))
      (on_products (parameter_of 64 s) (parameter_of 64 t) V W)
  mixed_within s t k l V W p q =
      all_append (λ p. AllTerms (IsKeyWithin n m) (terms_of p)) (map (scaled_product (parameter_of 64 s)) V)
      (map (scaled_product (parameter_of 64 t)) W) (scaled_within (parameter_of 64 s) (parameter_within s k) V p)
      (scaled_within (parameter_of 64 t) (parameter_within t l) W q)

  -- ---- starts

  pub starts_within : (d step : ℕ) (ps : List Product) → AllByRecursion
      (λ p. AllTerms (IsKeyWithin n m) (terms_of p)) ps
      → AllByRecursion (IsStartWithin n m) (section_starts d step ps)
  starts_within d step ps h = by_entries (tracked_entries ps) entries (is_conclusion d step)
    where
      each : (xs : List (List ℕ)) → AllByRecursion (IsStartWithin n m) (map (λ x. (x, tracked_at x ps)) xs)
      each [] = tt
      each (x ∷ xs) =
          (subst (IsPolynomialWithin n m) (sym (tracked_sum x ps)) (keys-start (IsKeyWithin n m) x ps h), each xs)

      entries : AllByRecursion (IsStartWithin n m) (tracked_entries ps)
      entries =
          all_filter (IsStartWithin n m) (λ e. has_term (e.0, e.1.sum)) (map (λ x. (x, tracked_at x ps)) (reached ps))
          (each (reached ps))

      by_entries : (es : List Start) → AllByRecursion (IsStartWithin n m) es → (b : Bool)
          → AllByRecursion (IsStartWithin n m)
          (elim es as (λ _. List Start) [ [] ↦ cond b (([], nothing) ∷ []) [] | start ∷ others ↦ start ∷ others ])
      by_entries [] h true = (tt, tt)
      by_entries [] h false = tt
      by_entries (start ∷ others) h b = h

  abbrev Sized : ℕ × ℕ → Value → Type 0
  Sized =
      ValueHas (λ rows degree. IsKeyWithin n m) (λ p. p < n) (λ r e s f k l h i. times_within k l h i) no_row
      (λ ps h. one_row (sorted ps) (sorted_within ps h))

  sized : (v : Value) → IsValueWithin n m v → Sized (0, 0) v
  sized [] h = tt
  sized (e ∷ v) h = (record { points = h.0.points; keys = h.0.keys }, sized v h.1)

  pub conic_within : (v1 v2 v3 v4 v5 v6 : Value) → IsValueWithin n m v1 → IsValueWithin n m v2 → IsValueWithin n m v3
      → IsValueWithin n m v4 → IsValueWithin n m v5 → IsValueWithin n m v6 → (q : Tracked)
      → made_conic v1 v2 v3 v4 v5 v6 ≡ Ok q → IsPolynomialWithin n m q.sum
  conic_within v1 v2 v3 v4 v5 v6 h1 h2 h3 h4 h5 h6 q e =
      (conic_has (λ rows degree. IsKeyWithin n m) (λ p. p < n) (λ r e s f k l h i. times_within k l h i) no_row
      (λ ps h. one_row (sorted ps) (sorted_within ps h)) (0, 0) (0, 0) (0, 0) (0, 0) (0, 0) (0, 0) v1 v2 v3 v4 v5 v6 q e
      (record {
        first = sized v1 h1;
        second = sized v2 h2;
        third = sized v3 h3;
        fourth = sized v4 h4;
        fifth = sized v5 h5;
        sixth = sized v6 h6;
      })).keys

  -- ---- values

  pub free_within : (i : ℕ) → i < n → IsValueWithin n m (free_value 64 i)
  free_within i h = (
    record {
      points = (h, tt);
      keys =
          all_single (IsKeyWithin n m) (record { exponents = replicate 64 0; rows = [] })
          (record { points = tt; parameters = λ j g. none 64 j });
    },
    tt,
  )

  ends_within : (claims : List Claim) → AllByRecursion (IsClaimWithin n m) claims
      → IsValueWithin n m (map claimed_end claims)
  ends_within [] h = tt
  ends_within (c ∷ claims) h = (record { points = h.0.scalar; keys = h.0.end }, ends_within claims h.1)

  pub ended_within : (claims : List Claim) → AllByRecursion (IsClaimWithin n m) claims
      → IsValueWithin n m (ended_value claims)
  ended_within claims h =
      subst (IsValueWithin n m) (sym (value_of_claims claims))
      (all_filter (IsEntryWithin n m) has_term (map claimed_end claims) (ends_within claims h))

  -- ---- sums of sections

  module _ (law : PointsOfMultiple) where
    multiple_within : (u : Use) → IsUseWithin n m u → IsPolynomialWithin n m (multiple u)
    multiple_within u h =
        all_so (λ t. (t.0.exponents ≡ u.exponents) × HasPoints (points u.rest ++ (u.alpha ++ (u.beta ++ u.gamma))) t.0)
        (λ t. IsKeyWithin n m t.0)
        (λ t i. record {
          points =
              each_row (λ p. p < n) t.0.rows
              (all_of_same (points u.rest ++ (u.alpha ++ (u.beta ++ u.gamma))) (points t.0.rows) (λ j. sym (i.1 j))
              (λ p. p < n)
              (all_append (λ p. p < n) (points u.rest) (u.alpha ++ (u.beta ++ u.gamma))
              (all_points (λ p. p < n) u.rest h.key.points)
              (all_append (λ p. p < n) u.alpha (u.beta ++ u.gamma) h.alpha
              (all_append (λ p. p < n) u.beta u.gamma h.beta h.gamma))));
          parameters = λ j g. ap (λ (es : List ℕ). get_or es j 0) i.0 ∙ h.key.parameters j g;
        })
        (multiple u).terms (law u)

    pub sum_within : (f : BracketPolynomial) (us : List Use) → IsPolynomialWithin n m f
        → AllByRecursion (IsUseWithin n m) us → IsPolynomialWithin n m (with_multiples f us)
    sum_within f [] h k = h
    sum_within f (u ∷ us) h k =
        sum_within (add f (multiple u)) us (all_plus (IsKeyWithin n m) f (multiple u) h (multiple_within u k.0)) k.1

-- ---- the key of a difference

-- a key with different coefficients has a term in one of the polynomials
pub difference_within : (P : Key → Type 0) (f g : BracketPolynomial) (k : Key) (x y : ℤ) → AllKeys P f → AllKeys P g
    → IsLeastDifference f g k x y → P k
difference_within P f g k x y p q h = by_first (decide_int (coefficient f k) (pos 0)) (decide_int (coefficient g k)
    (pos 0))
  where
    by_first : (coefficient f k ≡ pos 0) ⊎ (coefficient f k ≢ pos 0)
        → (coefficient g k ≡ pos 0) ⊎ (coefficient g k ≢ pos 0)
        → P k
    by_first (inr a) b = of_all P k f.terms p a
    by_first (inl a) (inr b) = of_all P k g.terms q b
    by_first (inl a) (inl b) = absurd (h.differ (sym h.computed_is ∙ a ∙ sym b ∙ h.written_is))
