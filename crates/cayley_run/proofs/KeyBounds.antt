-- Bounds of keys: of products, and of keys and uses that have the parameters and the points of others.
use Rattle.std.proofs.Common.{◌≡◌, ℕ, zero, suc, ◌+◌, ◌-◌, ◌*◌, ◌<◌, ◌≤◌, ◌==◌, Bool, true, false, cond, List, [], ◌∷◌, ◌++◌, length}
use Rattle.std.proofs.Common.{refl, sym, ap, ap₂, subst, ◌∙◌, arith, flat_map, map, replicate, slice_set, get_or, nat_cmp}
use Rattle.std.specs.Prelude.{Some, None, Ok, ◌*ℤ◌, drop, slice_get, slice_index}
use Rattle.std.specs.List.{AllByRecursion, cons_option}
use lib.ListN.{length-append}
use Rattle.coordinate_model.specs.Sequences.{range, splits, at_places, repeats, sign_of}
use Rattle.coordinate_model.specs.Key.{Key, key_times, row_cmp, points, rows_key, IsRow, IsKey, HasPoints}
use Rattle.coordinate_model.specs.Syzygy.{Use, AreSizes, sorted}
use Rattle.coordinate_model.specs.Starts.{Product, Entry, row_key, terms_of, join_product, join_products, meet_product}
use Rattle.coordinate_model.specs.Starts.{meet_products, scaled_product, on_products}
use Rattle.coordinate_model.specs.BracketPolynomial.{BracketPolynomial, parameter_of}
use Rattle.coordinate_model.specs.Value.{Value}
use Rattle.coordinate_model.proofs.KeySets.{AllTerms, all_single}
use Rattle.coordinate_model.proofs.KeySizes.{exponent-added, added_up_to, length-in_order, length-points, all_points}
use Rattle.coordinate_model.proofs.KeySizes.{each_row, same_length, all_of_same, same_rows}
use Rattle.coordinate_model.proofs.SortedRows.{all_ordered}
use Rattle.coordinate_model.proofs.Splits.{all_so, all_append, all_map, all_flat_map, all_set, all_replicate}
use Rattle.coordinate_model.proofs.StartKeys.{keys-product}
use Rattle.step_types.specs.declared.measure.Measure.{Measure}
use Rattle.straightening.specs.RunLaws.{use_points}
use Rattle.bracket_poly.specs.Sizes.{KeyWithin}
use Rattle.bracket_poly.specs.Tracked.{Tracked}
use Rattle.bracket_poly.proofs.Within.{none_dropped}
use Rattle.cayley_terms.specs.Instrs.{join_measure, meet_measure, on_measure, conic_measure}
use Rattle.conic_points.specs.Makings.{made_conic}
use Rattle.conic_points.specs.Sizes.{IsEntryOf, HaveSizes}
use Rattle.conic_points.proofs.SizeLaws.{made_doubles}
use Rattle.cayley_run.specs.Bounds.{ArePoints, AreExponents, IsKeyWithin, IsPolynomialWithin, IsUseWithin}

-- an entry of a value within these bounds
pub record IsEntryWithin (n m : ℕ) (size : Measure) (e : Entry) : Type 0 where
  pub points : ArePoints n e.0
  pub keys : IsPolynomialWithin n m size e.1

-- a product within them
pub record IsProductWithin (n m : ℕ) (size : Measure) (p : Product) : Type 0 where
  pub extensor : ArePoints n p.extensor
  pub terms : AllTerms (IsKeyWithin n m size) (terms_of p)

-- so many rows and such a degree
abbrev large : ℕ → ℕ → Measure
large rows degree = record { step = 0; rows = rows; degree = degree }

-- ---- products of keys

module _ (n m : ℕ) where
  times_within : (A B : Measure) (k l : Key) → IsKeyWithin n m A k → IsKeyWithin n m B l
      → IsKeyWithin n m (large (A.rows + B.rows) (A.degree + B.degree)) (key_times k l)
  times_within A B k l h i = record {
    points = all_ordered row_cmp (ArePoints n) (k.rows ++ l.rows) (all_append (ArePoints n) k.rows l.rows h.points i.points);
    exponents = record {
      parameters = λ j g.
          exponent-added j k.exponents l.exponents
          ∙ ap₂ ◌+◌ (h.exponents.parameters j g) (i.exponents.parameters j g);
      small =
          added_up_to A.degree B.degree k.exponents l.exponents h.exponents.small i.exponents.small;
    };
    few =
        let p = h.few in
        let q = i.few in
        let e : length (key_times k l).rows ≡ length (k.rows ++ l.rows) = length-in_order row_cmp (k.rows ++ l.rows) in
        let f : length (k.rows ++ l.rows) ≡ length k.rows + length l.rows = length-append k.rows l.rows in
        omega arith;
  }

  -- within more
  more_within : (A B : Measure) (k : Key) → A.rows ≤ B.rows → A.degree ≤ B.degree → IsKeyWithin n m A k
      → IsKeyWithin n m B k
  more_within A B k r e h = record {
    points = h.points;
    exponents = record {
      parameters = h.exponents.parameters;
      small =
          all_so (λ x. x ≤ A.degree) (λ x. x ≤ B.degree) (λ x l. omega arith) k.exponents h.exponents.small;
    };
    few = let p = h.few in omega arith;
  }

  -- a row
  no_row : IsKeyWithin n m (large 0 0) (rows_key [])
  no_row = record {
    points = tt;
    exponents = record { parameters = λ i h. refl; small = tt };
    few = omega arith;
  }

  one_row : (r : List ℕ) → ArePoints n r → IsKeyWithin n m (large 1 0) (rows_key (r ∷ []))
  one_row r h = record {
    points = (h, tt);
    exponents = record { parameters = λ i h. refl; small = tt };
    few = omega arith;
  }

  -- the terms of a product
  product_within : (A B C : Measure) (rows : ℕ) (p : Product) → IsPolynomialWithin n m A p.left
      → IsPolynomialWithin n m B p.right → IsKeyWithin n m (large rows 0) (row_key p.row)
      → A.rows + B.rows + rows ≤ C.rows → A.degree + B.degree ≤ C.degree → AllTerms (IsKeyWithin n m C) (terms_of p)
  product_within A B C rows p left right row r e =
      keys-product (IsKeyWithin n m A) (IsKeyWithin n m B) (IsKeyWithin n m C) p
      (λ k l h i.
      more_within (large (A.rows + B.rows + rows) (A.degree + B.degree + 0)) C
      (key_times (key_times k l) (row_key p.row)) r (omega arith)
      (times_within (large (A.rows + B.rows) (A.degree + B.degree)) (large rows 0) (key_times k l) (row_key p.row)
      (times_within A B k l h i) row))
      left right

  -- ---- joins

  module _ (d : ℕ) (A B : Measure) where
    join_within : (e f : Entry) → length e.0 ≡ A.step → length f.0 ≡ B.step → IsEntryWithin n m A e
        → IsEntryWithin n m B f → AllByRecursion (IsProductWithin n m (join_measure d A B)) (join_product d e f)
    join_within e f l k h i = repeated (repeats ps) refl
      where
        ps : List ℕ
        ps = e.0 ++ f.0

        size : length ps ≡ A.step + B.step
        size = length-append e.0 f.0 ∙ ap₂ ◌+◌ l k

        all : ArePoints n (sorted ps)
        all = all_ordered nat_cmp (λ p. p < n) ps (all_append (λ p. p < n) e.0 f.0 h.points i.points)

        one_more : (length ps == d) ≡ true → (join_measure d A B).rows ≡ A.rows + B.rows + 1
        one_more g = ap (λ (c : Bool). A.rows + B.rows + cond c 1 0) (ap (λ s. s == d) (sym size) ∙ g)

        full : (c : Bool) → (length ps == d) ≡ c
            → AllByRecursion (IsProductWithin n m (join_measure d A B)) (cond c
            (record { extensor = []; left = e.1; right = f.1; row = Some (sorted ps); sign = sign_of ps } ∷ [])
            (record { extensor = sorted ps; left = e.1; right = f.1; row = None; sign = sign_of ps } ∷ []))
        full true g =
            let r : (join_measure d A B).rows ≡ A.rows + B.rows + 1 = one_more g in (
              record {
                extensor = tt;
                terms =
                    product_within A B (join_measure d A B) 1
                    (record { extensor = []; left = e.1; right = f.1; row = Some (sorted ps); sign = sign_of ps })
                    h.keys i.keys (one_row (sorted ps) all) (omega arith) (omega arith);
              },
              tt,
            )
        full false g = (
          record {
            extensor = all;
            terms =
                product_within A B (join_measure d A B) 0
                (record { extensor = sorted ps; left = e.1; right = f.1; row = None; sign = sign_of ps }) h.keys i.keys
                no_row (omega arith) (omega arith);
          },
          tt,
        )

        repeated : (c : Bool) → repeats ps ≡ c
            → AllByRecursion (IsProductWithin n m (join_measure d A B)) (cond c [] (cond (length ps == d)
            (record { extensor = []; left = e.1; right = f.1; row = Some (sorted ps); sign = sign_of ps } ∷ [])
            (record { extensor = sorted ps; left = e.1; right = f.1; row = None; sign = sign_of ps } ∷ [])))
        repeated true z = tt
        repeated false z = full (length ps == d) refl

    pub joins_within : (V W : Value) → AllByRecursion (λ e. (length e.0 ≡ A.step) × IsEntryWithin n m A e) V
        → AllByRecursion (λ e. (length e.0 ≡ B.step) × IsEntryWithin n m B e) W
        → AllByRecursion (IsProductWithin n m (join_measure d A B)) (join_products d V W)
    joins_within V W p q =
        all_flat_map (λ e. (length e.0 ≡ A.step) × IsEntryWithin n m A e) (IsProductWithin n m (join_measure d A B))
        (λ e. flat_map (join_product d e) W)
        (λ e h. all_flat_map (λ f. (length f.0 ≡ B.step) × IsEntryWithin n m B f)
        (IsProductWithin n m (join_measure d A B)) (join_product d e) (λ f k. join_within e f h.0 k.0 h.1 k.1) W q) V p

    -- ---- meets

    meet_within : (e f : Entry) → IsEntryWithin n m A e → IsEntryWithin n m B f → (t : List ℕ × List ℕ)
        → AllByRecursion (IsProductWithin n m (meet_measure d A B)) (meet_product e f t)
    meet_within e f h i t = repeated (repeats ps) refl
      where
        ps : List ℕ
        ps = at_places e.0 t.0 ++ f.0

        p : Product
        p = record {
          extensor = at_places e.0 t.1;
          left = e.1;
          right = f.1;
          row = Some (sorted ps);
          sign = sign_of (t.0 ++ t.1) *ℤ sign_of ps;
        }

        at_place : (xs : List ℕ) (i : ℕ) (rest : List ℕ) → ArePoints n xs → ArePoints n rest
            → ArePoints n (cons_option (slice_get xs i) rest)
        at_place [] i rest h k = k
        at_place (x ∷ xs) zero rest h k = (h.0, k)
        at_place (x ∷ xs) (suc i) rest h k = at_place xs i rest h.1 k

        at_all : (is : List ℕ) → ArePoints n (at_places e.0 is)
        at_all [] = tt
        at_all (i ∷ is) = at_place e.0 i (at_places e.0 is) h.points (at_all is)

        all : ArePoints n (sorted ps)
        all =
            all_ordered nat_cmp (λ p. p < n) ps
            (all_append (λ p. p < n) (at_places e.0 t.0) f.0 (at_all t.0) i.points)

        repeated : (c : Bool) → repeats ps ≡ c
            → AllByRecursion (IsProductWithin n m (meet_measure d A B)) (cond c [] (p ∷ []))
        repeated true z = tt
        repeated false z = (
          record {
            extensor = at_all t.1;
            terms =
                product_within A B (meet_measure d A B) 1 p h.keys i.keys (one_row (sorted ps) all) (omega arith)
                (omega arith);
          },
          tt,
        )

    pub meets_within : (V W : Value) → AllByRecursion (IsEntryWithin n m A) V → AllByRecursion (IsEntryWithin n m B) W
        → AllByRecursion (IsProductWithin n m (meet_measure d A B)) (meet_products d V W)
    meets_within V W p q =
        all_flat_map (IsEntryWithin n m A) (IsProductWithin n m (meet_measure d A B))
        (λ e. flat_map (λ f. flat_map (meet_product e f) (splits (d - length f.0) (range (length e.0)))) W)
        (λ e h. all_flat_map (IsEntryWithin n m B) (IsProductWithin n m (meet_measure d A B))
        (λ f. flat_map (meet_product e f) (splits (d - length f.0) (range (length e.0))))
        (λ f k. all_flat_map (λ t. Unit {0}) (IsProductWithin n m (meet_measure d A B)) (meet_product e f)
        (λ t u. meet_within e f h k t) (splits (d - length f.0) (range (length e.0)))
        (any (splits (d - length f.0) (range (length e.0))))) W q) V p
      where
        any : (ts : List (List ℕ × List ℕ)) → AllByRecursion (λ t. Unit {0}) ts
        any [] = tt
        any (t ∷ ts) = (tt, any ts)

  -- ---- points by parameters

  parameter_within : (s : ℕ) → s < m → IsPolynomialWithin n m (large 0 1) (parameter_of 64 s)
  parameter_within s h =
      all_single (IsKeyWithin n m (large 0 1)) (record { exponents = slice_set (replicate 64 0) s 1; rows = [] })
      (record {
        points = tt;
        exponents = record {
          parameters = λ j g. others 64 s j (omega arith);
          small = all_set (λ e. e ≤ 1) (replicate 64 0) s 1 (omega arith) (all_replicate (λ e. e ≤ 1) 64 0 (omega arith));
        };
        few = omega arith;
      })
    where
      none : (k j : ℕ) → get_or (replicate {A = ℕ} k 0) j 0 ≡ 0
      none zero j = refl
      none (suc k) zero = refl
      none (suc k) (suc j) = none k j

      others : (k s j : ℕ) → s < j → get_or (slice_set (replicate {A = ℕ} k 0) s 1) j 0 ≡ 0
      others zero s j l = refl
      others (suc k) zero zero l = absurd (omega arith)
      others (suc k) zero (suc j) l = none k j
      others (suc k) (suc s) zero l = refl
      others (suc k) (suc s) (suc j) l = others k s j (omega arith)

  scaled_within : (A C : Measure) (f : BracketPolynomial) → IsPolynomialWithin n m (large 0 1) f → A.rows ≤ C.rows
      → A.degree + 1 ≤ C.degree → (V : Value) → AllByRecursion (IsEntryWithin n m A) V
      → AllByRecursion (IsProductWithin n m C) (map (scaled_product f) V)
  scaled_within A C f small rows degree V p =
      all_map (IsEntryWithin n m A) (IsProductWithin n m C) (scaled_product f)
      (λ e h. record {
        extensor = h.points;
        terms =
            product_within A (large 0 1) C 0 (scaled_product f e) h.keys small no_row (omega arith) (omega arith);
      }) V p

  pub mixed_within : (A B : Measure) (s t : ℕ) → s < m → t < m → (V W : Value) → AllByRecursion (IsEntryWithin n m A) V
      → AllByRecursion (IsEntryWithin n m B) W
      → AllByRecursion (IsProductWithin n m (on_measure A B)) (on_products (parameter_of 64 s) (parameter_of 64 t) V W)
  mixed_within A B s t k l V W p q =
      all_append (IsProductWithin n m (on_measure A B)) (map (scaled_product (parameter_of 64 s)) V)
      (map (scaled_product (parameter_of 64 t)) W)
      (scaled_within A (on_measure A B) (parameter_of 64 s) (parameter_within s k) (omega arith) (omega arith) V p)
      (scaled_within B (on_measure A B) (parameter_of 64 t) (parameter_within t l) (omega arith) (omega arith) W q)

  -- ---- keys and uses like a key

  module _ (d : ℕ) (pos : 0 < d) (size : Measure) (k : Key) (key : IsKey d 64 k) (within : IsKeyWithin n m size k) where
    points_of_row : (rows : List (List ℕ)) → AllByRecursion (IsRow d) rows → length (points rows) ≡ d * length rows
    points_of_row rows h = length-points d rows (all_so (IsRow d) (λ r. length r ≡ d) (λ r i. i.0) rows h)

    same_exponents : (es : List ℕ) → k.exponents ≡ es → AreExponents m size.degree es
    same_exponents es e = subst (AreExponents m size.degree) e within.exponents

    pub key_within : (l : Key) → IsKey d 64 l → k.exponents ≡ l.exponents → HasPoints (points l.rows) k
        → IsKeyWithin n m size l
    key_within l h e same = record {
      points =
          each_row (λ p. p < n) l.rows
          (all_of_same (points k.rows) (points l.rows) same (λ p. p < n) (all_points (λ p. p < n) k.rows within.points));
      exponents = same_exponents l.exponents e;
      few =
          let f = within.few in
          let g : length k.rows ≡ length l.rows =
          same_rows d (length k.rows) (length l.rows) pos
          (sym (points_of_row k.rows key.each) ∙ same_length (points k.rows) (points l.rows) same
          ∙ points_of_row l.rows h.each) in
          omega arith;
    }

    pub use_within : (u : Use) → AreSizes d u.alpha u.beta u.gamma → AllByRecursion (IsRow d) u.rest
        → k.exponents ≡ u.exponents → HasPoints (use_points u) k → IsUseWithin n m size u
    use_within u sizes rest e same = record {
      points =
          all_of_same (points k.rows) (use_points u) same (λ p. p < n) (all_points (λ p. p < n) k.rows within.points);
      exponents = same_exponents u.exponents e;
      few =
          let f = within.few in
          let g : length k.rows ≡ length u.rest + 2 =
          same_rows d (length k.rows) (length u.rest + 2) pos
          (sym (points_of_row k.rows key.each) ∙ same_length (points k.rows) (use_points u) same ∙ count) in
          omega arith;
    }
      where
        count : length (use_points u) ≡ d * (length u.rest + 2)
        count =
            let a : length (use_points u) ≡ length (points u.rest) + length (u.alpha ++ (u.beta ++ u.gamma)) =
            length-append (points u.rest) (u.alpha ++ (u.beta ++ u.gamma)) in
            let b : length (u.alpha ++ (u.beta ++ u.gamma)) ≡ length u.alpha + length (u.beta ++ u.gamma) =
            length-append u.alpha (u.beta ++ u.gamma) in
            let c : length (u.beta ++ u.gamma) ≡ length u.beta + length u.gamma = length-append u.beta u.gamma in
            let r : length (points u.rest) ≡ d * length u.rest = points_of_row u.rest rest in
            let s : length u.beta ≡ d + 1 = sizes.beta in
            let t : length u.alpha + length u.gamma + 1 ≡ d = sizes.others in
            let m : d * (length u.rest + 2) ≡ d * length u.rest + (d + d) = omega arith in
            omega arith

-- ---- six-point polynomials

-- parameters from a number on, by their places and as what is behind
none_behind : (m : ℕ) (es : List ℕ) → ((i : ℕ) → m ≤ i → slice_index es i ≡ 0) → AllByRecursion (λ x. x ≡ 0) (drop m es)
none_behind m [] h = none_dropped m
none_behind zero (e ∷ es) h = (h 0 (omega arith), none_behind zero es (λ i l. h (suc i) (omega arith)))
none_behind (suc m) (e ∷ es) h = none_behind m es (λ i l. h (suc i) (omega arith))

none_at : (m : ℕ) (es : List ℕ) → AllByRecursion (λ x. x ≡ 0) (drop m es) → (i : ℕ) → m ≤ i → slice_index es i ≡ 0
none_at m [] h i l = refl
none_at zero (e ∷ es) h zero l = h.0
none_at zero (e ∷ es) h (suc i) l = none_at zero es h.1 i (omega arith)
none_at (suc m) (e ∷ es) h zero l = absurd (omega arith)
none_at (suc m) (e ∷ es) h (suc i) l = none_at m es h i (omega arith)

module _ (n m : ℕ) (size : Measure) where
  -- the bounds of a key, in both words
  to_bounds : (k : Key) → IsKeyWithin n m size k → KeyWithin n m size.rows size.degree k
  to_bounds k h = record {
    points_below = h.points;
    no_others = none_behind m k.exponents h.exponents.parameters;
    few_rows = h.few;
    small = h.exponents.small;
  }

  from_bounds : (rows degree : ℕ) (k : Key) → rows ≤ size.rows → degree ≤ size.degree → KeyWithin n m rows degree k
      → IsKeyWithin n m size k
  from_bounds rows degree k r e h = record {
    points = h.points_below;
    exponents = record {
      parameters = none_at m k.exponents h.no_others;
      small = all_so (λ x. x ≤ degree) (λ x. x ≤ size.degree) (λ x l. omega arith) k.exponents h.small;
    };
    few = let f = h.few_rows in omega arith;
  }

  value_bounds : (v : Value) → AllByRecursion (IsEntryWithin n m size) v
      → AllByRecursion (IsEntryOf n m (size.rows, size.degree)) v
  value_bounds [] h = tt
  value_bounds (e ∷ v) h = (
    record {
      points_below = h.0.points;
      keys =
          all_so (λ t. IsKeyWithin n m size t.0) (λ t. KeyWithin n m size.rows size.degree t.0)
          (λ t k. to_bounds t.0 k) e.1.terms h.0.keys;
    },
    value_bounds v h.1,
  )

module _ (n m : ℕ) (m1 m2 m3 m4 m5 m6 : Measure) (v1 v2 v3 v4 v5 v6 : Value)
    (h1 : AllByRecursion (IsEntryWithin n m m1) v1) (h2 : AllByRecursion (IsEntryWithin n m m2) v2)
    (h3 : AllByRecursion (IsEntryWithin n m m3) v3) (h4 : AllByRecursion (IsEntryWithin n m m4) v4)
    (h5 : AllByRecursion (IsEntryWithin n m m5) v5) (h6 : AllByRecursion (IsEntryWithin n m m6) v6) where
  abbrev size_of : Measure → ℕ × ℕ
  size_of size = (size.rows, size.degree)

  abbrev six_within : HaveSizes n m
      (size_of m1 ∷ size_of m2 ∷ size_of m3 ∷ size_of m4 ∷ size_of m5 ∷ size_of m6 ∷ []) (v1 ∷ v2 ∷ v3 ∷ v4 ∷ v5 ∷ v6 ∷ [])
  six_within = (
    value_bounds n m m1 v1 h1,
    (
      value_bounds n m m2 v2 h2,
      (
        value_bounds n m m3 v3 h3,
        (value_bounds n m m4 v4 h4, (value_bounds n m m5 v5 h5, (value_bounds n m m6 v6 h6, tt))),
      ),
    ),
  )

  pub conic_within : (q : Tracked) → made_conic v1 v2 v3 v4 v5 v6 ≡ Ok q
      → IsPolynomialWithin n m (conic_measure m1 m2 m3 m4 m5 m6) q.sum
  conic_within q e =
      let size : Measure = conic_measure m1 m2 m3 m4 m5 m6 in
      all_so _ (λ t. IsKeyWithin n m size t.0) (λ t k. from_bounds n m size _ _ t.0 (omega arith) (omega arith) k) q.sum.terms
      (made_doubles n m (size_of m1) (size_of m2) (size_of m3) (size_of m4) (size_of m5) (size_of m6) v1 v2 v3 v4 v5 v6 q e
      six_within).keys
