-- The products of joins, meets and combinations have the points and parameters that go into them, and their rows and degrees
-- are bounded by those of the two values.
use Rattle.std.specs.Prelude.{◌≡◌, ℕ, ◌+◌, ◌-◌, ◌<◌, ◌≤◌, ◌==◌, max, Bool, true, false, cond, List, [], ◌∷◌, ◌++◌, map, flat_map, length, Some, None, ◌*ℤ◌}
use Rattle.std.specs.Prelude.{replicate, slice_set}
use Rattle.std.specs.List.{AllByRecursion}
use Rattle.std.proofs.Common.{refl, sym, subst, ◌∙◌, arith, lit≤, length-append, eq-eqb, eqb-true}
use Rattle.std.proofs.lemmas.List.{drop-set-lt, drop-replicate}
use Rattle.std.specs.Ordering.{nat_cmp}
use Rattle.coordinate_model.specs.Sequences.{range, splits, at_places, repeats, sign_of}
use Rattle.coordinate_model.specs.BracketPolynomial.{AllKeys, parameter_of}
use Rattle.coordinate_model.specs.Syzygy.{sorted}
use Rattle.coordinate_model.specs.Value.{Value as Listed, HasStep}
use Rattle.coordinate_model.specs.Starts.{Product, Entry, join_product, join_products, meet_product, meet_products}
use Rattle.coordinate_model.specs.Starts.{scaled_product}
use Rattle.coordinate_model.proofs.KeySets.{all_single}
use Rattle.coordinate_model.proofs.SortedRows.{all_ordered}
use Rattle.coordinate_model.proofs.Splits.{all_map, all_so, all_append, all_replicate, all_set}
use Rattle.bracket_terms.specs.declared.extensor.Extensor.{Extensor}
use Rattle.bracket_poly.specs.declared.value.Value.{Value}
use Rattle.bracket_poly.specs.Kept.{TrackedOf}
use Rattle.bracket_poly.specs.Products.{HasDegree, ExponentsFit}
use Rattle.bracket_poly.proofs.Degrees.{exponents_fit}
use Rattle.bracket_poly.specs.Values.{entry_of, value_of}
use Rattle.bracket_poly.specs.Sizes.{KeyWithin, EntryWithin}
use Rattle.shuffle_meet.specs.Sizes.{IsWithin}
use Rattle.shuffle_meet.specs.Stops.{tracked_entries}
use Rattle.shuffle_meet.specs.Seen.{seen}
use Rattle.shuffle_meet.specs.Objects.{AreJoined, ProductsFit, ParameterFits, joined, met, mixed, AddsSizes, MixesSizes, rows_of_join}
use Rattle.shuffle_meet.proofs.SeenLaws.{Entries}
use Rattle.shuffle_meet.proofs.SizeLaws.{ProductWithin, within_product, within_entries, wider_product, all_flat, all_at_places}
use Rattle.shuffle_meet.proofs.Answered.{steps_of}

-- the exponents of a parameter
small_parameter : (i : ℕ) → AllByRecursion (λ x. x ≤ 1) (slice_set (replicate 64 0) i 1)
small_parameter i = all_set (λ x. x ≤ 1) (replicate 64 0) i 1 (lit≤ tt) (all_replicate (λ x. x ≤ 1) 64 0 (lit≤ tt))

module _ (points parameters : ℕ) where
  -- an entry of the model with such points and keys
  pub record HasSize (rows degree : ℕ) (t : Entry) : Type 0 where
    pub points_below : AllByRecursion (λ p. p < points) t.0
    pub keys : AllKeys (KeyWithin points parameters rows degree) t.1

  of_code : {d : ℕ} (rows degree : ℕ) (es : Entries d) → IsWithin points parameters rows degree es
      → AllByRecursion (HasSize rows degree) (value_of es)
  of_code rows degree [] h = tt
  of_code rows degree (e ∷ es) h =
      (record { points_below = h.0.points_below; keys = h.0.keys }, of_code rows degree es h.1)

  module _ (r m s n : ℕ) where
    -- the products of the join of two entries
    join_pair : (d more : ℕ) (e f : Entry) → HasSize r m e → HasSize s n f → (length (e.0 ++ f.0) ≡ d → 1 ≤ more)
        → AllByRecursion (ProductWithin points parameters (r + s + more) (m + n)) (join_product d e f)
    join_pair d more e f h i room = step (repeats ps) (length ps == d) refl
      where
        ps : List ℕ
        ps = e.0 ++ f.0

        below : AllByRecursion (λ p. p < points) ps
        below = all_append (λ p. p < points) e.0 f.0 h.points_below i.points_below

        sorted_below : AllByRecursion (λ p. p < points) (sorted ps)
        sorted_below = all_ordered nat_cmp (λ p. p < points) ps below

        full : Product
        full = record { extensor = []; left = e.1; right = f.1; row = Some (sorted ps); sign = sign_of ps }

        part : Product
        part = record { extensor = sorted ps; left = e.1; right = f.1; row = None; sign = sign_of ps }

        step : (b c : Bool) → (length ps == d) ≡ c
            → AllByRecursion (ProductWithin points parameters (r + s + more) (m + n)) (cond b [] (cond c (full ∷ []) (part ∷ [])))
        step true c q = tt
        step false true q = (
          within_product points parameters r m s n more full tt h.keys i.keys (room (eqb-true (length ps) d q)) (sorted_below, tt),
          tt,
        )
        step false false q =
            (within_product points parameters r m s n more part sorted_below h.keys i.keys (omega arith) tt, tt)

    -- and of the meet at one split
    meet_pair : (e f : Entry) (t : List ℕ × List ℕ) → HasSize r m e → HasSize s n f
        → AllByRecursion (ProductWithin points parameters (r + s + 1) (m + n)) (meet_product e f t)
    meet_pair e f t h i = step (repeats ps)
      where
        ps : List ℕ
        ps = at_places e.0 t.0 ++ f.0

        below : AllByRecursion (λ p. p < points) ps
        below =
            all_append (λ p. p < points) (at_places e.0 t.0) f.0 (all_at_places (λ p. p < points) e.0 t.0 h.points_below)
            i.points_below

        product : Product
        product = record {
          extensor = at_places e.0 t.1;
          left = e.1;
          right = f.1;
          row = Some (sorted ps);
          sign = sign_of (t.0 ++ t.1) *ℤ sign_of ps;
        }

        step : (b : Bool) → AllByRecursion (ProductWithin points parameters (r + s + 1) (m + n)) (cond b [] (product ∷ []))
        step true = tt
        step false = (
          within_product points parameters r m s n 1 product (all_at_places (λ p. p < points) e.0 t.1 h.points_below) h.keys
              i.keys (omega arith) (all_ordered nat_cmp (λ p. p < points) ps below, tt),
          tt,
        )

    joins_within : (d a b : ℕ) (A B : Listed) → HasStep a A → HasStep b B → AllByRecursion (HasSize r m) A
        → AllByRecursion (HasSize s n) B
        → AllByRecursion (ProductWithin points parameters (r + s + cond (a + b == d) 1 0) (m + n)) (join_products d A B)
    joins_within d a b [] B p q h i = tt
    joins_within d a b (e ∷ A) B p q h i =
        all_append _ (flat_map (join_product d e) B) (join_products d A B) (others B q i) (joins_within d a b A B p.1 q h.1 i)
      where
        room : (f : Entry) → length f.0 ≡ b → length (e.0 ++ f.0) ≡ d → 1 ≤ cond (a + b == d) 1 0
        room f l k =
            let size : a + b ≡ d = omega (arith, length-append e.0 f.0, p.0) in
            subst (λ (c : Bool). 1 ≤ cond c 1 0) (sym (eq-eqb (a + b) d size)) (omega arith)

        others : (C : Listed) → HasStep b C → AllByRecursion (HasSize s n) C
            → AllByRecursion (ProductWithin points parameters (r + s + cond (a + b == d) 1 0) (m + n)) (flat_map (join_product d e) C)
        others [] q i = tt
        others (f ∷ C) q i =
            all_append _ (join_product d e f) (flat_map (join_product d e) C)
            (join_pair d (cond (a + b == d) 1 0) e f h.0 i.0 (room f q.0)) (others C q.1 i.1)

    meets_within : (d : ℕ) (A B : Listed) → AllByRecursion (HasSize r m) A → AllByRecursion (HasSize s n) B
        → AllByRecursion (ProductWithin points parameters (r + s + 1) (m + n)) (meet_products d A B)
    meets_within d A B h i =
        all_flat _ _ A (all_so (HasSize r m) _ (λ e x. all_flat _ _ B (all_so (HasSize s n) _ (λ f y. parts e f x y) B i)) A h)
      where
        parts : (e f : Entry) → HasSize r m e → HasSize s n f
            → AllByRecursion (ProductWithin points parameters (r + s + 1) (m + n))
            (flat_map (meet_product e f) (splits (d - length f.0) (range (length e.0))))
        parts e f x y = each (splits (d - length f.0) (range (length e.0)))
          where
            each : (ts : List (List ℕ × List ℕ))
                → AllByRecursion (ProductWithin points parameters (r + s + 1) (m + n)) (flat_map (meet_product e f) ts)
            each [] = tt
            each (t ∷ ts) = all_append _ (meet_product e f t) (flat_map (meet_product e f) ts) (meet_pair e f t x y) (each ts)

  -- ---- a parameter

  parameter_within : (i : ℕ) → i < parameters → AllKeys (KeyWithin points parameters 0 1) (parameter_of 64 i)
  parameter_within i h = all_single (KeyWithin points parameters 0 1) _ (record {
    points_below = tt;
    no_others = subst (AllByRecursion (λ x. x ≡ 0))
        (sym (drop-set-lt parameters (replicate 64 0) i 1 h ∙ drop-replicate parameters 64 0))
        (all_replicate (λ x. x ≡ 0) (64 - parameters) 0 refl);
    few_rows = lit≤ tt;
    small = small_parameter i;
  })

  -- the products of entries and a parameter
  scaled_within : (r m rows degree i : ℕ) (A : Listed) → r ≤ rows → m + 1 ≤ degree → i < parameters
      → AllByRecursion (HasSize r m) A
      → AllByRecursion (ProductWithin points parameters rows degree) (map (scaled_product (parameter_of 64 i)) A)
  scaled_within r m rows degree i A few low h x =
      all_map (HasSize r m) (ProductWithin points parameters rows degree) (scaled_product (parameter_of 64 i))
      (λ e y. wider_product points parameters (r + 0 + 0) (m + 1) rows degree (scaled_product (parameter_of 64 i) e)
      (omega arith) low
      (within_product points parameters r m 0 1 0 (scaled_product (parameter_of 64 i) e) y.points_below y.keys
      (parameter_within i h) (lit≤ tt) tt))
      A x

pub join_sizes : (d : ℕ) (a b c : Value d) → AreJoined d a.step b.step → seen c.entries ≡ tracked_entries (joined a b)
    → AddsSizes (rows_of_join a b) a b c
join_sizes d a b c h e points parameters r m s n x y =
    within_entries points parameters (r + s + rows_of_join a b) (m + n) c.entries (joined a b) e
    (joins_within points parameters r m s n d a.step b.step (value_of a.entries) (value_of b.entries)
    (steps_of d a h.first_below) (steps_of d b h.second_below) (of_code points parameters r m a.entries x)
    (of_code points parameters s n b.entries y))

pub meet_sizes : (d : ℕ) (a b c : Value d) → seen c.entries ≡ tracked_entries (met a b) → AddsSizes 1 a b c
meet_sizes d a b c e points parameters r m s n x y =
    within_entries points parameters (r + s + 1) (m + n) c.entries (met a b) e
    (meets_within points parameters r m s n d (value_of a.entries) (value_of b.entries)
    (of_code points parameters r m a.entries x) (of_code points parameters s n b.entries y))

pub mix_sizes : (d s t : ℕ) (a b c : Value d) → seen c.entries ≡ tracked_entries (mixed s t a b) → MixesSizes s t a b c
mix_sizes d s t a b c e points parameters r m q n h k x y =
    within_entries points parameters (max r q) (max m n + 1) c.entries (mixed s t a b) e
    (all_append _ (map (scaled_product (parameter_of 64 s)) (value_of a.entries)) _
    (scaled_within points parameters r m (max r q) (max m n + 1) s (value_of a.entries) (omega arith) (omega arith) h
    (of_code points parameters r m a.entries x))
    (scaled_within points parameters q n (max r q) (max m n + 1) t (value_of b.entries) (omega arith) (omega arith) k
    (of_code points parameters q n b.entries y)))

-- the degree of an entry's polynomial
has_degree : {d : ℕ} (points parameters rows n : ℕ) (e : Extensor × TrackedOf d) → EntryWithin points parameters rows n e
    → HasDegree n e.1.tracked.sum
has_degree points parameters rows n e w =
    all_so (λ t. KeyWithin points parameters rows n t.0) (λ t. AllByRecursion (λ x. x ≤ n) t.0.exponents)
    (λ t x. x.small) e.1.tracked.sum.terms w.keys

-- values whose exponents are small can be multiplied by a parameter
pub parameter_fits : (d points parameters r m s : ℕ) (a : Value d) → m + 1 ≤ 65535
    → IsWithin points parameters r m a.entries → ParameterFits s a
parameter_fits d points parameters r m s a room h =
    all_map (EntryWithin points parameters r m) (λ e. ExponentsFit e.1 (parameter_of 64 s)) entry_of
    (λ e w. exponents_fit m 1 e.1.tracked.sum (parameter_of 64 s) room (has_degree points parameters r m e w)
    (all_single (λ k. AllByRecursion (λ x. x ≤ 1) k.exponents) _ (small_parameter s)))
    a.entries h

-- values whose exponents are small can be joined and can meet
pub products_fit : (d points parameters r m s n : ℕ) (a b : Value d) → m + n ≤ 65535
    → IsWithin points parameters r m a.entries → IsWithin points parameters s n b.entries → ProductsFit a b
products_fit d points parameters r m s n a b room h k = each a.entries h
  where
    inner : (e : Extensor × TrackedOf d) (fs : Entries d) → HasDegree m e.1.tracked.sum → IsWithin points parameters s n fs
        → AllByRecursion (λ f. ExponentsFit e.1.tracked.sum f.1) (value_of fs)
    inner e [] x y = tt
    inner e (f ∷ fs) x y =
        (exponents_fit m n e.1.tracked.sum f.1.tracked.sum room x (has_degree points parameters s n f y.0), inner e fs x y.1)

    each : (es : Entries d) → IsWithin points parameters r m es
        → AllByRecursion (λ e. AllByRecursion (λ f. ExponentsFit e.1 f.1) (value_of b.entries)) (value_of es)
    each [] x = tt
    each (e ∷ es) x = (inner e b.entries (has_degree points parameters r m e x.0) k, each es x.1)
