-- The starts of joins, meets and combinations have the coordinates of those objects: the products are put together by their
-- extensors, and each product is a term of the object.
use Rattle.std.proofs.Common.{◌≡◌, ℕ, zero, suc, ◌+◌, ◌-◌, ◌≤◌, ◌==◌, Bool, true, false, cond, List, [], ◌∷◌, ◌++◌}
use Rattle.std.proofs.Common.{map, length}
use Rattle.std.proofs.Common.{filter, flat_map, All, get_or, refl, sym, ap, ap₂, ◌∙◌, subst, arith, append-nil}
use Rattle.std.proofs.Common.{eqb-true}
use Rattle.std.specs.Prelude.{pos, ◌*ℤ◌, Some, None}
use Rattle.std.specs.List.{AllByRecursion}
use Rattle.std.proofs.lemmas.List.{length-map}
use lib.ListN.{length-append}
use Rattle.coordinate_model.specs.Ring.{of_int}
use Rattle.coordinate_model.specs.Sequences.{IsRank, columns, range, splits, subsets, at_places, is_odd, repeats}
use Rattle.coordinate_model.specs.Sequences.{sign_of}
use Rattle.coordinate_model.specs.Brackets.{sum_over, signed, join, meet, on}
use Rattle.coordinate_model.specs.Sums.{Terms, sum_of, sum_value}
use Rattle.coordinate_model.specs.Polynomial.{Polynomial, Polynomials, free_point, br}
use Rattle.coordinate_model.specs.Key.{Key, key_cmp, key_value, rows_key}
use Rattle.coordinate_model.specs.BracketPolynomial.{KeySums, BracketPolynomial, mul, value}
use Rattle.coordinate_model.specs.Syzygy.{sorted, sorted_bracket, syz, use_key, use_term, additions}
use Rattle.coordinate_model.specs.Value.{Value, coordinates}
use Rattle.coordinate_model.specs.Starts.{Product, row_key, Entry, join_product, join_products, meet_product}
use Rattle.coordinate_model.specs.Starts.{meet_products, scaled_product, on_products, reached, products_at, start_at}
use Rattle.coordinate_model.specs.Starts.{starts, has_term}
use Rattle.coordinate_model.specs.StartLaws.{StartsOfJoin, StartsOfMeet, StartsOfOn, ZeroEntries, AdditionsOfMultiple}
use Rattle.coordinate_model.proofs.RingLemmas as L
use Rattle.coordinate_model.proofs.RingIntegers.{of_int-mul}
use Rattle.coordinate_model.proofs.Hom.{signed-hom}
use Rattle.coordinate_model.proofs.PolynomialRing.{polynomial_ring}
use Rattle.coordinate_model.proofs.Ranks.{by_rank}
use Rattle.coordinate_model.proofs.Grouping.{regroup, sum_over-append, sum_over-flat_map}
use Rattle.coordinate_model.proofs.Products.{product_value, value_of_start, signed-integer}
use Rattle.coordinate_model.proofs.Openings.{value-is, meet_value-is, multiple-is, sorted_bracket-repeats}
use Rattle.coordinate_model.proofs.Openings.{sorted_bracket-row}
use Rattle.coordinate_model.proofs.KeySumLaws.{terms-mul, terms-same}
use Rattle.coordinate_model.proofs.BracketPolynomialLaws.{br-is, value-hom, unit_value, row_value, sorted_bracket_law}
use Rattle.coordinate_model.proofs.BracketPolynomialLaws.{value_of_single}
use Rattle.coordinate_model.proofs.Alternating.{extensor-sorted, extensor-repeats}
use Rattle.coordinate_model.proofs.JoinLaws.{full-extensor}
use Rattle.coordinate_model.proofs.Bilinear.{linear-joins, linear-meets}
use Rattle.coordinate_model.proofs.ValueLaws.{free, free_none, total, same_total, of_values, join_free, meet_free}

infixl 45 ◌⊕◌
infixl 55 ◌⊗◌
open Polynomials use {𝟘, 𝟙, ◌⊕◌, ◌⊗◌}

-- ---- terms of multiples, and entries without terms

pub additions_of_multiple : AdditionsOfMultiple
additions_of_multiple u =
    ap (sum_of key_cmp) (sym (append-nil (additions u)))
    ∙ terms-mul ((use_key u, u.multiplier) ∷ []) (syz u.alpha u.beta u.gamma).terms
    ∙ ap (mul (use_term u)) (terms-same (syz u.alpha u.beta u.gamma))
    ∙ sym (multiple-is u)

pub zero_entries : ZeroEntries
unfolding coordinates
zero_entries [] K = refl
zero_entries (e ∷ A) K = step e.1.terms refl (zero_entries A K)
  where
    step : (ts : Terms Key) → e.1.terms ≡ ts → coordinates (filter has_term A) K ≡ coordinates A K
        → coordinates (cond (elim ts [ [] ↦ false | t ∷ us ↦ true ]) (e ∷ filter has_term A) (filter has_term A)) K
        ≡ value e.1 ⊗ free e.0 K ⊕ coordinates A K
    step [] z ih =
        ih
        ∙ sym (ap (λ v. v ⊗ free e.0 K ⊕ coordinates A K) (value-is e.1 ∙ ap (sum_value Polynomials key_value) z)
        ∙ ap (λ v. v ⊕ coordinates A K) (L.zero_mul Polynomials polynomial_ring (free e.0 K))
        ∙ L.zero_add Polynomials polynomial_ring (coordinates A K))
    step (t ∷ us) z ih = ap (λ v. value e.1 ⊗ free e.0 K ⊕ v) ih

-- ---- products put together

-- the sum over products of their value times their extensor
abbrev sum_at : List ℕ → List Product → Polynomial
sum_at K ps = sum_over Polynomials (λ p. product_value p ⊗ free p.extensor K) ps

coordinates_of_starts : (ps : List Product) (K : List ℕ) → coordinates (starts ps) K ≡ sum_at K ps
unfolding coordinates
coordinates_of_starts ps K =
    each (reached ps) ∙ regroup Polynomials polynomial_ring product_value (λ x. free x K) ps
  where
    each : (xs : List (List ℕ)) → coordinates (map (λ x. (x, start_at x ps)) xs) K
        ≡ sum_over Polynomials (λ x. sum_over Polynomials product_value (products_at x ps) ⊗ free x K) xs
    each [] = refl
    each (x ∷ xs) = ap₂ ◌⊕◌ (ap (λ v. v ⊗ free x K) (value_of_start x ps)) (each xs)

sum_at-flat_map : {X : Type 0} (K : List ℕ) (f : X → List Product) (xs : List X)
    → sum_at K (flat_map f xs) ≡ sum_over Polynomials (λ x. sum_at K (f x)) xs
sum_at-flat_map K f xs = sum_over-flat_map Polynomials polynomial_ring (λ p. product_value p ⊗ free p.extensor K) f xs

-- a product times its extensor
product_at : (K : List ℕ) (p : Product) (q : Polynomial)
    → (of_int Polynomials p.sign ⊗ key_value (row_key p.row)) ⊗ free p.extensor K ≡ q
    → product_value p ⊗ free p.extensor K ≡ (value p.left ⊗ value p.right) ⊗ q
product_at K p q e =
    let c : Polynomial = of_int Polynomials p.sign ⊗ key_value (row_key p.row) in
    let v : Polynomial = value p.left ⊗ value p.right in
    ap (λ t. t ⊗ free p.extensor K) (polynomial_ring.mul_comm c v)
    ∙ polynomial_ring.mul_assoc v c (free p.extensor K) ∙ ap (λ t. v ⊗ t) e

-- one product alone
sum_at-one : (K : List ℕ) (p : Product) (q : Polynomial)
    → (of_int Polynomials p.sign ⊗ key_value (row_key p.row)) ⊗ free p.extensor K ≡ q
    → sum_at K (p ∷ []) ≡ (value p.left ⊗ value p.right) ⊗ q
sum_at-one K p q e = polynomial_ring.add_zero (product_value p ⊗ free p.extensor K) ∙ product_at K p q e

-- no product, where there is nothing to add
sum_at-none : (K : List ℕ) (v q : Polynomial) → q ≡ 𝟘 → sum_at K [] ≡ v ⊗ q
sum_at-none K v q e = sym (ap (λ t. v ⊗ t) e ∙ L.mul_zero Polynomials polynomial_ring v)

-- ---- combinations

-- a product without a row and with the sign 1
at_unit : (K : List ℕ) (x : List ℕ) → (of_int Polynomials (pos 1) ⊗ key_value (rows_key [])) ⊗ free x K ≡ free x K
at_unit K x =
    ap (λ t. t ⊗ free x K)
    (ap₂ ◌⊗◌ (polynomial_ring.add_zero 𝟙) unit_value ∙ polynomial_ring.mul_one 𝟙)
    ∙ L.one_mul Polynomials polynomial_ring (free x K)

at_scaled : (K : List ℕ) (s : BracketPolynomial) (A : Value)
    → sum_at K (map (scaled_product s) A) ≡ value s ⊗ coordinates A K
unfolding coordinates
at_scaled K s [] = sym (L.mul_zero Polynomials polynomial_ring (value s))
at_scaled K s (e ∷ A) =
    ap₂ ◌⊕◌
    (product_at K (scaled_product s e) (free e.0 K) (at_unit K e.0)
    ∙ ap (λ t. t ⊗ free e.0 K) (polynomial_ring.mul_comm (value e.1) (value s))
    ∙ polynomial_ring.mul_assoc (value s) (value e.1) (free e.0 K))
    (at_scaled K s A)
    ∙ sym (polynomial_ring.mul_add (value s) (value e.1 ⊗ free e.0 K) (coordinates A K))

pub starts_of_on : StartsOfOn
unfolding on
starts_of_on s t A B K =
    coordinates_of_starts (on_products s t A B) K
    ∙ sum_over-append Polynomials polynomial_ring (λ p. product_value p ⊗ free p.extensor K) (map (scaled_product s) A)
    (map (scaled_product t) B)
    ∙ ap₂ ◌⊕◌ (at_scaled K s A) (at_scaled K t B)

-- ---- joins

-- the extensor of d points is their bracket
full_extensor : (d : ℕ) (ps : List ℕ) → IsRank d → length ps ≡ d → All (λ K. free ps K ≡ br ps) (subsets d d)
full_extensor d ps r e = subst (All (λ K. free ps K ≡ br ps)) (sym (alone d r)) at_columns
  where
    alone : (d : ℕ) → IsRank d → subsets d d ≡ columns d ∷ []
    alone = by_rank (λ d. subsets d d ≡ columns d ∷ []) refl refl refl

    l : length (map free_point ps) ≡ d
    l = length-map ps free_point ∙ e

    at_columns : All (λ K. free ps K ≡ br ps) (columns d ∷ [])
    at_columns zero x h =
        ap (λ n. free ps (columns n)) (sym l) ∙ full-extensor polynomial_ring (map free_point ps) (subst IsRank (sym l) r)
        ∙ sym (br-is ps)
    at_columns (suc i) x h = absurd (omega arith)

module _ (d : ℕ) (r : IsRank d) (e f : Entry) (few : length (e.0 ++ f.0) ≤ d) where
  abbrev ps : List ℕ
  ps = e.0 ++ f.0

  abbrev both : Polynomial
  both = value e.1 ⊗ value f.1

  -- the products of two entries
  at_pair : All (λ K. sum_at K (join_product d e f) ≡ both ⊗ free ps K) (subsets d (length ps))
  at_pair i x h = repeated (repeats ps) refl
    where
      K : List ℕ
      K = get_or (subsets d (length ps)) i x

      bracket_product : Product
      bracket_product =
          record { extensor = []; left = e.1; right = f.1; row = Some (sorted ps); sign = sign_of ps }

      sorted_product : Product
      sorted_product =
          record { extensor = sorted ps; left = e.1; right = f.1; row = None; sign = sign_of ps }

      full : (b : Bool) → (length ps == d) ≡ b
          → sum_at K (cond b (bracket_product ∷ []) (sorted_product ∷ [])) ≡ both ⊗ free ps K
      full true g =
          let l : length ps ≡ d = eqb-true (length ps) d g in
          sum_at-one K bracket_product (free ps K)
          (ap (λ t. (of_int Polynomials (sign_of ps) ⊗ key_value (rows_key (sorted ps ∷ []))) ⊗ t) (free_none K)
          ∙ polynomial_ring.mul_one _ ∙ ap (λ t. of_int Polynomials (sign_of ps) ⊗ t) (row_value (sorted ps))
          ∙ signed-integer ps (br (sorted ps)) ∙ sym (sorted_bracket_law ps (subst IsRank (sym l) r))
          ∙ sym (subst (λ n. All (λ K. free ps K ≡ br ps) (subsets d n)) (sym l) (full_extensor d ps r l) i x h))
      full false g =
          sum_at-one K sorted_product (free ps K)
          (ap (λ t. (of_int Polynomials (sign_of ps) ⊗ t) ⊗ free (sorted ps) K) unit_value
          ∙ ap (λ t. t ⊗ free (sorted ps) K) (polynomial_ring.mul_one (of_int Polynomials (sign_of ps)))
          ∙ signed-integer ps (free (sorted ps) K)
          ∙ sym (extensor-sorted Polynomials polynomial_ring free_point d ps r few i x h))

      repeated : (b : Bool) → repeats ps ≡ b
          → sum_at K (cond b [] (cond (length ps == d) (bracket_product ∷ []) (sorted_product ∷ [])))
          ≡ both ⊗ free ps K
      repeated true g =
          sum_at-none K both (free ps K) (extensor-repeats Polynomials polynomial_ring free_point d ps r few g i x h)
      repeated false g = full (length ps == d) refl

pub starts_of_join : StartsOfJoin
starts_of_join d a b A B r s p q i x h =
    coordinates_of_starts (join_products d A B) K
    ∙ sum_at-flat_map K (λ e. flat_map (join_product d e) B) A
    ∙ same_total (λ e. sum_at K (flat_map (join_product d e) B)) (λ e. total (of_pair e) B) A (each A)
    ∙ of_values (join Polynomials a) (linear-joins Polynomials polynomial_ring a) K a b of_pair pair A B p q
  where
    K : List ℕ
    K = get_or (subsets d (a + b)) i x

    of_pair : Entry → Entry → Polynomial
    of_pair e f = sum_at K (join_product d e f)

    each : (A : Value) → AllByRecursion (λ e. sum_at K (flat_map (join_product d e) B) ≡ total (of_pair e) B) A
    each [] = tt
    each (e ∷ A) = (sum_at-flat_map K (join_product d e) B, each A)

    pair : (e f : Entry) → length e.0 ≡ a → length f.0 ≡ b
        → of_pair e f ≡ (value e.1 ⊗ value f.1) ⊗ join Polynomials a (free e.0) (free f.0) K
    pair e f m n =
        let l : length (e.0 ++ f.0) ≡ a + b = length-append e.0 f.0 ∙ ap₂ ◌+◌ m n in
        let few : length (e.0 ++ f.0) ≤ d = omega (arith, s.2) in
        subst (λ n. All (λ K. sum_at K (join_product d e f) ≡ (value e.1 ⊗ value f.1) ⊗ free (e.0 ++ f.0) K)
        (subsets d n)) l (at_pair d r e f few) i x h
        ∙ ap (λ t. (value e.1 ⊗ value f.1) ⊗ t) (sym (join_free d a b e.0 f.0 r s m n i x h))

-- ---- meets

-- the entry of the meet at a split
abbrev split_entry : Entry → Entry → List ℕ × List ℕ → Entry
split_entry e f t =
    (at_places e.0 t.1, signed KeySums (t.0 ++ t.1) (sorted_bracket (at_places e.0 t.0 ++ f.0)))

at_split : (K : List ℕ) (e f : Entry) (t : List ℕ × List ℕ) → sum_at K (meet_product e f t)
    ≡ (value e.1 ⊗ value f.1) ⊗ (value (split_entry e f t).1 ⊗ free (split_entry e f t).0 K)
at_split K e f t = step (repeats ps) refl
  where
    ps : List ℕ
    ps = at_places e.0 t.0 ++ f.0

    w : List ℕ
    w = t.0 ++ t.1

    rest : List ℕ
    rest = at_places e.0 t.1

    both : Polynomial
    both = value e.1 ⊗ value f.1

    p : Product
    p =
        record {
          extensor = rest;
          left = e.1;
          right = f.1;
          row = Some (sorted ps);
          sign = sign_of w *ℤ sign_of ps;
        }

    zero_signed : (b : Bool) → cond b (Polynomials.neg 𝟘) 𝟘 ≡ 𝟘
    zero_signed true = L.neg_zero Polynomials polynomial_ring
    zero_signed false = refl

    -- the bracket with both signs
    with_signs : repeats ps ≡ false
        → of_int Polynomials p.sign ⊗ key_value (row_key p.row) ≡ value (signed KeySums w (sorted_bracket ps))
    with_signs g =
        let s : Polynomial = of_int Polynomials (sign_of w) in
        let s' : Polynomial = of_int Polynomials (sign_of ps) in
        ap₂ ◌⊗◌ (of_int-mul Polynomials polynomial_ring (sign_of w) (sign_of ps)) (row_value (sorted ps))
        ∙ polynomial_ring.mul_assoc s s' (br (sorted ps)) ∙ ap (λ q. s ⊗ q) (signed-integer ps (br (sorted ps)))
        ∙ signed-integer w (signed Polynomials ps (br (sorted ps)))
        ∙ sym (signed-hom KeySums Polynomials value-hom w (ap value (sorted_bracket-row ps g)
        ∙ signed-hom KeySums Polynomials value-hom ps (value_of_single (rows_key (sorted ps ∷ []))
        ∙ row_value (sorted ps))))

    step : (b : Bool) → repeats ps ≡ b → sum_at K (cond b [] (p ∷ []))
        ≡ both ⊗ (value (signed KeySums w (sorted_bracket ps)) ⊗ free rest K)
    step true g =
        sum_at-none K both _ (ap (λ v. v ⊗ free rest K) (signed-hom KeySums Polynomials value-hom w
        (ap value (sorted_bracket-repeats ps g) ∙ value-hom.to_zero) ∙ zero_signed (is_odd w))
        ∙ L.zero_mul Polynomials polynomial_ring (free rest K))
    step false g = sum_at-one K p _ (ap (λ v. v ⊗ free rest K) (with_signs g))

at_splits : (K : List ℕ) (e f : Entry) (ts : List (List ℕ × List ℕ))
    → sum_over Polynomials (λ t. sum_at K (meet_product e f t)) ts
    ≡ (value e.1 ⊗ value f.1) ⊗ coordinates (map (split_entry e f) ts) K
unfolding coordinates
at_splits K e f [] = sym (L.mul_zero Polynomials polynomial_ring (value e.1 ⊗ value f.1))
at_splits K e f (t ∷ ts) =
    ap₂ ◌⊕◌ (at_split K e f t) (at_splits K e f ts)
    ∙ sym (polynomial_ring.mul_add (value e.1 ⊗ value f.1) (value (split_entry e f t).1 ⊗ free (split_entry e f t).0 K)
    (coordinates (map (split_entry e f) ts) K))

pub starts_of_meet : StartsOfMeet
starts_of_meet d a b A B r s p q i x h =
    coordinates_of_starts (meet_products d A B) K
    ∙ sum_at-flat_map K (λ e. flat_map (λ f. flat_map (meet_product e f) (places e f)) B) A
    ∙ same_total (λ e. sum_at K (flat_map (λ f. flat_map (meet_product e f) (places e f)) B))
    (λ e. total (of_pair e) B) A (each A)
    ∙ of_values (meet Polynomials d a b) (linear-meets Polynomials polynomial_ring d a b) K a b of_pair pair A B p q
  where
    K : List ℕ
    K = get_or (subsets d (a + b - d)) i x

    places : Entry → Entry → List (List ℕ × List ℕ)
    places e f = splits (d - length f.0) (range (length e.0))

    of_pair : Entry → Entry → Polynomial
    of_pair e f = sum_at K (flat_map (meet_product e f) (places e f))

    each : (A : Value) → AllByRecursion
        (λ e. sum_at K (flat_map (λ f. flat_map (meet_product e f) (places e f)) B) ≡ total (of_pair e) B) A
    each [] = tt
    each (e ∷ A) = (sum_at-flat_map K (λ f. flat_map (meet_product e f) (places e f)) B, each A)

    pair : (e f : Entry) → length e.0 ≡ a → length f.0 ≡ b
        → of_pair e f ≡ (value e.1 ⊗ value f.1) ⊗ meet Polynomials d a b (free e.0) (free f.0) K
    pair e f m n =
        sum_at-flat_map K (meet_product e f) (places e f)
        ∙ at_splits K e f (places e f)
        ∙ ap (λ A. (value e.1 ⊗ value f.1) ⊗ coordinates A K) (sym (meet_value-is d e.0 f.0))
        ∙ ap (λ t. (value e.1 ⊗ value f.1) ⊗ t) (meet_free d a b e.0 f.0 r s m n i x h)
