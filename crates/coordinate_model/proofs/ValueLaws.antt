-- Combinations, joins and meets of values have the coordinates of those objects: by linearity, from extensors.
use Rattle.std.proofs.Common.{◌≡◌, ℕ, ◌+◌, ◌-◌, ◌<◌, ◌≤◌, List, [], ◌∷◌, ◌++◌, map, length}
use Rattle.std.proofs.Common.{All, get_or, refl, sym, ap, ap₂}
use Rattle.std.proofs.Common.{◌∙◌, subst₂, arith, flat_map}
use Rattle.std.proofs.lemmas.List.{length-map}
use Rattle.std.specs.List.{AllByRecursion}
use mathlib.Core.Path.{fun_ext}
use Rattle.coordinate_model.specs.Sequences.{subsets, IsRank}
use Rattle.coordinate_model.specs.Brackets.{Coords, sum_over, of_point, join_points, extensor, join}
use Rattle.coordinate_model.specs.Brackets.{meet, on}
use Rattle.coordinate_model.specs.Polynomial.{Polynomial, Polynomials, free_point}
use Rattle.coordinate_model.specs.BracketPolynomial.{BracketPolynomial, mul, value}
use Rattle.coordinate_model.specs.Value.{Value, HasStep, coordinates, meet_value, times_value, join_values, meet_values}
use Rattle.coordinate_model.specs.Starts.{Entry}
use Rattle.coordinate_model.specs.ObjectLaws.{AreJoined, JoinOfValues, MeetOfValues, plus_coords, times_coords}
use Rattle.coordinate_model.specs.ObjectLaws.{IsBilinear, meet_of, CombinationOfValues}
use Rattle.coordinate_model.proofs.RingLemmas as L
use Rattle.coordinate_model.proofs.Hom.{map-append}
use Rattle.coordinate_model.proofs.PolynomialRing.{polynomial_ring}
use Rattle.coordinate_model.proofs.BracketPolynomialLaws.{value-hom}
use Rattle.coordinate_model.proofs.JoinLaws.{join-law}
use Rattle.coordinate_model.proofs.Bilinear.{linear-joins, linear-meets}
use Rattle.coordinate_model.proofs.MeetValues.{meet_value_law}

infixl 45 ◌⊕◌
infixl 55 ◌⊗◌
open Polynomials use {𝟘, 𝟙, ◌⊕◌, ◌⊗◌}

-- the extensor of free points
abbrev pub free : List ℕ → Coords Polynomials
free us = extensor Polynomials (map free_point us)

-- of no points, and of one
pub free_none : (K : List ℕ) → free [] K ≡ 𝟙
unfolding extensor
free_none K = refl

pub free_one : (i : ℕ) (K : List ℕ) → free (i ∷ []) K ≡ of_point Polynomials (free_point i) K
unfolding extensor join_points
free_one i K = refl

-- the sum over the entries
abbrev pub total : (Entry → Polynomial) → Value → Polynomial
total f es = sum_over Polynomials f es

-- ---- coordinates of values that are put together

pub coordinates-none : (K : List ℕ) → coordinates [] K ≡ 𝟘
unfolding coordinates
coordinates-none K = refl

pub coordinates-more : (e : Entry) (A : Value) (K : List ℕ)
    → coordinates (e ∷ A) K ≡ value e.1 ⊗ free e.0 K ⊕ coordinates A K
unfolding coordinates
coordinates-more e A K = refl

-- one entry without points
pub coordinates-scalar : (f : BracketPolynomial) (K : List ℕ) → coordinates (([], f) ∷ []) K ≡ value f
coordinates-scalar f K =
    coordinates-more ([], f) [] K ∙ ap₂ ◌⊕◌ (ap (λ p. value f ⊗ p) (free_none K)) (coordinates-none K)
    ∙ polynomial_ring.add_zero (value f ⊗ 𝟙) ∙ polynomial_ring.mul_one (value f)

pub coordinates-append : (A B : Value) (K : List ℕ)
    → coordinates (A ++ B) K ≡ coordinates A K ⊕ coordinates B K
unfolding coordinates
coordinates-append [] B K = sym (L.zero_add Polynomials polynomial_ring (coordinates B K))
coordinates-append (e ∷ A) B K =
    ap (λ p. value e.1 ⊗ free e.0 K ⊕ p) (coordinates-append A B K)
    ∙ sym (polynomial_ring.add_assoc (value e.1 ⊗ free e.0 K) (coordinates A K) (coordinates B K))

pub coordinates-times : (f : BracketPolynomial) (A : Value) (K : List ℕ)
    → coordinates (times_value f A) K ≡ value f ⊗ coordinates A K
unfolding coordinates
coordinates-times f [] K = sym (L.mul_zero Polynomials polynomial_ring (value f))
coordinates-times f (e ∷ A) K =
    ap₂ ◌⊕◌
    (ap (λ p. p ⊗ free e.0 K) (value-hom.to_mul f e.1) ∙ polynomial_ring.mul_assoc (value f) (value e.1) (free e.0 K))
    (coordinates-times f A K)
    ∙ sym (polynomial_ring.mul_add (value f) (value e.1 ⊗ free e.0 K) (coordinates A K))

pub combination_of_values : CombinationOfValues
unfolding on
combination_of_values s t A B K =
    coordinates-append (times_value s A) (times_value t B) K
    ∙ ap₂ ◌⊕◌ (coordinates-times s A K) (coordinates-times t B K)

coordinates-flat_map : (f : Entry → Value) (A : Value) (K : List ℕ)
    → coordinates (flat_map f A) K ≡ total (λ e. coordinates (f e) K) A
unfolding coordinates
coordinates-flat_map f [] K = refl
coordinates-flat_map f (e ∷ A) K =
    coordinates-append (f e) (flat_map f A) K ∙ ap (λ p. coordinates (f e) K ⊕ p) (coordinates-flat_map f A K)

-- a map that is linear in an object, at the coordinates of a value
module _ (h : Coords Polynomials → Polynomial)
    (sum : (X Y : Coords Polynomials) → h (plus_coords Polynomials X Y) ≡ h X ⊕ h Y)
    (multiple : (c : Polynomial) (X : Coords Polynomials) → h (times_coords Polynomials c X) ≡ c ⊗ h X) where
  at_nothing : h (λ K. 𝟘) ≡ 𝟘
  at_nothing =
      ap h (fun_ext (λ K. sym (L.zero_mul Polynomials polynomial_ring 𝟘))) ∙ multiple 𝟘 (λ K. 𝟘)
      ∙ L.zero_mul Polynomials polynomial_ring (h (λ K. 𝟘))

  linear-at : (A : Value) → h (coordinates A) ≡ total (λ e. value e.1 ⊗ h (free e.0)) A
  unfolding coordinates
  linear-at [] = at_nothing
  linear-at (e ∷ A) =
      sum (times_coords Polynomials (value e.1) (free e.0)) (coordinates A)
      ∙ ap₂ ◌⊕◌ (multiple (value e.1) (free e.0)) (linear-at A)

-- sums of terms that agree
pub same_total : (f g : Entry → Polynomial) (A : Value) → AllByRecursion (λ e. f e ≡ g e) A → total f A ≡ total g A
same_total f g [] h = refl
same_total f g (e ∷ A) h = ap₂ ◌⊕◌ h.0 (same_total f g A h.1)

total-times : (c : Polynomial) (f : Entry → Polynomial) (A : Value) → total (λ e. c ⊗ f e) A ≡ c ⊗ total f A
total-times c f [] = sym (L.mul_zero Polynomials polynomial_ring c)
total-times c f (e ∷ A) =
    ap (λ p. c ⊗ f e ⊕ p) (total-times c f A) ∙ sym (polynomial_ring.mul_add c (f e) (total f A))

-- where a bilinear map of extensors is the coordinate of a value, so it is for values
module _ (f : Coords Polynomials → Coords Polynomials → Coords Polynomials) (l : IsBilinear Polynomials f)
    (K : List ℕ) (a b : ℕ) (of_pair : Entry → Entry → Polynomial)
    (e : (x y : Entry) → length x.0 ≡ a → length y.0 ≡ b
    → of_pair x y ≡ (value x.1 ⊗ value y.1) ⊗ f (free x.0) (free y.0) K) where
  inner : (x : Entry) → length x.0 ≡ a → (B : Value) → HasStep b B
      → total (of_pair x) B ≡ value x.1 ⊗ f (free x.0) (coordinates B) K
  inner x h B s =
      same_total (of_pair x) (λ y. value x.1 ⊗ (value y.1 ⊗ f (free x.0) (free y.0) K)) B (each B s)
      ∙ total-times (value x.1) (λ y. value y.1 ⊗ f (free x.0) (free y.0) K) B
      ∙ ap (λ p. value x.1 ⊗ p)
      (sym (linear-at (λ Y. f (free x.0) Y K) (λ X Y. l.right_sum (free x.0) X Y K)
      (λ c Y. l.right_multiple c (free x.0) Y K) B))
    where
      each : (B : Value) → HasStep b B
          → AllByRecursion (λ y. of_pair x y ≡ value x.1 ⊗ (value y.1 ⊗ f (free x.0) (free y.0) K)) B
      each [] s = tt
      each (y ∷ B) s =
          (e x y h s.0 ∙ polynomial_ring.mul_assoc (value x.1) (value y.1) (f (free x.0) (free y.0) K), each B s.1)

  pub of_values : (A B : Value) → HasStep a A → HasStep b B
      → total (λ x. total (of_pair x) B) A ≡ f (coordinates A) (coordinates B) K
  of_values A B s t =
      same_total (λ x. total (of_pair x) B) (λ x. value x.1 ⊗ f (free x.0) (coordinates B) K) A (each A s)
      ∙ sym (linear-at (λ X. f X (coordinates B) K) (λ X Y. l.left_sum X Y (coordinates B) K)
      (λ c X. l.left_multiple c X (coordinates B) K) A)
    where
      each : (A : Value) → HasStep a A
          → AllByRecursion (λ x. total (of_pair x) B ≡ value x.1 ⊗ f (free x.0) (coordinates B) K) A
      each [] s = tt
      each (x ∷ A) s = (inner x s.0 B t, each A s.1)

-- ---- joins

pub join_free : (d a b : ℕ) (us vs : List ℕ) → IsRank d → (1 ≤ a) × (1 ≤ b) × (a + b ≤ d) → length us ≡ a → length vs ≡ b
    → All (λ K. join Polynomials a (free us) (free vs) K ≡ free (us ++ vs) K) (subsets d (a + b))
join_free d a b us vs r s e g i x h =
    subst₂ (λ m n. All (λ K. join Polynomials m (free us) (free vs) K ≡ extensor Polynomials
    (map free_point us ++ map free_point vs) K) (subsets d (m + n))) first second
    (join-law polynomial_ring d (map free_point us) (map free_point vs) sizes) i x h
    ∙ ap (λ ps. extensor Polynomials ps (get_or (subsets d (a + b)) i x)) (sym (map-append free_point us vs))
  where
    first : length (map free_point us) ≡ a
    first = length-map us free_point ∙ e

    second : length (map free_point vs) ≡ b
    second = length-map vs free_point ∙ g

    sizes : AreJoined d (map free_point us) (map free_point vs)
    sizes =
        record {
          rank = r;
          first = omega (arith, first);
          second = omega (arith, second);
          few = omega (arith, first, second);
        }

joined-with : (y : Entry) (B : Value) (K : List ℕ) → coordinates (map (λ z. (y.0 ++ z.0, mul y.1 z.1)) B) K
    ≡ total (λ z. value (mul y.1 z.1) ⊗ free (y.0 ++ z.0) K) B
unfolding coordinates
joined-with y [] K = refl
joined-with y (z ∷ B) K = ap (λ p. value (mul y.1 z.1) ⊗ free (y.0 ++ z.0) K ⊕ p) (joined-with y B K)

-- the coordinates of a join, entry by entry
pub join_total : (A B : Value) (K : List ℕ)
    → coordinates (join_values A B) K ≡ total (λ y. total (λ z. value (mul y.1 z.1) ⊗ free (y.0 ++ z.0) K) B) A
unfolding join_values
join_total A B K =
    coordinates-flat_map (λ y. map (λ z. (y.0 ++ z.0, mul y.1 z.1)) B) A K
    ∙ same_total _ (λ y. total (λ z. value (mul y.1 z.1) ⊗ free (y.0 ++ z.0) K) B) A (each A)
  where
    each : (A : Value)
        → AllByRecursion (λ y. coordinates (map (λ z. (y.0 ++ z.0, mul y.1 z.1)) B) K
        ≡ total (λ z. value (mul y.1 z.1) ⊗ free (y.0 ++ z.0) K) B) A
    each [] = tt
    each (y ∷ A) = (joined-with y B K, each A)

pub join_of_values : JoinOfValues
join_of_values d a b A B r s p q i x h =
    let K : List ℕ = get_or (subsets d (a + b)) i x in
    join_total A B K
    ∙ of_values (join Polynomials a) (linear-joins Polynomials polynomial_ring a) K a b
    (λ y z. value (mul y.1 z.1) ⊗ free (y.0 ++ z.0) K)
    (λ y z e g. ap₂ ◌⊗◌ (value-hom.to_mul y.1 z.1) (sym (join_free d a b y.0 z.0 r s e g i x h))) A B p q

-- ---- meets

pub meet_free : (d a b : ℕ) (us vs : List ℕ) → IsRank d → (1 ≤ a) × (a < d) × (1 ≤ b) × (b < d) × (d ≤ a + b)
    → length us ≡ a → length vs ≡ b
    → All (λ K. coordinates (meet_value d us vs) K ≡ meet Polynomials d a b (free us) (free vs) K)
    (subsets d (a + b - d))
meet_free d a b us vs r s e g =
    subst₂ (λ m n. All (λ K. coordinates (meet_value d us vs) K ≡ meet Polynomials d m n (free us) (free vs) K)
    (subsets d (a + b - d))) (length-map us free_point ∙ e) (length-map vs free_point ∙ g)
    (subst₂ (λ m n. All (λ K. coordinates (meet_value d us vs) K
    ≡ meet_of Polynomials d (map free_point us) (map free_point vs) K) (subsets d (m + n - d))) e g
    (meet_value_law d us vs record {
      rank = r;
      first = (omega arith, omega arith);
      second = (omega arith, omega arith);
      enough = omega arith;
    }))

pub meet_of_values : MeetOfValues
unfolding meet_values
meet_of_values d a b A B r s p q i x h =
    let K : List ℕ = get_or (subsets d (a + b - d)) i x in
    coordinates-flat_map (λ y. flat_map (λ z. times_value (mul y.1 z.1) (meet_value d y.0 z.0)) B) A K
    ∙ same_total _ (λ y. total (λ z. coordinates (times_value (mul y.1 z.1) (meet_value d y.0 z.0)) K) B) A (each A K)
    ∙ of_values (meet Polynomials d a b) (linear-meets Polynomials polynomial_ring d a b) K a b
    (λ y z. coordinates (times_value (mul y.1 z.1) (meet_value d y.0 z.0)) K)
    (λ y z e g. coordinates-times (mul y.1 z.1) (meet_value d y.0 z.0) K
    ∙ ap₂ ◌⊗◌ (value-hom.to_mul y.1 z.1) (meet_free d a b y.0 z.0 r s e g i x h)) A B p q
  where
    each : (A : Value) (K : List ℕ)
        → AllByRecursion (λ y. coordinates (flat_map (λ z. times_value (mul y.1 z.1) (meet_value d y.0 z.0)) B) K
        ≡ total (λ z. coordinates (times_value (mul y.1 z.1) (meet_value d y.0 z.0)) K) B) A
    each [] K = tt
    each (y ∷ A) K =
        (coordinates-flat_map (λ z. times_value (mul y.1 z.1) (meet_value d y.0 z.0)) B K, each A K)
