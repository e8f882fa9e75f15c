-- The coordinates of the join of two extensors, from the points of both.
use Rattle.std.proofs.Common.{◌≡◌, ℕ, zero, suc, ◌+◌, ◌<◌, ◌≤◌, Bool, true, false, not, cond, ◌&&◌, ◌||◌, ◌==◌, T}
use Rattle.std.proofs.Common.{ℤ, pos, negsuc}
use Rattle.std.proofs.Common.{List, [], ◌∷◌, ◌++◌, map, length, get_or, refl, sym, ap, subst, ◌∙◌, arith, take}
use Rattle.std.proofs.Common.{append-nil, true≢false, eqb-true, length-append, All}
use Rattle.std.specs.List.{list_all}
use Rattle.std.proofs.Math.Seq.{take-append_seam}
use Rattle.std.proofs.lemmas.List.{length-take-le}
use Rattle.coordinate_model.specs.Sequences.{IsRank, is_odd, splits, subsets, has, repeats, sign_of}
use Rattle.coordinate_model.specs.Brackets.{Coords, sum_over, signed, extensor, join, Point}
use Rattle.coordinate_model.specs.ObjectLaws.{AreJoined}
use Rattle.coordinate_model.specs.Polynomial.{Polynomial, Polynomials, free_point}
use Rattle.coordinate_model.specs.Syzygy.{sorted}
use Rattle.coordinate_model.proofs.Bools.{first, second}
use Rattle.coordinate_model.proofs.PolynomialRing.{polynomial_ring}
use Rattle.coordinate_model.proofs.Alternating.{extensor-sorted, extensor-repeats}
use Rattle.coordinate_model.proofs.JoinLaws.{join-law}
use Rattle.bracket_terms.specs.Extensors.{IsExtensor}
use Rattle.bracket_terms.specs.Joins.{by_sign, share_point}

-- ---- the sets of columns

all_pass : {A : Type 0} (p : A → Bool) (xs : List A) → T (list_all p xs) → (k : ℕ) (x : A) → k < length xs
    → T (p (get_or xs k x))
all_pass p [] h k x l = absurd (omega arith)
all_pass p (y ∷ ys) h zero x l = first (p y) (list_all p ys) h
all_pass p (y ∷ ys) h (suc k) x l = all_pass p ys (second (p y) (list_all p ys) h) k x (omega arith)

-- n columns in an even order
abbrev is_set : ℕ → List ℕ → Bool
is_set n K = not (is_odd K) && (length K == n)

sets_pass : (d n : ℕ) → 2 ≤ d → d ≤ 4 → n ≤ d → T (list_all (is_set n) (subsets d n))
sets_pass (suc (suc zero)) zero a b c = tt
sets_pass (suc (suc zero)) (suc zero) a b c = tt
sets_pass (suc (suc zero)) (suc (suc zero)) a b c = tt
sets_pass (suc (suc (suc zero))) zero a b c = tt
sets_pass (suc (suc (suc zero))) (suc zero) a b c = tt
sets_pass (suc (suc (suc zero))) (suc (suc zero)) a b c = tt
sets_pass (suc (suc (suc zero))) (suc (suc (suc zero))) a b c = tt
sets_pass (suc (suc (suc (suc zero)))) zero a b c = tt
sets_pass (suc (suc (suc (suc zero)))) (suc zero) a b c = tt
sets_pass (suc (suc (suc (suc zero)))) (suc (suc zero)) a b c = tt
sets_pass (suc (suc (suc (suc zero)))) (suc (suc (suc zero))) a b c = tt
sets_pass (suc (suc (suc (suc zero)))) (suc (suc (suc (suc zero)))) a b c = tt
sets_pass _ _ a b c = absurd (omega arith)

is_false : (b : Bool) → T (not b) → b ≡ false
is_false true h = absurd h
is_false false h = refl

is_true : (b : Bool) → T b → b ≡ true
is_true true h = refl
is_true false h = absurd h

-- what is known of a set of n columns
record IsSet (n : ℕ) (K : List ℕ) : Type 0 where
  even : is_odd K ≡ false
  count : length K ≡ n

set_at : (d n : ℕ) → IsRank d → n ≤ d → (k : ℕ) (x : List ℕ) → k < length (subsets d n)
    → IsSet n (get_or (subsets d n) k x)
set_at d n r h k x l =
    let K : List ℕ = get_or (subsets d n) k x in
    let t : T (is_set n K) = all_pass (is_set n) (subsets d n) (sets_pass d n r.0 r.1 h) k x l in
    record {
      even = is_false (is_odd K) (first (not (is_odd K)) (length K == n) t);
      count = eqb-true (length K) n (is_true (length K == n) (second (not (is_odd K)) (length K == n) t));
    }

-- ---- joins with the extensor of no points

-- the one way to choose all entries
splits-more : {A : Type 0} (k : ℕ) (xs : List A) → length xs < k → splits k xs ≡ []
splits-more zero xs h = absurd (omega arith)
splits-more (suc k) [] h = refl
splits-more (suc k) (x ∷ xs) h = rw (splits-more k xs (omega arith), splits-more (suc k) xs (omega arith)) refl

splits-all : {A : Type 0} (xs : List A) → splits (length xs) xs ≡ (xs, []) ∷ []
splits-all [] = refl
splits-all (x ∷ xs) = rw (splits-all xs, splits-more (suc (length xs)) xs (omega arith)) refl

even_sign : (K : List ℕ) (f : Polynomial) → is_odd K ≡ false → signed Polynomials K f ≡ f
even_sign K f e = ap (λ b. cond b (Polynomials.neg f) f) e

one_times : (f : Polynomial) → Polynomials.◌⊗◌ Polynomials.𝟙 f ≡ f
one_times f = polynomial_ring.mul_comm Polynomials.𝟙 f ∙ polynomial_ring.mul_one f

join_nothing : (vs : List ℕ) (K : List ℕ) → is_odd K ≡ false
    → join Polynomials 0 (extensor Polynomials []) (extensor Polynomials (map free_point vs)) K
    ≡ extensor Polynomials (map free_point vs) K
unfolding join extensor
join_nothing vs K e =
    polynomial_ring.add_zero _ ∙ even_sign K _ e ∙ one_times _

join_with_nothing : (A : Coords Polynomials) (K : List ℕ) → is_odd K ≡ false
    → join Polynomials (length K) A (extensor Polynomials []) K ≡ A K
unfolding join extensor
join_with_nothing A K e =
    ap
    (sum_over Polynomials
    (λ s. signed Polynomials (s.0 ++ s.1) (Polynomials.◌⊗◌ (A s.0) (extensor Polynomials [] s.1))))
    (splits-all K)
    ∙ polynomial_ring.add_zero _ ∙ even_sign (K ++ []) _ (ap is_odd (append-nil K) ∙ e) ∙ polynomial_ring.mul_one (A K)

length-points : (us : List ℕ) → length (map free_point us) ≡ length us
length-points [] = refl
length-points (u ∷ us) = ap suc (length-points us)

map-points : (us vs : List ℕ) → map free_point (us ++ vs) ≡ map free_point us ++ map free_point vs
map-points [] vs = refl
map-points (u ∷ us) vs = ap (λ ps. free_point u ∷ ps) (map-points us vs)

abbrev free_extensor : List ℕ → Coords Polynomials
free_extensor us = extensor Polynomials (map free_point us)

-- in rank d, f has the coordinates of the join of the extensors of us and vs, which have m and n points
abbrev HasJoin : (d m n : ℕ) (us vs : List ℕ) (f : Coords Polynomials) → Type 0
HasJoin d m n us vs f =
    All (λ K. f K ≡ join Polynomials m (free_extensor us) (free_extensor vs) K) (subsets d (m + n))

-- the law of joins, in the words of its own lengths
abbrev LawAt : (d m n : ℕ) (us vs : List ℕ) (ps : List (Point Polynomials)) → Type 0
LawAt d m n us vs ps =
    All (λ K. join Polynomials m (free_extensor us) (free_extensor vs) K ≡ extensor Polynomials ps K)
    (subsets d (m + n))

joined_both : (d : ℕ) (us vs : List ℕ) → IsRank d → 1 ≤ length us → 1 ≤ length vs → length us + length vs ≤ d
    → LawAt d (length us) (length vs) us vs (map free_point (us ++ vs))
joined_both d us vs r a b h =
    let m : length (map free_point us) ≡ length us = length-points us in
    let n : length (map free_point vs) ≡ length vs = length-points vs in
    let both : List (Point Polynomials) = map free_point us ++ map free_point vs in
    let sizes : AreJoined d (map free_point us) (map free_point vs) =
    record { rank = r; first = omega arith; second = omega arith; few = omega arith } in
    subst (λ (ps : List (Point Polynomials)). LawAt d (length us) (length vs) us vs ps) (sym (map-points us vs))
    (subst (λ (i : ℕ). LawAt d i (length vs) us vs both) m
    (subst (λ (j : ℕ). LawAt d (length (map free_point us)) j us vs both) n
    (join-law polynomial_ring d (map free_point us) (map free_point vs) sizes)))

-- the join of the extensors of any two lists of points, no points included
joined_points : (d : ℕ) (us vs : List ℕ) → IsRank d → length us + length vs ≤ d
    → LawAt d (length us) (length vs) us vs (map free_point (us ++ vs))
joined_points d [] vs r h k x l = join_nothing vs _ (set_at d (0 + length vs) r h k x l).even
joined_points d (u ∷ us) [] r h k x l =
    let K : List ℕ = get_or (subsets d (length (u ∷ us) + 0)) k x in
    let s : IsSet (length (u ∷ us) + 0) K = set_at d (length (u ∷ us) + 0) r h k x l in
    let n : length (u ∷ us) ≡ length K = omega (arith, s.count) in
    ap (λ m. join Polynomials m (free_extensor (u ∷ us)) (extensor Polynomials []) K) n
    ∙ join_with_nothing (free_extensor (u ∷ us)) K s.even ∙ ap (λ ps. free_extensor ps K) (sym (append-nil (u ∷ us)))
joined_points d (u ∷ us) (v ∷ vs) r h k x l =
    joined_both d (u ∷ us) (v ∷ vs) r (omega arith) (omega arith) h k x l

-- ---- shared points

or_false : (a b : Bool) → (a || b) ≡ false → (a ≡ false) × (b ≡ false)
or_false true b h = absurd (true≢false h)
or_false false b h = (refl, h)

or_assoc : (a b c : Bool) → ((a || b) || c) ≡ (a || (b || c))
or_assoc true b c = refl
or_assoc false b c = refl

has-append : (us vs : List ℕ) (x : ℕ) → has (us ++ vs) x ≡ (has us x || has vs x)
has-append [] vs x = refl
has-append (u ∷ us) vs x = ap (λ b. (x == u) || b) (has-append us vs x) ∙ sym (or_assoc (x == u) (has us x) (has vs x))

-- two lists without repeats have a point twice exactly where they share one
pub repeats-append : (us vs : List ℕ) → repeats us ≡ false → repeats vs ≡ false → repeats (us ++ vs) ≡ share_point us vs
repeats-append [] vs h k = k
repeats-append (u ∷ us) vs h k =
    let parts : (has us u ≡ false) × (repeats us ≡ false) = or_false (has us u) (repeats us) h in
    ap (λ b. b || repeats (us ++ vs)) (has-append us vs u ∙ ap (λ b. b || has vs u) parts.0)
    ∙ ap (λ b. has vs u || b) (repeats-append us vs parts.1 k)

-- ---- the join of two extensors

by_sign-is : (ps : List ℕ) (f : Polynomial) → by_sign (sign_of ps) f ≡ signed Polynomials ps f
by_sign-is ps f =
    elim (is_odd ps) as (λ b. by_sign (cond b (negsuc 0) (pos 1)) f ≡ cond b (Polynomials.neg f) f) [
      | true ↦ refl
      | false ↦ refl
    ]

-- the coordinates of the sorted points with their sign
abbrev sorted_coordinates : List ℕ → Coords Polynomials
sorted_coordinates ps K = by_sign (sign_of ps) (free_extensor (sorted ps) K)

-- they are those of the join
joined_coordinates : (d : ℕ) (us vs : List ℕ) → IsRank d → length us + length vs ≤ d
    → HasJoin d (length us) (length vs) us vs (sorted_coordinates (us ++ vs))
joined_coordinates d us vs r h k x l =
    let ps : List ℕ = us ++ vs in
    let K : List ℕ = get_or (subsets d (length us + length vs)) k x in
    let n : length ps ≡ length us + length vs = length-append us vs in
    let lawful : All (λ K. free_extensor ps K ≡ signed Polynomials ps (free_extensor (sorted ps) K))
    (subsets d (length us + length vs)) =
    subst
    (λ (m : ℕ). All (λ K. free_extensor ps K ≡ signed Polynomials ps (free_extensor (sorted ps) K)) (subsets d m)) n
    (extensor-sorted Polynomials polynomial_ring free_point d ps r (omega arith)) in
    by_sign-is ps (free_extensor (sorted ps) K) ∙ sym (lawful k x l) ∙ sym (joined_points d us vs r h k x l)

-- and they are zero where a point comes twice
zero_coordinates : (d : ℕ) (us vs : List ℕ) → IsRank d → length us + length vs ≤ d → repeats (us ++ vs) ≡ true
    → HasJoin d (length us) (length vs) us vs (λ K. Polynomials.𝟘)
zero_coordinates d us vs r h t k x l =
    let ps : List ℕ = us ++ vs in
    let n : length ps ≡ length us + length vs = length-append us vs in
    let lawful : All (λ K. free_extensor ps K ≡ Polynomials.𝟘) (subsets d (length us + length vs)) =
    subst (λ (m : ℕ). All (λ K. free_extensor ps K ≡ Polynomials.𝟘) (subsets d m)) n
    (extensor-repeats Polynomials polynomial_ring free_point d ps r (omega arith) t) in
    sym (lawful k x l) ∙ sym (joined_points d us vs r h k x l)

-- what holds at the lengths of the lists holds at numbers that are these lengths
at_sizes : (d m n : ℕ) (us vs : List ℕ) (f : Coords Polynomials) → length us ≡ m → length vs ≡ n
    → HasJoin d (length us) (length vs) us vs f → HasJoin d m n us vs f
at_sizes d m n us vs f e g h =
    subst (λ (i : ℕ). HasJoin d i n us vs f) e (subst (λ (j : ℕ). HasJoin d (length us) j us vs f) g h)

-- the same in the words of the answer
pub some_coordinates : (d m n : ℕ) (us vs : List ℕ) → length us ≡ m → length vs ≡ n → (s : ℤ) (ps : List ℕ)
    → s ≡ sign_of (us ++ vs) → ps ≡ sorted (us ++ vs) → IsRank d → m + n ≤ d
    → All (λ K. by_sign s (free_extensor ps K) ≡ join Polynomials m (free_extensor us) (free_extensor vs) K)
    (subsets d (m + n))
some_coordinates d m n us vs e f s ps g h r few =
    subst (λ (z : ℤ). HasJoin d m n us vs (λ K. by_sign z (free_extensor ps K))) (sym g)
    (subst (λ (qs : List ℕ). HasJoin d m n us vs (λ K. by_sign (sign_of (us ++ vs)) (free_extensor qs K))) (sym h)
    (at_sizes d m n us vs (sorted_coordinates (us ++ vs)) e f (joined_coordinates d us vs r (omega arith))))

pub none_coordinates : (d m n : ℕ) (us vs : List ℕ) → length us ≡ m → length vs ≡ n → repeats (us ++ vs) ≡ true
    → IsRank d → m + n ≤ d
    → All (λ K. Polynomials.𝟘 ≡ join Polynomials m (free_extensor us) (free_extensor vs) K) (subsets d (m + n))
none_coordinates d m n us vs e f t r few =
    at_sizes d m n us vs (λ K. Polynomials.𝟘) e f (zero_coordinates d us vs r (omega arith) t)

-- ---- what the code does

-- the sorted points in front of the unused places
pub in_front : (n : ℕ) (qs places : List ℕ) → length qs ≡ n → take n (qs ++ places) ≡ qs
in_front n qs places e = ap (λ m. take m (qs ++ places)) (sym e) ∙ take-append_seam qs places

pub length-points_of : (size : ℕ) (places : List ℕ) → IsExtensor size places → length (take size places) ≡ size
length-points_of size places f = length-take-le size places (let four = f.four in let few = f.few in omega arith)
