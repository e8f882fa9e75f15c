-- Brackets, joins, meets and six-point polynomials with the order in which they are computed, over the operations of
-- any ring: sums from the left, from 0 on; products from the left; permutations and sets of columns in lexicographic
-- order.
use Rattle.std.specs.Prelude.{ℕ, zero, suc, List, [], ◌∷◌, ◌++◌, map, filter, fold, length}
use Rattle.std.specs.List.{flat_map}
use Rattle.coordinate_model.specs.Ring.{Ops}
use Rattle.coordinate_model.specs.Sequences.{columns, splits, subsets, without, meets_in}
use Rattle.coordinate_model.specs.Brackets.{Point, Coords, signed, six_point}

module _ {A : Type 0} where
  -- every way to put k entries in order, by the entry that comes first, then by the second, and so on
  abbrev pub orders_of : ℕ → List A → List (List A)
  orders_of zero xs = [] ∷ []
  orders_of (suc k) xs = flat_map (λ s. map (λ ys. s.0 ++ ys) (orders_of k s.1)) (splits 1 xs)

  -- every order of the list: of an ascending one they ascend lexicographically
  abbrev pub orders : List A → List (List A)
  orders xs = orders_of (length xs) xs

-- the pairs of a set of a columns and a set of b columns with union 1, .., d and intersection K, by the first set and
-- then by the second
abbrev pub meeting_pairs : ℕ → ℕ → ℕ → List ℕ → List (List ℕ × List ℕ)
meeting_pairs d a b K =
    flat_map (λ I. map (λ J. (I, J)) (filter (λ J. meets_in d K I J) (subsets d b))) (subsets d a)

module _ (R : Ops) where
  infixl 45 ◌⊕◌
  infixl 55 ◌⊗◌
  open R use {carrier, 𝟘, 𝟙, ◌⊕◌, ◌⊗◌, neg}

  -- the sum of f over the entries, from 0 on, the first entry first
  abbrev pub sum_in_order : {X : Type 0} → (X → carrier) → List X → carrier
  sum_in_order f xs = fold (λ sum x. sum ⊕ f x) 𝟘 xs

  -- a * p1(w1) * p2(w2) * .., from the left
  abbrev pub product_behind : carrier → List (Point R) → List ℕ → carrier
  product_behind a [] w = a
  product_behind a (p ∷ ps) [] = a
  product_behind a (p ∷ ps) (j ∷ w) = product_behind (a ⊗ p j) ps w

  -- the bracket of d points: over the permutations w of 1, .., d in lexicographic order, each product
  -- p1(w1) * .. * pd(wd) with its sign, added up
  unfoldable pub bracket_in_order : List (Point R) → carrier
  bracket_in_order ps =
      sum_in_order (λ w. signed R w (product_behind 𝟙 ps w)) (orders (columns (length ps)))

  -- the join of A, of step a, and B: at K the sets I of a of its columns in lexicographic order, with the others, J
  unfoldable pub join_in_order : ℕ → Coords R → Coords R → Coords R
  join_in_order a A B K = sum_in_order (λ s. signed R (s.0 ++ s.1) (A s.0 ⊗ B s.1)) (splits a K)

  -- the meet in rank d of A, of step a, and B, of step b: at K the pairs of sets I and J that meet in K
  unfoldable pub meet_in_order : ℕ → ℕ → ℕ → Coords R → Coords R → Coords R
  meet_in_order d a b A B K =
      sum_in_order
      (λ s. signed R (without s.0 K ++ K) (signed R (without s.0 K ++ s.1) (A s.0 ⊗ B s.1)))
      (meeting_pairs d a b K)

  -- the point of an object of step 1
  abbrev pub point_of : Coords R → Point R
  point_of A j = A (j ∷ [])

  -- the six-point polynomial of six objects of step 1
  abbrev pub conic_in_order : (p1 p2 p3 p4 p5 p6 : Coords R) → carrier
  conic_in_order = six_point R (λ As. bracket_in_order (map point_of As))
