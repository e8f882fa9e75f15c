-- Brackets and van der Waerden sums (Sturmfels, Algorithms in Invariant Theory, section 3.1); join, meet, extensors and
-- the shuffle product of the Grassmann-Cayley algebra (section 3.3). All are defined over the operations of any ring.
use Rattle.std.specs.Prelude.{ℕ, suc, ◌+◌, ◌-◌, if◌then◌else◌, List, [], ◌∷◌, ◌++◌, length}
use Rattle.coordinate_model.specs.Ring.{Ops}
use Rattle.coordinate_model.specs.Sequences.{is_odd, range, columns, permutations, splits, at_places, subsets}
use Rattle.coordinate_model.specs.Sequences.{without, meets_in}

module _ (R : Ops) where
  infixl 45 ◌⊕◌
  infixl 55 ◌⊗◌
  open R use {carrier, 𝟘, 𝟙, ◌⊕◌, ◌⊗◌, neg}

  -- a point, by its coordinates: the columns are 1, .., d
  abbrev pub Point : Type 0
  Point = ℕ → carrier

  -- the sum of f over the entries of the list
  abbrev pub sum_over : {X : Type 0} → (X → carrier) → List X → carrier
  sum_over f [] = 𝟘
  sum_over f (x ∷ xs) = f x ⊕ sum_over f xs

  -- the sign of the sequence times a
  abbrev pub signed : List ℕ → carrier → carrier
  signed xs a = if is_odd xs then neg a else a

  -- the product p1(w1) * p2(w2) * ..
  abbrev pub product : List Point → List ℕ → carrier
  product [] w = 𝟙
  product (p ∷ ps) [] = 𝟙
  product (p ∷ ps) (j ∷ w) = p j ⊗ product ps w

  -- the bracket of d points: the sum over the permutations w of 1, .., d of sign(w) * p1(w1) * .. * pd(wd)
  unfoldable pub bracket : List Point → carrier
  bracket ps = sum_over (λ w. signed w (product ps w)) (permutations (columns (length ps)))

  -- the van der Waerden sum, for brackets br of points of any kind: over the splits of the places of β into
  -- τ, one more than α has points, and the others τ*, the sum of sign(τ, τ*) * [α β(τ*)] * [β(τ) γ]
  unfoldable pub syzygy : {P : Type 0} → (List P → carrier) → List P → List P → List P → carrier
  syzygy br α β γ =
      sum_over
      (λ t. signed (t.0 ++ t.1) (br (α ++ at_places β t.1) ⊗ br (at_places β t.0 ++ γ)))
      (splits (length α + 1) (range (length β)))

  -- the Pluecker coordinates of an object of step k in rank d: one for each set of k columns, as its ascending list
  abbrev pub Coords : Type 0
  Coords = List ℕ → carrier

  -- a point is an object of step 1: it has its coordinate j at {j}, and no other list of columns is asked for
  abbrev pub of_point : Point → Coords
  of_point p [] = 𝟘
  of_point p (j ∷ js) = p j

  -- the join of A, of step a, and B: at K the sum over the splits of K into I, of a columns, and J
  -- of sign(I, J) * A(I) * B(J)
  unfoldable pub join : ℕ → Coords → Coords → Coords
  join a A B K = sum_over (λ s. signed (s.0 ++ s.1) (A s.0 ⊗ B s.1)) (splits a K)

  -- A, of step a, joined with one point after the other
  unfoldable pub join_points : ℕ → Coords → List Point → Coords
  join_points a A [] = A
  join_points a A (p ∷ ps) = join_points (suc a) (join a A (of_point p)) ps

  -- the extensor of the points: their join from the left
  unfoldable pub extensor : List Point → Coords
  extensor [] = λ K. 𝟙
  extensor (p ∷ ps) = join_points 1 (of_point p) ps

  -- the meet in rank d of A, of step a, and B, of step b: at K the sum over all sets I and J of columns with union
  -- 1, .., d and intersection K of sign(I - K, K) * sign(I - K, J) * A(I) * B(J), where I has a columns and J has b
  unfoldable pub meet : ℕ → ℕ → ℕ → Coords → Coords → Coords
  meet d a b A B K =
      sum_over
      (λ I. sum_over
      (λ J. if meets_in d K I J then signed (without I K ++ K) (signed (without I K ++ J) (A I ⊗ B J)) else 𝟘)
      (subsets d b))
      (subsets d a)

  -- the shuffle product in rank d of the extensors of us and vs: over the splits of the places of us into chosen ones,
  -- as many as vs lacks to d points, and the rest, the sum of sign(chosen, rest) * [chosen vs] times the extensor of
  -- the rest
  unfoldable pub shuffle : ℕ → List Point → List Point → Coords
  shuffle d us vs K =
      sum_over
      (λ t. signed (t.0 ++ t.1) (bracket (at_places us t.0 ++ vs) ⊗ extensor (at_places us t.1) K))
      (splits (d - length vs) (range (length us)))

  -- the object s * A + t * B, such as a point on the line of two points
  unfoldable pub on : carrier → carrier → Coords → Coords → Coords
  on s t A B K = s ⊗ A K ⊕ t ⊗ B K

  -- the three-term sum [S a b][S c e] - [S a c][S b e] + [S a e][S b c], for brackets br of points of any kind
  unfoldable pub three_term : {P : Type 0} → (List P → carrier) → List P → (a b c e : P) → carrier
  three_term {P} br S a b c e =
      let at = λ (p q : P). br (S ++ p ∷ q ∷ []) in
      at a b ⊗ at c e ⊕ neg (at a c ⊗ at b e) ⊕ at a e ⊗ at b c

  -- the six-point polynomial [123][145][246][356] - [124][135][236][456] of rank 3, for brackets br of points of any
  -- kind: it is zero where six points of the plane are on a conic
  unfoldable pub six_point : {P : Type 0} → (List P → carrier) → (p1 p2 p3 p4 p5 p6 : P) → carrier
  six_point {P} br p1 p2 p3 p4 p5 p6 =
      let at = λ (p q r : P). br (p ∷ q ∷ r ∷ []) in
      at p1 p2 p3 ⊗ at p1 p4 p5 ⊗ at p2 p4 p6 ⊗ at p3 p5 p6
      ⊕ neg (at p1 p2 p4 ⊗ at p1 p3 p5 ⊗ at p2 p3 p6 ⊗ at p4 p5 p6)

  -- the bracket of three objects of step 1 in rank 3: the coordinate of their join from the left at all columns
  abbrev pub join_bracket : List Coords → carrier
  join_bracket (A ∷ B ∷ C ∷ []) = join 2 (join 1 A B) C (columns 3)
  join_bracket others = 𝟘
