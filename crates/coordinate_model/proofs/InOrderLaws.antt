-- In a commutative ring the order of computing does not matter.
use Rattle.std.proofs.Common.{◌≡◌, refl, sym, ap, ap₂, ◌∙◌, ℕ, List, [], ◌∷◌, ◌++◌, map, length}
use Rattle.std.proofs.Common.{Bool, true, false, T, cond, arith}
use Rattle.std.specs.Prelude.{fold, filter}
use Rattle.std.specs.List.{flat_map}
use Rattle.std.proofs.lemmas.List.{length-map}
use Rattle.coordinate_model.specs.Ring.{Ops, IsCommRing, IsHom}
use Rattle.coordinate_model.specs.Sequences.{IsRank, columns, splits, subsets, meets_in, without}
use Rattle.coordinate_model.specs.Brackets.{Point, Coords, sum_over, signed, bracket, join, meet, join_bracket}
use Rattle.coordinate_model.specs.Brackets.{six_point}
use Rattle.coordinate_model.proofs.RingLemmas.{zero_add}
use Rattle.coordinate_model.proofs.Ranks.{by_rank}
use Rattle.coordinate_model.proofs.Hom.{to_point, signed-hom, mul-hom, bracket-hom}
use Rattle.coordinate_model.proofs.Generic.{generic, values_at, places-are, entry}
use Rattle.coordinate_model.proofs.Grid.{Polys, meaning, add, negate, is_zero, equal_of_test}
use Rattle.coordinate_model.proofs.JoinLaws.{join_bracket-points}
use Rattle.coordinate_model.specs.InOrder.{orders, meeting_pairs, sum_in_order, product_behind, bracket_in_order}
use Rattle.coordinate_model.specs.InOrder.{join_in_order, meet_in_order, point_of, conic_in_order}

-- ---- what a map that keeps the operations keeps

module _ (A B : Ops) {to : A.carrier → B.carrier} (h : IsHom A B to) where
  open h use {to_zero, to_one, to_add, to_mul, to_neg}

  sum_behind-hom : {X : Type 0} (f : X → A.carrier) (g : X → B.carrier) → ((x : X) → to (f x) ≡ g x) → (xs : List X)
      → (a : A.carrier) (b : B.carrier) → to a ≡ b
      → to (fold (λ sum x. A.◌⊕◌ sum (f x)) a xs) ≡ fold (λ sum x. B.◌⊕◌ sum (g x)) b xs
  sum_behind-hom f g e [] a b s = s
  sum_behind-hom f g e (x ∷ xs) a b s =
      sum_behind-hom f g e xs (A.◌⊕◌ a (f x)) (B.◌⊕◌ b (g x)) (to_add a (f x) ∙ ap₂ B.◌⊕◌ s (e x))

  product_behind-hom : (ps : List (Point A)) (w : List ℕ) (a : A.carrier) (b : B.carrier) → to a ≡ b
      → to (product_behind A a ps w) ≡ product_behind B b (map (to_point A B h) ps) w
  product_behind-hom [] w a b s = s
  product_behind-hom (p ∷ ps) [] a b s = s
  product_behind-hom (p ∷ ps) (j ∷ w) a b s =
      product_behind-hom ps w (A.◌⊗◌ a (p j)) (B.◌⊗◌ b (to (p j))) (mul-hom A B h s refl)

  pub bracket_in_order-hom : (ps : List (Point A))
      → to (bracket_in_order A ps) ≡ bracket_in_order B (map (to_point A B h) ps)
  unfolding bracket_in_order
  bracket_in_order-hom ps =
      sum_behind-hom _ _ (λ w. signed-hom A B h w (product_behind-hom ps w A.𝟙 B.𝟙 to_one))
      (orders (columns (length ps)))
      A.𝟘 B.𝟘 to_zero
      ∙ ap (λ n. sum_in_order B (λ w. signed B w (product_behind B B.𝟙 (map (to_point A B h) ps) w))
      (orders (columns n)))
      (sym (length-map ps (to_point A B h)))

-- ---- brackets

-- whether the bracket of generic points is that of their permutations in lexicographic order
abbrev same_at : ℕ → Bool
same_at d = is_zero (add (bracket_in_order Polys (generic 0 d)) (negate (bracket Polys (generic 0 d))))

same_2 : T (same_at 2)
unfolding bracket bracket_in_order
same_2 = tt

same_3 : T (same_at 3)
unfolding bracket bracket_in_order
same_3 = tt

same_4 : T (same_at 4)
unfolding bracket bracket_in_order
same_4 = tt

module _ (A : Ops) (R : IsCommRing A) where
  infixl 45 ◌⊕◌
  infixl 55 ◌⊗◌
  open A use {carrier, 𝟘, 𝟙, ◌⊕◌, ◌⊗◌, neg}

  same_of_generic : (us : List (Point A)) → T (same_at (length us)) → bracket_in_order A us ≡ bracket A us
  same_of_generic us t =
      sym (ap (bracket_in_order A) are) ∙ sym (bracket_in_order-hom Polys A h us')
      ∙ equal_of_test A R (entry A R (us ++ [])) (bracket_in_order Polys us') (bracket Polys us') t
      ∙ bracket-hom Polys A h us' ∙ ap (bracket A) are
    where
      h : IsHom Polys A (meaning A R (entry A R (us ++ [])))
      h = values_at A R (us ++ [])

      us' : List (Point Polys)
      us' = generic 0 (length us)

      are : map (to_point Polys A h) us' ≡ us
      are = places-are A R [] us []

  -- the bracket, whatever the order of the permutations
  pub bracket-in_order : (us : List (Point A)) → IsRank (length us) → bracket_in_order A us ≡ bracket A us
  bracket-in_order us r = same_of_generic us (by_rank (λ d. T (same_at d)) same_2 same_3 same_4 (length us) r)

  -- ---- sums

  sum-behind : {X : Type 0} (f : X → carrier) (xs : List X) (a : carrier)
      → fold (λ sum x. sum ⊕ f x) a xs ≡ a ⊕ sum_over A f xs
  sum-behind f [] a = sym (R.add_zero a)
  sum-behind f (x ∷ xs) a = sum-behind f xs (a ⊕ f x) ∙ R.add_assoc a (f x) (sum_over A f xs)

  pub sum-in_order : {X : Type 0} (f : X → carrier) (xs : List X) → sum_in_order A f xs ≡ sum_over A f xs
  sum-in_order f xs = sum-behind f xs 𝟘 ∙ zero_add A R (sum_over A f xs)

  pub join-in_order : (a : ℕ) (B C : Coords A) (K : List ℕ) → join_in_order A a B C K ≡ join A a B C K
  unfolding join join_in_order
  join-in_order a B C K = sum-in_order (λ s. signed A (s.0 ++ s.1) (B s.0 ⊗ C s.1)) (splits a K)

  sum_over-append : {X : Type 0} (f : X → carrier) (xs ys : List X)
      → sum_over A f (xs ++ ys) ≡ sum_over A f xs ⊕ sum_over A f ys
  sum_over-append f [] ys = sym (zero_add A R (sum_over A f ys))
  sum_over-append f (x ∷ xs) ys =
      ap (λ y. f x ⊕ y) (sum_over-append f xs ys) ∙ sym (R.add_assoc (f x) (sum_over A f xs) (sum_over A f ys))

  -- the entries that count, beside the one I
  sum_over-counted : (f : List ℕ × List ℕ → carrier) (counts : List ℕ → Bool) (I : List ℕ) (Js : List (List ℕ))
      → sum_over A f (map (λ J. (I, J)) (filter counts Js)) ≡ sum_over A (λ J. cond (counts J) (f (I, J)) 𝟘) Js
  sum_over-counted f counts I [] = refl
  sum_over-counted f counts I (J ∷ Js) = by_test (counts J) (sum_over-counted f counts I Js)
    where
      by_test : (b : Bool) → sum_over A f (map (λ J. (I, J)) (filter counts Js))
          ≡ sum_over A (λ J. cond (counts J) (f (I, J)) 𝟘) Js
          → sum_over A f (map (λ J. (I, J)) (cond b (J ∷ filter counts Js) (filter counts Js)))
          ≡ cond b (f (I, J)) 𝟘 ⊕ sum_over A (λ J. cond (counts J) (f (I, J)) 𝟘) Js
      by_test true e = ap (λ y. f (I, J) ⊕ y) e
      by_test false e = e ∙ sym (zero_add A R _)

  sum_over-pairs : (f : List ℕ × List ℕ → carrier) (counts : List ℕ → List ℕ → Bool) (Is Js : List (List ℕ))
      → sum_over A f (flat_map (λ I. map (λ J. (I, J)) (filter (counts I) Js)) Is)
      ≡ sum_over A (λ I. sum_over A (λ J. cond (counts I J) (f (I, J)) 𝟘) Js) Is
  sum_over-pairs f counts [] Js = refl
  sum_over-pairs f counts (I ∷ Is) Js =
      sum_over-append f (map (λ J. (I, J)) (filter (counts I) Js)) _
      ∙ ap₂ ◌⊕◌ (sum_over-counted f (counts I) I Js) (sum_over-pairs f counts Is Js)

  pub meet-in_order : (d a b : ℕ) (B C : Coords A) (K : List ℕ) → meet_in_order A d a b B C K ≡ meet A d a b B C K
  unfolding meet meet_in_order
  meet-in_order d a b B C K =
      sum-in_order _ (meeting_pairs d a b K)
      ∙ sum_over-pairs (λ s. signed A (without s.0 K ++ K) (signed A (without s.0 K ++ s.1) (B s.0 ⊗ C s.1)))
      (λ I J. meets_in d K I J) (subsets d a) (subsets d b)

  -- ---- six points

  bracket_of_three : (B C D : Coords A)
      → bracket_in_order A (map (point_of A) (B ∷ C ∷ D ∷ [])) ≡ join_bracket A (B ∷ C ∷ D ∷ [])
  unfolding join
  bracket_of_three B C D =
      bracket-in_order (point_of A B ∷ point_of A C ∷ point_of A D ∷ []) (omega arith, omega arith)
      ∙ sym (join_bracket-points R (point_of A B) (point_of A C) (point_of A D))

  pub conic-in_order : (p1 p2 p3 p4 p5 p6 : Coords A)
      → conic_in_order A p1 p2 p3 p4 p5 p6 ≡ six_point A (join_bracket A) p1 p2 p3 p4 p5 p6
  unfolding six_point
  conic-in_order p1 p2 p3 p4 p5 p6 =
      let at = bracket_of_three in
      ap₂ (λ x y. x ⊕ neg y)
      (ap₂ ◌⊗◌ (ap₂ ◌⊗◌ (ap₂ ◌⊗◌ (at p1 p2 p3) (at p1 p4 p5)) (at p2 p4 p6)) (at p3 p5 p6))
      (ap₂ ◌⊗◌ (ap₂ ◌⊗◌ (ap₂ ◌⊗◌ (at p1 p2 p4) (at p1 p3 p5)) (at p2 p3 p6)) (at p4 p5 p6))
