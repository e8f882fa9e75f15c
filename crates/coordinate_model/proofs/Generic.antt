-- Points with variables for coordinates: what holds of them by computing holds of the points of every commutative ring.
use Rattle.std.proofs.Common.{◌≡◌, refl, sym, ap, ap₂, ◌∙◌, subst, subst₂, ℕ, zero, suc, ◌+◌, List, [], ◌∷◌, ◌++◌}
use Rattle.std.proofs.Common.{map, length, append_assoc, append-nil, T, Bool, ◌&&◌, All, true, false, get_or, ◌<◌}
use Rattle.std.proofs.Common.{arith}
use Rattle.std.specs.List.{list_all}
use mathlib.Core.Path.{fun_ext, subst₃}
use lib.ListN.{length-append}
use Rattle.std.proofs.lemmas.List.{length-map}
use Rattle.coordinate_model.specs.Ring.{Ops, IsCommRing, IsHom}
use Rattle.coordinate_model.specs.Sequences.{range_from, columns, subsets}
use Rattle.coordinate_model.specs.Brackets.{Point, bracket, syzygy, join, shuffle, meet, extensor}
use Rattle.coordinate_model.proofs.Hom.{to_point, bracket-hom, syzygy-hom, shuffle-hom, meet-hom, extensor-hom}
use Rattle.coordinate_model.proofs.Hom.{map-append, join-hom}
use Rattle.coordinate_model.proofs.Splits.{length-range_from}
use Rattle.coordinate_model.proofs.Grid.{Polys, meaning, variable, is_zero, add, negate, variable-is, values}
use Rattle.coordinate_model.proofs.Grid.{zero_of_test, equal_of_test}

-- the points n, n + 1, .., k of them, with variables for coordinates
abbrev pub generic : ℕ → ℕ → List (Point Polys)
generic n k = map variable (range_from n k)

map-range_suc : {A : Type 0} (f : ℕ → A) (n k : ℕ)
    → map f (range_from (suc n) k) ≡ map (λ i. f (suc i)) (range_from n k)
map-range_suc f n zero = refl
map-range_suc {A} f n (suc k) = ap {B = List A} (λ r. f (suc n) ∷ r) (map-range_suc f (suc n) k)

pub all_pass : {A : Type 0} (test : A → Bool) (xs : List A) → T (list_all test xs) → All (λ x. T (test x)) xs
all_pass test [] t k d h = absurd (omega arith)
all_pass test (x ∷ xs) t k d h = by_parts (test x) refl t k h (all_pass test xs)
  where
    by_parts : (b : Bool) → test x ≡ b → T (b && list_all test xs) → (k : ℕ) → k < suc (length xs)
        → (T (list_all test xs) → All (λ x. T (test x)) xs) → T (test (get_or (x ∷ xs) k d))
    by_parts true e t zero h rest = subst T (sym e) tt
    by_parts true e t (suc k) h rest = rest t k d (omega arith)
    by_parts false e t k h rest = absurd t

-- whether the van der Waerden sum of generic points, a and b and g of them, is zero
abbrev pub vanish_at : ℕ → ℕ → ℕ → Bool
vanish_at a b g = is_zero (syzygy Polys (bracket Polys) (generic 0 a) (generic a b) (generic (a + b) g))

-- the extensor of generic points, at a list of columns
abbrev pub extensor_of : List ℕ → List ℕ → Polys.carrier
extensor_of K is = extensor Polys (map variable is) K

-- whether the extensors of two lists of generic points are opposite there
abbrev pub opposed : List ℕ → List ℕ → List ℕ → Bool
opposed K is js = is_zero (add (extensor_of K is) (negate (negate (extensor_of K js))))

-- whether the extensor of generic points is zero there
abbrev pub vanishes : List ℕ → List ℕ → Bool
vanishes K is = is_zero (extensor_of K is)

-- whether the shuffle sum and the meet of generic points, j and k of them, have one coordinate at K
abbrev pub agree_at : ℕ → ℕ → ℕ → List ℕ → Bool
agree_at d j k K =
    is_zero
    (add
    (shuffle Polys d (generic 0 j) (generic j k) K)
    (negate (meet Polys d j k (extensor Polys (generic 0 j)) (extensor Polys (generic j k)) K)))

-- whether the join of generic points, j and k of them, and their extensor have one coordinate at K
abbrev pub join_at : ℕ → ℕ → List ℕ → Bool
join_at j k K =
    is_zero
    (add
    (join Polys j (extensor Polys (generic 0 j)) (extensor Polys (generic j k)) K)
    (negate (extensor Polys (generic 0 j ++ generic j k) K)))

-- whether d generic points have their bracket at all columns
abbrev pub full_at : ℕ → Bool
full_at d = is_zero (add (extensor Polys (generic 0 d) (columns d)) (negate (bracket Polys (generic 0 d))))

module _ (A : Ops) (R : IsCommRing A) where
  -- lists of points
  abbrev Points : Type 0
  Points = List (Point A)

  -- the point at the place
  abbrev pub entry : Points → ℕ → Point A
  entry ps i = get_or ps i (λ j. A.𝟘)

  -- the places of xs in a longer list have its points
  at_range : (before xs after : Points) → map (entry (before ++ (xs ++ after))) (range_from (length before) (length xs))
      ≡ xs
  at_range [] [] after = refl
  at_range [] (x ∷ xs) after =
      ap {B = Points} (λ r. x ∷ r) (map-range_suc (entry (x ∷ xs ++ after)) zero (length xs) ∙ at_range [] xs after)
  at_range (y ∷ before) xs after =
      map-range_suc (entry (y ∷ before ++ (xs ++ after))) (length before) (length xs) ∙ at_range before xs after

  module _ (ps : Points) where
    -- the values of polynomials at the points
    abbrev pub values_at : IsHom Polys A (meaning A R (entry ps))
    values_at = values A R (entry ps)

    generic-is : (is : List ℕ) → map (to_point Polys A values_at) (map variable is) ≡ map (entry ps) is
    generic-is [] = refl
    generic-is (i ∷ is) = ap₂ {C = Points} (λ p r. p ∷ r) (fun_ext (variable-is A R (entry ps) i)) (generic-is is)

    -- the value of the bracket of generic points
    pub bracket-generic : (is : List ℕ) → meaning A R (entry ps) (bracket Polys (map variable is)) ≡ bracket A
        (map (entry ps) is)
    bracket-generic is = bracket-hom Polys A values_at (map variable is) ∙ ap (bracket A) (generic-is is)

    -- the value of the extensor of generic points
    pub extensor-generic : (K is : List ℕ)
        → meaning A R (entry ps) (extensor_of K is) ≡ extensor A (map (entry ps) is) K
    extensor-generic K is =
        extensor-hom Polys A values_at (map variable is) K ∙ ap (λ us. extensor A us K) (generic-is is)

    -- two extensors of points are opposite where those of generic points are
    pub opposite_extensors : (K is js : List ℕ) → T (opposed K is js)
        → extensor A (map (entry ps) is) K ≡ A.neg (extensor A (map (entry ps) js) K)
    opposite_extensors K is js t =
        sym (extensor-generic K is) ∙ equal_of_test A R (entry ps) (extensor_of K is) (negate (extensor_of K js)) t
        ∙ values_at.to_neg (extensor_of K js) ∙ ap A.neg (extensor-generic K js)

    -- and zero where that of generic points is
    pub zero_extensor : (K is : List ℕ) → T (vanishes K is) → extensor A (map (entry ps) is) K ≡ A.𝟘
    zero_extensor K is t = sym (extensor-generic K is) ∙ zero_of_test A R (entry ps) (extensor_of K is) t

  -- the values of the generic points at the places of xs are xs
  pub places-are : (before xs after : Points)
      → map (to_point Polys A (values_at (before ++ (xs ++ after)))) (generic (length before) (length xs)) ≡ xs
  places-are before xs after =
      generic-is (before ++ (xs ++ after)) (range_from (length before) (length xs)) ∙ at_range before xs after

  -- where the sum of generic points is zero, so is the sum of any points
  syzygy_of_generic : (d : ℕ) (α β γ : Points) → length β ≡ d + 1 → length α + length γ + 1 ≡ d
      → T (is_zero (syzygy Polys (bracket Polys) (generic 0 (length α)) (generic (length α) (length β))
      (generic (length (α ++ β)) (length γ))))
      → syzygy A (bracket A) α β γ ≡ A.𝟘
  syzygy_of_generic d α β γ sb so t =
      sym (ap₂ (λ p q. syzygy A (bracket A) p q γ) first second)
      ∙ ap (syzygy A (bracket A) (to α') (to β')) (sym third)
      ∙ sym (syzygy-hom Polys A h (to_point Polys A h) (bracket Polys) (bracket A) d
      (λ qs l. bracket-hom Polys A h qs) α' β' γ' sb' so')
      ∙ zero_of_test A R (entry ps) (syzygy Polys (bracket Polys) α' β' γ') t
    where
      ps : Points
      ps = α ++ (β ++ γ)

      h : IsHom Polys A (meaning A R (entry ps))
      h = values_at ps

      α' : List (Point Polys)
      α' = generic 0 (length α)

      β' : List (Point Polys)
      β' = generic (length α) (length β)

      γ' : List (Point Polys)
      γ' = generic (length (α ++ β)) (length γ)

      length-generic : (n k : ℕ) → length (generic n k) ≡ k
      length-generic n k = length-map (range_from n k) variable ∙ length-range_from n k

      sb' : length β' ≡ d + 1
      sb' = length-generic (length α) (length β) ∙ sb

      so' : length α' + length γ' + 1 ≡ d
      so' = ap₂ (λ k l. k + l + 1) (length-generic 0 (length α)) (length-generic (length (α ++ β)) (length γ)) ∙ so

      to : List (Point Polys) → Points
      to = map (to_point Polys A h)

      first : to α' ≡ α
      first = places-are [] α (β ++ γ)

      second : to β' ≡ β
      second = places-are α β γ

      third : to γ' ≡ γ
      third =
          subst (λ qs. map (to_point Polys A (values_at qs)) γ' ≡ γ)
          (append_assoc α β (γ ++ []) ∙ ap (λ r. α ++ (β ++ r)) (append-nil γ))
          (places-are (α ++ β) γ [])

  -- the same for numbers that the lengths are known to be
  pub syzygy_zero : (d a g : ℕ) → a + g + 1 ≡ d → T (vanish_at a (d + 1) g) → (α β γ : Points)
      → length α ≡ a → length β ≡ d + 1 → length γ ≡ g → syzygy A (bracket A) α β γ ≡ A.𝟘
  syzygy_zero d a g s t α β γ ea eb eg =
      syzygy_of_generic d α β γ eb (ap₂ (λ k l. k + l + 1) ea eg ∙ s)
      (subst
      (λ n. T (is_zero (syzygy Polys (bracket Polys) (generic 0 (length α)) (generic (length α) (length β))
      (generic n (length γ)))))
      (sym (length-append α β))
      (subst₃ (λ k l m. T (vanish_at k l m)) (sym ea) (sym eb) (sym eg) t))

  -- where the shuffle sum and the meet of generic points agree, so do those of any points
  shuffle_of_generic : (d : ℕ) (us vs : Points) (K : List ℕ) → T (agree_at d (length us) (length vs) K)
      → shuffle A d us vs K ≡ meet A d (length us) (length vs) (extensor A us) (extensor A vs) K
  shuffle_of_generic d us vs K t =
      sym (ap₂ (λ p q. shuffle A d p q K) first second)
      ∙ sym (shuffle-hom Polys A h d us' vs' K)
      ∙ equal_of_test A R (entry ps) (shuffle Polys d us' vs' K)
      (meet Polys d (length us) (length vs) (extensor Polys us') (extensor Polys vs') K) t
      ∙ meet-hom Polys A h d (length us) (length vs) (extensor-hom Polys A h us') (extensor-hom Polys A h vs') K
      ∙ ap₂ (λ p q. meet A d (length us) (length vs) (extensor A p) (extensor A q) K) first second
    where
      ps : Points
      ps = us ++ (vs ++ [])

      h : IsHom Polys A (meaning A R (entry ps))
      h = values_at ps

      us' : List (Point Polys)
      us' = generic 0 (length us)

      vs' : List (Point Polys)
      vs' = generic (length us) (length vs)

      first : map (to_point Polys A h) us' ≡ us
      first = places-are [] us (vs ++ [])

      second : map (to_point Polys A h) vs' ≡ vs
      second = places-are us vs []

  -- the same at each list of columns
  pub shuffle_all : (d j k m : ℕ) → T (list_all (agree_at d j k) (subsets d m)) → (us vs : Points) → length us ≡ j
      → length vs ≡ k
      → All (λ K. shuffle A d us vs K ≡ meet A d (length us) (length vs) (extensor A us) (extensor A vs) K)
      (subsets d m)
  shuffle_all d j k m t us vs ej ek i x h =
      shuffle_of_generic d us vs (get_or (subsets d m) i x)
      (all_pass (agree_at d (length us) (length vs)) (subsets d m)
      (subst₂ (λ n l. T (list_all (agree_at d n l) (subsets d m))) (sym ej) (sym ek) t) i x h)

  -- where the join and the extensor of generic points agree, so do those of any points
  join_of_generic : (us vs : Points) (K : List ℕ) → T (join_at (length us) (length vs) K)
      → join A (length us) (extensor A us) (extensor A vs) K ≡ extensor A (us ++ vs) K
  join_of_generic us vs K t =
      sym (ap₂ (λ p q. join A (length us) (extensor A p) (extensor A q) K) first second)
      ∙ sym (join-hom Polys A h (length us) (extensor-hom Polys A h us') (extensor-hom Polys A h vs') K)
      ∙ equal_of_test A R (entry ps) (join Polys (length us) (extensor Polys us') (extensor Polys vs') K)
      (extensor Polys (us' ++ vs') K) t
      ∙ extensor-hom Polys A h (us' ++ vs') K
      ∙ ap (λ p. extensor A p K) (map-append (to_point Polys A h) us' vs' ∙ ap₂ (λ p q. p ++ q) first second)
    where
      ps : Points
      ps = us ++ (vs ++ [])

      h : IsHom Polys A (meaning A R (entry ps))
      h = values_at ps

      us' : List (Point Polys)
      us' = generic 0 (length us)

      vs' : List (Point Polys)
      vs' = generic (length us) (length vs)

      first : map (to_point Polys A h) us' ≡ us
      first = places-are [] us (vs ++ [])

      second : map (to_point Polys A h) vs' ≡ vs
      second = places-are us vs []

  -- the same at each list of columns
  pub join_all : (d j k : ℕ) → T (list_all (join_at j k) (subsets d (j + k))) → (us vs : Points) → length us ≡ j
      → length vs ≡ k
      → All (λ K. join A (length us) (extensor A us) (extensor A vs) K ≡ extensor A (us ++ vs) K) (subsets d (j + k))
  join_all d j k t us vs ej ek i x h =
      join_of_generic us vs (get_or (subsets d (j + k)) i x)
      (all_pass (join_at (length us) (length vs)) (subsets d (j + k))
      (subst₂ (λ n l. T (list_all (join_at n l) (subsets d (j + k)))) (sym ej) (sym ek) t) i x h)

  -- d points have their bracket at all columns
  pub full_extensor : (us : Points) → T (full_at (length us)) → extensor A us (columns (length us)) ≡ bracket A us
  full_extensor us t =
      sym (ap (λ p. extensor A p (columns (length us))) are) ∙ sym (extensor-hom Polys A h us' (columns (length us)))
      ∙ equal_of_test A R (entry (us ++ [])) (extensor Polys us' (columns (length us))) (bracket Polys us') t
      ∙ bracket-hom Polys A h us' ∙ ap (bracket A) are
    where
      h : IsHom Polys A (meaning A R (entry (us ++ [])))
      h = values_at (us ++ [])

      us' : List (Point Polys)
      us' = generic 0 (length us)

      are : map (to_point Polys A h) us' ≡ us
      are = places-are [] us []
