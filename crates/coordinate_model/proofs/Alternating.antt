-- In a commutative ring an extensor changes sign where neighbours are exchanged, and is zero where they are equal; so
-- sorting multiplies it by the sign of the sequence. The same holds of a bracket, the one coordinate of its extensor.
use Rattle.std.proofs.Common.{◌≡◌, ℕ, zero, suc, ◌+◌, ◌≤◌, List, [], ◌∷◌, ◌++◌, map, length, refl, sym, ap, ◌∙◌}
use Rattle.std.proofs.Common.{subst, T, Bool, true, ◌&&◌, arith, nat_cmp, All, ◌<◌, get_or}
use Rattle.std.specs.List.{list_all}
use Rattle.std.proofs.lemmas.List.{length-map}
use lib.ListN.{length-append}
use Rattle.coordinate_model.specs.Ring.{Ops, IsCommRing}
use Rattle.coordinate_model.specs.Sequences.{repeats, IsRank, columns, subsets}
use Rattle.coordinate_model.specs.Brackets.{Point, bracket, signed, extensor, join_points, join}
use Rattle.coordinate_model.specs.Words.{ordered}
use Rattle.coordinate_model.proofs.Bools.{first, second}
use Rattle.coordinate_model.proofs.Hom.{map-append}
use Rattle.coordinate_model.proofs.Generic.{opposed, vanishes, opposite_extensors, zero_extensor, all_pass, entry}
use Rattle.coordinate_model.proofs.Ranks.{by_rank}
use Rattle.coordinate_model.proofs.JoinLaws.{full-extensor}
use Rattle.coordinate_model.proofs.Sorting.{sort_sign, repeats_zero, length-ordered}

-- ---- at generic points

-- the exchanges of neighbours in n of them: before and after
abbrev exchanges : ℕ → List (List ℕ × List ℕ)
exchanges (suc (suc zero)) = (0 ∷ 1 ∷ [], 1 ∷ 0 ∷ []) ∷ []
exchanges (suc (suc (suc zero))) = (0 ∷ 1 ∷ 2 ∷ [], 1 ∷ 0 ∷ 2 ∷ []) ∷ (0 ∷ 1 ∷ 2 ∷ [], 0 ∷ 2 ∷ 1 ∷ []) ∷ []
exchanges (suc (suc (suc (suc zero)))) =
    (0 ∷ 1 ∷ 2 ∷ 3 ∷ [], 1 ∷ 0 ∷ 2 ∷ 3 ∷ []) ∷ (0 ∷ 1 ∷ 2 ∷ 3 ∷ [], 0 ∷ 2 ∷ 1 ∷ 3 ∷ [])
    ∷ (0 ∷ 1 ∷ 2 ∷ 3 ∷ [], 0 ∷ 1 ∷ 3 ∷ 2 ∷ []) ∷ []
exchanges _ = []

-- the places of equal neighbours in n of them
abbrev twins : ℕ → List (List ℕ)
twins (suc (suc zero)) = (0 ∷ 0 ∷ []) ∷ []
twins (suc (suc (suc zero))) = (0 ∷ 0 ∷ 2 ∷ []) ∷ (0 ∷ 1 ∷ 1 ∷ []) ∷ []
twins (suc (suc (suc (suc zero)))) = (0 ∷ 0 ∷ 2 ∷ 3 ∷ []) ∷ (0 ∷ 1 ∷ 1 ∷ 3 ∷ []) ∷ (0 ∷ 1 ∷ 2 ∷ 2 ∷ []) ∷ []
twins _ = []

-- whether the extensor of n points changes sign at K where neighbours are exchanged
abbrev changes_sign : List ℕ → ℕ → Bool
changes_sign K n = list_all (λ e. opposed K e.0 e.1) (exchanges n)

-- whether it is zero at K where neighbours are equal
abbrev has_zeros : List ℕ → ℕ → Bool
has_zeros K n = list_all (vanishes K) (twins n)

-- both, in rank d for k points, at each of their lists of columns
abbrev all_alternate : ℕ → ℕ → Bool
all_alternate d k = list_all (λ K. changes_sign K k && has_zeros K k) (subsets d k)

rank_2 : T (all_alternate 2 2)
unfolding extensor join_points join
rank_2 = tt

rank_3_2 : T (all_alternate 3 2)
unfolding extensor join_points join
rank_3_2 = tt

rank_3_3 : T (all_alternate 3 3)
unfolding extensor join_points join
rank_3_3 = tt

rank_4_2 : T (all_alternate 4 2)
unfolding extensor join_points join
rank_4_2 = tt

rank_4_3 : T (all_alternate 4 3)
unfolding extensor join_points join
rank_4_3 = tt

rank_4_4 : T (all_alternate 4 4)
unfolding extensor join_points join
rank_4_4 = tt

each_alternates : (d k : ℕ) → 2 ≤ d → d ≤ 4 → k ≤ d → T (all_alternate d k)
each_alternates d zero g h l = tt
each_alternates (suc (suc zero)) (suc zero) g h l = tt
each_alternates (suc (suc (suc zero))) (suc zero) g h l = tt
each_alternates (suc (suc (suc (suc zero)))) (suc zero) g h l = tt
each_alternates (suc (suc zero)) (suc (suc zero)) g h l = rank_2
each_alternates (suc (suc (suc zero))) (suc (suc zero)) g h l = rank_3_2
each_alternates (suc (suc (suc zero))) (suc (suc (suc zero))) g h l = rank_3_3
each_alternates (suc (suc (suc (suc zero)))) (suc (suc zero)) g h l = rank_4_2
each_alternates (suc (suc (suc (suc zero)))) (suc (suc (suc zero))) g h l = rank_4_3
each_alternates (suc (suc (suc (suc zero)))) (suc (suc (suc (suc zero)))) g h l = rank_4_4
each_alternates _ _ g h l = absurd (omega arith)

-- ---- at any points

-- the extensor of n points alternates at K
record Alternates (K : List ℕ) (n : ℕ) : Type 0 where
  turned : T (changes_sign K n)
  zero_there : T (has_zeros K n)

alternates : (K : List ℕ) (n : ℕ) → T (changes_sign K n && has_zeros K n) → Alternates K n
alternates K n t =
    record {
      turned = first (changes_sign K n) (has_zeros K n) t;
      zero_there = second (changes_sign K n) (has_zeros K n) t;
    }

module _ (A : Ops) (R : IsCommRing A) (K : List ℕ) where
  -- the coordinate at K
  abbrev of_points : List (Point A) → A.carrier
  of_points ps = extensor A ps K

  -- the exchange at the place i of n points of the list
  exchange : (ps : List (Point A)) (n i : ℕ) → T (changes_sign K n) → i < length (exchanges n)
      → of_points (map (entry A R ps) (get_or (exchanges n) i ([], [])).0)
      ≡ A.neg (of_points (map (entry A R ps) (get_or (exchanges n) i ([], [])).1))
  exchange ps n i t h =
      opposite_extensors A R ps K _ _ (all_pass (λ e. opposed K e.0 e.1) (exchanges n) t i ([], []) h)

  twin_at : (ps : List (Point A)) (n i : ℕ) → T (has_zeros K n) → i < length (twins n)
      → of_points (map (entry A R ps) (get_or (twins n) i [])) ≡ A.𝟘
  twin_at ps n i t h = zero_extensor A R ps K _ (all_pass (vanishes K) (twins n) t i [] h)

  swap_points : (a b : List (Point A)) (p q : Point A) → T (changes_sign K (length (a ++ p ∷ q ∷ b)))
      → length (a ++ p ∷ q ∷ b) ≤ 4 → of_points (a ++ p ∷ q ∷ b) ≡ A.neg (of_points (a ++ q ∷ p ∷ b))
  swap_points [] [] p q t l = exchange (p ∷ q ∷ []) 2 0 t (omega arith)
  swap_points [] (u ∷ []) p q t l = exchange (p ∷ q ∷ u ∷ []) 3 0 t (omega arith)
  swap_points (s ∷ []) [] p q t l = exchange (s ∷ p ∷ q ∷ []) 3 1 t (omega arith)
  swap_points [] (u ∷ v ∷ []) p q t l = exchange (p ∷ q ∷ u ∷ v ∷ []) 4 0 t (omega arith)
  swap_points (s ∷ []) (u ∷ []) p q t l = exchange (s ∷ p ∷ q ∷ u ∷ []) 4 1 t (omega arith)
  swap_points (r ∷ s ∷ []) [] p q t l = exchange (r ∷ s ∷ p ∷ q ∷ []) 4 2 t (omega arith)
  swap_points [] (s ∷ u ∷ v ∷ b) p q t l = absurd (omega arith)
  swap_points (s ∷ []) (u ∷ v ∷ b) p q t l = absurd (omega arith)
  swap_points (r ∷ s ∷ []) (u ∷ b) p q t l = absurd (omega arith)
  swap_points (r ∷ s ∷ u ∷ a) b p q t l =
      let e : length (a ++ p ∷ q ∷ b) ≡ length a + suc (suc (length b)) = length-append a (p ∷ q ∷ b) in
      absurd (omega arith)

  twin_points : (a b : List (Point A)) (p : Point A) → T (has_zeros K (length (a ++ p ∷ p ∷ b)))
      → length (a ++ p ∷ p ∷ b) ≤ 4 → of_points (a ++ p ∷ p ∷ b) ≡ A.𝟘
  twin_points [] [] p t l = twin_at (p ∷ p ∷ []) 2 0 t (omega arith)
  twin_points [] (u ∷ []) p t l = twin_at (p ∷ p ∷ u ∷ []) 3 0 t (omega arith)
  twin_points (s ∷ []) [] p t l = twin_at (s ∷ p ∷ p ∷ []) 3 1 t (omega arith)
  twin_points [] (u ∷ v ∷ []) p t l = twin_at (p ∷ p ∷ u ∷ v ∷ []) 4 0 t (omega arith)
  twin_points (s ∷ []) (u ∷ []) p t l = twin_at (s ∷ p ∷ p ∷ u ∷ []) 4 1 t (omega arith)
  twin_points (r ∷ s ∷ []) [] p t l = twin_at (r ∷ s ∷ p ∷ p ∷ []) 4 2 t (omega arith)
  twin_points [] (s ∷ u ∷ v ∷ b) p t l = absurd (omega arith)
  twin_points (s ∷ []) (u ∷ v ∷ b) p t l = absurd (omega arith)
  twin_points (r ∷ s ∷ []) (u ∷ b) p t l = absurd (omega arith)
  twin_points (r ∷ s ∷ u ∷ a) b p t l =
      let e : length (a ++ p ∷ p ∷ b) ≡ length a + suc (suc (length b)) = length-append a (p ∷ p ∷ b) in
      absurd (omega arith)

  -- the points of the numbers, n of them
  module _ (point : ℕ → Point A) (n : ℕ) (few : n ≤ 4) (test : Alternates K n) where
    -- the coordinate of the points of the numbers
    abbrev at : List ℕ → A.carrier
    at ps = of_points (map point ps)

    length-is : (a b : List ℕ) (x y : ℕ) → length (a ++ x ∷ y ∷ b) ≡ n
        → length (map point a ++ point x ∷ point y ∷ map point b) ≡ n
    length-is a b x y e =
        sym (ap length (map-append point a (x ∷ y ∷ b))) ∙ length-map (a ++ x ∷ y ∷ b) point ∙ e

    swap : (a b : List ℕ) (x y : ℕ) → length (a ++ x ∷ y ∷ b) ≡ n
        → at (a ++ x ∷ y ∷ b) ≡ A.neg (at (a ++ y ∷ x ∷ b))
    swap a b x y e =
        ap of_points (map-append point a (x ∷ y ∷ b))
        ∙ swap_points (map point a) (map point b) (point x) (point y)
        (subst (λ m. T (changes_sign K m)) (sym (length-is a b x y e)) test.turned)
        (subst (λ m. m ≤ 4) (sym (length-is a b x y e)) few)
        ∙ ap (λ l. A.neg (of_points l)) (sym (map-append point a (y ∷ x ∷ b)))

    twin : (a b : List ℕ) (x : ℕ) → length (a ++ x ∷ x ∷ b) ≡ n → at (a ++ x ∷ x ∷ b) ≡ A.𝟘
    twin a b x e =
        ap of_points (map-append point a (x ∷ x ∷ b))
        ∙ twin_points (map point a) (map point b) (point x)
        (subst (λ m. T (has_zeros K m)) (sym (length-is a b x x e)) test.zero_there)
        (subst (λ m. m ≤ 4) (sym (length-is a b x x e)) few)

    sorted_at : (ps : List ℕ) → length ps ≡ n → at ps ≡ signed A ps (at (ordered nat_cmp ps))
    sorted_at = sort_sign A R n at swap twin

    zero_at : (ps : List ℕ) → repeats ps ≡ true → length ps ≡ n → at ps ≡ A.𝟘
    zero_at = repeats_zero A R n at swap twin

-- at each list of columns
at_subset : (d k : ℕ) → IsRank d → k ≤ d → All (λ K. Alternates K k) (subsets d k)
at_subset d k r l i x h =
    alternates (get_or (subsets d k) i x) k
    (all_pass (λ K. changes_sign K k && has_zeros K k) (subsets d k) (each_alternates d k r.0 r.1 l) i x h)

-- ---- the laws

module _ (A : Ops) (R : IsCommRing A) (point : ℕ → Point A) where
  -- the extensor of a sequence is its sign times the extensor of the sorted sequence
  pub extensor-sorted : (d : ℕ) (ps : List ℕ) → IsRank d → length ps ≤ d
      → All (λ K. extensor A (map point ps) K ≡ signed A ps (extensor A (map point (ordered nat_cmp ps)) K))
      (subsets d (length ps))
  extensor-sorted d ps r l i x h =
      sorted_at A R (get_or (subsets d (length ps)) i x) point (length ps) (let f = r.1 in omega arith)
      (at_subset d (length ps) r l i x h) ps refl

  -- and it is zero where a point comes twice
  pub extensor-repeats : (d : ℕ) (ps : List ℕ) → IsRank d → length ps ≤ d → repeats ps ≡ true
      → All (λ K. extensor A (map point ps) K ≡ A.𝟘) (subsets d (length ps))
  extensor-repeats d ps r l t i x h =
      zero_at A R (get_or (subsets d (length ps)) i x) point (length ps) (let f = r.1 in omega arith)
      (at_subset d (length ps) r l i x h) ps t refl

  -- the one coordinate of d points
  at_columns : (d : ℕ) (ps : List ℕ) → IsRank d → length ps ≡ d
      → extensor A (map point ps) (columns d) ≡ bracket A (map point ps)
  at_columns d ps r e =
      let l : length (map point ps) ≡ d = length-map ps point ∙ e in
      ap (λ n. extensor A (map point ps) (columns n)) (sym l)
      ∙ full-extensor R (map point ps) (subst IsRank (sym l) r)

  columns_alternate : (d : ℕ) → IsRank d → Alternates (columns d) d
  columns_alternate d r =
      alternates (columns d) d
      (by_rank (λ n. T (changes_sign (columns n) n && has_zeros (columns n) n)) (alone 2 rank_2) (alone 3 rank_3_3)
      (alone 4 rank_4_4) d r)
    where
      alone : (n : ℕ) → T (list_all (λ K. changes_sign K n && has_zeros K n) (columns n ∷ []))
          → T (changes_sign (columns n) n && has_zeros (columns n) n)
      alone n t = first (changes_sign (columns n) n && has_zeros (columns n) n) true t

  -- the bracket of a sequence is its sign times the bracket of the sorted sequence
  pub bracket-sorted : (ps : List ℕ) → IsRank (length ps)
      → bracket A (map point ps) ≡ signed A ps (bracket A (map point (ordered nat_cmp ps)))
  bracket-sorted ps r =
      sym (at_columns (length ps) ps r refl)
      ∙ sorted_at A R (columns (length ps)) point (length ps) r.1 (columns_alternate (length ps) r) ps refl
      ∙ ap (signed A ps) (at_columns (length ps) (ordered nat_cmp ps) r (length-ordered ps))

  -- and it is zero where a point comes twice
  pub bracket-repeats : (ps : List ℕ) → IsRank (length ps) → repeats ps ≡ true → bracket A (map point ps) ≡ A.𝟘
  bracket-repeats ps r h =
      sym (at_columns (length ps) ps r refl)
      ∙ zero_at A R (columns (length ps)) point (length ps) r.1 (columns_alternate (length ps) r) ps h refl
