-- Joins and meets are told by the coordinates of the two objects at their sets of columns, over the operations of any ring.
use Rattle.std.proofs.Common.{◌≡◌, ℕ, zero, suc, ◌+◌, ◌<◌, List, [], ◌∷◌, ◌++◌, map, length, cond, refl, sym}
use Rattle.std.proofs.Common.{ap₂, subst, arith}
use Rattle.std.specs.List.{AllByRecursion}
use Rattle.coordinate_model.specs.Ring.{Ops}
use Rattle.coordinate_model.specs.Sequences.{columns, splits, subsets, without, meets_in}
use Rattle.coordinate_model.specs.Brackets.{Coords, sum_over, signed, join, meet}
use Rattle.coordinate_model.specs.ObjectLaws.{AgreeOn, SameJoins, SameMeets}
use Rattle.coordinate_model.proofs.Splits.{IsSplit, all_map, all_append, all_so, all_both, all_front, all_back, all_of_map}
use Rattle.coordinate_model.proofs.Splits.{all_items, at_each, splits-are}

-- ---- the parts of parts

no_split : {A : Type 0} (k : ℕ) (xs : List A) → length xs < k → splits k xs ≡ []
no_split zero xs h = absurd (omega arith)
no_split (suc k) [] h = refl
no_split {A} (suc k) (x ∷ xs) h =
    ap₂ (λ (s t : List (List A × List A)). map (λ s. (x ∷ s.0, s.1)) s ++ map (λ s. (s.0, x ∷ s.1)) t)
    (no_split k xs (omega arith)) (no_split (suc k) xs (omega arith))

module _ {A : Type 0} where
  -- P holds of each choice of k entries
  abbrev AllChosen : (List A → Type 0) → ℕ → List A → Type 0
  AllChosen P k xs = AllByRecursion (λ s. P s.0) (splits k xs)

  -- P and Q hold of the parts of each split
  abbrev AllParts : (List A → Type 0) → (List A → Type 0) → ℕ → List A → Type 0
  AllParts P Q k xs = AllByRecursion (λ s. P s.0 × Q s.1) (splits k xs)

  -- of choices with the first entry, and of those without
  chosen_with : (P : List A → Type 0) (k : ℕ) (x : A) (xs : List A) → AllChosen P (suc k) (x ∷ xs)
      → AllChosen (λ ys. P (x ∷ ys)) k xs
  chosen_with P k x xs h =
      all_of_map (λ s. P s.0) (λ s. (x ∷ s.0, s.1)) (splits k xs)
      (all_front (λ s. P s.0) (map (λ s. (x ∷ s.0, s.1)) (splits k xs)) (map (λ s. (s.0, x ∷ s.1)) (splits (suc k) xs)) h)

  chosen_without : (P : List A → Type 0) (k : ℕ) (x : A) (xs : List A) → AllChosen P (suc k) (x ∷ xs)
      → AllChosen P (suc k) xs
  chosen_without P k x xs h =
      all_of_map (λ s. P s.0) (λ s. (s.0, x ∷ s.1)) (splits (suc k) xs)
      (all_back (λ s. P s.0) (map (λ s. (x ∷ s.0, s.1)) (splits k xs)) (map (λ s. (s.0, x ∷ s.1)) (splits (suc k) xs)) h)

  both_chosen : (P : List A → Type 0) (k : ℕ) (x : A) (xs : List A) → AllChosen (λ ys. P (x ∷ ys)) k xs
      → AllChosen P (suc k) xs → AllChosen P (suc k) (x ∷ xs)
  both_chosen P k x xs h i =
      all_append (λ s. P s.0) _ _ (all_map (λ s. P (x ∷ s.0)) (λ s. P s.0) (λ s. (x ∷ s.0, s.1)) (λ s j. j) (splits k xs) h)
      (all_map (λ s. P s.0) (λ s. P s.0) (λ s. (s.0, x ∷ s.1)) (λ s j. j) (splits (suc k) xs) i)

  both_parts : (P Q : List A → Type 0) (k : ℕ) (x : A) (xs : List A) → AllParts (λ ys. P (x ∷ ys)) Q k xs
      → AllParts P (λ ys. Q (x ∷ ys)) (suc k) xs → AllParts P Q (suc k) (x ∷ xs)
  both_parts P Q k x xs h i =
      all_append (λ s. P s.0 × Q s.1) _ _
      (all_map (λ s. P (x ∷ s.0) × Q s.1) (λ s. P s.0 × Q s.1) (λ s. (x ∷ s.0, s.1)) (λ s j. j) (splits k xs) h)
      (all_map (λ s. P s.0 × Q (x ∷ s.1)) (λ s. P s.0 × Q s.1) (λ s. (s.0, x ∷ s.1)) (λ s j. j) (splits (suc k) xs) i)

  -- where nothing is left, there is one split
  none_left : (P Q : List A → Type 0) (k : ℕ) (ys : List A) → length ys ≡ k → AllParts P Q (suc k) ys
  none_left P Q k ys e = subst (AllByRecursion (λ s. P s.0 × Q s.1)) (sym (no_split (suc k) ys (omega arith))) tt

  -- what holds of choices of a and of b entries holds of the parts of each choice of a + b
  pub parts : (P Q : List A → Type 0) (a b n : ℕ) (xs : List A) → n ≡ a + b → AllChosen P a xs → AllChosen Q b xs
      → AllChosen (AllParts P Q a) n xs
  parts P Q zero b n xs e p q =
      subst (λ k. AllChosen (AllParts P Q zero) k xs) (let f : b ≡ n = omega arith in f)
      (all_so (λ s. Q s.0) (λ s. AllParts P Q zero s.0) (λ s h. ((p.0, h), tt)) (splits b xs) q)
  parts P Q (suc a) b zero xs e p q = absurd (omega arith)
  parts P Q (suc a) b (suc n) [] e p q = tt
  parts P Q (suc a) zero (suc n) (x ∷ xs) e p q =
      both_chosen (AllParts P Q (suc a)) n x xs
      (all_so _ (λ s. AllParts P Q (suc a) (x ∷ s.0))
      (λ (s : List A × List A) h.
      both_parts P Q a x s.0 h.0 (none_left P (λ ys. Q (x ∷ ys)) a s.0 (let f = h.1.chosen in omega arith)))
      (splits n xs)
      (all_both (λ s. AllParts (λ ys. P (x ∷ ys)) Q a s.0) (IsSplit (λ y. Unit {0}) n (length xs)) (splits n xs)
      (parts (λ ys. P (x ∷ ys)) Q a zero n xs (omega arith) (chosen_with P a x xs p) (q.0, tt))
      (splits-are (λ y. Unit {0}) n xs (any xs))))
      (parts P Q (suc a) zero (suc n) xs e (chosen_without P a x xs p) (q.0, tt))
    where
      any : (ys : List A) → AllByRecursion (λ y. Unit {0}) ys
      any [] = tt
      any (y ∷ ys) = (tt, any ys)
  parts P Q (suc a) (suc b) (suc n) (x ∷ xs) e p q =
      both_chosen (AllParts P Q (suc a)) n x xs
      (all_so _ (λ s. AllParts P Q (suc a) (x ∷ s.0)) (λ (s : List A × List A) h. both_parts P Q a x s.0 h.0 h.1)
      (splits n xs)
      (all_both (λ s. AllParts (λ ys. P (x ∷ ys)) Q a s.0) (λ s. AllParts P (λ ys. Q (x ∷ ys)) (suc a) s.0) (splits n xs)
      (parts (λ ys. P (x ∷ ys)) Q a (suc b) n xs (omega arith) (chosen_with P a x xs p) (chosen_without Q b x xs q))
      (parts P (λ ys. Q (x ∷ ys)) (suc a) b n xs (omega arith) (chosen_without P a x xs p) (chosen_with Q b x xs q))))
      (parts P Q (suc a) (suc b) (suc n) xs e (chosen_without P a x xs p) (chosen_without Q b x xs q))

-- ---- the laws

module _ (A : Ops) where
  infixl 55 ◌⊗◌
  open A use {carrier, 𝟘, ◌⊗◌}

  -- sums of terms that agree
  pub sum_over-same : {X : Type 0} (f g : X → carrier) (xs : List X) → AllByRecursion (λ x. f x ≡ g x) xs
      → sum_over A f xs ≡ sum_over A g xs
  sum_over-same f g [] h = refl
  sum_over-same f g (x ∷ xs) h = ap₂ A.◌⊕◌ h.0 (sum_over-same f g xs h.1)

  chosen_columns : (d a : ℕ) (F G : Coords A) → AgreeOn A d a F G → AllChosen (λ I. F I ≡ G I) a (columns d)
  chosen_columns d a F G h =
      all_of_map (λ I. F I ≡ G I) (λ s. s.0) (splits a (columns d)) (all_items (λ I. F I ≡ G I) (subsets d a) h)

  pub same-joins : SameJoins A
  unfolding join
  same-joins d a b F G H L p q =
      at_each _ (subsets d (a + b))
      (all_map (λ s. AllParts (λ I. F I ≡ H I) (λ J. G J ≡ L J) a s.0) (λ K. join A a F G K ≡ join A a H L K) (λ s. s.0)
      (λ s h. sum_over-same _ _ (splits a s.0)
      (all_so _ _ (λ (t : List ℕ × List ℕ) k. ap₂ (λ x y. signed A (t.0 ++ t.1) (x ⊗ y)) k.0 k.1) (splits a s.0) h))
      (splits (a + b) (columns d))
      (parts (λ I. F I ≡ H I) (λ J. G J ≡ L J) a b (a + b) (columns d) refl (chosen_columns d a F H p)
      (chosen_columns d b G L q)))

  pub same-meets : SameMeets A
  unfolding meet
  same-meets d a b F G H L K p q =
      sum_over-same _ _ (subsets d a)
      (all_so (λ I. F I ≡ H I) _
      (λ I e. sum_over-same _ _ (subsets d b)
      (all_so (λ J. G J ≡ L J) _
      (λ J f. ap₂ (λ x y. cond (meets_in d K I J) (signed A (without I K ++ K) (signed A (without I K ++ J) (x ⊗ y))) 𝟘) e f)
      (subsets d b) (all_items (λ J. G J ≡ L J) (subsets d b) q)))
      (subsets d a) (all_items (λ I. F I ≡ H I) (subsets d a) p))
