-- The first split of the places of a list takes the first places, and every other one leaves out one of them.
use Rattle.std.proofs.Common.{◌≡◌, ℕ, zero, suc, ◌+◌, ◌<◌, ◌≤◌, List, [], ◌∷◌, ◌++◌, map, length, take, drop, get_or}
use Rattle.std.proofs.Common.{refl, ap, subst, zero-add, ◌∙◌, arith, ◌⊎◌, inl, inr, Option, None, Some}
use Rattle.std.specs.Prelude.{slice_get}
use Rattle.std.specs.List.{AllByRecursion, cons_option}
use Rattle.coordinate_model.specs.Sequences.{range_from, range, splits, at_places}
use Rattle.coordinate_model.proofs.Splits.{all_map, all_append}

-- ---- the first split and the others

-- the splits but the first
abbrev pub other_splits : {A : Type 0} → ℕ → List A → List (List A × List A)
other_splits zero xs = []
other_splits (suc k) [] = []
other_splits (suc k) (x ∷ xs) =
    map (λ s. (x ∷ s.0, s.1)) (other_splits k xs) ++ map (λ s. (s.0, x ∷ s.1)) (splits (suc k) xs)

pub splits-first : {A : Type 0} (k : ℕ) (xs : List A) → k ≤ length xs
    → splits k xs ≡ (take k xs, drop k xs) ∷ other_splits k xs
splits-first zero xs h = refl
splits-first (suc k) [] h = absurd (omega arith)
splits-first {A} (suc k) (x ∷ xs) h =
    ap
    (λ (ss : List (List A × List A)). map (λ s. (x ∷ s.0, s.1)) ss ++ map (λ s. (s.0, x ∷ s.1)) (splits (suc k) xs))
    (splits-first k xs (omega arith))

-- one of the numbers is less than y
abbrev pub HasBelow : ℕ → List ℕ → Type 0
HasBelow y [] = ⊥
HasBelow y (x ∷ xs) = (x < y) ⊎ HasBelow y xs

-- a split of the numbers from m on that is not the first leaves out one of the first k
left_out_from : (k m n : ℕ)
    → AllByRecursion (λ (s : List ℕ × List ℕ). HasBelow (m + k) s.1) (other_splits k (range_from m n))
left_out_from zero m n = tt
left_out_from (suc k) m zero = tt
left_out_from (suc k) m (suc n) =
    all_append _ (map (λ (s : List ℕ × List ℕ). (m ∷ s.0, s.1)) (other_splits k (range_from (suc m) n))) _
    (all_map (λ (s : List ℕ × List ℕ). HasBelow (suc m + k) s.1) _ (λ s. (m ∷ s.0, s.1)) (λ s h. earlier s.1 h)
    (other_splits k (range_from (suc m) n)) (left_out_from k (suc m) n))
    (here (splits (suc k) (range_from (suc m) n)))
  where
    earlier : (xs : List ℕ) → HasBelow (suc m + k) xs → HasBelow (m + suc k) xs
    earlier [] h = h
    earlier (x ∷ xs) h = elim h [ inl l ↦ inl (omega arith) | inr r ↦ inr (earlier xs r) ]

    here : (ss : List (List ℕ × List ℕ))
        → AllByRecursion (λ (s : List ℕ × List ℕ). HasBelow (m + suc k) s.1) (map (λ s. (s.0, m ∷ s.1)) ss)
    here [] = tt
    here (s ∷ ss) = (inl (omega arith), here ss)

pub left_out : (k n : ℕ) → AllByRecursion (λ (s : List ℕ × List ℕ). HasBelow k s.1) (other_splits k (range n))
left_out k n =
    subst (λ m. AllByRecursion (λ (s : List ℕ × List ℕ). HasBelow m s.1) (other_splits k (range n))) (zero-add k)
    (left_out_from k 0 n)

-- ---- entries at places

has_more : (y : ℕ) (o : Option ℕ) (ys : List ℕ) → HasBelow y ys → HasBelow y (cons_option o ys)
has_more y None ys h = h
has_more y (Some x) ys h = inr h

has_entry : (y : ℕ) (xs : List ℕ) (i : ℕ) (ys : List ℕ) → i < length xs → get_or xs i 0 < y
    → HasBelow y (cons_option (slice_get xs i) ys)
has_entry y [] i ys w l = absurd (omega arith)
has_entry y (x ∷ xs) zero ys w l = inl l
has_entry y (x ∷ xs) (suc i) ys w l = has_entry y xs i ys (omega arith) l

-- where the first k entries are less than y, and one of the places is before the place k
pub entry_below : (k y : ℕ) (xs js : List ℕ) → k ≤ length xs → ((i : ℕ) → i < k → get_or xs i 0 < y) → HasBelow k js
    → HasBelow y (at_places xs js)
entry_below k y xs [] w low h = h
entry_below k y xs (j ∷ js) w low h =
    elim h [
      | inl l ↦ has_entry y xs j (at_places xs js) (omega arith) (low j l)
      | inr r ↦ has_more y (slice_get xs j) (at_places xs js) (entry_below k y xs js w low r)
    ]

-- the first places have the first entries
next_take : (x : ℕ) (xs : List ℕ) (k m n : ℕ)
    → at_places (x ∷ xs) (take k (range_from (suc m) n)) ≡ at_places xs (take k (range_from m n))
next_take x xs zero m n = refl
next_take x xs (suc k) m zero = refl
next_take x xs (suc k) m (suc n) = ap (λ (ys : List ℕ). cons_option (slice_get xs m) ys) (next_take x xs k (suc m) n)

pub first_entries : (k : ℕ) (xs : List ℕ) → at_places xs (take k (range (length xs))) ≡ take k xs
first_entries zero xs = refl
first_entries (suc k) [] = refl
first_entries (suc k) (x ∷ xs) =
    ap (λ (ys : List ℕ). x ∷ ys) (next_take x xs k 0 (length xs) ∙ first_entries k xs)

-- and the others the other entries
next_all : (x : ℕ) (xs : List ℕ) (m n : ℕ) → at_places (x ∷ xs) (range_from (suc m) n) ≡ at_places xs (range_from m n)
next_all x xs m zero = refl
next_all x xs m (suc n) = ap (λ (ys : List ℕ). cons_option (slice_get xs m) ys) (next_all x xs (suc m) n)

next_drop : (x : ℕ) (xs : List ℕ) (k m n : ℕ)
    → at_places (x ∷ xs) (drop k (range_from (suc m) n)) ≡ at_places xs (drop k (range_from m n))
next_drop x xs zero m n = next_all x xs m n
next_drop x xs (suc k) m zero = refl
next_drop x xs (suc k) m (suc n) = next_drop x xs k (suc m) n

pub other_entries : (k : ℕ) (xs : List ℕ) → at_places xs (drop k (range (length xs))) ≡ drop k xs
other_entries zero [] = refl
other_entries zero (x ∷ xs) = ap (λ (ys : List ℕ). x ∷ ys) (next_all x xs 0 (length xs) ∙ other_entries zero xs)
other_entries (suc k) [] = refl
other_entries (suc k) (x ∷ xs) = next_drop x xs k 0 (length xs) ∙ other_entries k xs
