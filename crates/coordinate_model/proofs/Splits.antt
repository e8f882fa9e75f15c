-- The sizes of the parts of splits, and of lists of entries.
use Rattle.std.proofs.Common.{◌≡◌, ℕ, zero, suc, ◌+◌, ◌<◌, Bool, true, false, cond, List, [], ◌∷◌, ◌++◌, map, filter, replicate, slice_set}
use Rattle.std.proofs.Common.{flat_map, length, All, refl, ap, ◌∙◌, arith}
use Rattle.std.specs.List.{AllByRecursion, cons_option}
use Rattle.std.specs.Prelude.{slice_get}
use Rattle.coordinate_model.specs.Sequences.{range_from, range, splits, at_places}

pub all_map : {A B : Type 0} (P : A → Type 0) (Q : B → Type 0) (f : A → B) → ((a : A) → P a → Q (f a)) → (xs : List A)
    → AllByRecursion P xs
    → AllByRecursion Q (map f xs)
all_map P Q f g [] h = tt
all_map P Q f g (x ∷ xs) h = (g x h.0, all_map P Q f g xs h.1)

pub all_append : {A : Type 0} (P : A → Type 0) (xs ys : List A) → AllByRecursion P xs → AllByRecursion P ys
    → AllByRecursion P (xs ++ ys)
all_append P [] ys h k = k
all_append P (x ∷ xs) ys h k = (h.0, all_append P xs ys h.1 k)

-- what follows from what holds of all
pub all_so : {A : Type 0} (P Q : A → Type 0) → ((a : A) → P a → Q a) → (xs : List A) → AllByRecursion P xs
    → AllByRecursion Q xs
all_so P Q f [] h = tt
all_so P Q f (x ∷ xs) h = (f x h.0, all_so P Q f xs h.1)

pub all_both : {A : Type 0} (P Q : A → Type 0) (xs : List A) → AllByRecursion P xs → AllByRecursion Q xs
    → AllByRecursion (λ x. P x × Q x) xs
all_both P Q [] h k = tt
all_both P Q (x ∷ xs) h k = ((h.0, k.0), all_both P Q xs h.1 k.1)

-- what holds of x holds of any number of it, and of a list in which it takes a place
pub all_replicate : {A : Type 0} (P : A → Type 0) (n : ℕ) (x : A) → P x → AllByRecursion P (replicate n x)
all_replicate P zero x h = tt
all_replicate P (suc n) x h = (h, all_replicate P n x h)

pub all_set : {A : Type 0} (P : A → Type 0) (xs : List A) (i : ℕ) (v : A) → P v → AllByRecursion P xs
    → AllByRecursion P (slice_set xs i v)
all_set P [] i v p h = tt
all_set P (x ∷ xs) zero v p h = (p, h.1)
all_set P (x ∷ xs) (suc i) v p h = (h.0, all_set P xs i v p h.1)

pub all_front : {A : Type 0} (P : A → Type 0) (xs ys : List A) → AllByRecursion P (xs ++ ys) → AllByRecursion P xs
all_front P [] ys h = tt
all_front P (x ∷ xs) ys h = (h.0, all_front P xs ys h.1)

pub all_back : {A : Type 0} (P : A → Type 0) (xs ys : List A) → AllByRecursion P (xs ++ ys) → AllByRecursion P ys
all_back P [] ys h = h
all_back P (x ∷ xs) ys h = all_back P xs ys h.1

pub all_of_map : {A B : Type 0} (P : B → Type 0) (f : A → B) (xs : List A) → AllByRecursion P (map f xs)
    → AllByRecursion (λ x. P (f x)) xs
all_of_map P f [] h = tt
all_of_map P f (x ∷ xs) h = (h.0, all_of_map P f xs h.1)

pub all_flat_map : {A B : Type 0} (P : A → Type 0) (Q : B → Type 0) (f : A → List B)
    → ((a : A) → P a → AllByRecursion Q (f a)) → (xs : List A) → AllByRecursion P xs → AllByRecursion Q (flat_map f xs)
all_flat_map P Q f g [] h = tt
all_flat_map P Q f g (x ∷ xs) h = all_append Q (f x) (flat_map f xs) (g x h.0) (all_flat_map P Q f g xs h.1)

pub all_filter : {A : Type 0} (P : A → Type 0) (test : A → Bool) (xs : List A) → AllByRecursion P xs
    → AllByRecursion P (filter test xs)
all_filter P test [] h = tt
all_filter {A} P test (x ∷ xs) h = step (test x) (all_filter P test xs h.1)
  where
    step : (b : Bool) → AllByRecursion P (filter test xs)
        → AllByRecursion P (cond {A = List A} b (x ∷ filter test xs) (filter test xs))
    step true i = (h.0, i)
    step false i = i

-- what holds at each place holds of each item, and back
pub all_items : {A : Type 0} (P : A → Type 0) (xs : List A) → All P xs → AllByRecursion P xs
all_items P [] h = tt
all_items P (x ∷ xs) h = (h 0 x (omega arith), all_items P xs (λ i d l. h (suc i) d (omega arith)))

pub at_each : {A : Type 0} (P : A → Type 0) (xs : List A) → AllByRecursion P xs → All P xs
at_each P [] h i d l = absurd (omega arith)
at_each P (x ∷ xs) h zero d l = h.0
at_each P (x ∷ xs) h (suc i) d l = at_each P xs h.1 i d (omega arith)

-- t parts n entries, each with P, into k and the rest
pub record IsSplit {A : Type 0} (P : A → Type 0) (k n : ℕ) (t : List A × List A) : Type 0 where
  pub chosen : length t.0 ≡ k
  pub all : length t.1 + k ≡ n
  pub first : AllByRecursion P t.0
  pub second : AllByRecursion P t.1

pub splits-are : {A : Type 0} (P : A → Type 0) (k : ℕ) (xs : List A) → AllByRecursion P xs
    → AllByRecursion (IsSplit P k (length xs)) (splits k xs)
splits-are P zero xs h = (record { chosen = refl; all = omega arith; first = tt; second = h }, tt)
splits-are P (suc k) [] h = tt
splits-are P (suc k) (x ∷ xs) h =
    all_append _ _ _
    (all_map _ _ (λ s. (x ∷ s.0, s.1)) (λ s i. record
    { chosen = ap suc i.chosen; all = (let e = i.all in omega arith); first = (h.0, i.first); second = i.second })
    (splits k xs) (splits-are P k xs h.1))
    (all_map _ _ (λ s. (s.0, x ∷ s.1)) (λ s i. record
    { chosen = i.chosen; all = (let e = i.all in omega arith); first = i.first; second = (h.0, i.second) })
    (splits (suc k) xs) (splits-are P (suc k) xs h.1))

range_from-below : (m k n : ℕ) → m + k ≡ n → AllByRecursion (λ i. i < n) (range_from m k)
range_from-below m zero n e = tt
range_from-below m (suc k) n e = (omega arith, range_from-below (suc m) k n (omega arith))

pub range-below : (n : ℕ) → AllByRecursion (λ i. i < n) (range n)
range-below n = range_from-below zero n n (omega arith)

pub length-range_from : (m k : ℕ) → length (range_from m k) ≡ k
length-range_from m zero = refl
length-range_from m (suc k) = ap suc (length-range_from (suc m) k)

length-entry : {A : Type 0} (xs : List A) (i : ℕ) (rest : List A) → i < length xs
    → length (cons_option (slice_get xs i) rest) ≡ suc (length rest)
length-entry [] i rest h = absurd (omega arith)
length-entry (x ∷ xs) zero rest h = refl
length-entry (x ∷ xs) (suc i) rest h = length-entry xs i rest (omega arith)

pub length-at_places : {A : Type 0} (xs : List A) (is : List ℕ) → AllByRecursion (λ i. i < length xs) is
    → length (at_places xs is) ≡ length is
length-at_places xs [] h = refl
length-at_places xs (i ∷ is) h = length-entry xs i (at_places xs is) h.0 ∙ ap suc (length-at_places xs is h.1)
