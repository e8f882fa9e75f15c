-- The splits of n places: each choice of k of them once, in lexicographic order, with the others beside it.
use Rattle.std.proofs.Common.{◌≡◌, ℕ, zero, suc, ◌+◌, ◌<◌, ◌≤◌, Bool, true, false, cond, not, ◌||◌, ◌==◌, List, [], ◌∷◌}
use Rattle.std.proofs.Common.{◌++◌, map, filter, length, slice_index_or, refl, sym, ap, subst, ◌∙◌, arith, eq-eqb, ne_eqb}
use Rattle.std.proofs.Common.{Less, Equal}
use Rattle.std.proofs.lemmas.Bool.{ltb-true, ltb-false}
use Rattle.std.proofs.lemmas.List.{map-append}
use Rattle.std.proofs.lemmas.List.Elements.{Contains-append_left, Contains-append_right}
use Rattle.std.specs.Prelude.{nat_lt, Contains}
use Rattle.std.specs.Cmp.{nat_cmp_is}
use Rattle.std.specs.Ordering.{ordering_then}
use Rattle.std.specs.List.{AllByRecursion}
use Rattle.coordinate_model.specs.Sequences.{range_from, splits, has, without}
use Rattle.coordinate_model.specs.Key.{row_cmp}
use Rattle.coordinate_model.proofs.Increasing.{IsIncreasing, increasing_all, increasing_next}
use Rattle.coordinate_model.proofs.Splits.{IsSplit, splits-are, all_map, all_append}
use Rattle.split_tables.specs.EachOnce.{IsChoice, choices, ListsEachChoice}

-- ---- the chosen entries

-- the chosen entries of each split
abbrev chosen : {A : Type 0} → ℕ → List A → List (List A)
chosen k xs = map (λ t. t.0) (splits k xs)

map_map : {A B C : Type 0} (f : B → C) (g : A → B) (xs : List A) → map f (map g xs) ≡ map (λ x. f (g x)) xs
map_map f g [] = refl
map_map f g (x ∷ xs) = ap (λ w. f (g x) ∷ w) (map_map f g xs)

-- the choices with the first entry come first, and then those without it
chosen_step : {A : Type 0} (k : ℕ) (x : A) (xs : List A)
    → chosen (suc k) (x ∷ xs) ≡ map (λ c. x ∷ c) (chosen k xs) ++ chosen (suc k) xs
chosen_step {A} k x xs =
    let first : List A × List A → List A = λ t. t.0 in
    let with : List A × List A → List A × List A = λ s. (x ∷ s.0, s.1) in
    let without_it : List A × List A → List A × List A = λ s. (s.0, x ∷ s.1) in
    map-append first (map with (splits k xs)) (map without_it (splits (suc k) xs))
    ∙ ap (λ w. w ++ map first (map without_it (splits (suc k) xs)))
    (map_map first with (splits k xs) ∙ sym (map_map (λ c. x ∷ c) first (splits k xs)))
    ∙ ap (λ w. map (λ c. x ∷ c) (chosen k xs) ++ w) (map_map first without_it (splits (suc k) xs))

all_of : {A : Type 0} (P Q : A → Type 0) → ((x : A) → P x → Q x) → (xs : List A) → AllByRecursion P xs
    → AllByRecursion Q xs
all_of P Q f [] h = tt
all_of P Q f (x ∷ xs) h = (f x h.0, all_of P Q f xs h.1)

-- k of the places m, .., m + n - 1, in ascending order
record IsChoiceFrom (m n k : ℕ) (places : List ℕ) : Type 0 where
  count : length places ≡ k
  increasing : IsIncreasing places
  least : AllByRecursion (λ p. m ≤ p) places
  within : AllByRecursion (λ p. p < m + n) places

-- ---- each choice is there

map_entry : {A B : Type 0} (f : A → B) (xs : List A) (x : A) (k : ℕ) → k < length xs → slice_index_or xs k x ≡ x
    → Contains (map f xs) (f x)
map_entry f [] x k h e = absurd (omega arith)
map_entry f (y ∷ ys) x zero h e = (0, omega arith, ap f e)
map_entry f (y ∷ ys) x (suc k) h e =
    let found : Contains (map f ys) (f x) = map_entry f ys x k (omega arith) e in
    (suc found.0, omega (arith, found.1), found.2)

contains_map : {A B : Type 0} (f : A → B) (xs : List A) (x : A) → Contains xs x → Contains (map f xs) (f x)
contains_map f xs x c = map_entry f xs x c.0 c.1 c.2

later_choice : (m n k p : ℕ) (ps : List ℕ) → m < p → IsChoiceFrom m (suc n) k (p ∷ ps) → IsChoiceFrom (suc m) n k (p ∷ ps)
later_choice m n k p ps l c = record {
  count = c.count;
  increasing = c.increasing;
  least = (omega arith, all_of (λ q. p < q) (λ q. suc m ≤ q) (λ q h. omega arith) ps c.increasing.0);
  within = all_of (λ q. q < m + suc n) (λ q. q < suc m + n) (λ q h. omega arith) (p ∷ ps) c.within;
}

rest_choice : (m n k p : ℕ) (ps : List ℕ) → p ≡ m → IsChoiceFrom m (suc n) (suc k) (p ∷ ps) → IsChoiceFrom (suc m) n k ps
rest_choice m n k p ps e c = record {
  count = (let h : suc (length ps) ≡ suc k = c.count in omega arith);
  increasing = c.increasing.1;
  least = all_of (λ q. p < q) (λ q. suc m ≤ q) (λ q h. omega arith) ps c.increasing.0;
  within = all_of (λ q. q < m + suc n) (λ q. q < suc m + n) (λ q h. omega arith) ps c.within.1;
}

every : (m n k : ℕ) (places : List ℕ) → IsChoiceFrom m n k places → Contains (chosen k (range_from m n)) places
every m n zero [] c = (0, omega arith, refl)
every m n zero (p ∷ ps) c = absurd (let h : suc (length ps) ≡ 0 = c.count in omega arith)
every m n (suc k) [] c = absurd (let h : 0 ≡ suc k = c.count in omega arith)
every m zero (suc k) (p ∷ ps) c =
    absurd (let l : m ≤ p = c.least.0 in let h : p < m + 0 = c.within.0 in omega arith)
every m (suc n) (suc k) (p ∷ ps) c =
    let found : List (List ℕ) → Type 0 = λ w. Contains w (p ∷ ps) in
    let starts : m ≤ p = c.least.0 in
    subst found (sym (chosen_step k m (range_from (suc m) n)))
    (elim (nat_lt m p) as
    (λ b. nat_lt m p ≡ b → Contains
    (map (λ q. m ∷ q) (chosen k (range_from (suc m) n)) ++ chosen (suc k) (range_from (suc m) n)) (p ∷ ps)) [
      | true ↦ λ e. Contains-append_right (map (λ q. m ∷ q) (chosen k (range_from (suc m) n))) _ _
          (every (suc m) n (suc k) (p ∷ ps) (later_choice m n (suc k) p ps (ltb-true m p e) c))
      | false ↦ λ e.
          let same : p ≡ m = (let l : p ≤ m = ltb-false m p e in omega arith) in
          Contains-append_left (map (λ q. m ∷ q) (chosen k (range_from (suc m) n))) _ _
          (subst (λ q. Contains (map (λ q. m ∷ q) (chosen k (range_from (suc m) n))) (q ∷ ps)) (sym same)
          (contains_map (λ q. m ∷ q) (chosen k (range_from (suc m) n)) ps
          (every (suc m) n k ps (rest_choice m n k p ps same c))))
    ] refl)

-- ---- and nothing else

first_choice : (m n k : ℕ) (ps : List ℕ) → IsChoiceFrom (suc m) n k ps → IsChoiceFrom m (suc n) (suc k) (m ∷ ps)
first_choice m n k ps c = record {
  count = ap suc c.count;
  increasing = (all_of (λ q. suc m ≤ q) (λ q. m < q) (λ q h. omega arith) ps c.least, c.increasing);
  least = (omega arith, all_of (λ q. suc m ≤ q) (λ q. m ≤ q) (λ q h. omega arith) ps c.least);
  within = (omega arith, all_of (λ q. q < suc m + n) (λ q. q < m + suc n) (λ q h. omega arith) ps c.within);
}

wider_choice : (m n k : ℕ) (ps : List ℕ) → IsChoiceFrom (suc m) n k ps → IsChoiceFrom m (suc n) k ps
wider_choice m n k ps c = record {
  count = c.count;
  increasing = c.increasing;
  least = all_of (λ q. suc m ≤ q) (λ q. m ≤ q) (λ q h. omega arith) ps c.least;
  within = all_of (λ q. q < suc m + n) (λ q. q < m + suc n) (λ q h. omega arith) ps c.within;
}

only : (m n k : ℕ) → AllByRecursion (IsChoiceFrom m n k) (chosen k (range_from m n))
only m n zero = (record { count = refl; increasing = tt; least = tt; within = tt }, tt)
only m zero (suc k) = tt
only m (suc n) (suc k) =
    subst (AllByRecursion (IsChoiceFrom m (suc n) (suc k))) (sym (chosen_step k m (range_from (suc m) n)))
    (all_append (IsChoiceFrom m (suc n) (suc k)) _ _
    (all_map (IsChoiceFrom (suc m) n k) (IsChoiceFrom m (suc n) (suc k)) (λ q. m ∷ q) (first_choice m n k)
    (chosen k (range_from (suc m) n)) (only (suc m) n k))
    (all_of (IsChoiceFrom (suc m) n (suc k)) (IsChoiceFrom m (suc n) (suc k)) (wider_choice m n (suc k))
    (chosen (suc k) (range_from (suc m) n)) (only (suc m) n (suc k))))

-- ---- in lexicographic order

-- each list is less than all later ones
abbrev IsAscending : List (List ℕ) → Type 0
IsAscending [] = Unit {0}
IsAscending (x ∷ xs) = AllByRecursion (λ y. row_cmp x y ≡ Less) xs × IsAscending xs

ascending_map : (m : ℕ) (xs : List (List ℕ)) → IsAscending xs → IsAscending (map (λ q. m ∷ q) xs)
ascending_map m [] h = tt
ascending_map m (x ∷ xs) h = (
  all_map (λ y. row_cmp x y ≡ Less) (λ y. row_cmp (m ∷ x) y ≡ Less) (λ q. m ∷ q)
      (λ y e. ap (λ r. ordering_then r (row_cmp x y)) (sym (nat_cmp_is m m Equal refl)) ∙ e) xs h.0,
  ascending_map m xs h.1,
)

ascending_append : (xs ys : List (List ℕ)) → IsAscending xs → IsAscending ys
    → AllByRecursion (λ x. AllByRecursion (λ y. row_cmp x y ≡ Less) ys) xs
    → IsAscending (xs ++ ys)
ascending_append [] ys h k l = k
ascending_append (x ∷ xs) ys h k l =
    (all_append (λ y. row_cmp x y ≡ Less) xs ys h.0 l.0, ascending_append xs ys h.1 k l.1)

-- a choice with a place in front is less than one of later places
before_later : (m n k : ℕ) (ps qs : List ℕ) → IsChoiceFrom (suc m) n (suc k) qs → row_cmp (m ∷ ps) qs ≡ Less
before_later m n k ps [] c = absurd (let h : 0 ≡ suc k = c.count in omega arith)
before_later m n k ps (q ∷ qs) c =
    let l : m < q = (let h : suc m ≤ q = c.least.0 in omega arith) in
    ap (λ r. ordering_then r (row_cmp ps qs)) (sym (nat_cmp_is m q Less l))

ascending : (m n k : ℕ) → IsAscending (chosen k (range_from m n))
ascending m n zero = (tt, tt)
ascending m zero (suc k) = tt
ascending m (suc n) (suc k) =
    let front : List (List ℕ) = chosen k (range_from (suc m) n) in
    let back : List (List ℕ) = chosen (suc k) (range_from (suc m) n) in
    subst IsAscending (sym (chosen_step k m (range_from (suc m) n)))
    (ascending_append (map (λ q. m ∷ q) front) back (ascending_map m front (ascending (suc m) n k))
    (ascending (suc m) n (suc k))
    (all_map (IsChoiceFrom (suc m) n k) (λ x. AllByRecursion (λ y. row_cmp x y ≡ Less) back) (λ q. m ∷ q)
    (λ ps c. all_of (IsChoiceFrom (suc m) n (suc k)) (λ y. row_cmp (m ∷ ps) y ≡ Less)
    (λ qs d. before_later m n k ps qs d) back (only (suc m) n (suc k)))
    front (only (suc m) n k)))

neighbours : (front back : List (List ℕ)) (x y : List ℕ) → IsAscending (front ++ (x ∷ y ∷ back)) → row_cmp x y ≡ Less
neighbours [] back x y h = h.0.0
neighbours (z ∷ front) back x y h = neighbours front back x y h.1

-- ---- the other places

all_both : {A : Type 0} (P Q : A → Type 0) (xs : List A) → AllByRecursion P xs → AllByRecursion Q xs
    → AllByRecursion (λ x. P x × Q x) xs
all_both P Q [] h k = tt
all_both P Q (x ∷ xs) h k = ((h.0, k.0), all_both P Q xs h.1 k.1)

filter_same : {A : Type 0} (p q : A → Bool) (xs : List A) → AllByRecursion (λ x. p x ≡ q x) xs → filter p xs ≡ filter q xs
filter_same p q [] h = refl
filter_same p q (x ∷ xs) h =
    ap (λ b. cond b (x ∷ filter p xs) (filter p xs)) h.0
    ∙ ap (λ w. cond (q x) (x ∷ w) w) (filter_same p q xs h.1)

filter_whole : {A : Type 0} (xs : List A) → filter (λ x. true) xs ≡ xs
filter_whole [] = refl
filter_whole (x ∷ xs) = ap (λ w. x ∷ w) (filter_whole xs)

range_from-least : (m n : ℕ) → AllByRecursion (λ p. m ≤ p) (range_from m n)
range_from-least m zero = tt
range_from-least m (suc n) =
    (omega arith, all_of (λ p. suc m ≤ p) (λ p. m ≤ p) (λ p h. omega arith) _ (range_from-least (suc m) n))

-- the place m, which is less than all of xs, is chosen
without_chosen : (m : ℕ) (xs ys : List ℕ) → AllByRecursion (λ p. suc m ≤ p) xs
    → without xs ys ≡ without (m ∷ xs) (m ∷ ys)
without_chosen m xs ys h =
    filter_same (λ x. not (has ys x)) (λ x. not ((x == m) || has ys x)) xs
    (all_of (λ p. suc m ≤ p) (λ x. not (has ys x) ≡ not ((x == m) || has ys x))
    (λ x l. ap (λ b. not (b || has ys x)) (sym (ne_eqb x m (omega arith)))) xs h)
    ∙ sym (ap (λ b. cond (not (b || has ys m)) (m ∷ without xs (m ∷ ys)) (without xs (m ∷ ys))) (eq-eqb m m refl))

absent : (m : ℕ) (ys : List ℕ) → AllByRecursion (λ p. suc m ≤ p) ys → has ys m ≡ false
absent m [] h = refl
absent m (y ∷ ys) h =
    ap (λ b. b || has ys m) (let l : suc m ≤ y = h.0 in ne_eqb m y (omega arith)) ∙ absent m ys h.1

-- the place m is not chosen
without_left : (m : ℕ) (xs ys : List ℕ) → AllByRecursion (λ p. suc m ≤ p) ys
    → m ∷ without xs ys ≡ without (m ∷ xs) ys
without_left m xs ys h = sym (ap (λ b. cond (not b) (m ∷ without xs ys) (without xs ys)) (absent m ys h))

abbrev HasOthers : List ℕ → List ℕ × List ℕ → Type 0
HasOthers xs t = t.1 ≡ without xs t.0

others : (m n k : ℕ) → AllByRecursion (HasOthers (range_from m n)) (splits k (range_from m n))
others m n zero = (sym (filter_whole (range_from m n)), tt)
others m zero (suc k) = tt
others m (suc n) (suc k) =
    let xs : List ℕ = range_from (suc m) n in
    let least : AllByRecursion (λ p. suc m ≤ p) xs = range_from-least (suc m) n in
    all_append (HasOthers (m ∷ xs)) _ _
    (all_map (HasOthers xs) (HasOthers (m ∷ xs)) (λ s. (m ∷ s.0, s.1))
    (λ s e. e ∙ without_chosen m xs s.0 least) (splits k xs) (others (suc m) n k))
    (all_map (λ s. HasOthers xs s × IsSplit (λ p. suc m ≤ p) (suc k) (length xs) s) (HasOthers (m ∷ xs))
    (λ s. (s.0, m ∷ s.1))
    (λ s h. ap (λ w. m ∷ w) h.0 ∙ without_left m xs s.0 h.1.first) (splits (suc k) xs)
    (all_both (HasOthers xs) (IsSplit (λ p. suc m ≤ p) (suc k) (length xs)) (splits (suc k) xs) (others (suc m) n (suc k))
    (splits-are (λ p. suc m ≤ p) (suc k) xs least)))

-- ---- the law

from_zero : (n k : ℕ) (places : List ℕ) → IsChoice n k places → IsChoiceFrom 0 n k places
from_zero n k places c = record {
  count = c.count;
  increasing = increasing_all places c.increasing;
  least = all_of (λ p. p < n) (λ p. 0 ≤ p) (λ p h. omega arith) places c.within;
  within = all_of (λ p. p < n) (λ p. p < 0 + n) (λ p h. omega arith) places c.within;
}

to_zero : (n k : ℕ) (places : List ℕ) → IsChoiceFrom 0 n k places → IsChoice n k places
to_zero n k places c = record {
  count = c.count;
  increasing = increasing_next places c.increasing;
  within = all_of (λ p. p < 0 + n) (λ p. p < n) (λ p h. omega arith) places c.within;
}

pub lists_each_choice : (n k : ℕ) → ListsEachChoice n k
lists_each_choice n k = record {
  every = λ places c. every 0 n k places (from_zero n k places c);
  only = all_of (IsChoiceFrom 0 n k) (IsChoice n k) (to_zero n k) (choices n k) (only 0 n k);
  ascending = λ front back x y e. neighbours front back x y (subst IsAscending e (ascending 0 n k));
  others = others 0 n k;
}
