-- Syzygies and their multiples are homogeneous: each of their tableaux has the same points, each as often.
use Rattle.std.proofs.Common.{◌≡◌, ℕ, zero, suc, ◌+◌, ◌<◌, ◌==◌, Bool, true, false, cond, List, [], ◌∷◌, ◌++◌, length}
use Rattle.std.proofs.Common.{get_or, subst, refl, sym, ap, ap₂, ◌∙◌, arith, nat_cmp, is_gt}
use Rattle.std.specs.Prelude.{slice_get}
use Rattle.std.specs.List.{AllByRecursion, cons_option}
use Rattle.std.specs.Cmp.{nat_cmp_total}
use Rattle.coordinate_model.specs.Sequences.{range_from, range, splits, at_places}
use Rattle.coordinate_model.specs.Words.{place, ordered}
use Rattle.coordinate_model.specs.Key.{Key, row_cmp, points, HasPoints, key_times, rows_key, add_exponents}
use Rattle.coordinate_model.specs.BracketPolynomial.{AllKeys}
use Rattle.coordinate_model.specs.Syzygy.{sorted_bracket, syz, use_term, multiple}
use Rattle.coordinate_model.specs.SyzygyLaws.{PointsOfSyzygy, PointsOfMultiple}
use Rattle.coordinate_model.proofs.Counts.{many, many-append, one_if}
use Rattle.coordinate_model.proofs.Keys.{times_in}
use Rattle.coordinate_model.proofs.Orders.{count_ordered}
use Rattle.coordinate_model.proofs.Sorting.{count-many}
use Rattle.coordinate_model.proofs.Splits.{IsSplit, splits-are, range-below, all_map, all_append}
use Rattle.coordinate_model.proofs.KeySets.{all_sum_of, all_times}
use Rattle.coordinate_model.proofs.Closure.{all_signed, all_sum_over, keys-sorted}
use Rattle.coordinate_model.proofs.Openings.{syz_term, syz-is}

-- ---- points of tableaux

has_points : (ps : List ℕ) (k : Key) → ((i : ℕ) → times_in i (points k.rows) ≡ times_in i ps) → HasPoints ps k
has_points ps k h i =
    count-many (λ p. i == p) (points k.rows) ∙ h i ∙ sym (count-many (λ p. i == p) ps)

times_of : (ps : List ℕ) (k : Key) → HasPoints ps k → (i : ℕ) → times_in i (points k.rows) ≡ times_in i ps
times_of ps k h i =
    sym (count-many (λ p. i == p) (points k.rows)) ∙ h i ∙ count-many (λ p. i == p) ps

times-points : (i : ℕ) (r : List ℕ) (rows : List (List ℕ))
    → times_in i (points (r ∷ rows)) ≡ times_in i r + times_in i (points rows)
times-points i r rows = many-append (λ p. i == p) r (points rows)

pub times-append : (i : ℕ) (rows more : List (List ℕ))
    → times_in i (points (rows ++ more)) ≡ times_in i (points rows) + times_in i (points more)
times-append i [] more = omega arith
times-append i (r ∷ rows) more =
    let a : times_in i (points (r ∷ (rows ++ more))) ≡ times_in i r + times_in i (points (rows ++ more))
    = times-points i r (rows ++ more) in
    let b : times_in i (points (r ∷ rows)) ≡ times_in i r + times_in i (points rows) = times-points i r rows in
    let c : times_in i (points (rows ++ more)) ≡ times_in i (points rows) + times_in i (points more)
    = times-append i rows more in
    omega arith

times-place : (i : ℕ) (r : List ℕ) (rows : List (List ℕ))
    → times_in i (points (place row_cmp r rows)) ≡ times_in i r + times_in i (points rows)
times-place i r [] = times-points i r []
times-place i r (s ∷ rows) = step (is_gt (row_cmp r s)) (times-place i r rows)
  where
    step : (b : Bool) → times_in i (points (place row_cmp r rows)) ≡ times_in i r + times_in i (points rows)
        → times_in i (points (cond b (s ∷ place row_cmp r rows) (r ∷ s ∷ rows)))
        ≡ times_in i r + times_in i (points (s ∷ rows))
    step true e =
        let rest : List (List ℕ) = place row_cmp r rows in
        let a : times_in i (points (s ∷ rest)) ≡ times_in i s + times_in i (points rest) = times-points i s rest in
        let b : times_in i (points (s ∷ rows)) ≡ times_in i s + times_in i (points rows) = times-points i s rows in
        omega arith
    step false e = times-points i r (s ∷ rows)

pub times-ordered : (i : ℕ) (rows : List (List ℕ)) → times_in i (points (ordered row_cmp rows)) ≡ times_in i (points rows)
times-ordered i [] = refl
times-ordered i (r ∷ rows) =
    times-place i r (ordered row_cmp rows) ∙ ap (λ n. times_in i r + n) (times-ordered i rows)
    ∙ sym (times-points i r rows)

-- the points of a product of keys
pub points-times : (ps qs : List ℕ) (k l : Key) → HasPoints ps k → HasPoints qs l → HasPoints (ps ++ qs) (key_times k l)
points-times ps qs k l h g =
    has_points (ps ++ qs) (key_times k l)
    (λ i. times-ordered i (k.rows ++ l.rows) ∙ times-append i k.rows l.rows
    ∙ ap₂ ◌+◌ (times_of ps k h i) (times_of qs l g i) ∙ sym (many-append (λ p. i == p) ps qs))

-- ---- sorted brackets

-- the points ps, and no parameter
abbrev Holds : List ℕ → Key → Type 0
Holds ps k = (k.exponents ≡ []) × HasPoints ps k

points-sorted : (ps : List ℕ) → AllKeys (Holds ps) (sorted_bracket ps)
points-sorted ps =
    keys-sorted (Holds ps) ps
    (λ e. (
      refl,
      has_points ps (rows_key (ordered nat_cmp ps ∷ []))
          (λ i. times-points i (ordered nat_cmp ps) [] ∙ plus_none (times_in i (ordered nat_cmp ps))
          ∙ count_ordered nat_cmp_total (λ p. i == p) ps),
    ))
  where
    plus_none : (n : ℕ) → n + 0 ≡ n
    plus_none n = omega arith

-- ---- splits

-- the parts of a split have the letters of the whole
abbrev HasLetters : {A : Type 0} → List A → List A × List A → Type 0
HasLetters {A} xs t = (q : A → Bool) → many q t.0 + many q t.1 ≡ many q xs

letters-splits : {A : Type 0} (k : ℕ) (xs : List A) → AllByRecursion (HasLetters xs) (splits k xs)
letters-splits zero xs = (λ q. omega arith, tt)
letters-splits (suc k) [] = tt
letters-splits (suc k) (x ∷ xs) =
    all_append _ _ _
    (all_map (HasLetters xs) _ (λ s. (x ∷ s.0, s.1)) (λ s e q. chosen (one_if (q x)) _ _ _ (e q)) (splits k xs)
    (letters-splits k xs))
    (all_map (HasLetters xs) _ (λ s. (s.0, x ∷ s.1)) (λ s e q. other (one_if (q x)) _ _ _ (e q)) (splits (suc k) xs)
    (letters-splits (suc k) xs))
  where
    chosen : (n a b c : ℕ) → a + b ≡ c → n + a + b ≡ n + c
    chosen n a b c e = omega arith

    other : (n a b c : ℕ) → a + b ≡ c → a + (n + b) ≡ n + c
    other n a b c e = omega arith

many-range_suc : (q : ℕ → Bool) (n k : ℕ) → many q (range_from (suc n) k) ≡ many (λ j. q (suc j)) (range_from n k)
many-range_suc q n zero = refl
many-range_suc q n (suc k) = ap (λ m. one_if (q (suc n)) + m) (many-range_suc q (suc n) k)

-- the places of a list have its letters
many-range : (q : ℕ → Bool) (xs : List ℕ) → many (λ j. q (get_or xs j 0)) (range (length xs)) ≡ many q xs
many-range q [] = refl
many-range q (x ∷ xs) =
    ap (λ m. one_if (q x) + m)
    (many-range_suc (λ j. q (get_or (x ∷ xs) j 0)) 0 (length xs) ∙ many-range q xs)

many-entry : (q : ℕ → Bool) (xs : List ℕ) (j : ℕ) (rest : List ℕ) → j < length xs
    → many q (cons_option (slice_get xs j) rest) ≡ one_if (q (get_or xs j 0)) + many q rest
many-entry q [] j rest h = absurd (omega arith)
many-entry q (x ∷ xs) zero rest h = refl
many-entry q (x ∷ xs) (suc j) rest h = many-entry q xs j rest (omega arith)

many-at_places : (q : ℕ → Bool) (xs js : List ℕ) → AllByRecursion (λ j. j < length xs) js
    → many q (at_places xs js) ≡ many (λ j. q (get_or xs j 0)) js
many-at_places q xs [] h = refl
many-at_places q xs (j ∷ js) h =
    many-entry q xs j (at_places xs js) h.0 ∙ ap (λ m. one_if (q (get_or xs j 0)) + m) (many-at_places q xs js h.1)

-- ---- syzygies

module _ (α β γ : List ℕ) where
  -- the points of all three lists
  abbrev all : List ℕ
  all = α ++ (β ++ γ)

  -- a split of the places of β
  abbrev IsPlaces : List ℕ × List ℕ → Type 0
  IsPlaces = IsSplit (λ j. j < length β) (length α + 1) (length (range (length β)))

  times-term : (i : ℕ) (t : List ℕ × List ℕ) → IsPlaces t → HasLetters (range (length β)) t
      → times_in i ((α ++ at_places β t.1) ++ (at_places β t.0 ++ γ)) ≡ times_in i all
  times-term i t h e =
      let q : ℕ → Bool = λ p. i == p in
      let a : many q ((α ++ at_places β t.1) ++ (at_places β t.0 ++ γ))
      ≡ many q (α ++ at_places β t.1) + many q (at_places β t.0 ++ γ)
      = many-append q (α ++ at_places β t.1) (at_places β t.0 ++ γ) in
      let b : many q (α ++ at_places β t.1) ≡ many q α + many q (at_places β t.1)
      = many-append q α (at_places β t.1) in
      let c : many q (at_places β t.0 ++ γ) ≡ many q (at_places β t.0) + many q γ
      = many-append q (at_places β t.0) γ in
      let d : many q (at_places β t.0) ≡ many (λ j. q (get_or β j 0)) t.0 = many-at_places q β t.0 h.first in
      let f : many q (at_places β t.1) ≡ many (λ j. q (get_or β j 0)) t.1 = many-at_places q β t.1 h.second in
      let g : many (λ j. q (get_or β j 0)) t.0 + many (λ j. q (get_or β j 0)) t.1
      ≡ many (λ j. q (get_or β j 0)) (range (length β)) = e (λ j. q (get_or β j 0)) in
      let k : many (λ j. q (get_or β j 0)) (range (length β)) ≡ many q β = many-range q β in
      let l : many q (α ++ (β ++ γ)) ≡ many q α + many q (β ++ γ) = many-append q α (β ++ γ) in
      let m : many q (β ++ γ) ≡ many q β + many q γ = many-append q β γ in
      omega arith

  keys-term : (t : List ℕ × List ℕ) → IsPlaces t → HasLetters (range (length β)) t
      → AllKeys (Holds all) (syz_term α β γ t)
  keys-term t h e =
      all_signed (Holds all) (t.0 ++ t.1) _
      (all_times (Holds (α ++ at_places β t.1)) (Holds (at_places β t.0 ++ γ)) (Holds all)
      (λ k l p q. (
        ap₂ add_exponents p.0 q.0,
        has_points all (key_times k l)
            (λ i. times_of ((α ++ at_places β t.1) ++ (at_places β t.0 ++ γ)) (key_times k l)
            (points-times (α ++ at_places β t.1) (at_places β t.0 ++ γ) k l p.1 q.1) i ∙ times-term i t h e),
      ))
      (sorted_bracket (α ++ at_places β t.1)) (sorted_bracket (at_places β t.0 ++ γ))
      (points-sorted (α ++ at_places β t.1)) (points-sorted (at_places β t.0 ++ γ)))

  keys-terms : (ts : List (List ℕ × List ℕ)) → AllByRecursion IsPlaces ts
      → AllByRecursion (HasLetters (range (length β))) ts
      → AllByRecursion (λ t. AllKeys (Holds all) (syz_term α β γ t)) ts
  keys-terms [] h e = tt
  keys-terms (t ∷ ts) h e = (keys-term t h.0 e.0, keys-terms ts h.1 e.1)

pub points_of_syzygy : PointsOfSyzygy
points_of_syzygy α β γ =
    let ts : List (List ℕ × List ℕ) = splits (length α + 1) (range (length β)) in
    subst (AllKeys (Holds (α ++ (β ++ γ)))) (sym (syz-is α β γ))
    (all_sum_over (Holds (α ++ (β ++ γ))) (syz_term α β γ) ts
    (keys-terms α β γ ts (splits-are (λ j. j < length β) (length α + 1) (range (length β)) (range-below (length β)))
    (letters-splits (length α + 1) (range (length β)))))

-- ---- multiples

add_none : (e : List ℕ) → add_exponents e [] ≡ e
add_none [] = refl
add_none (x ∷ e) = refl

pub points_of_multiple : PointsOfMultiple
unfolding multiple
points_of_multiple u =
    all_times (λ k. (k.exponents ≡ u.exponents) × HasPoints (points u.rest) k)
    (Holds (u.alpha ++ (u.beta ++ u.gamma))) _
    (λ k l p q. (
      ap₂ add_exponents p.0 q.0 ∙ add_none u.exponents,
      points-times (points u.rest) (u.alpha ++ (u.beta ++ u.gamma)) k l p.1 q.1,
    ))
    (use_term u) (syz u.alpha u.beta u.gamma)
    (all_sum_of (λ k. (k.exponents ≡ u.exponents) × HasPoints (points u.rest) k) _ ((refl, λ i. refl), tt))
    (points_of_syzygy u.alpha u.beta u.gamma)
