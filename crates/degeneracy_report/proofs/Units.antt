-- Unit vectors put in for fresh points: the join with them is one coordinate of the object.
use Rattle.std.proofs.Common.{◌≡◌, ℕ, zero, suc, ◌<◌, ◌≤◌, Bool, true, false, cond, ◌&&◌, T, List, [], ◌∷◌, ◌++◌, map, length}
use Rattle.std.proofs.Common.{refl, sym, ap, ap₂, ◌∙◌, subst, arith, eqb}
use Rattle.std.proofs.lemmas.Bool.{ne_eqb}
use Rattle.std.proofs.Math.Dec.{eqb_refl}
use Rattle.std.specs.Cmp.{Equal-is}
use Rattle.std.specs.FinMap.{slice_cmp-IsAntisymmetric, nat_cmp-IsAntisymmetric}
use Rattle.std.specs.List.{AllByRecursion, list_all}
use Rattle.std.specs.Ordering.{eq_by_cmp}
use Rattle.std.specs.Prelude.{ℤ, pos, negsuc, ◌==◌, if◌then◌else◌}
use Rattle.coordinate_model.specs.Ring.{Ops, IsCommRing, IsHom, of_int, Integers}
use Rattle.coordinate_model.specs.Sequences.{columns, splits, range_from, is_odd}
use Rattle.coordinate_model.specs.Brackets.{Point, Coords, sum_over, signed, join_points, extensor, join}
use Rattle.coordinate_model.specs.Sums.{is_zero}
use Rattle.coordinate_model.specs.Key.{row_cmp}
use Rattle.coordinate_model.specs.Polynomial.{Variable, coordinate, parameter, Polynomials, free_point}
use Rattle.coordinate_model.specs.Evaluation.{value_in}
use Rattle.coordinate_model.proofs.Bools.{first, second}
use Rattle.coordinate_model.proofs.Hom.{extensor-hom, join-hom}
use Rattle.coordinate_model.proofs.PolynomialRing.{value_in-operations, value_in-variable}
use Rattle.coordinate_model.proofs.RingIntegers.{of_int-add, of_int-mul, of_int-neg}
use Rattle.coordinate_model.proofs.RingLemmas as Ring
use Rattle.degeneracy_report.specs.Joined.{joined}

-- the point with 1 in the column c and 0 in the others
abbrev pub unit : ℕ → Point Integers
unit c j = if c == j then pos 1 else pos 0

is_true : (b : Bool) → T b → b ≡ true
is_true true h = refl
is_true false h = absurd h

-- ---- which coordinate is picked

abbrev is_one : ℤ → Bool
is_one (pos zero) = false
is_one (pos (suc zero)) = true
is_one (pos (suc (suc n))) = false
is_one (negsuc n) = false

one_is : (z : ℤ) → T (is_one z) → z ≡ pos 1
one_is (pos zero) h = absurd h
one_is (pos (suc zero)) h = refl
one_is (pos (suc (suc n))) h = absurd h
one_is (negsuc n) h = absurd h

zero_is : (z : ℤ) → T (is_zero z) → z ≡ pos 0
zero_is (pos zero) h = refl
zero_is (pos (suc n)) h = absurd h
zero_is (negsuc n) h = absurd h

abbrev all_zero : (List ℕ → ℤ) → List (List ℕ × List ℕ) → Bool
all_zero c ss = list_all (λ s. is_zero (c s.1)) ss

-- c is 1 at the second part of one split alone, of which K is the first part, and 0 at those of the others
abbrev pub picks : (List ℕ → ℤ) → List ℕ → List (List ℕ × List ℕ) → Bool
picks c K [] = false
picks c K (s ∷ ss) =
    cond (is_zero (c s.1)) (picks c K ss) (eq_by_cmp row_cmp K s.0 && (is_one (c s.1) && all_zero c ss))

module _ (R : Ops) (L : IsCommRing R) (c : List ℕ → ℤ) (A : Coords R) where
  abbrev pub term : List ℕ × List ℕ → R.carrier
  term s = signed R (s.0 ++ s.1) (R.◌⊗◌ (A s.0) (of_int R (c s.1)))

  signed_zero : (b : Bool) (x : R.carrier) → x ≡ R.𝟘 → cond b (R.neg x) x ≡ R.𝟘
  signed_zero true x e = ap R.neg e ∙ Ring.neg_zero R L
  signed_zero false x e = e

  zero_signed : (b : Bool) (x : R.carrier) → cond b (R.neg x) x ≡ R.𝟘 → x ≡ R.𝟘
  zero_signed true x e = sym (Ring.neg_neg R L x) ∙ ap R.neg e ∙ Ring.neg_zero R L
  zero_signed false x e = e

  term_zero : (s : List ℕ × List ℕ) → c s.1 ≡ pos 0 → term s ≡ R.𝟘
  term_zero s e =
      signed_zero (is_odd (s.0 ++ s.1)) _ (ap (λ z. R.◌⊗◌ (A s.0) (of_int R z)) e ∙ Ring.mul_zero R L (A s.0))

  rest_zero : (ss : List (List ℕ × List ℕ)) → T (all_zero c ss) → sum_over R term ss ≡ R.𝟘
  rest_zero [] h = refl
  rest_zero (s ∷ ss) h =
      ap₂ R.◌⊕◌ (term_zero s (zero_is (c s.1) (first _ _ h))) (rest_zero ss (second _ _ h)) ∙ L.add_zero R.𝟘

  -- where the sum is zero, so is the coordinate that is picked
  pub picked : (K : List ℕ) (ss : List (List ℕ × List ℕ)) → T (picks c K ss) → sum_over R term ss ≡ R.𝟘 → A K ≡ R.𝟘
  picked K [] h e = absurd h
  picked K (s ∷ ss) h e = by_case (λ g f. picked K ss g f) (is_zero (c s.1)) refl h
    where
      here : T (eq_by_cmp row_cmp K s.0 && (is_one (c s.1) && all_zero c ss)) → A K ≡ R.𝟘
      here g =
          let chosen : T (eq_by_cmp row_cmp K s.0) = first (eq_by_cmp row_cmp K s.0) (is_one (c s.1) && all_zero c ss) g in
          let others : T (is_one (c s.1) && all_zero c ss) =
          second (eq_by_cmp row_cmp K s.0) (is_one (c s.1) && all_zero c ss) g in
          let same : K ≡ s.0 = slice_cmp-IsAntisymmetric nat_cmp-IsAntisymmetric K s.0 ((Equal-is (row_cmp K s.0)).0 (is_true (eq_by_cmp row_cmp K s.0) chosen)) in
          let one : c s.1 ≡ pos 1 = one_is (c s.1) (first (is_one (c s.1)) (all_zero c ss) others) in
          let rest : sum_over R term ss ≡ R.𝟘 = rest_zero ss (second (is_one (c s.1)) (all_zero c ss) others) in
          let alone : term s ≡ R.𝟘 = sym (L.add_zero (term s)) ∙ ap (R.◌⊕◌ (term s)) (sym rest) ∙ e in
          ap A same
          ∙ sym (L.mul_one (A s.0)) ∙ ap (R.◌⊗◌ (A s.0)) (sym (L.add_zero R.𝟙) ∙ ap (of_int R) (sym one))
          ∙ zero_signed (is_odd (s.0 ++ s.1)) (R.◌⊗◌ (A s.0) (of_int R (c s.1))) alone

      by_case : (T (picks c K ss) → sum_over R term ss ≡ R.𝟘 → A K ≡ R.𝟘) → (b : Bool) → is_zero (c s.1) ≡ b
          → T (cond b (picks c K ss) (eq_by_cmp row_cmp K s.0 && (is_one (c s.1) && all_zero c ss))) → A K ≡ R.𝟘
      by_case later true f g =
          later g
          (sym (Ring.zero_add R L (sum_over R term ss))
          ∙ ap (λ x. R.◌⊕◌ x (sum_over R term ss)) (sym (term_zero s (zero_is (c s.1) (subst T (sym f) tt)))) ∙ e)
      by_case later false f g = here g

-- the unit vectors of the second part of each split pick the first part
abbrev pub each_picked : ℕ → ℕ → Bool
each_picked d a =
    list_all (λ s. picks (extensor Integers (map unit s.1)) s.0 (splits a (columns d))) (splits a (columns d))

picked_2_1 : T (each_picked 2 1)
unfolding extensor join_points join
picked_2_1 = tt

picked_3_1 : T (each_picked 3 1)
unfolding extensor join_points join
picked_3_1 = tt

picked_3_2 : T (each_picked 3 2)
unfolding extensor join_points join
picked_3_2 = tt

picked_4_1 : T (each_picked 4 1)
unfolding extensor join_points join
picked_4_1 = tt

picked_4_2 : T (each_picked 4 2)
unfolding extensor join_points join
picked_4_2 = tt

picked_4_3 : T (each_picked 4 3)
unfolding extensor join_points join
picked_4_3 = tt

pub picked_each : (d a : ℕ) → 2 ≤ d → d ≤ 4 → 1 ≤ a → a < d → T (each_picked d a)
picked_each (suc (suc zero)) (suc zero) p q r s = picked_2_1
picked_each (suc (suc (suc zero))) (suc zero) p q r s = picked_3_1
picked_each (suc (suc (suc zero))) (suc (suc zero)) p q r s = picked_3_2
picked_each (suc (suc (suc (suc zero)))) (suc zero) p q r s = picked_4_1
picked_each (suc (suc (suc (suc zero)))) (suc (suc zero)) p q r s = picked_4_2
picked_each (suc (suc (suc (suc zero)))) (suc (suc (suc zero))) p q r s = picked_4_3
picked_each _ _ p q r s = absurd (omega arith)

-- ---- fresh points as unit vectors

module _ (R : Ops) (L : IsCommRing R) (base : Variable → R.carrier) where
  -- the points from n on are the unit vectors of the columns, and all else is as before
  abbrev pub with_units : ℕ → List ℕ → Variable → R.carrier
  with_units n [] v = base v
  with_units n (c ∷ J) (coordinate i j) = if i == n then of_int R (unit c j) else with_units (suc n) J (coordinate i j)
  with_units n (c ∷ J) (parameter k) = base (parameter k)

  other : (n c : ℕ) (J : List ℕ) (i j : ℕ) → (i ≡ n → ⊥)
      → with_units n (c ∷ J) (coordinate i j) ≡ with_units (suc n) J (coordinate i j)
  other n c J i j h = ap (λ b. cond b (of_int R (unit c j)) (with_units (suc n) J (coordinate i j))) (ne_eqb i n h)

  pub before_units : (n : ℕ) (J : List ℕ) (i j : ℕ) → i < n → with_units n J (coordinate i j) ≡ base (coordinate i j)
  before_units n [] i j h = refl
  before_units n (c ∷ J) i j h = other n c J i j (λ e. omega arith) ∙ before_units (suc n) J i j (omega arith)

  pub units_parameters : (n : ℕ) (J : List ℕ) (k : ℕ) → with_units n J (parameter k) ≡ base (parameter k)
  units_parameters n [] k = refl
  units_parameters n (c ∷ J) k = refl

  int_hom : IsHom Integers R (of_int R)
  int_hom = record {
    to_zero = refl;
    to_one = L.add_zero R.𝟙;
    to_add = of_int-add R L;
    to_mul = of_int-mul R L;
    to_neg = of_int-neg R L;
  }

  -- the values of a point of polynomials, and of one of integers
  abbrev valued : (Variable → R.carrier) → Point Polynomials → Point R
  valued at p = λ j. value_in R at (p j)

  abbrev numbered : Point Integers → Point R
  numbered p = λ j. of_int R (p j)

  -- the fresh points have the values of the unit vectors
  units_points : (at : Variable → R.carrier) (n : ℕ) (J : List ℕ)
      → ((i j : ℕ) → n ≤ i → at (coordinate i j) ≡ with_units n J (coordinate i j))
      → map (valued at) (map free_point (range_from n (length J))) ≡ map numbered (map unit J)
  units_points at n [] h = refl
  units_points at n (c ∷ J) h =
      ap₂ {C = List (Point R)} (λ x xs. x ∷ xs) (λ x j. here j x)
      (units_points at (suc n) J (λ i j l. h i j (omega arith) ∙ other n c J i j (λ e. omega arith)))
    where
      here : (j : ℕ) → value_in R at (free_point n j) ≡ of_int R (unit c j)
      here j =
          value_in-variable R L at (coordinate n j) ∙ h n j (omega arith)
          ∙ ap (λ b. cond b (of_int R (unit c j)) (with_units (suc n) J (coordinate n j))) (is_true (eqb n n) (eqb_refl n))

  -- the value of the join, with the unit vectors put in
  pub value_of_units : (d a n : ℕ) (J : List ℕ) (A : Coords Polynomials)
      → value_in R (with_units n J) (joined d a A (range_from n (length J)))
      ≡ join R a (λ K. value_in R (with_units n J) (A K)) (λ K. of_int R (extensor Integers (map unit J) K)) (columns d)
  value_of_units d a n J A =
      let at : Variable → R.carrier = with_units n J in
      let hom = value_in-operations R L at in
      join-hom Polynomials R hom a (λ K. refl)
      (λ K. extensor-hom Polynomials R hom (map free_point (range_from n (length J))) K
      ∙ ap (λ ps. extensor R ps K) (units_points at n J (λ i j l. refl))
      ∙ sym (extensor-hom Integers R int_hom (map unit J) K))
      (columns d)

  -- where that is zero, so is the coordinate of the object at the first part of a split
  pub coordinate_of_units : (d a : ℕ) (J K : List ℕ) (A : Coords R)
      → T (picks (extensor Integers (map unit J)) K (splits a (columns d)))
      → join R a A (λ I. of_int R (extensor Integers (map unit J) I)) (columns d) ≡ R.𝟘 → A K ≡ R.𝟘
  unfolding join
  coordinate_of_units d a J K A h e = picked R L (extensor Integers (map unit J)) A K (splits a (columns d)) h e

-- the join with an object whose coordinates are zero is zero
module _ (R : Ops) (L : IsCommRing R) where
  pub zero_joined : (a : ℕ) (A B : Coords R) (Is : List ℕ)
      → AllByRecursion (λ s. A s.0 ≡ R.𝟘) (splits a Is) → join R a A B Is ≡ R.𝟘
  unfolding join
  zero_joined a A B Is h = each (splits a Is) h
    where
      signed_nothing : (b : Bool) (x : R.carrier) → x ≡ R.𝟘 → cond b (R.neg x) x ≡ R.𝟘
      signed_nothing true x e = ap R.neg e ∙ Ring.neg_zero R L
      signed_nothing false x e = e

      each : (ss : List (List ℕ × List ℕ)) → AllByRecursion (λ s. A s.0 ≡ R.𝟘) ss
          → sum_over R (λ s. signed R (s.0 ++ s.1) (R.◌⊗◌ (A s.0) (B s.1))) ss ≡ R.𝟘
      each [] g = refl
      each (s ∷ ss) g =
          ap₂ R.◌⊕◌
          (signed_nothing (is_odd (s.0 ++ s.1)) _ (ap (λ x. R.◌⊗◌ x (B s.1)) g.0 ∙ Ring.zero_mul R L (B s.1)))
          (each ss g.1)
          ∙ L.add_zero R.𝟘
