-- What instructions make: the products of their objects, and the coordinates of these.
use Rattle.std.proofs.Common.{◌≡◌, ℕ, zero, suc, ◌+◌, ◌-◌, ◌<◌, ◌≤◌, ◌==◌, ◌||◌, Bool, true, false, cond, List, []}
use Rattle.std.proofs.Common.{◌∷◌}
use Rattle.std.proofs.Common.{map, length, replicate, All, get_or, refl, sym, ap, ap₂, subst, ◌∙◌, arith, eqb-true}
use Rattle.std.proofs.Common.{true≢false}
use Rattle.std.specs.List.{AllByRecursion}
use Rattle.std.proofs.Math.ListN.{get_or-map}
use Rattle.std.proofs.lemmas.List.{length-map}
use Rattle.coordinate_model.specs.Sequences.{IsRank, columns, subsets}
use Rattle.coordinate_model.specs.Brackets.{on}
use Rattle.coordinate_model.specs.Polynomial.{Polynomials, Polynomial, free_point, parameter, monomial}
use Rattle.coordinate_model.specs.Key.{IsKey}
use Rattle.coordinate_model.specs.BracketPolynomial.{parameter_of, value}
use Rattle.coordinate_model.specs.Starts.{Product, starts, join_products, meet_products, on_products}
use Rattle.coordinate_model.specs.Value.{Value, coordinates}
use Rattle.coordinate_model.proofs.Agreement.{same-joins, same-meets}
use Rattle.coordinate_model.proofs.BracketPolynomialLaws.{value_of_one, value_of_parameter}
use Rattle.coordinate_model.proofs.KeySets.{all_single}
use Rattle.coordinate_model.proofs.PolynomialRing.{polynomial_ring}
use Rattle.coordinate_model.proofs.Ranks.{by_rank}
use Rattle.coordinate_model.proofs.RingLemmas as L
use Rattle.coordinate_model.proofs.Splits.{at_each}
use Rattle.coordinate_model.proofs.StartLaws.{starts_of_join, starts_of_meet, starts_of_on}
use Rattle.coordinate_model.proofs.StartSizes.{IsEntry, IsSizedProduct, has_step, joins-sized, meets-sized}
use Rattle.coordinate_model.proofs.StartSizes.{combinations-sized, parameter-keys}
use Rattle.coordinate_model.proofs.ValueLaws.{free_one, coordinates-more, coordinates-none}
use Rattle.step_types.specs.declared.measure.Measure.{Measure}
use Rattle.cayley_terms.specs.Figures.{Figure, no_figure, point, joined, met, mixed}
use Rattle.cayley_terms.specs.Instrs.{no_measure, measure_at, figure_at}
use Rattle.cayley_terms.specs.Meaning.{Variables}
use Rattle.cayley_terms.specs.Starts.{one_of, free_value, value_at}
use Rattle.shuffle_meet.specs.SectionStarts.{is_conclusion}
use Rattle.log_checker.proofs.StartFacts.{IsValueOf}
use Rattle.log_checker.proofs.ConicStarts.{IsPlanePoint}

-- what an instruction makes: its sizes, its object and its value
pub record Made : Type 0 where
  pub measure : Measure
  pub figure : Figure Polynomials
  pub value : Value

abbrev pub nothing_made : Made
nothing_made = record { measure = no_measure; figure = no_figure Polynomials; value = [] }

abbrev pub measures_of : List Made → List Measure
measures_of made = map (λ x. x.measure) made

abbrev pub figures_of : List Made → List (Figure Polynomials)
figures_of made = map (λ x. x.figure) made

abbrev pub values_of : List Made → List Value
values_of made = map (λ x. x.value) made

-- a point, a line or a plane, with its value
pub record IsMade (d : ℕ) (x : Made) : Type 0 where
  pub step : x.measure.step ≡ x.figure.step
  pub least : 1 ≤ x.figure.step
  pub below : x.figure.step < d
  pub is_value : IsValueOf d x.value x.figure
  pub entries : AllByRecursion (IsEntry d 64 x.figure.step) x.value

-- a point of the plane
pub plane_point : (d : ℕ) (x : Made) → IsMade d x → d ≡ 3 → x.measure.step ≡ 1 → IsPlanePoint x.value x.figure
plane_point d x h three e =
    let one : x.figure.step ≡ 1 = sym h.step ∙ e in
    record {
      one = one;
      is_value = subst (λ k. IsValueOf k x.value x.figure) three h.is_value;
      entries =
          subst (λ k. AllByRecursion (IsEntry k 64 1) x.value) three
          (subst (λ a. AllByRecursion (IsEntry d 64 a) x.value) one h.entries);
    }

-- ---- steps

pub full_none : (d s : ℕ) → is_conclusion d s ≡ true → cond (s == d) 0 s ≡ 0
full_none d s h = step (s == 0) (s == d) refl h
  where
    step : (b c : Bool) → (s == 0) ≡ b → (b || c) ≡ true → cond c 0 s ≡ 0
    step b true e g = refl
    step true false e g = eqb-true s 0 e
    step false false e g = absurd (true≢false (sym g))

pub below_none : (d s : ℕ) → s < d → is_conclusion d s ≡ true → s ≡ 0
below_none d s l h = step (s == 0) (s == d) refl refl h
  where
    step : (b c : Bool) → (s == 0) ≡ b → (s == d) ≡ c → (b || c) ≡ true → s ≡ 0
    step true c e f g = eqb-true s 0 e
    step false true e f g = let w : s ≡ d = eqb-true s d f in absurd (omega arith)
    step false false e f g = absurd (true≢false (sym g))

pub not_full : (d s : ℕ) → s < d → cond (s == d) 0 s ≡ s
not_full d s l = step (s == d) refl
  where
    step : (b : Bool) → (s == d) ≡ b → cond b 0 s ≡ s
    step true e = let w : s ≡ d = eqb-true s d e in absurd (omega arith)
    step false e = refl

-- the one set of columns of a conclusion
pub at_scalar : (d s : ℕ) (P : List ℕ → Type 0) → IsRank d → is_conclusion d s ≡ true → All P (subsets d s)
    → P (cond (s == 0) [] (columns d))
at_scalar d s P r c h = step (s == 0) (s == d) refl refl c
  where
    alone : (d : ℕ) → IsRank d → subsets d d ≡ columns d ∷ []
    alone = by_rank (λ d. subsets d d ≡ columns d ∷ []) refl refl refl

    step : (a b : Bool) → (s == 0) ≡ a → (s == d) ≡ b → (a || b) ≡ true → P (cond a [] (columns d))
    step true b e f g = subst (λ n. All P (subsets d n)) (eqb-true s 0 e) h 0 [] (omega arith)
    step false true e f g =
        subst (All P) (ap (subsets d) (eqb-true s d f) ∙ alone d r) h 0 [] (omega arith)
    step false false e f g = absurd (true≢false (sym g))

-- ---- the starts of two objects

-- these products of an object of this step add up to it; its extensors have a points, and none in a conclusion
pub record IsWork (d step a : ℕ) (ps : List Product) (figure : Figure Polynomials) : Type 0 where
  pub sized : AllByRecursion (IsSizedProduct d 64 a) ps
  pub none : is_conclusion d step ≡ true → a ≡ 0
  pub steps : step ≡ figure.step
  pub same : All (λ K. coordinates (starts ps) K ≡ figure.coordinates K) (subsets d figure.step)

module _ (d : ℕ) (rank : IsRank d) (x y : Made) (h : IsMade d x) (k : IsMade d y) where
  abbrev a : ℕ
  a = x.figure.step

  abbrev b : ℕ
  b = y.figure.step

  pub join_work : x.figure.step + y.figure.step ≤ d
      → IsWork d (x.measure.step + y.measure.step)
      (cond (x.figure.step + y.figure.step == d) 0 (x.figure.step + y.figure.step)) (join_products d x.value y.value)
      (joined Polynomials x.figure y.figure)
  join_work few = record {
    sized = joins-sized d 64 a b few x.value y.value h.entries k.entries;
    none = λ e. full_none d (a + b) (ap (is_conclusion d) (sym (ap₂ ◌+◌ h.step k.step)) ∙ e);
    steps = ap₂ ◌+◌ h.step k.step;
    same = λ i z l.
        starts_of_join d a b x.value y.value rank (h.least, k.least, few) (has_step d 64 a x.value h.entries)
        (has_step d 64 b y.value k.entries) i z l
        ∙ same-joins Polynomials d a b (coordinates x.value) (coordinates y.value) x.figure.coordinates
        y.figure.coordinates h.is_value k.is_value i z l;
  }

  pub meet_work : d ≤ x.figure.step + y.figure.step
      → IsWork d (x.measure.step + y.measure.step - d) (x.figure.step + y.figure.step - d)
      (meet_products d x.value y.value) (met Polynomials d x.figure y.figure)
  meet_work enough =
      let p : a < d = h.below in
      let q : b < d = k.below in
      let e : x.measure.step + y.measure.step - d ≡ a + b - d = ap₂ (λ m n. m + n - d) h.step k.step in
      record {
        sized = meets-sized d 64 a b (omega arith) x.value y.value h.entries k.entries;
        none = λ c. below_none d (a + b - d) (omega arith) (ap (is_conclusion d) (sym e) ∙ c);
        steps = e;
        same = λ i z l.
            starts_of_meet d a b x.value y.value rank (h.least, p, k.least, q, enough)
            (has_step d 64 a x.value h.entries) (has_step d 64 b y.value k.entries) i z l
            ∙ same-meets Polynomials d a b (coordinates x.value) (coordinates y.value) x.figure.coordinates
            y.figure.coordinates (get_or (subsets d (a + b - d)) i z) h.is_value k.is_value;
      }

  -- the variable of a parameter
  abbrev variable : ℕ → Polynomial
  variable s = monomial (parameter s ∷ [])

  same_mixed : (s t : ℕ) (K : List ℕ) → s < 64 → t < 64 → coordinates x.value K ≡ x.figure.coordinates K
      → coordinates y.value K ≡ y.figure.coordinates K
      → on Polynomials (value (parameter_of 64 s)) (value (parameter_of 64 t)) (coordinates x.value)
      (coordinates y.value) K
      ≡ on Polynomials (variable s) (variable t) x.figure.coordinates y.figure.coordinates K
  unfolding on
  same_mixed s t K p q e f =
      ap₂ Polynomials.◌⊕◌ (ap₂ Polynomials.◌⊗◌ (value_of_parameter 64 s p) e)
      (ap₂ Polynomials.◌⊗◌ (value_of_parameter 64 t q) f)

  pub on_work : (s t : ℕ) → s < 64 → t < 64 → x.figure.step ≡ 1 → y.figure.step ≡ 1
      → IsWork d 1 1 (on_products (parameter_of 64 s) (parameter_of 64 t) x.value y.value)
      (mixed Polynomials (variable s) (variable t) x.figure y.figure)
  on_work s t p q one two = record {
    sized =
        combinations-sized d 64 1 (parameter_of 64 s) (parameter_of 64 t) (parameter-keys d 64 s)
        (parameter-keys d 64 t)
        x.value y.value (subst (λ n. AllByRecursion (IsEntry d 64 n) x.value) one h.entries)
        (subst (λ n. AllByRecursion (IsEntry d 64 n) y.value) two k.entries);
    none = λ e. below_none d 1 (let l = rank.0 in omega arith) e;
    steps = refl;
    same = λ i z l.
        let K = get_or (subsets d 1) i z in
        starts_of_on (parameter_of 64 s) (parameter_of 64 t) x.value y.value K
        ∙ same_mixed s t K p q (subst (λ n. IsAtAll n x) one h.is_value i z l) (subst
        (λ n. IsAtAll n y) two k.is_value i z l);
  }
    where
      IsAtAll : ℕ → Made → Type 0
      IsAtAll n m = All (λ K. coordinates m.value K ≡ m.figure.coordinates K) (subsets d n)

-- ---- free points

pub free_coordinates : (n i : ℕ) (K : List ℕ) → coordinates (free_value n i) K ≡ (point Polynomials
    (free_point i)).coordinates K
free_coordinates n i K =
    coordinates-more (i ∷ [], one_of n) [] K
    ∙ ap₂ Polynomials.◌⊕◌ (ap₂ Polynomials.◌⊗◌ (value_of_one n) (free_one i K)) (coordinates-none K)
    ∙ polynomial_ring.add_zero _ ∙ L.one_mul Polynomials polynomial_ring _

length-replicate : (n : ℕ) → length (replicate {A = ℕ} n 0) ≡ n
length-replicate zero = refl
length-replicate (suc n) = ap suc (length-replicate n)

pub free_entry : (d n i : ℕ) → IsEntry d n 1 (i ∷ [], one_of n)
free_entry d n i = record {
  points = refl;
  keys =
      all_single (IsKey d n) (record { exponents = replicate n 0; rows = [] })
      (record { parameters = length-replicate n; each = tt; ascending = λ k x z h. absurd (omega arith) });
}

-- ---- instructions

-- what the instruction of this number made
module _ (made : List Made) where
  abbrev pub made_at : ℕ → Made
  made_at n = record {
    measure = measure_at (measures_of made) n;
    figure = figure_at Variables (figures_of made) n;
    value = value_at (values_of made) n;
  }

  pub holds_at : (P : Made → Type 0) → AllByRecursion P made → (n : ℕ) → n < length (measures_of made) → P (made_at n)
  holds_at P all n h =
      let l : length (measures_of made) ≡ length made = length-map made (λ x. x.measure) in
      subst P
      (λ j. record {
        measure = sym (get_or-map (λ (x : Made). x.measure) made n nothing_made) j;
        figure = sym (get_or-map (λ (x : Made). x.figure) made n nothing_made) j;
        value = sym (get_or-map (λ (x : Made). x.value) made n nothing_made) j;
      })
      (at_each P made all n nothing_made (omega arith))
