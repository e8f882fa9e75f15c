-- The values that an instruction names, in the code and in the definitions.
use Rattle.std.proofs.Common.{◌≡◌, ℕ, zero, suc, ◌+◌, ◌<◌, ◌≤◌, List, [], ◌∷◌, map, length, get_or, sym, ap, ap₂}
use Rattle.std.proofs.Common.{subst, ◌∙◌, arith, replicate, slice_set}
use Rattle.std.proofs.lemmas.List.{length-map}
use Rattle.std.specs.List.{AllByRecursion}
use Rattle.coordinate_model.specs.BracketPolynomial.{parameter_of}
use Rattle.coordinate_model.specs.Starts.{Entry, join_products}
use Rattle.coordinate_model.specs.Value as model
use Rattle.coordinate_model.proofs.KeySets.{all_single}
use Rattle.coordinate_model.proofs.Splits.{all_so, all_set, all_replicate}
use Rattle.bracket_poly.specs.Products.{HasDegree, ExponentsFit}
use Rattle.bracket_poly.specs.Values.{value_of}
use Rattle.bracket_poly.specs.declared.value.Value.{Value}
use Rattle.bracket_poly.proofs.Degrees.{exponents_fit}
use Rattle.cayley_terms.specs.declared.instr.Instr.{Instr}
use Rattle.cayley_terms.specs.declared.instr.Instr.TheVariants.{Join, Meet, On, Conic}
use Rattle.cayley_terms.specs.Starts.{value_at, products_of}
use Rattle.cayley_terms.specs.Starts as operation
use Rattle.conic_points.specs.Points.{values_of}
use Rattle.shuffle_meet.specs.Objects.{AreJoined, AreMet, AreMixed}
use Rattle.log_checker.specs.Ready.{IsSmall, IsOperand, step_at, ArePair, IsJoin, IsMeet, IsMixed, IsConic, Makes}
use Rattle.log_checker.specs.Ready.{IsReady}
use Rattle.log_checker.specs.Seen.{steps_in}

-- a value of the code, as the definitions have it
abbrev pub said : {d : ℕ} → Value d → model.Value
said v = value_of v.entries

module _ {d : ℕ} where
  -- what stands at a place, by the lists that are made of the values
  step_there : (vs : List (Value d)) (n : ℕ) (x : Value d) → n < length vs → x ≡ get_or vs n x
      → get_or (map (λ v. v.step) vs) n 0 ≡ x.step
  step_there [] n x l e = absurd (omega arith)
  step_there (v ∷ vs) zero x l e = ap (λ (w : Value d). w.step) (sym e)
  step_there (v ∷ vs) (suc n) x l e = step_there vs n x (omega arith) e

  pub said_there : (vs : List (Value d)) (n : ℕ) (x : Value d) → n < length vs → x ≡ get_or vs n x
      → get_or (map said vs) n [] ≡ said x
  said_there [] n x l e = absurd (omega arith)
  said_there (v ∷ vs) zero x l e = ap (λ (w : Value d). said w) (sym e)
  said_there (v ∷ vs) (suc n) x l e = said_there vs n x (omega arith) e

  small_there : (vs : List (Value d)) (n : ℕ) (x : Value d) → n < length vs → x ≡ get_or vs n x
      → AllByRecursion IsSmall (map said vs) → IsSmall (said x)
  small_there [] n x l e h = absurd (omega arith)
  small_there (v ∷ vs) zero x l e h = subst (λ (w : Value d). IsSmall (said w)) (sym e) h.0
  small_there (v ∷ vs) (suc n) x l e h = small_there vs n x (omega arith) e h.1

-- the terms of two entries that are small may be multiplied
fit_one : (e : Entry) (B : model.Value) → HasDegree 1000 e.1 → IsSmall B → AllByRecursion (λ f. ExponentsFit e.1 f.1) B
fit_one e [] h k = tt
fit_one e (f ∷ B) h k = (exponents_fit 1000 1000 e.1 f.1 (omega arith) h k.0, fit_one e B h k.1)

pub fit_all : (A B : model.Value) → IsSmall A → IsSmall B
    → AllByRecursion (λ e. AllByRecursion (λ f. ExponentsFit e.1 f.1) B) A
fit_all [] B h k = tt
fit_all (e ∷ A) B h k = (fit_one e B h.0 k, fit_all A B h.1 k)

-- and those of an entry and a parameter
pub fit_parameter : (s : ℕ) (A : model.Value) → IsSmall A → AllByRecursion (λ e. ExponentsFit e.1 (parameter_of 64 s)) A
fit_parameter s A h =
    all_so (λ e. HasDegree 1000 e.1) (λ e. ExponentsFit e.1 (parameter_of 64 s))
    (λ e k. exponents_fit 1000 1 e.1 (parameter_of 64 s) (omega arith) k small) A h
  where
    small : HasDegree 1 (parameter_of 64 s)
    small =
        all_single (λ k. AllByRecursion (λ e. e ≤ 1) k.exponents)
        (record { exponents = slice_set (replicate 64 0) s 1; rows = [] })
        (all_set (λ e. e ≤ 1) (replicate 64 0) s 1 (omega arith) (all_replicate (λ e. e ≤ 1) 64 0 (omega arith)))

-- the values that a join or a meet names may be joined or may meet, and have small products
module _ {d : ℕ} (values : List (Value d)) (a b : ℕ) (x y : Value d) (first : x ≡ get_or values a x)
    (second : y ≡ get_or values b y) where
  within : (n : ℕ) → IsOperand d (steps_in values) n → n < length values
  within n h = let l : length (steps_in values) ≡ length values = length-map values (λ v. v.step) in
      let k : n < length (steps_in values) = h.earlier in omega arith

  step_first : IsOperand d (steps_in values) a → step_at (steps_in values) a ≡ x.step
  step_first h = step_there values a x (within a h) first

  step_second : IsOperand d (steps_in values) b → step_at (steps_in values) b ≡ y.step
  step_second h = step_there values b y (within b h) second

  values_first : IsOperand d (steps_in values) a → said x ≡ value_at (values_of values) a
  values_first h = sym (said_there values a x (within a h) first)

  values_second : IsOperand d (steps_in values) b → said y ≡ value_at (values_of values) b
  values_second h = sym (said_there values b y (within b h) second)

  pub pair_fits : ArePair d (steps_in values) a b → AllByRecursion IsSmall (values_of values)
      → AllByRecursion (λ e. AllByRecursion (λ f. ExponentsFit e.1 f.1) (said y)) (said x)
  pair_fits h all =
      fit_all (said x) (said y) (small_there values a x (within a h.first) first all)
      (small_there values b y (within b h.second) second all)

  pub are_joined : (step : ℕ) → IsJoin d (steps_in values) a b step → AreJoined d x.step y.step
  are_joined step h =
      let i = step_first h.pair.first in
      let j = step_second h.pair.second in
      record {
        first = subst (λ n. 1 ≤ n) i h.pair.first.least;
        second = subst (λ n. 1 ≤ n) j h.pair.second.least;
        first_below = subst (λ n. n < d) i h.pair.first.below;
        second_below = subst (λ n. n < d) j h.pair.second.below;
        few = subst (λ n. n ≤ d) (ap₂ ◌+◌ i j) h.few;
      }

  pub are_met : (step : ℕ) → IsMeet d (steps_in values) a b step → AreMet d x.step y.step
  are_met step h =
      let i = step_first h.pair.first in
      let j = step_second h.pair.second in
      record {
        first = subst (λ n. 1 ≤ n) i h.pair.first.least;
        second = subst (λ n. 1 ≤ n) j h.pair.second.least;
        first_below = subst (λ n. n < d) i h.pair.first.below;
        second_below = subst (λ n. n < d) j h.pair.second.below;
        many = subst (λ n. d ≤ n) (ap₂ ◌+◌ i j) h.many;
      }

  pub are_mixed : (s t step : ℕ) → IsMixed d (steps_in values) a b s t step → AreMixed x.step y.step
  are_mixed s t step h = record {
    first = sym (step_first h.pair.first) ∙ h.first;
    second = sym (step_second h.pair.second) ∙ h.second;
  }

  pub first_fits : (s : ℕ) → ArePair d (steps_in values) a b → AllByRecursion IsSmall
      (values_of values)
      → AllByRecursion (λ e. ExponentsFit e.1 (parameter_of 64 s)) (said x)
  first_fits s h all = fit_parameter s (said x) (small_there values a x (within a h.first) first all)

  pub second_fits : (t : ℕ) → ArePair d (steps_in values) a b → AllByRecursion IsSmall
      (values_of values)
      → AllByRecursion (λ e. ExponentsFit e.1 (parameter_of 64 t)) (said y)
  second_fits t h all = fit_parameter t (said y) (small_there values b y (within b h.second) second all)

  pub joined-same : ArePair d (steps_in values) a b
      → join_products d (said x) (said y) ≡ products_of operation.Join d (values_of values) a b
  joined-same h = ap₂ (join_products d) (values_first h.first) (values_second h.second)

-- what an instruction makes of which the object can be made
pub makes_join : (d : ℕ) (steps : List ℕ) (values : List model.Value) (instr : Instr) (a b step : ℕ)
    → IsReady d steps values instr step → instr ≡ Join a b → IsJoin d steps a b step
makes_join d steps values instr a b step h e = subst (λ i. Makes d steps i step) e h.makes

pub makes_meet : (d : ℕ) (steps : List ℕ) (values : List model.Value) (instr : Instr) (a b step : ℕ)
    → IsReady d steps values instr step → instr ≡ Meet a b → IsMeet d steps a b step
makes_meet d steps values instr a b step h e = subst (λ i. Makes d steps i step) e h.makes

pub makes_mixed : (d : ℕ) (steps : List ℕ) (values : List model.Value) (instr : Instr) (a b s t step : ℕ)
    → IsReady d steps values instr step → instr ≡ On a b s t → IsMixed d steps a b s t step
makes_mixed d steps values instr a b s t step h e = subst (λ i. Makes d steps i step) e h.makes

pub makes_conic : (d : ℕ) (steps : List ℕ) (values : List model.Value) (instr : Instr) (p1 p2 p3 p4 p5 p6 step : ℕ)
    → IsReady d steps values instr step → instr ≡ Conic p1 p2 p3 p4 p5 p6
    → IsConic d steps (p1 ∷ p2 ∷ p3 ∷ p4 ∷ p5 ∷ p6 ∷ []) step
makes_conic d steps values instr p1 p2 p3 p4 p5 p6 step h e = subst (λ i. Makes d steps i step) e h.makes
