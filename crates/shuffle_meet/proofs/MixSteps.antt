-- What a combination of two values adds: their entries, each times a parameter.
use Rattle.std.specs.Prelude.{◌≡◌, ℕ, pos, List, [], ◌∷◌, ◌++◌, map, flat_map, replicate, slice_set, None, Result, Ok, Err, OnErr}
use Rattle.std.specs.List.{AllByRecursion}
use Rattle.std.proofs.Common.{refl, sym, ap, ap₂, subst, ◌∙◌, append-nil}
use Rattle.coordinate_model.specs.Sums.{single}
use Rattle.coordinate_model.specs.Key.{Key}
use Rattle.coordinate_model.specs.BracketPolynomial.{BracketPolynomial, parameter_of}
use Rattle.coordinate_model.specs.Starts.{Product, scaled_product}
use Rattle.coordinate_model.proofs.Splits.{all_of_map}
use Rattle.bracket_terms.specs.declared.extensor.Extensor.{Extensor}
use Rattle.bracket_poly.specs.Tracked.{Tracked, nothing, limit_at, plus_term}
use Rattle.bracket_poly.specs.Answers.{IsErrorOf}
use Rattle.bracket_poly.specs.declared.error.PolyError.{PolyError}
use Rattle.bracket_poly.specs.declared.error.PolyError.TheVariants.{Coefficient, Keys, Memory}
use Rattle.bracket_poly.specs.declared.value.Value.{Value}
use Rattle.bracket_poly.specs.Kept.{TrackedOf}
use Rattle.bracket_poly.specs.Products.{ExponentsFit}
use Rattle.bracket_poly.specs.Values.{entry_of, value_of, extensor_size}
use Rattle.shuffle_meet.specs.Adding.{AddsProducts}
use Rattle.shuffle_meet.specs.Objects.{ParameterFits, mixed}
use Rattle.shuffle_meet.proofs.SeenLaws.{Entries, HaveSize}
use Rattle.shuffle_meet.proofs.Added.{Polys, HasAdded, none_added, more_added, stopped}
use Rattle.shuffle_meet.proofs.JoinSteps.{adds_same}
use Rattle.shuffle_meet.proofs.Pairs.{sizes_by}

-- ---- the polynomial of a parameter

-- one term more passes no limit
pub only_memory : (f : Tracked) (k : Key) (error : PolyError) → f ≡ nothing → IsErrorOf error (limit_at f (k, pos 1))
    → error ≡ Memory
only_memory f k error e h = by_error error (subst (λ (g : Tracked). IsErrorOf error (limit_at g (k, pos 1))) e h)
  where
    by_error : (error : PolyError) → IsErrorOf error None → error ≡ Memory
    by_error Coefficient h = cc
    by_error Keys h = cc
    by_error Memory h = refl

pub on_error : {X : Type 0} (P : Type 0) (r : Result X PolyError) → P → OnErr r P
on_error P (Ok x) p = tt
on_error P (Err e) p = p

pub parameter_is : (i : ℕ) (old new : Tracked) (exponents : List ℕ) (rows : List (List ℕ)) → old ≡ nothing
    → exponents ≡ slice_set (replicate 64 0) i 1 → rows ≡ []
    → new ≡ plus_term old (record { exponents = exponents; rows = rows }, pos 1) → new.sum ≡ parameter_of 64 i
unfolding single
parameter_is i old new exponents rows e f g h =
    ap (λ (w : Tracked). w.sum) (h ∙ ap (λ w. plus_term w (record { exponents = exponents; rows = rows }, pos 1)) e)
    ∙ ap₂ (λ x y. (plus_term nothing (record { exponents = x; rows = y }, pos 1)).sum) f g

-- ---- the entries of one value

-- the product of an entry
abbrev pub scaled : {d : ℕ} → BracketPolynomial → Extensor × TrackedOf d → List Product
scaled factor e = scaled_product factor (entry_of e) ∷ []

pub all_scaled : {d : ℕ} (factor : BracketPolynomial) (es : Entries d)
    → flat_map (scaled factor) es ≡ map (scaled_product factor) (value_of es)
all_scaled factor [] = refl
all_scaled factor (e ∷ es) = ap (λ ps. scaled_product factor (entry_of e) ∷ ps) (all_scaled factor es)

module _ (d : ℕ) (a : Value d) (xs : Entries d) (same : xs ≡ a.entries) where
  pub point_sizes : (step : ℕ) → a.step ≡ 1 → step ≡ 1 → HaveSize (extensor_size d step) xs
  point_sizes step e f =
      subst (λ (n : ℕ). HaveSize (extensor_size d n) xs) (e ∙ sym f)
      (subst (HaveSize (extensor_size d a.step)) (sym same) (sizes_by d (extensor_size d a.step) a.entries a.formed.sizes))

  pub factors_fit : (s : ℕ) (factor : BracketPolynomial) → factor ≡ parameter_of 64 s → ParameterFits s a
      → AllByRecursion (λ e. ExponentsFit e.1.tracked.sum factor) xs
  factors_fit s factor e h =
      subst (λ (f : BracketPolynomial). AllByRecursion (λ e. ExponentsFit e.1.tracked.sum f) xs) (sym e)
      (subst (AllByRecursion (λ e. ExponentsFit e.1.tracked.sum (parameter_of 64 s))) (sym same)
      (all_of_map (λ e. ExponentsFit e.1 (parameter_of 64 s)) entry_of a.entries h))

-- ---- the entries of both

module _ (d s t : ℕ) (a b : Value d) (f g : BracketPolynomial) (xs ys : Entries d) (first : f ≡ parameter_of 64 s)
    (second : g ≡ parameter_of 64 t) (left : xs ≡ a.entries) (right : ys ≡ b.entries) where
  abbrev ps : List Product
  ps = map (scaled_product f) (value_of xs)

  abbrev qs : List Product
  qs = map (scaled_product g) (value_of ys)

  as_mixed : ps ++ qs ≡ mixed s t a b
  as_mixed =
      ap₂ ◌++◌ (ap₂ (λ h es. map (scaled_product h) (value_of es)) first left)
      (ap₂ (λ h es. map (scaled_product h) (value_of es)) second right)

  first_added : {X : Type 0} (old mid : Polys) (u : X) → AddsProducts {X = X} old ps (Ok u) mid → HasAdded old ps mid
  first_added old mid u h = more_added old old mid [] ps u (none_added old) h

  pub mixed_added : {X Y : Type 0} (old mid new : Polys) (u : X) (v : Y) → AddsProducts {X = X} old ps (Ok u) mid
      → AddsProducts {X = Y} mid qs (Ok v) new → HasAdded old (mixed s t a b) new
  mixed_added old mid new u v h k =
      subst (λ (rs : List Product). HasAdded old rs new) as_mixed
      (more_added old mid new ps qs v (first_added old mid u h) k)

  pub first_stopped : {X Y : Type 0} (old new : Polys) (error : PolyError) → AddsProducts {X = X} old ps (Err error) new
      → AddsProducts {X = Y} old (mixed s t a b) (Err error) new
  first_stopped old new error h =
      adds_same old new (ps ++ qs) (mixed s t a b) (Err error) as_mixed
      (stopped old old new new [] ps qs error (none_added old) h)

  pub second_stopped : {X Y Z : Type 0} (old mid new : Polys) (u : X) (error : PolyError)
      → AddsProducts {X = X} old ps (Ok u) mid → AddsProducts {X = Y} mid qs (Err error) new
      → AddsProducts {X = Z} old (mixed s t a b) (Err error) new
  second_stopped old mid new u error h k =
      adds_same old new (ps ++ (qs ++ [])) (mixed s t a b) (Err error) (ap (λ rs. ps ++ rs) (append-nil qs) ∙ as_mixed)
      (stopped old mid new new ps qs [] error (first_added old mid u h) k)
