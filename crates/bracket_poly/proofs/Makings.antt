-- Steps of a making: one after another, and what a call answers that takes them.
use Rattle.std.specs.Prelude.{◌≡◌, ℕ, pos, ◌+◌, ◌<◌, ◌≤◌, List, [], ◌∷◌, ◌++◌, drop, length, Option, Some, None, Bool, true, false, cond}
use Rattle.std.specs.Prelude.{Result, Ok, Err, IfOk}
use Rattle.std.specs.Result.{IsErrAnd}
use Rattle.std.specs.List.{AllByRecursion}
use Rattle.std.proofs.Common.{refl, sym, ap, subst, ◌∙◌, get_or}
use Rattle.std.proofs.lemmas.List.{drop_more, drop_all}
use Rattle.coordinate_model.specs.Sums.{Terms}
use Rattle.coordinate_model.specs.Key.{Key}
use Rattle.coordinate_model.specs.BracketPolynomial.{BracketPolynomial, AllKeys}
use Rattle.coordinate_model.specs.Starts.{Entry, product_terms}
use Rattle.coordinate_model.proofs.KeySets.{AllTerms, all_sum_of}
use Rattle.coordinate_model.proofs.Splits.{at_each, all_append}
use Rattle.bracket_terms.specs.declared.extensor.Extensor.{Extensor}
use Rattle.bracket_poly.specs.Answers.{IsErrorOf, AddsTerms, IsStop, Answers}
use Rattle.bracket_poly.specs.Kept.{TrackedOf}
use Rattle.bracket_poly.specs.Makings.{◌>>=◌, adding, made_product, each_item}
use Rattle.bracket_poly.specs.Tracked.{Tracked, Limit, nothing, has_met, first_limit, plus_term, plus_terms}
use Rattle.bracket_poly.specs.Values.{entry_of, value_of}
use Rattle.bracket_poly.specs.declared.error.PolyError.{PolyError}
use Rattle.bracket_poly.specs.declared.error.PolyError.TheVariants.{Coefficient, Keys, Memory}

-- ---- steps that end, and steps that are stopped

-- what is made in two steps
pub then_made : {A B : Type 0} (r : Result A Limit) (f : A → Result B Limit) (y : B) → (r >>= f) ≡ Ok y
    → (x : A) × (r ≡ Ok x) × (f x ≡ Ok y)
then_made (Ok x) f y e = (x, refl, e)
then_made (Err limit) f y e = cc

-- a limit stops what comes later
pub stop_then : (error : PolyError) (r : Result Tracked Limit) (f : Tracked → Result Tracked Limit) → IsStop error r
    → IsStop error (r >>= f)
stop_then Coefficient r f h = ap (λ s. s >>= f) h
stop_then Keys r f h = ap (λ s. s >>= f) h
stop_then Memory r f h = tt

-- what holds of the next step holds of both
pub then_has : {A B : Type 0} (Q : Result B Limit → Type 0) (r : Result A Limit) (f : A → Result B Limit) (x : A) → r ≡ Ok x
    → Q (f x) → Q (r >>= f)
then_has Q r f x e h = subst (λ (s : Result _ Limit). Q (s >>= f)) (sym e) h

-- the error of a call that `?` hands on
handed : {X : Type 0} (r : Result X PolyError) (error : PolyError) → IsErrAnd r (λ e. e ≡ error) → r ≡ Err error
handed (Ok x) error h = absurd h
handed (Err e) error h = ap Err h

pub error_answers : {X : Type 0} (view : X → Tracked) (r : Result X PolyError) (error : PolyError)
    (made : Result Tracked Limit) → IsErrAnd r (λ e. e ≡ error) → IsStop error made → Answers view r made
error_answers view r error made e h =
    subst (λ (s : Result _ PolyError). Answers view s made) (sym (handed r error e)) h

-- what follows where something is made
pub if_made : {X : Type 0} (view : X → Tracked) (P : X → Type 0) (r : Result X PolyError) (made : Result Tracked Limit)
    → Answers view r made → ((x : X) → made ≡ Ok (view x) → P x) → IfOk r P
if_made view P (Ok x) made h f = f x h
if_made view P (Err error) made h f = tt

-- ---- terms that are added

abbrev by_limit : Tracked → Terms Key → Option Limit → Result Tracked Limit
by_limit p ts o = elim o [ Some limit ↦ Err limit | None ↦ Ok (plus_terms p ts) ]

-- what is made so
pub made_terms : (p : Tracked) (ts : Terms Key) (q : Tracked) → adding p ts ≡ Ok q → q ≡ plus_terms p ts
made_terms p ts q e = by_case (first_limit p ts) e
  where
    by_case : (o : Option Limit) → by_limit p ts o ≡ Ok q → q ≡ plus_terms p ts
    by_case (Some limit) h = cc
    by_case None h = cc

pub adds_ok : {X : Type 0} (old new : Tracked) (ts : Terms Key) (x : X) → AddsTerms old ts (Ok x) new → adding old ts ≡ Ok new
adds_ok old new ts x a = ap (by_limit old ts) a.answer ∙ ap Ok (sym a.all)

pub adds_err : {X : Type 0} (old new : Tracked) (ts : Terms Key) (error : PolyError) → AddsTerms {X = X} old ts (Err error) new
    → IsStop error (adding old ts)
adds_err old new ts error a = by_error error a.answer
  where
    by_error : (error : PolyError) → IsErrorOf error (first_limit old ts) → IsStop error (adding old ts)
    by_error Coefficient h = ap (by_limit old ts) h
    by_error Keys h = ap (by_limit old ts) h
    by_error Memory h = tt

pub adds_answer : {X : Type 0} (old new : Tracked) (ts : Terms Key) (r : Result X PolyError) → AddsTerms old ts r new
    → Answers (λ x. new) r (adding old ts)
adds_answer old new ts (Ok x) a = adds_ok old new ts x a
adds_answer old new ts (Err error) a = adds_err old new ts error a

-- a product that is added to a new polynomial
module _ (start new : Tracked) (f g : BracketPolynomial) (e : start ≡ nothing) where
  pub product_ok : {X : Type 0} (x : X) → AddsTerms start (product_terms f g None (pos 1)) (Ok x) new
      → made_product f g ≡ Ok new
  product_ok x a =
      ap (λ p. adding p (product_terms f g None (pos 1))) (sym e) ∙ adds_ok start new (product_terms f g None (pos 1)) x a

  pub product_err : {X : Type 0} (error : PolyError) → AddsTerms {X = X} start (product_terms f g None (pos 1)) (Err error) new
      → IsStop error (made_product f g)
  product_err error a =
      subst (λ (p : Tracked). IsStop error (adding p (product_terms f g None (pos 1)))) e
      (adds_err start new (product_terms f g None (pos 1)) error a)

-- ---- a step for each entry of the code that is left

module _ {d : ℕ} (step : Tracked → Entry → Result Tracked Limit) (xs : List (Extensor × TrackedOf d)) where
  -- the steps of the entries from a place on
  abbrev pub from_place : Tracked → ℕ → Result Tracked Limit
  from_place p i = each_item step p (value_of (drop i xs))

  at_place : (p : Tracked) (i : ℕ) (x : Extensor × TrackedOf d) → i < length xs → x ≡ get_or xs i x
      → from_place p i ≡ (step p (entry_of x) >>= λ q. from_place q (i + 1))
  at_place p i x h e =
      ap (λ ys. each_item step p (value_of ys)) (drop_more xs i x h)
      ∙ ap (λ y. step p (entry_of y) >>= λ q. from_place q (i + 1)) (sym e)

  pub next_place : (whole : Result Tracked Limit) (p q : Tracked) (i : ℕ) (x : Extensor × TrackedOf d) → i < length xs
      → x ≡ get_or xs i x → whole ≡ from_place p i → step p (entry_of x) ≡ Ok q → whole ≡ from_place q (i + 1)
  next_place whole p q i x h e w s = w ∙ at_place p i x h e ∙ ap (λ r. r >>= λ q. from_place q (i + 1)) s

  pub stop_place : (whole : Result Tracked Limit) (p : Tracked) (i : ℕ) (x : Extensor × TrackedOf d) (error : PolyError)
      → i < length xs → x ≡ get_or xs i x → whole ≡ from_place p i → IsStop error (step p (entry_of x)) → IsStop error whole
  stop_place whole p i x error h e w s =
      subst (IsStop error) (sym (w ∙ at_place p i x h e)) (stop_then error (step p (entry_of x)) _ s)

  pub last_place : (whole : Result Tracked Limit) (p : Tracked) (i : ℕ) → length xs ≤ i → whole ≡ from_place p i → whole ≡ Ok p
  last_place whole p i h w = w ∙ ap (λ ys. each_item step p (value_of ys)) (drop_all i xs h)

-- what holds of all items holds of the one at a place
pub holds_at : {A : Type 0} (P : A → Type 0) (xs : List A) (i : ℕ) (x : A) → AllByRecursion P xs → i < length xs
    → x ≡ get_or xs i x → P x
holds_at P xs i x h l e = subst P (sym e) (at_each P xs h i x l)

-- ---- what holds of all keys

-- the keys of the polynomial have this, and those that it has met
pub record PolyHas (R : Key → Type 0) (p : Tracked) : Type 0 where
  pub keys : AllKeys R p.sum
  pub met : AllByRecursion R p.met

pub nothing_has : (R : Key → Type 0) → PolyHas R nothing
nothing_has R = record { keys = tt; met = tt }

module _ (R : Key → Type 0) where
  terms_have : (p : Tracked) (ts : Terms Key) → PolyHas R p → AllTerms R ts → PolyHas R (plus_terms p ts)
  terms_have p [] h k = h
  terms_have p (t ∷ ts) h k =
      terms_have (plus_term p t) ts
      (record { keys = all_sum_of R (t ∷ p.sum.terms) (k.0, h.keys); met = met_too (has_met p.met t.0) }) k.1
    where
      met_too : (b : Bool) → AllByRecursion R (cond b p.met (p.met ++ t.0 ∷ []))
      met_too true = h.met
      met_too false = all_append R p.met (t.0 ∷ []) h.met (k.0, tt)

  pub added_has : (p : Tracked) (ts : Terms Key) (q : Tracked) → adding p ts ≡ Ok q → PolyHas R p → AllTerms R ts
      → PolyHas R q
  added_has p ts q e h k = subst (PolyHas R) (sym (made_terms p ts q e)) (terms_have p ts h k)

  -- a step for each item
  pub each_has : {A : Type 0} (G : A → Type 0) (step : Tracked → A → Result Tracked Limit)
      → ((p : Tracked) (x : A) (q : Tracked) → step p x ≡ Ok q → G x → PolyHas R p → PolyHas R q)
      → (xs : List A) (p q : Tracked) → each_item step p xs ≡ Ok q → AllByRecursion G xs → PolyHas R p → PolyHas R q
  each_has G step holds [] p q e g h = let same : p ≡ q = cc in subst (PolyHas R) same h
  each_has G step holds (x ∷ xs) p q e g h =
      let made = then_made (step p x) (λ r. each_item step r xs) q e in
      each_has G step holds xs made.0 q made.2 g.1 (holds p x made.0 made.1 g.0 h)
