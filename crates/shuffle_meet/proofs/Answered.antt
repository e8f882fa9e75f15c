-- What the sums of all products are: the starts of a join, of a meet or of a combination, and so its coordinates.
use Rattle.std.specs.Prelude.{◌≡◌, ℕ, ℤ, ◌+◌, ◌-◌, ◌<◌, ◌==◌, Bool, true, false, cond, List, [], ◌∷◌, map, filter, flat_map}
use Rattle.std.specs.Prelude.{Option, None, Result, Ok, Err, OnErr, IfOk}
use Rattle.std.specs.Result.{IsErrAnd}
use Rattle.std.proofs.Common.{refl, sym, ap, ap₂, subst, ◌∙◌, arith, get_or, eqb-true}
use Rattle.coordinate_model.specs.Sequences.{IsRank, subsets}
use Rattle.coordinate_model.specs.Brackets.{on}
use Rattle.coordinate_model.specs.Sums.{Terms, sum_of}
use Rattle.coordinate_model.specs.Polynomial.{Polynomials}
use Rattle.coordinate_model.specs.Key.{Key, key_cmp}
use Rattle.coordinate_model.specs.BracketPolynomial.{KeySums, BracketPolynomial, add, parameter_of}
use Rattle.coordinate_model.specs.Value.{Value as Entries, HasStep, coordinates}
use Rattle.coordinate_model.specs.Starts.{Product, terms_of, reached, products_at, start_at, starts, has_term}
use Rattle.coordinate_model.proofs.KeySumLaws.{add_assoc, add_comm, add_zero, terms-same, terms-add}
use Rattle.coordinate_model.proofs.BracketPolynomialLaws.{value_of_parameter}
use Rattle.coordinate_model.proofs.StartLaws.{zero_entries, starts_of_join, starts_of_meet, starts_of_on}
use Rattle.bracket_terms.specs.Joins.{points_of}
use Rattle.bracket_poly.specs.Tracked.{Tracked, Limit, nothing, plus_term, plus_terms}
use Rattle.bracket_poly.specs.declared.error.PolyError.{PolyError}
use Rattle.bracket_poly.specs.declared.error.PolyError.TheVariants.{Memory}
use Rattle.bracket_poly.specs.declared.value.Value.{Value}
use Rattle.bracket_poly.specs.Values.{entry_of, value_of}
use Rattle.bracket_poly.specs.Answers.{AnswersLimit}
use Rattle.shuffle_meet.specs.Stops.{tracked_at, tracked_starts, tracked_entries, first_stop}
use Rattle.shuffle_meet.specs.Seen.{seen}
use Rattle.shuffle_meet.specs.Objects.{AreJoined, AreMet, joined, met, mixed, IsJoin, IsMeet, IsMixed}
use Rattle.shuffle_meet.specs.Adding.{AddsProducts}
use Rattle.shuffle_meet.proofs.SeenLaws as code
use Rattle.shuffle_meet.proofs.Sifting.{has_sum}
use Rattle.shuffle_meet.proofs.Added.{Polys, HasAdded}
use Rattle.shuffle_meet.proofs.StartSums.{entries_at, entries-tracked}

-- ---- entries without the keys that they have met

abbrev has_polys : List ℕ × Tracked → Bool
has_polys e = has_term (e.0, e.1.sum)

unmet_seen : {d : ℕ} (es : code.Entries d) → entries_at (seen es) ≡ value_of es
unmet_seen [] = refl
unmet_seen (e ∷ es) = ap (λ fs. entry_of e ∷ fs) (unmet_seen es)

seen_filter : {d : ℕ} (es : code.Entries d) → seen (filter has_sum es) ≡ filter has_polys (seen es)
seen_filter [] = refl
seen_filter (e ∷ es) = step (has_sum e) (seen_filter es)
  where
    step : (b : Bool) → seen (filter has_sum es) ≡ filter has_polys (seen es)
        → seen (cond b (e ∷ filter has_sum es) (filter has_sum es))
        ≡ cond b ((points_of e.0, e.1.tracked) ∷ filter has_polys (seen es)) (filter has_polys (seen es))
    step true ih = ap (λ fs. (points_of e.0, e.1.tracked) ∷ fs) ih
    step false ih = ih

-- ---- the answer

-- entries that are those of the starts with a term
pub entries_of_starts : {d : ℕ} (none : Polys) (es vs : code.Entries d) (ps : List Product) → none ≡ []
    → HasAdded none ps (seen es) → vs ≡ filter has_sum es → seen vs ≡ tracked_entries ps
entries_of_starts none es vs ps e h q =
    ap seen q ∙ seen_filter es ∙ ap (filter has_polys) (h.all [] e)

pub no_limit : (none end : Polys) (ps : List Product) → none ≡ [] → HasAdded none ps end → first_stop [] ps ≡ None
no_limit none end ps e h = h.no_stop [] e

-- for want of memory nothing is told
pub memory_answers : {X : Type 0} (limit : Option Limit) (r : Result X PolyError) → r ≡ Err Memory → AnswersLimit r limit
memory_answers {X} limit r e = subst (λ (s : Result X PolyError). AnswersLimit s limit) (sym e) tt

-- a value with these entries has the coordinates of the starts
coordinates_of : {d : ℕ} (vs : code.Entries d) (ps : List Product) (K : List ℕ) → seen vs ≡ tracked_entries ps
    → coordinates (value_of vs) K ≡ coordinates (starts ps) K
coordinates_of vs ps K e =
    ap (λ A. coordinates A K)
    (sym (unmet_seen vs) ∙ ap entries_at e ∙ entries-tracked ps)
    ∙ zero_entries (starts ps) K

-- values of the code have the step that they say
pub steps_of : (d : ℕ) (a : Value d) → a.step < d → HasStep a.step (value_of a.entries)
steps_of d a h = subst (λ (n : ℕ). HasStep n (value_of a.entries)) (size (a.step == d) refl) a.formed.sizes
  where
    size : (b : Bool) → (a.step == d) ≡ b → cond b 0 a.step ≡ a.step
    size true q = absurd (let e : a.step ≡ d = eqb-true a.step d q in omega arith)
    size false q = refl

pub is_join : (d : ℕ) (a b c : Value d) → IsRank d → AreJoined d a.step b.step
    → seen c.entries ≡ tracked_entries (joined a b) → IsJoin a b c
is_join d a b c rank h e k x l =
    coordinates_of c.entries (joined a b) (get_or (subsets d (a.step + b.step)) k x) e
    ∙ starts_of_join d a.step b.step (value_of a.entries) (value_of b.entries) rank (h.first, h.second, h.few)
    (steps_of d a h.first_below) (steps_of d b h.second_below) k x l

pub is_meet : (d : ℕ) (a b c : Value d) → IsRank d → AreMet d a.step b.step
    → seen c.entries ≡ tracked_entries (met a b) → IsMeet a b c
is_meet d a b c rank h e k x l =
    coordinates_of c.entries (met a b) (get_or (subsets d (a.step + b.step - d)) k x) e
    ∙ starts_of_meet d a.step b.step (value_of a.entries) (value_of b.entries) rank
    (h.first, h.first_below, h.second, h.second_below, h.many) (steps_of d a h.first_below) (steps_of d b h.second_below) k
    x l

pub is_mixed : (d s t : ℕ) (a b c : Value d) → s < 64 → t < 64 → seen c.entries ≡ tracked_entries (mixed s t a b)
    → IsMixed s t a b c
is_mixed d s t a b c first second e k x l =
    let K : List ℕ = get_or (subsets d 1) k x in
    coordinates_of c.entries (mixed s t a b) K e
    ∙ starts_of_on (parameter_of 64 s) (parameter_of 64 t) (value_of a.entries) (value_of b.entries) K
    ∙ ap₂ (λ p q. on Polynomials p q (coordinates (value_of a.entries)) (coordinates (value_of b.entries)) K)
    (value_of_parameter 64 s first) (value_of_parameter 64 t second)

-- ---- what the calls answer at the end

pub if_ok : {X E : Type 0} (P Q : X → Type 0) (r : Result X E) → IfOk r P → ((x : X) → P x → Q x) → IfOk r Q
if_ok P Q (Ok x) p f = f x p
if_ok P Q (Err e) p f = tt

pub limits_answered : {X : Type 0} (none end : Polys) (ps : List Product) (r : Result X PolyError) → none ≡ []
    → HasAdded none ps end → OnErr r (r ≡ Err Memory) → AnswersLimit r (first_stop [] ps)
limits_answered none end ps (Ok x) e h m = no_limit none end ps e h
limits_answered none end ps (Err error) e h m = memory_answers (first_stop [] ps) (Err error) m

-- an error at a product is the answer
pub error_answered : {X Y : Type 0} (none end : Polys) (ps : List Product) (r : Result X PolyError) (error : PolyError)
    → none ≡ [] → r ≡ Err error → AddsProducts {X = Y} none ps (Err error) end → AnswersLimit r (first_stop [] ps)
error_answered {X} none end ps r error e q h =
    subst (λ (s : Result X PolyError). AnswersLimit s (first_stop [] ps)) (sym q) (h.answer [] e)

-- the error that `?` hands on
pub handed_back : {X : Type 0} (r : Result X PolyError) (error : PolyError) → IsErrAnd r (λ e. e ≡ error) → r ≡ Err error
handed_back (Ok x) error h = absurd h
handed_back (Err e) error h = ap Err h

-- the entries of the answer
pub answer_entries : {d : ℕ} (ps : List Product) (none : Polys) (es : code.Entries d) (r : Result (Value d) PolyError)
    → none ≡ [] → HasAdded none ps (seen es) → IfOk r (λ v. v.entries ≡ filter has_sum es)
    → IfOk r (λ v. seen v.entries ≡ tracked_entries ps)
answer_entries ps none es r e h f = if_ok _ _ r f (λ v q. entries_of_starts none es v.entries ps e h q)
