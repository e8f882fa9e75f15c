-- Products that are added one after another, as the loops of the code add them.
use Rattle.std.specs.Prelude.{◌≡◌, ⊤, ℕ, ℤ, List, [], ◌∷◌, ◌++◌, Option, Some, None, option_map, Result, Ok, Err, OnOk, OnErr, map, unwrap_or}
use Rattle.std.specs.BTreeMap.{insert_entry, is_at}
use Rattle.std.specs.Map.{lookup, remove_entry}
use Rattle.std.proofs.Common.{refl, sym, ap, subst, ◌∙◌, append-nil, append_assoc}
use mir.Syntax.{w8}
use mir.Val.{SFits, to_z, of_z}
use Rattle.std.proofs.lemmas.Int.{to_z-of_z}
use Rattle.coordinate_model.specs.BracketPolynomial.{BracketPolynomial}
use Rattle.coordinate_model.specs.Key.{row_cmp}
use Rattle.coordinate_model.specs.Starts.{Product, product_terms, terms_of, reached}
use Rattle.coordinate_model.proofs.Grouping.{Ascend, ascend-reached}
use Rattle.bracket_poly.specs.Tracked.{Tracked, Limit, nothing, coefficient_limit, keys_limit, plus_terms, first_limit}
use Rattle.bracket_poly.specs.declared.error.PolyError.{PolyError}
use Rattle.bracket_poly.specs.declared.error.PolyError.TheVariants.{Coefficient, Keys, Memory}
use Rattle.bracket_poly.specs.Answers.{IsErrorOf, AnswersLimit, AddsTerms}
use Rattle.shuffle_meet.specs.Stops.{tracked_at, tracked_starts, first_stop}
use Rattle.shuffle_meet.specs.Adding.{AddsProducts}
use Rattle.bracket_terms.specs.declared.extensor.Extensor.{Extensor}
use Rattle.bracket_terms.specs.Joins.{points_of}
use Rattle.bracket_poly.specs.Kept.{TrackedOf}
use Rattle.shuffle_meet.specs.Seen.{seen}
use Rattle.shuffle_meet.proofs.Reached.{found_start, more_starts}
use Rattle.shuffle_meet.proofs.SeenLaws.{Entries, HaveSize, extensor_cmp, seen_insert, seen_remove, seen_lookup, sizes_insert, sizes_remove, insert_removed}

abbrev pub Polys : Type 0
Polys = List (List ℕ × Tracked)

-- ---- the first stop of two lists

-- the first, or else what comes later
abbrev or_later : Option Limit → Option Limit → Option Limit
or_later first later = elim first [ Some l ↦ Some l | None ↦ later ]

stop_after : (before ps qs : List Product) → first_stop before ps ≡ None
    → first_stop before (ps ++ qs) ≡ first_stop (before ++ ps) qs
stop_after before [] qs h = ap (λ ps. first_stop ps qs) (sym (append-nil before))
stop_after before (p ∷ ps) qs h = step (first_limit (tracked_at p.extensor before) (terms_of p)) h
    (stop_after (before ++ p ∷ []) ps qs)
  where
    step : (o : Option Limit) → or_later o (first_stop (before ++ p ∷ []) ps) ≡ None
        → (first_stop (before ++ p ∷ []) ps ≡ None
        → first_stop (before ++ p ∷ []) (ps ++ qs) ≡ first_stop ((before ++ p ∷ []) ++ ps) qs)
        → or_later o (first_stop (before ++ p ∷ []) (ps ++ qs)) ≡ first_stop (before ++ p ∷ ps) qs
    step (Some l) e ih = cc
    step None e ih = ih e ∙ ap (λ rs. first_stop rs qs) (append_assoc before (p ∷ []) ps)

stop_within : (before ps qs : List Product) (l : Limit) → first_stop before ps ≡ Some l
    → first_stop before (ps ++ qs) ≡ Some l
stop_within before [] qs l h = cc
stop_within before (p ∷ ps) qs l h = step (first_limit (tracked_at p.extensor before) (terms_of p)) h
    (stop_within (before ++ p ∷ []) ps qs l)
  where
    step : (o : Option Limit) → or_later o (first_stop (before ++ p ∷ []) ps) ≡ Some l
        → (first_stop (before ++ p ∷ []) ps ≡ Some l → first_stop (before ++ p ∷ []) (ps ++ qs) ≡ Some l)
        → or_later o (first_stop (before ++ p ∷ []) (ps ++ qs)) ≡ Some l
    step (Some k) e ih = e
    step None e ih = ih e

-- an error tells a limit that is passed, or nothing
same_limit : (error : PolyError) (l k : Option Limit) → ((m : Limit) → l ≡ Some m → k ≡ Some m) → IsErrorOf error l
    → IsErrorOf error k
same_limit Coefficient l k f h = f coefficient_limit h
same_limit Keys l k f h = f keys_limit h
same_limit Memory l k f h = tt

-- ---- what has been added so far

-- the products have been added, and none passed a limit
pub record HasAdded (old : Polys) (ps : List Product) (new : Polys) : Type 0 where
  pub no_stop : (before : List Product) → old ≡ tracked_starts before → first_stop before ps ≡ None
  pub all : (before : List Product) → old ≡ tracked_starts before → new ≡ tracked_starts (before ++ ps)

pub none_added : (old : Polys) → HasAdded old [] old
none_added old = record {
  no_stop = λ before e. refl;
  all = λ before e. e ∙ ap tracked_starts (sym (append-nil before));
}

pub more_added : {X : Type 0} (old now new : Polys) (ps qs : List Product) (x : X) → HasAdded old ps now
    → AddsProducts {X = X} now qs (Ok x) new → HasAdded old (ps ++ qs) new
more_added old now new ps qs x h k = record {
  no_stop = λ before e. stop_after before ps qs (h.no_stop before e) ∙ k.answer (before ++ ps) (h.all before e);
  all = λ before e. k.all (before ++ ps) (h.all before e) ∙ ap tracked_starts (append_assoc before ps qs);
}

pub all_added : {X : Type 0} (old new : Polys) (ps : List Product) (x : X) → HasAdded old ps new
    → AddsProducts {X = X} old ps (Ok x) new
all_added old new ps x h = record { answer = h.no_stop; all = h.all }

-- a product that stops ends the list
pub stopped : {X Y : Type 0} (old now new end : Polys) (ps qs rest : List Product) (error : PolyError)
    → HasAdded old ps now → AddsProducts {X = X} now qs (Err error) new
    → AddsProducts {X = Y} old (ps ++ (qs ++ rest)) (Err error) end
stopped old now new end ps qs rest error h k = record {
  answer = λ before e.
      subst (IsErrorOf error) (sym (stop_after before ps (qs ++ rest) (h.no_stop before e)))
      (same_limit error (first_stop (before ++ ps) qs) (first_stop (before ++ ps) (qs ++ rest))
      (λ m. stop_within (before ++ ps) qs rest m) (k.answer (before ++ ps) (h.all before e)));
  all = λ before e. tt;
}

-- ---- one product

one_stop : (o : Option Limit) → o ≡ or_later o None
one_stop (Some l) = refl
one_stop None = refl

starts-ascend : (ps : List Product) → Ascend (map (λ (e : List ℕ × Tracked). e.0) (tracked_starts ps))
starts-ascend ps = subst Ascend (sym (keys (reached ps))) (ascend-reached ps)
  where
    keys : (xs : List (List ℕ)) → map (λ (e : List ℕ × Tracked). e.0) (map (λ x. (x, tracked_at x ps)) xs) ≡ xs
    keys [] = refl
    keys (x ∷ xs) = ap (λ ys. x ∷ ys) (keys xs)

-- the polynomial that stands at the extensor, and else the one without a term
abbrev pub sum_at : List ℕ → Polys → Tracked
sum_at x polys = unwrap_or (lookup (is_at (row_cmp x)) polys) nothing

-- a product is added to the sum at its extensor, which is taken out and put back
pub adds_product : {X : Type 0} (p : Product) (old new : Polys) (sum : Tracked) (r : Result X PolyError)
    → AddsTerms (sum_at p.extensor old) (terms_of p) r sum
    → OnOk r (new ≡ insert_entry row_cmp (remove_entry (is_at (row_cmp p.extensor)) old) p.extensor sum)
    → AddsProducts old (p ∷ []) r new
adds_product {X} p old new sum r h k = record {
  answer = λ before e. subst (AnswersLimit r) (limit before e) h.answer;
  all = λ before e. left before e r h.all k;
}
  where
    at_first : (before : List Product) → old ≡ tracked_starts before
        → sum_at p.extensor old ≡ tracked_at p.extensor before
    at_first before e = ap (sum_at p.extensor) e ∙ found_start p.extensor before

    limit : (before : List Product) → old ≡ tracked_starts before
        → first_limit (sum_at p.extensor old) (terms_of p) ≡ first_stop before (p ∷ [])
    limit before e = ap (λ f. first_limit f (terms_of p)) (at_first before e) ∙ one_stop _

    left : (before : List Product) → old ≡ tracked_starts before → (r : Result X PolyError)
        → OnOk r (sum ≡ plus_terms (sum_at p.extensor old) (terms_of p))
        → OnOk r (new ≡ insert_entry row_cmp (remove_entry (is_at (row_cmp p.extensor)) old) p.extensor sum)
        → OnOk r (new ≡ tracked_starts (before ++ p ∷ []))
    left before e (Ok x) s n =
        n ∙ ap (λ es. insert_entry row_cmp (remove_entry (is_at (row_cmp p.extensor)) es) p.extensor sum) e
        ∙ insert_removed p.extensor sum (tracked_starts before) (starts-ascend before)
        ∙ ap (insert_entry row_cmp (tracked_starts before) p.extensor)
        (s ∙ ap (λ f. plus_terms f (terms_of p)) (at_first before e))
        ∙ more_starts before p
    left before e (Err x) s n = tt

-- where nothing is added, for want of memory
pub adds_none : {X : Type 0} (old new : Polys) (ps : List Product) → AddsProducts {X = X} old ps (Err Memory) new
adds_none old new ps = record { answer = λ before e. tt; all = λ before e. tt }

-- ---- what the code does for one product

module _ {d : ℕ} (n : ℕ) (k : Extensor) (size : k.size ≡ n) (es : Entries d) (h : HaveSize n es) where
  -- the sum that it takes out, or a new one
  pub taken_out : (o : Option (TrackedOf d)) (w sum : TrackedOf d) → o ≡ lookup (is_at (extensor_cmp k)) es → o ≡ Some w
      → sum ≡ w → sum.tracked ≡ sum_at (points_of k) (seen es)
  taken_out o w sum e f s =
      ap (λ (v : TrackedOf d). v.tracked) s
      ∙ ap (λ r. unwrap_or r nothing) (ap (option_map (λ v. v.tracked)) (sym f ∙ e) ∙ seen_lookup n k size es h)

  pub new_sum : (o : Option (TrackedOf d)) (sum : TrackedOf d) → o ≡ lookup (is_at (extensor_cmp k)) es → o ≡ None
      → sum.tracked ≡ nothing → sum.tracked ≡ sum_at (points_of k) (seen es)
  new_sum o sum e f s =
      s ∙ ap (λ r. unwrap_or r nothing) (ap (option_map (λ v. v.tracked)) (sym f ∙ e) ∙ seen_lookup n k size es h)

  -- and the sum with the product that it puts back
  pub adds_sum : {X : Type 0} (p : Product) (first last : TrackedOf d) (out after : Entries d) (r : Result X PolyError)
      → points_of k ≡ p.extensor → first.tracked ≡ sum_at (points_of k) (seen es)
      → AddsTerms first.tracked (terms_of p) r last.tracked → out ≡ remove_entry (is_at (extensor_cmp k)) es
      → OnOk r (after ≡ insert_entry extensor_cmp out k last) → AddsProducts (seen es) (p ∷ []) r (seen after)
  adds_sum {X} p first last out after r q s a o i =
      adds_product p (seen es) (seen after) last.tracked r
      (subst (λ (f : Tracked). AddsTerms f (terms_of p) r last.tracked) (s ∙ ap (λ x. sum_at x (seen es)) q) a)
      (put_back r i)
    where
      sizes : HaveSize n out
      sizes = subst (HaveSize n) (sym o) (sizes_remove n k size es h)

      put_back : (r : Result X PolyError) → OnOk r (after ≡ insert_entry extensor_cmp out k last)
          → OnOk r (seen after
          ≡ insert_entry row_cmp (remove_entry (is_at (row_cmp p.extensor)) (seen es)) p.extensor last.tracked)
      put_back (Ok x) i =
          ap seen i ∙ seen_insert n k size out last sizes
          ∙ ap (λ fs. insert_entry row_cmp fs (points_of k) last.tracked) (ap seen o ∙ seen_remove n k size es h)
          ∙ ap (λ x. insert_entry row_cmp (remove_entry (is_at (row_cmp x)) (seen es)) x last.tracked) q
      put_back (Err x) i = tt

-- a sign that is passed to a call
pub passed_sign : {X : Type 0} (f h : BracketPolynomial) (row : Option (List ℕ)) (sign : ℤ) → SFits w8 sign
    → (old new : Tracked) (r : Result X PolyError)
    → AddsTerms old (product_terms f h row (to_z w8 (of_z w8 sign))) r new
    → AddsTerms old (product_terms f h row sign) r new
passed_sign f h row sign fits old new r a =
    subst (λ (s : ℤ). AddsTerms old (product_terms f h row s) r new) (to_z-of_z w8 sign fits) a

-- an error that is handed on
pub with_error : (old new : Polys) (ps : List Product) (r : Result ⊤ PolyError) (error : PolyError) → r ≡ Err error
    → AddsProducts {X = ⊤} old ps (Err error) new → AddsProducts old ps r new
with_error old new ps r error e h = subst (λ (s : Result ⊤ PolyError). AddsProducts old ps s new) (sym e) h

-- the entries after a call that puts one in or fails
pub sizes_after : {d : ℕ} {X E : Type 0} (n : ℕ) (k : Extensor) (es new : Entries d) (w : TrackedOf d) (r : Result X E)
    → k.size ≡ n → HaveSize n es → OnOk r (new ≡ insert_entry extensor_cmp es k w) → OnErr r (new ≡ es) → HaveSize n new
sizes_after n k es new w (Ok x) size h p q = subst (HaveSize n) (sym p) (sizes_insert n k size es w h)
sizes_after n k es new w (Err x) size h p q = subst (HaveSize n) (sym q) h
