-- Adding terms one after another, and what a call answers that does so.
use Rattle.std.specs.Prelude.{◌≡◌, ◌≢◌, ⊤, true, false, cond, not, ◌&&◌, ◌||◌, nat_lt, length, ℤ, ◌+ℤ◌, ◌*ℤ◌, List, [], ◌∷◌, ◌++◌, map, flat_map, ℕ}
use Rattle.std.specs.Prelude.{Option, Some, None, Result, Ok, Err, OnOk, OnErr}
use Rattle.std.specs.Result.{IsErrAnd}
use Rattle.std.specs.Prelude.{◌*◌, ◌<◌, zero, suc, pos, negsuc, T, unsigned_abs}
use Rattle.std.specs.List.{AllByRecursion}
use Rattle.std.proofs.Common.{refl, sym, ap, subst, ◌∙◌, append_assoc, arith, inl, inr}
use Rattle.std.proofs.lemmas.Int.{to_z-of_z, unsigned_abs-mul}
use mir.Syntax.{w8, w128}
use mir.Val.{SFits, to_z, of_z}
use Rattle.coordinate_model.specs.Sums.{Terms, coefficient, products, is_zero, has_no_zero}
use Rattle.coordinate_model.specs.Key.{Key, key_times}
use Rattle.coordinate_model.specs.BracketPolynomial.{BracketPolynomial}
use Rattle.coordinate_model.specs.Starts.{product_terms, row_key}
use Rattle.bracket_poly.specs.declared.error.PolyError.{PolyError}
use Rattle.bracket_poly.specs.declared.error.PolyError.TheVariants.{Coefficient, Keys, Memory}
use Rattle.bracket_poly.specs.Tracked.{Tracked, Limit, coefficient_limit, keys_limit, fits, has_met, met_limit, limit_at}
use Rattle.bracket_poly.specs.Tracked.{plus_term, plus_terms, first_limit, before_limit}
use Rattle.bracket_poly.specs.Answers.{IsErrorOf, AnswersLimit, AddsTerms}
use Rattle.bracket_poly.specs.Products.{IsSign, product_term, multiple_terms}
use Rattle.bracket_poly.specs.Kept.{TrackedOf}
use Rattle.coordinate_model.proofs.Bools.{second}

-- ---- lists

pub plus-append : (p : Tracked) (ts us : Terms Key) → plus_terms p (ts ++ us) ≡ plus_terms (plus_terms p ts) us
plus-append p [] us = refl
plus-append p (t ∷ ts) us = plus-append (plus_term p t) ts us

abbrev go_on : Tracked → Key × ℤ → Terms Key → Option Limit → Option Limit
go_on p t ts o = elim o [ Some l ↦ Some l | None ↦ first_limit (plus_term p t) ts ]

abbrev keep_on : Tracked → Key × ℤ → Terms Key → Option Limit → Terms Key
keep_on p t ts o = elim o [ Some l ↦ [] | None ↦ t ∷ before_limit (plus_term p t) ts ]

-- where the first terms pass no limit, the others decide
pub limit-append : (p : Tracked) (ts us : Terms Key) → first_limit p ts ≡ None
    → first_limit p (ts ++ us) ≡ first_limit (plus_terms p ts) us
limit-append p [] us e = refl
limit-append p (t ∷ ts) us e = elim (limit_at p t) as (λ o. go_on p t ts o ≡ None → go_on p t (ts ++ us) o ≡ first_limit (plus_terms (plus_term p t) ts) us) [
  | Some l ↦ λ h. cc
  | None ↦ λ h. limit-append (plus_term p t) ts us h
] e

pub before-append : (p : Tracked) (ts us : Terms Key) → first_limit p ts ≡ None
    → before_limit p (ts ++ us) ≡ ts ++ before_limit (plus_terms p ts) us
before-append p [] us e = refl
before-append p (t ∷ ts) us e = elim (limit_at p t) as (λ o. go_on p t ts o ≡ None → keep_on p t (ts ++ us) o ≡ t ∷ (ts ++ before_limit (plus_terms (plus_term p t) ts) us)) [
  | Some l ↦ λ h. cc
  | None ↦ λ h. ap (λ vs. t ∷ vs) (before-append (plus_term p t) ts us h)
] e

-- where they pass one, it is the first of all
pub limit-front : (p : Tracked) (ts us : Terms Key) (l : Limit) → first_limit p ts ≡ Some l → first_limit p (ts ++ us) ≡ Some l
limit-front p [] us l e = cc
limit-front p (t ∷ ts) us l e = elim (limit_at p t) as (λ o. go_on p t ts o ≡ Some l → go_on p t (ts ++ us) o ≡ Some l) [
  | Some m ↦ λ h. h
  | None ↦ λ h. limit-front (plus_term p t) ts us l h
] e

pub before-front : (p : Tracked) (ts us : Terms Key) (l : Limit) → first_limit p ts ≡ Some l
    → before_limit p (ts ++ us) ≡ before_limit p ts
before-front p [] us l e = cc
before-front p (t ∷ ts) us l e = elim (limit_at p t) as (λ o. go_on p t ts o ≡ Some l → keep_on p t (ts ++ us) o ≡ keep_on p t ts o) [
  | Some m ↦ λ h. refl
  | None ↦ λ h. ap (λ vs. t ∷ vs) (before-front (plus_term p t) ts us l h)
] e

-- ---- what a call answers

-- a call that adds one term
pub adds_one : (old new : Tracked) (t : Key × ℤ) (r : Result ⊤ PolyError) → AnswersLimit r (limit_at old t)
    → OnOk r (new ≡ plus_term old t) → OnErr r (new ≡ old) → AddsTerms old (t ∷ []) r new
adds_one old new t (Ok x) a p q = record {
  answer = ap (go_on old t []) a;
  all = p;
  refused = tt;
  front = (t ∷ [], [], refl, p);
}
adds_one old new t (Err Coefficient) a p q = record {
  answer = ap (go_on old t []) a;
  all = tt;
  refused = λ n. q ∙ sym (ap (plus_terms old) (ap (keep_on old t []) a));
  front = ([], t ∷ [], refl, q);
}
adds_one old new t (Err Keys) a p q = record {
  answer = ap (go_on old t []) a;
  all = tt;
  refused = λ n. q ∙ sym (ap (plus_terms old) (ap (keep_on old t []) a));
  front = ([], t ∷ [], refl, q);
}
adds_one old new t (Err Memory) a p q = record {
  answer = tt;
  all = tt;
  refused = λ n. absurd (n refl);
  front = ([], t ∷ [], refl, q);
}

-- for want of memory nothing is told
pub adds_nothing : {X : Type 0} (old : Tracked) (ts : Terms Key) → AddsTerms {X = X} old ts (Err Memory) old
adds_nothing old ts = record { answer = tt; all = tt; refused = λ n. absurd (n refl); front = ([], ts, refl, refl) }

-- the integer of a term does not fit
pub too_large : (p : Tracked) (t : Key × ℤ) → fits t.1 ≡ false → limit_at p t ≡ Some coefficient_limit
too_large p t e =
    ap (λ b. cond (not (b && fits (coefficient p.sum t.0 +ℤ t.1))) (Some coefficient_limit) (cond (has_met p.met t.0 || nat_lt (length p.met) met_limit) None (Some keys_limit))) e

pub adds_too_large : {X : Type 0} (old : Tracked) (t : Key × ℤ) → fits t.1 ≡ false → AddsTerms {X = X} old (t ∷ []) (Err Coefficient) old
adds_too_large old t e = record {
  answer = ap (go_on old t []) (too_large old t e);
  all = tt;
  refused = λ n. sym (ap (plus_terms old) (ap (keep_on old t []) (too_large old t e)));
  front = ([], t ∷ [], refl, refl);
}

-- ---- a list of items, each of which stands for terms

-- the terms of the items before the ones that are left were added, and passed no limit
pub record SoFar {A : Type 0} (f : A → Terms Key) (old now : Tracked) (all left : List A) : Type 0 where
  pub done : List A
  pub split : all ≡ done ++ left
  pub limit : first_limit old (flat_map f done) ≡ None
  pub sum : now ≡ plus_terms old (flat_map f done)

module _ {A : Type 0} (f : A → Terms Key) where
  pub flat-append : (xs ys : List A) → flat_map f (xs ++ ys) ≡ flat_map f xs ++ flat_map f ys
  flat-append [] ys = refl
  flat-append (x ∷ xs) ys = ap (λ zs. f x ++ zs) (flat-append xs ys) ∙ sym (append_assoc (f x) (flat_map f xs) (flat_map f ys))

  pub flat-one : (x : A) → flat_map f (x ∷ []) ≡ f x
  flat-one x = append_nil (f x)
    where
      append_nil : (ts : Terms Key) → ts ++ [] ≡ ts
      append_nil [] = refl
      append_nil (t ∷ ts) = ap (λ us. t ∷ us) (append_nil ts)

  pub at_first : (old : Tracked) (all : List A) → SoFar f old old all all
  at_first old all = record { done = []; split = refl; limit = refl; sum = refl }

  -- the terms of all items, where one of them is next
  whole : (all done : List A) (x : A) (left : List A) → all ≡ done ++ x ∷ left
      → flat_map f all ≡ flat_map f done ++ (f x ++ flat_map f left)
  whole all done x left e = ap (flat_map f) e ∙ flat-append done (x ∷ left)

  pub next_item : {X : Type 0} (old now new : Tracked) (all left next : List A) (x : A) (u : X) → SoFar f old now all left
      → left ≡ x ∷ next → AddsTerms {X = X} now (f x) (Ok u) new → SoFar f old new all next
  next_item old now new all left next x u s e a = record {
    done = s.done ++ x ∷ [];
    split = s.split ∙ ap (λ ys. s.done ++ ys) e ∙ sym (append_assoc s.done (x ∷ []) next);
    limit = ap (first_limit old) (flat-append s.done (x ∷ []) ∙ ap (λ ts. flat_map f s.done ++ ts) (flat-one x))
        ∙ limit-append old (flat_map f s.done) (f x) s.limit ∙ ap (λ p. first_limit p (f x)) (sym s.sum) ∙ a.answer;
    sum = a.all ∙ ap (λ p. plus_terms p (f x)) s.sum ∙ sym (plus-append old (flat_map f s.done) (f x))
        ∙ ap (plus_terms old) (sym (flat-append s.done (x ∷ []) ∙ ap (λ ts. flat_map f s.done ++ ts) (flat-one x)));
  }

  pub all_items : {X : Type 0} (old now : Tracked) (all left : List A) (u : X) → SoFar f old now all left → left ≡ []
      → AddsTerms {X = X} old (flat_map f all) (Ok u) now
  all_items old now all left u s e =
      let same : all ≡ s.done = s.split ∙ ap (λ ys. s.done ++ ys) e ∙ append_nil s.done in
      let terms : flat_map f s.done ≡ flat_map f all = ap (flat_map f) (sym same) in
      record {
        answer = ap (first_limit old) (sym terms) ∙ s.limit;
        all = s.sum ∙ ap (plus_terms old) terms;
        refused = tt;
        front = (flat_map f all, [], sym (nil_append (flat_map f all)), s.sum ∙ ap (plus_terms old) terms);
      }
    where
      append_nil : (xs : List A) → xs ++ [] ≡ xs
      append_nil [] = refl
      append_nil (x ∷ xs) = ap (λ ys. x ∷ ys) (append_nil xs)

      nil_append : (ts : Terms Key) → ts ++ [] ≡ ts
      nil_append [] = refl
      nil_append (t ∷ ts) = ap (λ us. t ∷ us) (nil_append ts)

  -- an error at the next item is the error of the whole call
  pub error_item : {X Y : Type 0} (old now new : Tracked) (all left next : List A) (x : A) (error : PolyError)
      → SoFar f old now all left → left ≡ x ∷ next → AddsTerms {X = X} now (f x) (Err error) new
      → AddsTerms {X = Y} old (flat_map f all) (Err error) new
  error_item {Y = Y} old now new all left next x error s e a =
      let terms = whole all s.done x next (s.split ∙ ap (λ ys. s.done ++ ys) e) in
      subst (λ (ts : Terms Key). AddsTerms {X = Y} old ts (Err error) new) (sym terms) (record {
        answer = errors error a.answer;
        all = tt;
        refused = λ n. a.refused n ∙ ap (λ p. plus_terms p (before_limit now (f x))) s.sum
            ∙ sym (plus-append old (flat_map f s.done) (before_limit now (f x)))
            ∙ ap (plus_terms old) (sym (befores error n a.answer));
        front = (
          flat_map f s.done ++ a.front.0,
          a.front.1 ++ flat_map f next,
          splits,
          a.front.3 ∙ ap (λ p. plus_terms p a.front.0) s.sum ∙ sym (plus-append old (flat_map f s.done) a.front.0),
        );
      })
    where
      here : (l : Limit) → first_limit now (f x) ≡ Some l → first_limit (plus_terms old (flat_map f s.done)) (f x) ≡ Some l
      here l h = ap (λ p. first_limit p (f x)) (sym s.sum) ∙ h

      limits : (l : Limit) → first_limit now (f x) ≡ Some l
          → first_limit old (flat_map f s.done ++ (f x ++ flat_map f next)) ≡ Some l
      limits l h = limit-append old (flat_map f s.done) (f x ++ flat_map f next) s.limit
          ∙ limit-front (plus_terms old (flat_map f s.done)) (f x) (flat_map f next) l (here l h)

      errors : (error : PolyError) → IsErrorOf error (first_limit now (f x))
          → IsErrorOf error (first_limit old (flat_map f s.done ++ (f x ++ flat_map f next)))
      errors Coefficient h = limits coefficient_limit h
      errors Keys h = limits keys_limit h
      errors Memory h = tt

      fronts : (l : Limit) → first_limit now (f x) ≡ Some l
          → before_limit old (flat_map f s.done ++ (f x ++ flat_map f next)) ≡ flat_map f s.done ++ before_limit now (f x)
      fronts l h = before-append old (flat_map f s.done) (f x ++ flat_map f next) s.limit
          ∙ ap (λ ts. flat_map f s.done ++ ts) (before-front (plus_terms old (flat_map f s.done)) (f x) (flat_map f next) l (here l h)
          ∙ ap (λ p. before_limit p (f x)) (sym s.sum))

      befores : (error : PolyError) → error ≢ Memory → IsErrorOf error (first_limit now (f x))
          → before_limit old (flat_map f s.done ++ (f x ++ flat_map f next)) ≡ flat_map f s.done ++ before_limit now (f x)
      befores Coefficient n h = fronts coefficient_limit h
      befores Keys n h = fronts keys_limit h
      befores Memory n h = absurd (n refl)

      splits : flat_map f s.done ++ (f x ++ flat_map f next) ≡ (flat_map f s.done ++ a.front.0) ++ (a.front.1 ++ flat_map f next)
      splits = ap (λ ts. flat_map f s.done ++ (ts ++ flat_map f next)) a.front.2
          ∙ ap (λ ts. flat_map f s.done ++ ts) (append_assoc a.front.0 a.front.1 (flat_map f next))
          ∙ sym (append_assoc (flat_map f s.done) a.front.0 (a.front.1 ++ flat_map f next))

-- ---- the terms of products

-- terms one by one
pub one_by_one : (h : Key × ℤ → Key × ℤ) (us : Terms Key) → flat_map (λ u. h u ∷ []) us ≡ map h us
one_by_one h [] = refl
one_by_one h (u ∷ us) = ap (λ vs. h u ∷ vs) (one_by_one h us)

map-append : (h : Key × ℤ → Key × ℤ) (ts us : Terms Key) → map h (ts ++ us) ≡ map h ts ++ map h us
map-append h [] us = refl
map-append h (t ∷ ts) us = ap (λ vs. h t ∷ vs) (map-append h ts us)

-- the terms of a product, for each term of the first factor
pub by_first : (row : Option (List ℕ)) (sign : ℤ) (us ts : Terms Key)
    → flat_map (multiple_terms row sign us) ts
    ≡ map (λ t. (key_times t.0 (row_key row), sign *ℤ t.1)) (products key_times ts us)
by_first row sign us [] = refl
by_first row sign us (t ∷ ts) =
    ap (λ vs. multiple_terms row sign us t ++ vs) (by_first row sign us ts)
    ∙ ap (λ vs. vs ++ map with_row (products key_times ts us)) (inner us)
    ∙ sym (map-append with_row (map (λ u. (key_times t.0 u.0, t.1 *ℤ u.1)) us) (products key_times ts us))
  where
    with_row : Key × ℤ → Key × ℤ
    with_row t = (key_times t.0 (row_key row), sign *ℤ t.1)

    inner : (us : Terms Key) → multiple_terms row sign us t ≡ map with_row (map (λ u. (key_times t.0 u.0, t.1 *ℤ u.1)) us)
    inner [] = refl
    inner (u ∷ us) = ap (λ vs. product_term row sign t u ∷ vs) (inner us)

pub product-terms : (f h : BracketPolynomial) (row : Option (List ℕ)) (sign : ℤ)
    → flat_map (multiple_terms row sign h.terms) f.terms ≡ product_terms f h row sign
product-terms f h row sign = by_first row sign h.terms f.terms

-- a product of numbers that were passed
pub passed : (s a b : ℤ) → SFits w8 s → SFits w128 a → SFits w128 b
    → to_z w8 (of_z w8 s) *ℤ (to_z w128 (of_z w128 a) *ℤ to_z w128 (of_z w128 b)) ≡ s *ℤ (a *ℤ b)
passed s a b p q r =
    ap (λ z. z *ℤ (to_z w128 (of_z w128 a) *ℤ to_z w128 (of_z w128 b))) (to_z-of_z w8 s p)
    ∙ ap (λ z. s *ℤ (z *ℤ to_z w128 (of_z w128 b))) (to_z-of_z w128 a q) ∙ ap (λ z. s *ℤ (a *ℤ z)) (to_z-of_z w128 b r)

pub passed_product : (s a b c : ℤ) → SFits w8 s → SFits w128 a → SFits w128 b → SFits w128 c
    → c ≡ to_z w8 (of_z w8 s) *ℤ (to_z w128 (of_z w128 a) *ℤ to_z w128 (of_z w128 b))
    → to_z w128 (of_z w128 c) ≡ s *ℤ (a *ℤ b)
passed_product s a b c p q r w e = to_z-of_z w128 c w ∙ e ∙ passed s a b p q r

-- an item that is left has what all have
pub item_has : {A : Type 0} (P : A → Type 0) (all done next : List A) (x : A) → AllByRecursion P all
    → all ≡ done ++ x ∷ next → P x
item_has {A} P all done next x h e = here done (subst (λ (ys : List A). AllByRecursion P ys) e h)
  where
    here : (done : List A) → AllByRecursion P (done ++ x ∷ next) → P x
    here [] h = h.0
    here (y ∷ ys) h = here ys h.1

-- no term has the integer 0
pub nonzero_terms : (f : BracketPolynomial) → AllByRecursion (λ t. is_zero t.1 ≡ false) f.terms
nonzero_terms f = each f.terms (second _ _ f.canonical)
  where
    each : (ts : Terms Key) → T (has_no_zero ts) → AllByRecursion (λ t. is_zero t.1 ≡ false) ts
    each [] h = tt
    each (t ∷ ts) h = elim (is_zero t.1) as (λ b. is_zero t.1 ≡ b → T (cond b false (has_no_zero ts)) → AllByRecursion (λ u. is_zero u.1 ≡ false) (t ∷ ts)) [
      | true ↦ λ e k. absurd k
      | false ↦ λ e k. (e, each ts k)
    ] refl h

-- products of integers that are not 0
positive : (z : ℤ) → is_zero z ≡ false → 0 < unsigned_abs z
positive (pos zero) e = cc
positive (pos (suc n)) e = omega arith
positive (negsuc n) e = omega arith

nonzero : (z : ℤ) → 0 < unsigned_abs z → is_zero z ≡ false
nonzero (pos zero) h = absurd (omega arith)
nonzero (pos (suc n)) h = refl
nonzero (negsuc n) h = refl

times_positive : (m n : ℕ) → 0 < m → 0 < n → 0 < m * n
times_positive zero n h k = absurd (omega arith)
times_positive (suc m) zero h k = absurd (omega arith)
times_positive (suc m) (suc n) h k = omega arith

pub nonzero_product : (a b : ℤ) → is_zero a ≡ false → is_zero b ≡ false → is_zero (a *ℤ b) ≡ false
nonzero_product a b e f =
    nonzero (a *ℤ b) (subst (λ (n : ℕ). 0 < n) (sym (unsigned_abs-mul a b))
    (times_positive (unsigned_abs a) (unsigned_abs b) (positive a e) (positive b f)))

pub signed_nonzero : (s a b : ℤ) → IsSign s → is_zero a ≡ false → is_zero b ≡ false → is_zero (s *ℤ (a *ℤ b)) ≡ false
signed_nonzero s a b sign e f = nonzero_product s (a *ℤ b) (elim sign [ inl h ↦ ap is_zero h | inr h ↦ ap is_zero h ]) (nonzero_product a b e f)

pub not_zero_is : (c : ℤ) → is_zero c ≡ false → c ≢ pos 0
not_zero_is c e h = zero_clash (sym (ap is_zero h) ∙ e)
  where
    zero_clash : true ≡ false → ⊥
    zero_clash e = cc

pub seen_unchanged : (d : ℕ) (v w : TrackedOf d) (r : Result ⊤ PolyError) → OnErr r (v ≡ w) → OnErr r (v.tracked ≡ w.tracked)
seen_unchanged d v w (Ok x) h = tt
seen_unchanged d v w (Err x) h = ap (λ (u : TrackedOf d). u.tracked) h

-- a call that adds a term which is this one
pub adds_this : {X : Type 0} (old new : Tracked) (t u : Key × ℤ) (r : Result X PolyError) → t ≡ u
    → AddsTerms old (t ∷ []) r new → AddsTerms old (u ∷ []) r new
adds_this old new t u r e h = subst (λ (v : Key × ℤ). AddsTerms old (v ∷ []) r new) e h

-- the error that `?` hands on
pub handed_on : (r : Result ⊤ PolyError) (error : PolyError) → IsErrAnd r (λ e. e ≡ error) → r ≡ Err error
handed_on (Ok x) error h = absurd h
handed_on (Err e) error h = ap Err h

pub with_error : (old new : Tracked) (ts : Terms Key) (r : Result ⊤ PolyError) (error : PolyError) → r ≡ Err error
    → AddsTerms {X = ⊤} old ts (Err error) new → AddsTerms old ts r new
with_error old new ts r error e h = subst (λ (s : Result ⊤ PolyError). AddsTerms old ts s new) (sym e) h

-- terms that are listed otherwise
pub adds_listed : {X : Type 0} (old new : Tracked) (ts us : Terms Key) (r : Result X PolyError) → ts ≡ us
    → AddsTerms old ts r new → AddsTerms old us r new
adds_listed old new ts us r e h = subst (λ (vs : Terms Key). AddsTerms old vs r new) e h

pub passed_sign : (s : ℤ) → SFits w8 s → IsSign s → IsSign (to_z w8 (of_z w8 s))
passed_sign s p h = subst (λ (z : ℤ). IsSign z) (sym (to_z-of_z w8 s p)) h

-- the terms of a multiple whose integers were passed
pub passed_multiple : (row other : Option (List ℕ)) (s a : ℤ) (us : Terms Key) (k : Key) → row ≡ other → SFits w8 s
    → SFits w128 a
    → multiple_terms row (to_z w8 (of_z w8 s)) us (k, to_z w128 (of_z w128 a)) ≡ multiple_terms other s us (k, a)
passed_multiple row other s a us k e p q =
    ap (λ r. multiple_terms r (to_z w8 (of_z w8 s)) us (k, to_z w128 (of_z w128 a))) e
    ∙ ap (λ z. multiple_terms other z us (k, to_z w128 (of_z w128 a))) (to_z-of_z w8 s p)
    ∙ ap (λ z. multiple_terms other s us (k, z)) (to_z-of_z w128 a q)
