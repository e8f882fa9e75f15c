-- The terms of a bracket polynomial and their coefficients.
use Rattle.std.proofs.Common.{◌≡◌, Bool, true, false, cond, T, List, [], ◌∷◌, ◌++◌, is_eq, refl, sym, ap}
use Rattle.std.proofs.Common.{subst, ◌∙◌, append_assoc, Less, arith}
use Rattle.std.specs.Prelude.{ℤ, pos, ◌+ℤ◌}
use Rattle.std.proofs.lemmas.Int.{ints}
use Rattle.std.specs.FinMap.{is_sorted}
use Rattle.std.specs.FinMap.Entries.{below_all}
use Rattle.std.specs.List.{AllByRecursion}
use Rattle.std.specs.Ordering.{eq_by_cmp, ordering_reverse}
use Rattle.std.specs.Cmp.{Equal-is}
use Rattle.coordinate_model.specs.Sums.{Terms, count_at, has_no_zero}
use Rattle.coordinate_model.specs.Key.{Key, key_cmp}
use Rattle.coordinate_model.specs.BracketPolynomial.{BracketPolynomial, AllKeys}
use Rattle.coordinate_model.proofs.Bools.{first, second, less}
use Rattle.coordinate_model.proofs.KeyProducts.{key_total, key_same}
use Rattle.coordinate_model.proofs.KeySets.{AllTerms}
use Rattle.coordinate_model.proofs.SumLemmas.{count_first, nonzero_head, nonzero_tail}
use Rattle.straightening.specs.RunLaws.{HasTerm}

-- ---- a list around one of its items

-- what holds of all items
pub record AllAround {A : Type 0} (P : A → Type 0) (front : List A) (a : A) (back : List A) : Type 0 where
  pub before : AllByRecursion P front
  pub here : P a
  pub behind : AllByRecursion P back

pub all_around : {A : Type 0} (P : A → Type 0) (front : List A) (a : A) (back : List A)
    → AllByRecursion P (front ++ a ∷ back) → AllAround P front a back
all_around P [] a back h = record { before = tt; here = h.0; behind = h.1 }
all_around P (x ∷ front) a back h =
    let w = all_around P front a back h.1 in
    record { before = (h.0, w.before); here = w.here; behind = w.behind }

pub all_joined : {A : Type 0} (P : A → Type 0) (front : List A) (a : A) (back : List A) → AllByRecursion P front
    → P a → AllByRecursion P back → AllByRecursion P (front ++ a ∷ back)
all_joined P [] a back f h b = (h, b)
all_joined P (x ∷ front) a back f h b = (f.0, all_joined P front a back f.1 h b)

-- ---- keys that ascend

-- a lesser key is not the same
pub less_differs : (k l : Key) → key_cmp l k ≡ Less → eq_by_cmp key_cmp k l ≡ false
less_differs k l e = ap is_eq (key_total.antisymm k l ∙ ap ordering_reverse e)

pub greater_differs : (k l : Key) → key_cmp k l ≡ Less → eq_by_cmp key_cmp k l ≡ false
greater_differs k l e = ap is_eq e

pub all_above : (k : Key) (ts : Terms Key) → T (below_all key_cmp k ts) → AllTerms (λ l. key_cmp k l ≡ Less) ts
all_above k [] h = tt
all_above k (t ∷ ts) h = (less _ (first _ _ h), all_above k ts (second _ _ h))

-- the keys before one are less, and those behind it greater
pub record Between (front : Terms Key) (t : Key × ℤ) (back : Terms Key) : Type 0 where
  pub before : AllTerms (λ k. key_cmp k t.0 ≡ Less) front
  pub behind : AllTerms (λ k. key_cmp t.0 k ≡ Less) back

pub between : (front : Terms Key) (t : Key × ℤ) (back : Terms Key) → T (is_sorted key_cmp (front ++ t ∷ back))
    → Between front t back
between [] t back h = record { before = tt; behind = all_above t.0 back (first _ _ h) }
between (x ∷ front) t back h =
    let w : Between front t back = between front t back (second _ _ h) in
    let a = all_around (λ (s : Key × ℤ). key_cmp x.0 s.0 ≡ Less) front t back
    (all_above x.0 (front ++ t ∷ back) (first _ _ h)) in
    record { before = (a.here, w.before); behind = w.behind }

-- ---- coefficients

zero_left : (c : ℤ) → pos 0 +ℤ c ≡ c
zero_left c = omega (arith, ints)

-- the coefficient of one of the keys is its integer
pub count_here : (front : Terms Key) (t : Key × ℤ) (back : Terms Key) → T (is_sorted key_cmp (front ++ t ∷ back))
    → count_at key_cmp t.0 (front ++ t ∷ back) ≡ t.1
count_here [] t back h = count_first key_cmp key_total key_same t back (first _ _ h)
count_here (x ∷ front) t back h =
    let w = between (x ∷ front) t back h in
    ap (λ b. cond b x.1 (pos 0) +ℤ count_at key_cmp t.0 (front ++ t ∷ back)) (less_differs t.0 x.0 w.before.0)
    ∙ zero_left (count_at key_cmp t.0 (front ++ t ∷ back)) ∙ count_here front t back (second _ _ h)

-- and it is not zero
pub not_zero_here : (front : Terms Key) (t : Key × ℤ) (back : Terms Key) → T (has_no_zero (front ++ t ∷ back))
    → t.1 ≡ pos 0 → ⊥
not_zero_here [] t back h = nonzero_head key_cmp t.1 (has_no_zero back) h
not_zero_here (x ∷ front) t back h =
    not_zero_here front t back (nonzero_tail key_cmp x.1 (has_no_zero (front ++ t ∷ back)) h)

pub has_term_here : (f : BracketPolynomial) (front : Terms Key) (t : Key × ℤ) (back : Terms Key)
    → f.terms ≡ front ++ t ∷ back → HasTerm f t.0
has_term_here f front t back e z =
    let sorted : T (is_sorted key_cmp f.terms) = first _ _ f.canonical in
    let no_zero : T (has_no_zero f.terms) = second _ _ f.canonical in
    not_zero_here front t back (subst (λ (ts : Terms Key). T (has_no_zero ts)) e no_zero)
    (sym (count_here front t back (subst (λ (ts : Terms Key). T (is_sorted key_cmp ts)) e sorted))
    ∙ sym (ap (λ (ts : Terms Key). count_at key_cmp t.0 ts) e) ∙ z)

-- so each key of a polynomial has a term
pub all_have_terms : (f : BracketPolynomial) → AllKeys (HasTerm f) f
all_have_terms f = onward [] f.terms refl
  where
    onward : (front ts : Terms Key) → f.terms ≡ front ++ ts → AllTerms (HasTerm f) ts
    onward front [] e = tt
    onward front (t ∷ ts) e = (
      has_term_here f front t ts e,
      onward (front ++ t ∷ []) ts (e ∙ sym (append_assoc front (t ∷ []) ts)),
    )

-- what holds of the keys of all terms holds of a key whose coefficient is not zero
pub holds_at : (P : Key → Type 0) (ts : Terms Key) (k : Key) → AllTerms P ts → (count_at key_cmp k ts ≡ pos 0 → ⊥) → P k
holds_at P [] k h z = absurd (z refl)
holds_at P (t ∷ ts) k h z = step (λ g. holds_at P ts k h.1 g) (eq_by_cmp key_cmp k t.0) refl z
  where
    step : ((count_at key_cmp k ts ≡ pos 0 → ⊥) → P k) → (b : Bool) → eq_by_cmp key_cmp k t.0 ≡ b
        → (cond b t.1 (pos 0) +ℤ count_at key_cmp k ts ≡ pos 0 → ⊥) → P k
    step ih true e g = subst P (sym (key_same k t.0 ((Equal-is (key_cmp k t.0)).0 e))) h.0
    step ih false e g = ih (λ y. g (zero_left (count_at key_cmp k ts) ∙ y))

pub holds_of_term : (P : Key → Type 0) (f : BracketPolynomial) (k : Key) → AllKeys P f → HasTerm f k → P k
holds_of_term P f k h z = holds_at P f.terms k h z
