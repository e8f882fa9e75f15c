-- What comes behind all others of an ascending list.
use Rattle.std.proofs.Common.{◌≡◌, ℕ, Bool, true, false, T, List, [], ◌∷◌, ◌++◌, map, refl, sym, ap, subst, ◌∙◌, ℤ, inl, inr}
use Rattle.std.specs.FinMap.{is_sorted}
use Rattle.std.specs.FinMap.Entries.{below_all}
use Rattle.std.specs.List.{AllByRecursion}
use Rattle.std.specs.Cmp.{IsTotalOrder}
use Rattle.std.proofs.lemmas.Bool.{cases_Bool}
use Rattle.std.specs.Cmp.Lexicographic.{nat_list_cmp_total}
use Rattle.std.specs.Ordering.{is_lt, ordering_reverse}
use Rattle.std.specs.declared.cmp.Ordering.{Ordering}
use Rattle.std.specs.declared.cmp.Ordering.TheVariants.{Less, Greater}
use Rattle.coordinate_model.specs.Sums.{Terms, is_zero, has_no_zero, add_term, collect}
use Rattle.coordinate_model.specs.Code.{same_list_of_terms}
use Rattle.coordinate_model.specs.Key.{Key, key_cmp, row_cmp}
use Rattle.coordinate_model.specs.BracketPolynomial.{BracketPolynomial}
use Rattle.coordinate_model.proofs.Bools.{both, first, second, less, is_less}
use Rattle.coordinate_model.proofs.KeyProducts.{key_total, key_same}
use Rattle.coordinate_model.proofs.SumLemmas.{terms-sum_of}
use Rattle.coordinate_model.proofs.SumRing.{sum_of-terms}
use Rattle.bracket_poly.specs.Sections.{Rewritten}
use Rattle.proof_text.specs.Kinds.{is_behind_terms, is_behind_sections}
use Rattle.proof_text.specs.State.{with_term}

pub is_true : (b : Bool) → T b → b ≡ true
is_true true h = refl
is_true false h = absurd h

pub true_is : (b : Bool) → b ≡ true → T b
true_is b e = subst T (sym e) tt

-- ---- any order

module _ {K X : Type 0} (R : K → K → Ordering) where
  -- whether the key comes behind the last one
  abbrev pub is_behind : K → List (K × X) → Bool
  is_behind k [] = true
  is_behind k (e ∷ []) = is_lt (R e.0 k)
  is_behind k (e ∷ f ∷ es) = is_behind k (f ∷ es)

  module _ (o : IsTotalOrder R) where
    pub all_behind : (k : K) (es : List (K × X)) → T (is_sorted R es) → is_behind k es ≡ true
        → AllByRecursion (λ e. R e.0 k ≡ Less) es
    all_behind k [] sorted behind = tt
    all_behind k (e ∷ []) sorted behind = (less _ (true_is _ behind), tt)
    all_behind k (e ∷ f ∷ es) sorted behind =
        let more = all_behind k (f ∷ es) (second _ _ sorted) behind in
        (o.trans e.0 f.0 k (less _ (first _ _ (first _ _ sorted))) more.0, more)

    below_snoc : (x k : K) (v : X) (es : List (K × X)) → R x k ≡ Less → T (below_all R x es)
        → T (below_all R x (es ++ (k, v) ∷ []))
    below_snoc x k v [] lt below = both _ _ (is_less _ lt) tt
    below_snoc x k v (e ∷ es) lt below = both _ _ (first _ _ below) (below_snoc x k v es lt (second _ _ below))

    pub sorted_snoc : (k : K) (v : X) (es : List (K × X)) → AllByRecursion (λ e. R e.0 k ≡ Less) es → T (is_sorted R es)
        → T (is_sorted R (es ++ (k, v) ∷ []))
    sorted_snoc k v [] lt sorted = tt
    sorted_snoc k v (e ∷ es) lt sorted =
        both _ _ (below_snoc e.0 k v es lt.0 (first _ _ sorted)) (sorted_snoc k v es lt.1 (second _ _ sorted))

  below_at : (x k : K) (v : X) (front back : List (K × X)) → T (below_all R x (front ++ (k, v) ∷ back)) → R x k ≡ Less
  below_at x k v [] back below = less _ (first _ _ below)
  below_at x k v (e ∷ front) back below = below_at x k v front back (second _ _ below)

  pub behind_front : (k : K) (v : X) (front back : List (K × X)) → T (is_sorted R (front ++ (k, v) ∷ back))
      → is_behind k front ≡ true
  behind_front k v [] back sorted = refl
  behind_front k v (e ∷ []) back sorted = is_true _ (first _ _ (first _ _ sorted))
  behind_front k v (e ∷ f ∷ front) back sorted = behind_front k v (f ∷ front) back (second _ _ sorted)

-- ---- terms

terms_behind : (k : Key) (ts : Terms Key) → is_behind_terms k ts ≡ is_behind key_cmp k ts
terms_behind k [] = refl
terms_behind k (t ∷ []) = refl
terms_behind k (t ∷ u ∷ ts) = terms_behind k (u ∷ ts)

add_last : (k : Key) (c : ℤ) (ts : Terms Key) → is_zero c ≡ false → AllByRecursion (λ t. key_cmp t.0 k ≡ Less) ts
    → add_term key_cmp k c ts ≡ ts ++ (k, c) ∷ []
add_last k c [] some lt = rw some refl
add_last k c (t ∷ ts) some lt =
    let over : key_cmp k t.0 ≡ Greater = key_total.antisymm k t.0 ∙ ap ordering_reverse lt.0 in
    rw (over, add_term) (ap (λ us. t ∷ us) (add_last k c ts some lt.1))

pub collected : (f : BracketPolynomial) → collect key_cmp f.terms ≡ f.terms
collected f = sym (terms-sum_of key_cmp key_total f.terms) ∙ ap (λ (g : BracketPolynomial). g.terms) (sum_of-terms key_cmp key_total key_same f)

-- a key that comes behind the last term comes behind all
pub behind_all : (k : Key) (f : BracketPolynomial) → is_behind_terms k f.terms ≡ true
    → AllByRecursion (λ t. key_cmp t.0 k ≡ Less) f.terms
behind_all k f behind =
    all_behind key_cmp key_total k f.terms (first _ _ f.canonical) (sym (terms_behind k f.terms) ∙ behind)

pub term_last : (t : Key × ℤ) (f : BracketPolynomial) → is_zero t.1 ≡ false → is_behind_terms t.0 f.terms ≡ true
    → (with_term t f).terms ≡ f.terms ++ t ∷ []
term_last t f some behind =
    terms-sum_of key_cmp key_total (t ∷ f.terms) ∙ ap (add_term key_cmp t.0 t.1) (collected f)
    ∙ add_last t.0 t.1 f.terms some
    (all_behind key_cmp key_total t.0 f.terms (first _ _ f.canonical) (sym (terms_behind t.0 f.terms) ∙ behind))

-- a term of a polynomial comes behind those before it
pub term_behind : (f : BracketPolynomial) (front : Terms Key) (t : Key × ℤ) (back : Terms Key)
    → f.terms ≡ front ++ t ∷ back → is_behind_terms t.0 front ≡ true
term_behind f front t back whole =
    terms_behind t.0 front
    ∙ behind_front key_cmp t.0 t.1 front back (subst (λ (ts : Terms Key). T (is_sorted key_cmp ts)) whole (first _ _ f.canonical))

none_zero : (ts : Terms Key) → T (has_no_zero ts) → AllByRecursion (λ t. is_zero t.1 ≡ false) ts
none_zero [] some = tt
none_zero (t ∷ ts) some = elim (cases_Bool (is_zero t.1)) [
  | inl zero ↦ absurd (rw zero at some)
  | inr other ↦ (other, none_zero ts (rw other at some))
]

-- no term of a polynomial is zero
pub no_zeros : (f : BracketPolynomial) → AllByRecursion (λ t. is_zero t.1 ≡ false) f.terms
no_zeros f = none_zero f.terms (second _ _ f.canonical)

pub same_sum : (f g : BracketPolynomial) → f.terms ≡ g.terms → f ≡ g
same_sum f g e = same_list_of_terms key_cmp f g e

-- ---- sections

-- the scalars of sections, with their starts
abbrev pub scalars_of : List Rewritten → List (List ℕ × BracketPolynomial)
scalars_of sections = map (λ s. (s.scalar, s.start)) sections

sections_behind : (points : List ℕ) (ss : List Rewritten) → is_behind_sections points ss ≡ is_behind row_cmp points (scalars_of ss)
sections_behind points [] = refl
sections_behind points (s ∷ []) = refl
sections_behind points (s ∷ t ∷ ss) = sections_behind points (t ∷ ss)

scalars-append : (ss rs : List Rewritten) → scalars_of (ss ++ rs) ≡ scalars_of ss ++ scalars_of rs
scalars-append [] rs = refl
scalars-append (s ∷ ss) rs = ap (λ es. (s.scalar, s.start) ∷ es) (scalars-append ss rs)

pub section_last : (ss : List Rewritten) (s : Rewritten) → T (is_sorted row_cmp (scalars_of ss))
    → is_behind_sections s.scalar ss ≡ true → T (is_sorted row_cmp (scalars_of (ss ++ s ∷ [])))
section_last ss s sorted behind =
    subst (λ (es : List (List ℕ × BracketPolynomial)). T (is_sorted row_cmp es)) (sym (scalars-append ss (s ∷ [])))
    (sorted_snoc row_cmp nat_list_cmp_total s.scalar s.start (scalars_of ss)
    (all_behind row_cmp nat_list_cmp_total s.scalar (scalars_of ss) sorted (sym (sections_behind s.scalar ss) ∙ behind)) sorted)

pub section_behind : (front : List Rewritten) (s : Rewritten) (back : List Rewritten)
    → T (is_sorted row_cmp (scalars_of (front ++ s ∷ back))) → is_behind_sections s.scalar front ≡ true
section_behind front s back sorted =
    sections_behind s.scalar front
    ∙ behind_front row_cmp s.scalar s.start (scalars_of front) (scalars_of back)
    (subst (λ (es : List (List ℕ × BracketPolynomial)). T (is_sorted row_cmp es)) (scalars-append front (s ∷ back)) sorted)
