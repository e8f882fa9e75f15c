-- The least key at which two lists of terms differ, and the least that is not standard: where a common front ends.
use Rattle.std.specs.Prelude.{◌≡◌, ◌≢◌, ℕ, Bool, true, false, cond, T, ℤ, pos, ◌+ℤ◌, []}
use Rattle.std.specs.Prelude.{◌∷◌, ◌++◌}
use Rattle.std.specs.FinMap.{is_sorted}
use Rattle.std.specs.Cmp.{tied_itself}
use Rattle.std.specs.FinMap.Entries.{below_all}
use Rattle.std.specs.List.{AllByRecursion}
use Rattle.std.specs.Ordering.{is_eq, is_lt, ordering_reverse}
use Rattle.std.specs.declared.cmp.Ordering.{Ordering}
use Rattle.std.specs.declared.cmp.Ordering.TheVariants.{Less, Equal, Greater}
use Rattle.std.proofs.Common.{refl, sym, ap, ap₂, subst, ◌∙◌, arith, append_assoc, append-nil}
use Rattle.std.proofs.lemmas.Int.{ints}
use mathlib.Core.HLevel.{Σ_prop_path}
use lib.Dec.{T_prop}
use Rattle.coordinate_model.specs.Sums.{Terms, is_zero, has_no_zero, is_canonical, count_at, coefficient}
use Rattle.coordinate_model.specs.Key.{Key, key_cmp, HasRisingColumns, IsKey, IsStandardKey}
use Rattle.coordinate_model.specs.BracketPolynomial.{BracketPolynomial, IsBracketPolynomial, IsNormal}
use Rattle.coordinate_model.proofs.Bools.{both, first, second, less}
use Rattle.coordinate_model.proofs.KeyProducts.{key_total, key_same}
use Rattle.coordinate_model.proofs.Splits.{all_append}
use Rattle.bracket_poly.proofs.EntryLaws.{zero_left, zero_right}
use Rattle.log_checker.specs.Differences.{IsLeastDifference, IsLeastNonstandard}

-- ---- coefficients in lists of terms

abbrev pub count : Key → Terms Key → ℤ
count k ts = count_at key_cmp k ts

-- what one term adds to the coefficient of a key
abbrev share : Key → Key × ℤ → ℤ
share k t = cond (is_eq (key_cmp k t.0)) t.1 (pos 0)

plus_assoc : (a b c : ℤ) → (a +ℤ b) +ℤ c ≡ a +ℤ (b +ℤ c)
plus_assoc a b c = omega (arith, ints)

pub count_append : (k : Key) (ts us : Terms Key) → count k (ts ++ us) ≡ count k ts +ℤ count k us
count_append k [] us = sym (zero_left (count k us))
count_append k (t ∷ ts) us =
    ap (λ w. share k t +ℤ w) (count_append k ts us) ∙ sym (plus_assoc (share k t) (count k ts) (count k us))

other_key : (k : Key) (t : Key × ℤ) (ts : Terms Key) (r : Ordering) → key_cmp k t.0 ≡ r → is_eq r ≡ false
    → count k (t ∷ ts) ≡ count k ts
other_key k t ts r e f =
    ap (λ b. cond b t.1 (pos 0) +ℤ count k ts) (ap is_eq e ∙ f) ∙ zero_left (count k ts)

this_key : (k : Key) (t : Key × ℤ) (ts : Terms Key) → key_cmp k t.0 ≡ Equal → count k (t ∷ ts) ≡ t.1 +ℤ count k ts
this_key k t ts e = ap (λ r. cond (is_eq r) t.1 (pos 0) +ℤ count k ts) e

-- a key below all the others has no coefficient in them
pub none_below : (k : Key) (ts : Terms Key) → T (below_all key_cmp k ts) → count k ts ≡ pos 0
none_below k [] h = refl
none_below k (t ∷ ts) h =
    other_key k t ts Less (less _ (first _ _ h)) refl ∙ none_below k ts (second _ _ h)

below_more : (j k : Key) (ts : Terms Key) → key_cmp j k ≡ Less → T (below_all key_cmp k ts) → T (below_all key_cmp j ts)
below_more j k [] l h = tt
below_more j k (t ∷ ts) l h =
    both (is_lt (key_cmp j t.0)) (below_all key_cmp j ts)
    (subst (λ (r : Ordering). T (is_lt r)) (sym (key_total.trans j k t.0 l (less _ (first _ _ h)))) tt)
    (below_more j k ts l (second _ _ h))

-- nor has a key below the first of them
pub none_before : (j : Key) (t : Key × ℤ) (ts : Terms Key) → key_cmp j t.0 ≡ Less → T (below_all key_cmp t.0 ts)
    → count j (t ∷ ts) ≡ pos 0
none_before j t ts l h = other_key j t ts Less l refl ∙ none_below j ts (below_more j t.0 ts l h)

tied : (k : Key) → key_cmp k k ≡ Equal
tied k = tied_itself key_total k

pub count_head : (t : Key × ℤ) (ts : Terms Key) → T (below_all key_cmp t.0 ts) → count t.0 (t ∷ ts) ≡ t.1
count_head t ts h =
    this_key t.0 t ts (tied t.0) ∙ ap (λ w. t.1 +ℤ w) (none_below t.0 ts h) ∙ zero_right t.1

tail_sorted : (front ts : Terms Key) → T (is_sorted key_cmp (front ++ ts)) → T (is_sorted key_cmp ts)
tail_sorted [] ts h = h
tail_sorted (e ∷ front) ts h = tail_sorted front ts (second _ _ h)

below_at : (k : Key) (front : Terms Key) (t : Key × ℤ) (ts : Terms Key) → T (below_all key_cmp k (front ++ t ∷ ts))
    → key_cmp k t.0 ≡ Less
below_at k [] t ts h = less _ (first _ _ h)
below_at k (e ∷ front) t ts h = below_at k front t ts (second _ _ h)

-- the key of a term has no coefficient in front of it
front_none : (front : Terms Key) (t : Key × ℤ) (ts : Terms Key) → T (is_sorted key_cmp (front ++ t ∷ ts))
    → count t.0 front ≡ pos 0
front_none [] t ts h = refl
front_none (e ∷ front) t ts h =
    other_key t.0 e front Greater
    (key_total.antisymm t.0 e.0 ∙ ap ordering_reverse (below_at e.0 front t ts (first _ _ h))) refl
    ∙ front_none front t ts (second _ _ h)

not_zero : (front : Terms Key) (t : Key × ℤ) (ts : Terms Key) → T (has_no_zero (front ++ t ∷ ts)) → t.1 ≢ pos 0
not_zero [] t ts h e = subst (λ (c : ℤ). T (cond (is_zero c) false (has_no_zero ts))) e h
not_zero (f ∷ front) t ts h e = not_zero front t ts (rest (is_zero f.1) h) e
  where
    rest : (b : Bool) → T (cond b false (has_no_zero (front ++ t ∷ ts))) → T (has_no_zero (front ++ t ∷ ts))
    rest true h = absurd h
    rest false h = h

-- ---- two lists with a common front

pub record SameSoFar (all others rest more : Terms Key) : Type 0 where
  pub front : Terms Key
  pub first_is : all ≡ front ++ rest
  pub second_is : others ≡ front ++ more

pub same_begins : (all others : Terms Key) → SameSoFar all others all others
same_begins all others = record { front = []; first_is = refl; second_is = refl }

-- the same with the lists that are left spelled out
pub same_left : (all others rest more ts us : Terms Key) → SameSoFar all others rest more → rest ≡ ts → more ≡ us
    → SameSoFar all others ts us
same_left all others rest more ts us s e f = record {
  front = s.front;
  first_is = s.first_is ∙ ap (λ xs. s.front ++ xs) e;
  second_is = s.second_is ∙ ap (λ xs. s.front ++ xs) f;
}

swap : (all others rest more : Terms Key) → SameSoFar all others rest more → SameSoFar others all more rest
swap all others rest more s = record { front = s.front; first_is = s.second_is; second_is = s.first_is }

-- one more term that is the same in both
pub same_goes_on : (all others rest more : Terms Key) (k l : Key) (c w : ℤ)
    → SameSoFar all others ((k, c) ∷ rest) ((l, w) ∷ more) → key_cmp k l ≡ Equal → c ≡ w
    → SameSoFar all others rest more
same_goes_on all others rest more k l c w s e f = record {
  front = s.front ++ (k, c) ∷ [];
  first_is = s.first_is ∙ sym (append_assoc s.front ((k, c) ∷ []) rest);
  second_is =
      s.second_is ∙ ap (λ (t : Key × ℤ). s.front ++ t ∷ more) (sym (λ j. (key_same k l e j, f j)))
      ∙ sym (append_assoc s.front ((k, c) ∷ []) more);
}

-- sums with the same terms are equal
pub same_sum : (f g : BracketPolynomial) → f.terms ≡ g.terms → f ≡ g
same_sum f g e =
    let pairs : ◌≡◌ {A = (ts : Terms Key) × T (is_canonical key_cmp ts)} (f.terms, f.canonical)
    (g.terms, g.canonical) = Σ_prop_path (λ ts. T_prop _) e in
    λ j. record { terms = (pairs j).0; canonical = (pairs j).1 }

-- where both end there the polynomials are equal
pub same_ends : (f g : BracketPolynomial) → SameSoFar f.terms g.terms [] [] → f ≡ g
same_ends f g s = same_sum f g (s.first_is ∙ sym s.second_is)

sorted_of : (f : BracketPolynomial) (front rest : Terms Key) → f.terms ≡ front ++ rest
    → T (is_sorted key_cmp (front ++ rest))
sorted_of f front rest e = subst (λ (ts : Terms Key). T (is_sorted key_cmp ts)) e (first _ _ f.canonical)

no_zero_of : (f : BracketPolynomial) (front rest : Terms Key) → f.terms ≡ front ++ rest
    → T (has_no_zero (front ++ rest))
no_zero_of f front rest e = subst (λ (ts : Terms Key). T (has_no_zero ts)) e (second _ _ f.canonical)

-- a term at which the other polynomial has a greater key, or none
module _ (f g : BracketPolynomial) (k : Key) (c : ℤ) (rest more : Terms Key)
    (s : SameSoFar f.terms g.terms ((k, c) ∷ rest) more) where
  sorted_here : T (is_sorted key_cmp (s.front ++ (k, c) ∷ rest))
  sorted_here = sorted_of f s.front ((k, c) ∷ rest) s.first_is

  below_rest : T (below_all key_cmp k rest)
  below_rest = first _ _ (tail_sorted s.front ((k, c) ∷ rest) sorted_here)

  pub front_at : count k s.front ≡ pos 0
  front_at = front_none s.front (k, c) rest sorted_here

  pub here_is : coefficient f k ≡ c
  here_is =
      ap (λ ts. count k ts) s.first_is ∙ count_append k s.front ((k, c) ∷ rest)
      ∙ ap₂ ◌+ℤ◌ front_at (count_head (k, c) rest below_rest) ∙ zero_left c

  there_is : (w : ℤ) → count k more ≡ w → coefficient g k ≡ w
  there_is w e =
      ap (λ ts. count k ts) s.second_is ∙ count_append k s.front more ∙ ap₂ ◌+ℤ◌ front_at e ∙ zero_left w

  before : ((j : Key) → key_cmp j k ≡ Less → count j more ≡ pos 0) → (j : Key) → key_cmp j k ≡ Less
      → coefficient f j ≡ coefficient g j
  before h j l =
      ap (λ ts. count j ts) s.first_is ∙ count_append j s.front ((k, c) ∷ rest)
      ∙ ap (λ w. count j s.front +ℤ w) (none_before j (k, c) rest l below_rest ∙ sym (h j l))
      ∙ sym (count_append j s.front more) ∙ ap (λ ts. count j ts) (sym s.second_is)

  -- the least difference, where the other list has the coefficient w there and no lesser key
  differs : (w : ℤ) → count k more ≡ w → c ≢ w → ((j : Key) → key_cmp j k ≡ Less → count j more ≡ pos 0)
      → IsLeastDifference f g k c w
  differs w e n h = record { computed_is = here_is; written_is = there_is w e; differ = n; least = before h }

  pub nonzero_here : c ≢ pos 0
  nonzero_here = not_zero s.front (k, c) rest (no_zero_of f s.front ((k, c) ∷ rest) s.first_is)

swapped : (f g : BracketPolynomial) (k : Key) (c w : ℤ) → IsLeastDifference f g k c w → IsLeastDifference g f k w c
swapped f g k c w d = record {
  computed_is = d.written_is;
  written_is = d.computed_is;
  differ = λ e. d.differ (sym e);
  least = λ j l. sym (d.least j l);
}

-- the other list has ended
pub differs_alone : (f g : BracketPolynomial) (k : Key) (c : ℤ) (rest : Terms Key)
    → SameSoFar f.terms g.terms ((k, c) ∷ rest) [] → IsLeastDifference f g k c (pos 0)
differs_alone f g k c rest s =
    differs f g k c rest [] s (pos 0) refl (nonzero_here f g k c rest [] s) (λ j l. refl)

pub other_alone : (f g : BracketPolynomial) (l : Key) (w : ℤ) (more : Terms Key)
    → SameSoFar f.terms g.terms [] ((l, w) ∷ more) → IsLeastDifference f g l (pos 0) w
other_alone f g l w more s =
    swapped g f l w (pos 0) (differs_alone g f l w more (swap f.terms g.terms [] ((l, w) ∷ more) s))

-- the other list has a greater key
pub differs_before : (f g : BracketPolynomial) (k l : Key) (c w : ℤ) (rest more : Terms Key)
    → SameSoFar f.terms g.terms ((k, c) ∷ rest) ((l, w) ∷ more) → key_cmp k l ≡ Less → IsLeastDifference f g k c (pos 0)
differs_before f g k l c w rest more s e =
    let t = swap f.terms g.terms ((k, c) ∷ rest) ((l, w) ∷ more) s in
    let below : T (below_all key_cmp l more) = below_rest g f l w more ((k, c) ∷ rest) t in
    differs f g k c rest ((l, w) ∷ more) s (pos 0) (none_before k (l, w) more e below)
    (nonzero_here f g k c rest ((l, w) ∷ more) s)
    (λ j h. none_before j (l, w) more (key_total.trans j k l h e) below)

pub other_before : (f g : BracketPolynomial) (k l : Key) (c w : ℤ) (rest more : Terms Key)
    → SameSoFar f.terms g.terms ((k, c) ∷ rest) ((l, w) ∷ more) → key_cmp k l ≡ Greater
    → IsLeastDifference f g l (pos 0) w
other_before f g k l c w rest more s e =
    swapped g f l w (pos 0)
    (differs_before g f l k w c more rest (swap f.terms g.terms ((k, c) ∷ rest) ((l, w) ∷ more) s)
    (key_total.antisymm l k ∙ ap ordering_reverse e))

-- both have the key, with different coefficients
pub differs_there : (f g : BracketPolynomial) (k l : Key) (c w : ℤ) (rest more : Terms Key)
    → SameSoFar f.terms g.terms ((k, c) ∷ rest) ((l, w) ∷ more) → key_cmp k l ≡ Equal → c ≢ w
    → IsLeastDifference f g k c w
differs_there f g k l c w rest more s e n =
    let t = swap f.terms g.terms ((k, c) ∷ rest) ((l, w) ∷ more) s in
    let below : T (below_all key_cmp l more) = below_rest g f l w more ((k, c) ∷ rest) t in
    let same : k ≡ l = key_same k l e in
    differs f g k c rest ((l, w) ∷ more) s w
    (ap (λ x. count x ((l, w) ∷ more)) same ∙ count_head (l, w) more below) n
    (λ j h. none_before j (l, w) more (subst (λ x. key_cmp j x ≡ Less) same h) below)

-- the difference in other words
pub least_is : (f g : BracketPolynomial) (k l : Key) (c e w v : ℤ) → IsLeastDifference f g k c w → l ≡ k → e ≡ c → v ≡ w
    → IsLeastDifference f g l e v
least_is f g k l c e w v d p q r =
    subst (λ x. IsLeastDifference f g x e v) (sym p)
    (subst (λ x. IsLeastDifference f g k x v) (sym q) (subst (λ x. IsLeastDifference f g k c x) (sym r) d))

-- ---- the least key that is not standard

pub record StandardSoFar (d : ℕ) (all rest : Terms Key) : Type 0 where
  pub front : Terms Key
  pub split : all ≡ front ++ rest
  pub standard : AllByRecursion (λ t. HasRisingColumns d t.0.rows) front

pub standard_begins : (d : ℕ) (all : Terms Key) → StandardSoFar d all all
standard_begins d all = record { front = []; split = refl; standard = tt }

pub standard_left : (d : ℕ) (all rest ts : Terms Key) → StandardSoFar d all rest → rest ≡ ts → StandardSoFar d all ts
standard_left d all rest ts s e = record {
  front = s.front;
  split = s.split ∙ ap (λ xs. s.front ++ xs) e;
  standard = s.standard;
}

pub standard_goes_on : (d : ℕ) (all rest : Terms Key) (t : Key × ℤ) → StandardSoFar d all (t ∷ rest)
    → HasRisingColumns d t.0.rows → StandardSoFar d all rest
standard_goes_on d all rest t s h = record {
  front = s.front ++ t ∷ [];
  split = s.split ∙ sym (append_assoc s.front (t ∷ []) rest);
  standard = all_append (λ u. HasRisingColumns d u.0.rows) s.front (t ∷ []) s.standard (h, tt);
}

-- a key with a coefficient has what all keys have
pub of_all : (P : Key → Type 0) (j : Key) (ts : Terms Key) → AllByRecursion (λ t. P t.0) ts → count j ts ≢ pos 0 → P j
of_all P j [] h n = absurd (n refl)
of_all P j (t ∷ ts) h n = by_key (key_cmp j t.0) refl (λ m. of_all P j ts h.1 m)
  where
    by_key : (r : Ordering) → key_cmp j t.0 ≡ r → (count j ts ≢ pos 0 → P j) → P j
    by_key Less e ih = ih (λ z. n (other_key j t ts Less e refl ∙ z))
    by_key Equal e ih = subst P (sym (key_same j t.0 e)) h.0
    by_key Greater e ih = ih (λ z. n (other_key j t ts Greater e refl ∙ z))

pub nonstandard_here : (d : ℕ) (f : BracketPolynomial) (k : Key) (c : ℤ) (rest : Terms Key)
    → StandardSoFar d f.terms ((k, c) ∷ rest) → (HasRisingColumns d k.rows → ⊥) → IsLeastNonstandard d f k
nonstandard_here d f k c rest s n = record {
  is_there = λ e. nonzero_here f f k c rest ((k, c) ∷ rest) same (sym (here_is f f k c rest ((k, c) ∷ rest) same) ∙ e);
  nonstandard = n;
  least = λ j l h.
      of_all (λ x. HasRisingColumns d x.rows) j s.front s.standard
      (λ z. h (ap (λ ts. count j ts) s.split ∙ count_append j s.front ((k, c) ∷ rest)
      ∙ ap₂ ◌+ℤ◌ z (none_before j (k, c) rest l (below_rest f f k c rest ((k, c) ∷ rest) same)) ∙ zero_left (pos 0)));
}
  where
    same : SameSoFar f.terms f.terms ((k, c) ∷ rest) ((k, c) ∷ rest)
    same = record { front = s.front; first_is = s.split; second_is = s.split }

all_keys : (d : ℕ) (ts : Terms Key) → AllByRecursion (λ t. IsKey d 64 t.0) ts
    → AllByRecursion (λ t. HasRisingColumns d t.0.rows) ts → AllByRecursion (λ t. IsStandardKey d 64 t.0) ts
all_keys d [] h s = tt
all_keys d (t ∷ ts) h s = (record { key = h.0; columns = s.0 }, all_keys d ts h.1 s.1)

-- the columns of a normal polynomial rise
pub columns_of : (d : ℕ) (ts : Terms Key) → AllByRecursion (λ t. IsStandardKey d 64 t.0) ts
    → AllByRecursion (λ t. HasRisingColumns d t.0.rows) ts
columns_of d [] h = tt
columns_of d (t ∷ ts) h = (h.0.columns, columns_of d ts h.1)

-- where all are standard the polynomial is normal
pub standard_ends : (d : ℕ) (f : BracketPolynomial) → IsBracketPolynomial d 64 f → StandardSoFar d f.terms []
    → IsNormal d 64 f
standard_ends d f h s =
    all_keys d f.terms h
    (subst (λ (ts : Terms Key). AllByRecursion (λ t. HasRisingColumns d t.0.rows) ts)
    (sym (s.split ∙ append-nil s.front)) s.standard)
