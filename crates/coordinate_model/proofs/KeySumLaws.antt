-- Bracket polynomials obey the laws of a commutative ring; that of one is for rows that ascend.
use Rattle.std.proofs.Common.{◌≡◌, ℕ, ◌+◌, List, [], ◌∷◌, ◌++◌, refl, sym, ap, ap₂, ◌∙◌, append_assoc, append-nil}
use Rattle.std.proofs.Common.{get_or, suc, suc-add, false, true≢false, Ordering, Less, Equal, Greater, is_gt, is_lt}
use Rattle.std.proofs.Common.{arith}
use Rattle.std.specs.Prelude.{IsSorted}
use Rattle.std.specs.List.{AllByRecursion}
use Rattle.std.specs.Ordering.{ordering_reverse}
use Rattle.std.specs.Cmp.Lexicographic.{nat_list_cmp_total}
use Rattle.std.specs.FinMap.{IsAntisymmetric, nat_cmp-IsAntisymmetric, slice_cmp-IsAntisymmetric}
use Rattle.coordinate_model.specs.Words.{ordered}
use Rattle.coordinate_model.specs.Sums.{Terms, products, negated, sum_of, single}
use Rattle.coordinate_model.specs.Key.{Key, key_cmp, row_cmp, key_times, rows_key, add_exponents, IsKey, IsStandardKey}
use Rattle.coordinate_model.specs.BracketPolynomial.{KeySums, BracketPolynomial, IsBracketPolynomial, IsNormal, add}
use Rattle.coordinate_model.specs.BracketPolynomial.{mul}
use Rattle.coordinate_model.specs.NormalLaws.{KeySumLaws}
use Rattle.coordinate_model.proofs.Orders.{ordered_append_comm}
use Rattle.coordinate_model.proofs.WordLemmas.{ordered_ordered, ordered_last, ordered_ascending}
use Rattle.coordinate_model.proofs.Exponents.{IsAscending, least_below}
use Rattle.coordinate_model.proofs.SumRing.{times_one_on, sum_of-negated, single-times}
use Rattle.coordinate_model.proofs.SumRing.{plus_assoc, plus_comm, plus_empty, plus_minus, times_assoc, times_comm}
use Rattle.coordinate_model.proofs.SumRing.{times_plus, sum_of-terms, sum_of-append, sum_of-products}
use Rattle.coordinate_model.proofs.KeyProducts.{key_total, key_same}

pub row_same : IsAntisymmetric row_cmp
row_same = slice_cmp-IsAntisymmetric nat_cmp-IsAntisymmetric

exponents_assoc : (d e f : List ℕ) → add_exponents (add_exponents d e) f ≡ add_exponents d (add_exponents e f)
exponents_assoc [] e f = refl
exponents_assoc (x ∷ d) [] f = refl
exponents_assoc (x ∷ d) (y ∷ e) [] = refl
exponents_assoc (x ∷ d) (y ∷ e) (z ∷ f) = ap₂ {C = List ℕ} (λ n r. n ∷ r) (sum x y z) (exponents_assoc d e f)
  where
    sum : (a b c : ℕ) → (a + b) + c ≡ a + (b + c)
    sum a b c = omega arith

exponents_comm : (d e : List ℕ) → add_exponents d e ≡ add_exponents e d
exponents_comm [] [] = refl
exponents_comm [] (y ∷ e) = refl
exponents_comm (x ∷ d) [] = refl
exponents_comm (x ∷ d) (y ∷ e) = ap₂ {C = List ℕ} (λ n r. n ∷ r) (sum x y) (exponents_comm d e)
  where
    sum : (a b : ℕ) → a + b ≡ b + a
    sum a b = omega arith

-- keys with equal parts are equal
key_path : (k l : Key) → k.exponents ≡ l.exponents → k.rows ≡ l.rows → k ≡ l
key_path k l e r = λ i. record { exponents = e i; rows = r i }

pub key_times-assoc : (k l m : Key) → key_times (key_times k l) m ≡ key_times k (key_times l m)
key_times-assoc k l m =
    key_path _ _ (exponents_assoc k.exponents l.exponents m.exponents)
    (ordered_ordered row_cmp nat_list_cmp_total row_same (k.rows ++ l.rows) m.rows
    ∙ ap (ordered row_cmp) (append_assoc k.rows l.rows m.rows)
    ∙ sym (ordered_last row_cmp nat_list_cmp_total row_same k.rows (l.rows ++ m.rows)))

pub key_times-comm : (k l : Key) → key_times k l ≡ key_times l k
key_times-comm k l =
    key_path _ _ (exponents_comm k.exponents l.exponents)
    (ordered_append_comm nat_list_cmp_total row_same k.rows l.rows)

pub add_assoc : (f g h : BracketPolynomial) → add (add f g) h ≡ add f (add g h)
add_assoc = plus_assoc key_cmp key_total key_same

pub add_comm : (f g : BracketPolynomial) → add f g ≡ add g f
add_comm = plus_comm key_cmp key_total key_same

pub add_zero : (f : BracketPolynomial) → add f KeySums.𝟘 ≡ f
add_zero = plus_empty key_cmp key_total key_same

pub add_neg : (f : BracketPolynomial) → add f (KeySums.neg f) ≡ KeySums.𝟘
add_neg = plus_minus key_cmp key_total key_same

pub mul_assoc : (f g h : BracketPolynomial) → mul (mul f g) h ≡ mul f (mul g h)
mul_assoc = times_assoc key_cmp key_total key_same key_times key_times-assoc

pub mul_comm : (f g : BracketPolynomial) → mul f g ≡ mul g f
mul_comm = times_comm key_cmp key_total key_same key_times key_times-comm

pub mul_add : (f g h : BracketPolynomial) → mul f (add g h) ≡ add (mul f g) (mul f h)
mul_add = times_plus key_cmp key_total key_same key_times

-- ---- one

not_above : (x y : List ℕ) → is_lt (row_cmp y x) ≡ false → is_gt (row_cmp x y) ≡ false
not_above x y h = step (row_cmp y x) refl h
  where
    step : (r : Ordering) → row_cmp y x ≡ r → is_lt r ≡ false → is_gt (row_cmp x y) ≡ false
    step Less e h = absurd (true≢false h)
    step Equal e h = ap is_gt (nat_list_cmp_total.antisymm x y ∙ ap ordering_reverse e)
    step Greater e h = ap is_gt (nat_list_cmp_total.antisymm x y ∙ ap ordering_reverse e)

sorted_tail : (x : List ℕ) (w : List (List ℕ)) → IsSorted row_cmp (x ∷ w) → IsSorted row_cmp w
sorted_tail x w s k d z l =
    ap (λ n. is_lt (row_cmp (get_or (x ∷ w) n d) (get_or w k d))) (sym (suc-add k 1))
    ∙ s (suc k) d (omega arith) (omega arith)

pub sorted_ascending : (w : List (List ℕ)) → IsSorted row_cmp w → IsAscending nat_list_cmp_total w
sorted_ascending [] s = tt
sorted_ascending (x ∷ []) s = (tt, tt)
sorted_ascending (x ∷ y ∷ w) s =
    let rest : IsAscending nat_list_cmp_total (y ∷ w) = sorted_ascending (y ∷ w) (sorted_tail x (y ∷ w) s) in
    let le : is_gt (row_cmp x y) ≡ false = not_above x y (s 0 [] (omega arith) (omega arith)) in
    ((le, least_below nat_list_cmp_total x y w le rest.0), rest)

-- sorted rows are in order
pub ordered_rows : (rows : List (List ℕ)) → IsSorted row_cmp rows → ordered row_cmp rows ≡ rows
ordered_rows rows s = ordered_ascending row_cmp nat_list_cmp_total rows (sorted_ascending rows s)

exponents_none : (e : List ℕ) → add_exponents e [] ≡ e
exponents_none [] = refl
exponents_none (x ∷ e) = refl

key_one : (d n : ℕ) (k : Key) → IsKey d n k → key_times k (rows_key []) ≡ k
key_one d n k h =
    key_path _ _ (exponents_none k.exponents)
    (ap (ordered row_cmp) (append-nil k.rows) ∙ ordered_rows k.rows h.ascending)

pub mul_one : (d n : ℕ) (f : BracketPolynomial) → IsBracketPolynomial d n f → mul f KeySums.𝟙 ≡ f
mul_one d n f h = times_one_on key_cmp key_total key_same key_times (rows_key []) f (each f.terms h)
  where
    each : (ts : Terms Key) → AllByRecursion (λ t. IsKey d n t.0) ts
        → AllByRecursion (λ t. key_times t.0 (rows_key []) ≡ t.0) ts
    each [] h = tt
    each (t ∷ ts) h = (key_one d n t.0 h.0, each ts h.1)

-- a normal bracket polynomial is one
pub normal-is : (d n : ℕ) (f : BracketPolynomial) → IsNormal d n f → IsBracketPolynomial d n f
normal-is d n f = each f.terms
  where
    each : (ts : Terms Key) → AllByRecursion (λ t. IsStandardKey d n t.0) ts → AllByRecursion (λ t. IsKey d n t.0) ts
    each [] h = tt
    each (t ∷ ts) h = (h.0.key, each ts h.1)

-- lists of terms: what the code holds
pub terms-same : (f : BracketPolynomial) → sum_of key_cmp f.terms ≡ f
terms-same = sum_of-terms key_cmp key_total key_same

pub terms-add : (ts us : Terms Key) → sum_of key_cmp (ts ++ us) ≡ add (sum_of key_cmp ts) (sum_of key_cmp us)
terms-add = sum_of-append key_cmp key_total key_same

pub terms-mul : (ts us : Terms Key) → sum_of key_cmp (products key_times ts us) ≡ mul (sum_of key_cmp ts)
    (sum_of key_cmp us)
terms-mul = sum_of-products key_cmp key_total key_same key_times

pub terms-neg : (ts : Terms Key) → sum_of key_cmp (negated ts) ≡ KeySums.neg (sum_of key_cmp ts)
terms-neg = sum_of-negated key_cmp key_total key_same

-- the product of two keys, each once
pub single-mul : (k l : Key) → mul (single key_cmp k) (single key_cmp l) ≡ single key_cmp (key_times k l)
single-mul = single-times key_cmp key_total key_same key_times

pub key_sum_laws : KeySumLaws
key_sum_laws = record {
  add_assoc = add_assoc;
  add_comm = add_comm;
  add_zero = add_zero;
  add_neg = add_neg;
  mul_assoc = mul_assoc;
  mul_comm = mul_comm;
  mul_one = mul_one;
  mul_add = mul_add;
}
