-- Sums, products, syzygies and multiples of bracket polynomials are bracket polynomials.
use Rattle.std.proofs.Common.{◌≡◌, ℕ, zero, suc, ◌+◌, ◌<◌, Bool, true, false, cond, List, [], ◌∷◌, ◌++◌, length, refl}
use Rattle.std.proofs.Common.{ap, ◌∙◌, arith, nat_cmp}
use Rattle.std.specs.List.{AllByRecursion}
use Rattle.std.specs.Cmp.Lexicographic.{nat_list_cmp_total}
use lib.ListN.{length-append}
use Rattle.coordinate_model.specs.Sequences.{repeats, is_odd, splits, range, at_places}
use Rattle.coordinate_model.specs.Brackets.{sum_over, signed, syzygy}
use Rattle.coordinate_model.specs.Words.{ordered}
use Rattle.coordinate_model.specs.Sums.{single}
use Rattle.coordinate_model.specs.Key.{Key, key_cmp, row_cmp, key_times, rows_key, add_exponents, IsRow, IsKey}
use Rattle.coordinate_model.specs.BracketPolynomial.{KeySums, BracketPolynomial, AllKeys, IsBracketPolynomial}
use Rattle.coordinate_model.specs.Syzygy.{sorted_bracket, syz, use_term, multiple, AreSizes}
use Rattle.coordinate_model.specs.NormalLaws.{MakesBracketPolynomials}
use Rattle.coordinate_model.proofs.Sorting.{length-ordered}
use Rattle.coordinate_model.proofs.SortedRows.{all_ordered, sorted-ordered, sorted_increasing}
use Rattle.coordinate_model.proofs.Splits.{IsSplit, splits-are, range-below, length-range_from, length-at_places}
use Rattle.coordinate_model.proofs.KeySets.{all_sum_of, all_single, all_plus, all_minus, all_times}

-- ---- keys

pub length-add_exponents : (n : ℕ) (e f : List ℕ) → length e ≡ n → length f ≡ n → length (add_exponents e f) ≡ n
length-add_exponents n [] f h k = k
length-add_exponents n (x ∷ e) [] h k = h
length-add_exponents zero (x ∷ e) (y ∷ f) h k = absurd (omega arith)
length-add_exponents (suc n) (x ∷ e) (y ∷ f) h k = ap suc (length-add_exponents n e f (omega arith) (omega arith))

pub length-add_none : (n : ℕ) (e f : List ℕ) → length e ≡ n → length f ≡ 0 → length (add_exponents e f) ≡ n
length-add_none n [] [] h k = h
length-add_none n [] (y ∷ f) h k = absurd (omega arith)
length-add_none n (x ∷ e) [] h k = h
length-add_none n (x ∷ e) (y ∷ f) h k = absurd (omega arith)

all_join : {A : Type 0} (P : A → Type 0) (xs ys : List A) → AllByRecursion P xs → AllByRecursion P ys
    → AllByRecursion P (xs ++ ys)
all_join P [] ys h k = k
all_join P (x ∷ xs) ys h k = (h.0, all_join P xs ys h.1 k)

-- a product of keys is a key
pub key_times-is : (d r : ℕ) (k l : Key) → AllByRecursion (IsRow d) k.rows → AllByRecursion (IsRow d) l.rows
    → length (add_exponents k.exponents l.exponents) ≡ r → IsKey d r (key_times k l)
key_times-is d r k l h i e =
    record {
      parameters = e;
      each = all_ordered (row_cmp) (IsRow d) (k.rows ++ l.rows) (all_join (IsRow d) k.rows l.rows h i);
      ascending = sorted-ordered nat_list_cmp_total (k.rows ++ l.rows);
    }

-- the exponents of n parameters, and rows of d points
abbrev HasRows : ℕ → ℕ → Key → Type 0
HasRows d n k = (length k.exponents ≡ n) × AllByRecursion (IsRow d) k.rows

-- ---- signs and sums

pub all_signed : (P : Key → Type 0) (w : List ℕ) (f : BracketPolynomial) → AllKeys P f → AllKeys P (signed KeySums w f)
all_signed P w f h = step (is_odd w)
  where
    step : (b : Bool) → AllKeys P (cond b (KeySums.neg f) f)
    step true = all_minus P f h
    step false = h

pub all_sum_over : {X : Type 0} (P : Key → Type 0) (f : X → BracketPolynomial) (xs : List X)
    → AllByRecursion (λ x. AllKeys P (f x)) xs
    → AllKeys P (sum_over KeySums f xs)
all_sum_over P f [] h = tt
all_sum_over P f (x ∷ xs) h = all_plus P (f x) (sum_over KeySums f xs) h.0 (all_sum_over P f xs h.1)

-- ---- syzygies

-- what holds of the sorted row holds of the keys of a sorted bracket
pub keys-sorted : (P : Key → Type 0) (ps : List ℕ) → (repeats ps ≡ false → P (rows_key (ordered nat_cmp ps ∷ [])))
    → AllKeys P (sorted_bracket ps)
unfolding sorted_bracket
keys-sorted P ps row = step (repeats ps) refl
  where
    step : (b : Bool) → repeats ps ≡ b
        → AllKeys P (cond b KeySums.𝟘 (signed KeySums ps (single key_cmp (rows_key (ordered nat_cmp ps ∷ [])))))
    step true e = tt
    step false e =
        all_signed P ps (single key_cmp (rows_key (ordered nat_cmp ps ∷ [])))
        (all_single P (rows_key (ordered nat_cmp ps ∷ [])) (row e))

-- the keys of a sorted bracket of d points
keys-sorted_bracket : (d : ℕ) (ps : List ℕ) → length ps ≡ d → AllKeys (HasRows d 0) (sorted_bracket ps)
keys-sorted_bracket d ps l =
    keys-sorted (HasRows d 0) ps (λ e. (refl, ((length-ordered ps ∙ l, sorted_increasing ps e), tt)))

pub sorted_bracket-is : (d : ℕ) (ps : List ℕ) → length ps ≡ d → IsBracketPolynomial d 0 (sorted_bracket ps)
sorted_bracket-is d ps l =
    keys-sorted (IsKey d 0) ps (λ e. record {
      parameters = refl;
      each = ((length-ordered ps ∙ l, sorted_increasing ps e), tt);
      ascending = λ k x z h. absurd (omega arith);
    })

module _ (d : ℕ) (α β γ : List ℕ) (s : AreSizes d α β γ) where
  abbrev term : List ℕ × List ℕ → BracketPolynomial
  term t =
      signed KeySums (t.0 ++ t.1) (KeySums.◌⊗◌ (sorted_bracket (α ++ at_places β t.1))
      (sorted_bracket (at_places β t.0 ++ γ)))

  keys-term : (t : List ℕ × List ℕ) → IsSplit (λ i. i < length β) (length α + 1) (length (range (length β))) t
      → AllKeys (IsKey d 0) (term t)
  keys-term t i =
      let l0 : length (at_places β t.0) ≡ length t.0 = length-at_places β t.0 i.first in
      let l1 : length (at_places β t.1) ≡ length t.1 = length-at_places β t.1 i.second in
      let n : length (range (length β)) ≡ length β = length-range_from zero (length β) in
      let c : length t.0 ≡ length α + 1 = i.chosen in
      let r : length t.1 + (length α + 1) ≡ length (range (length β)) = i.all in
      let m0 : length (α ++ at_places β t.1) ≡ length α + length (at_places β t.1) = length-append α
      (at_places β t.1) in
      let m1 : length (at_places β t.0 ++ γ) ≡ length (at_places β t.0) + length γ = length-append
      (at_places β t.0) γ in
      let b : length β ≡ d + 1 = s.beta in
      let o : length α + length γ + 1 ≡ d = s.others in
      all_signed (IsKey d 0) (t.0 ++ t.1) _
      (all_times (HasRows d 0) (HasRows d 0) (IsKey d 0)
      (λ k l h j. key_times-is d 0 k l h.1 j.1 (length-add_none 0 k.exponents l.exponents h.0 j.0))
      (sorted_bracket (α ++ at_places β t.1)) (sorted_bracket (at_places β t.0 ++ γ))
      (keys-sorted_bracket d (α ++ at_places β t.1) (omega arith))
      (keys-sorted_bracket d (at_places β t.0 ++ γ) (omega arith)))

  keys-terms : (ts : List (List ℕ × List ℕ))
      → AllByRecursion (IsSplit (λ i. i < length β) (length α + 1) (length (range (length β)))) ts
      → AllByRecursion (λ t. AllKeys (IsKey d 0) (term t)) ts
  keys-terms [] h = tt
  keys-terms (t ∷ ts) h = (keys-term t h.0, keys-terms ts h.1)

  pub keys-syz : IsBracketPolynomial d 0 (syz α β γ)
  unfolding syz syzygy
  keys-syz =
      all_sum_over (IsKey d 0) term (splits (length α + 1) (range (length β)))
      (keys-terms (splits (length α + 1) (range (length β)))
      (splits-are (λ i. i < length β) (length α + 1) (range (length β)) (range-below (length β))))

-- ---- the law

pub makes_bracket_polynomials : (d n : ℕ) → MakesBracketPolynomials d n
unfolding multiple
makes_bracket_polynomials d n =
    record {
      sum = all_plus (IsKey d n);
      product = all_times (IsKey d n) (IsKey d n) (IsKey d n)
          (λ k l a b. key_times-is d n k l a.each b.each
          (length-add_exponents n k.exponents l.exponents a.parameters b.parameters));
      bracket = sorted_bracket-is d;
      syzygy = keys-syz d;
      multiple = λ u r h e w.
          let s : AreSizes d u.alpha u.beta u.gamma =
          record { rank = r; beta = h.beta_points; others = h.other_points } in
          all_times (HasRows d n) (IsKey d 0) (IsKey d n)
          (λ k l a b. key_times-is d n k l a.1 b.each (length-add_none n k.exponents l.exponents a.0 b.parameters))
          (use_term u) (syz u.alpha u.beta u.gamma) (all_sum_of (HasRows d n) _ ((e, w), tt))
          (keys-syz d u.alpha u.beta u.gamma s);
    }
