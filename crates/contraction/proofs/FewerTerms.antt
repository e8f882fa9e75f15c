-- A pass makes the terms fewer: two go, and the syzygy has at most one more.
use Rattle.std.proofs.Common.{◌≡◌, ℕ, zero, suc, ◌+◌, ◌<◌, ◌≤◌, ◌==◌, Bool, true, false, cond, not, T, List, [], ◌∷◌, ◌++◌}
use Rattle.std.proofs.Common.{length, map, filter, take, drop, is_eq, refl, sym, ap, subst, ◌∙◌, arith, length-append, eqb-true, Less}
use Rattle.std.proofs.Common.{inl, inr, ◌⊎◌}
use Rattle.std.proofs.lemmas.List.{length-map}
use Rattle.std.specs.Prelude.{ℤ, pos, negsuc, ◌+ℤ◌, Contains}
use Rattle.std.proofs.lemmas.Int.{ints}
use Rattle.std.specs.Cmp.{Equal-is, tied_itself, nat_cmp_total}
use Rattle.std.specs.FinMap.{is_sorted}
use Rattle.std.specs.List.{AllByRecursion}
use Rattle.std.specs.Ordering.{eq_by_cmp}
use Rattle.std.proofs.lemmas.List.Elements.{All-contains_itself, Contains-append_left, Contains-append_right}
use Rattle.coordinate_model.specs.Sequences.{IsRank, has, without, repeats}
use Rattle.coordinate_model.specs.Sums.{Terms, coefficient, collect}
use Rattle.coordinate_model.specs.Key.{Key, key_cmp, IsRow}
use Rattle.coordinate_model.specs.BracketPolynomial.{BracketPolynomial, add}
use Rattle.coordinate_model.specs.Syzygy.{Use, syz, multiple, additions}
use Rattle.coordinate_model.proofs.Bools.{first, second}
use Rattle.coordinate_model.proofs.Counts.{many-append}
use Rattle.coordinate_model.proofs.KeyProducts.{key_total, key_same}
use Rattle.coordinate_model.proofs.Keys.{times_in}
use Rattle.coordinate_model.proofs.Leading.{count-plus}
use Rattle.coordinate_model.proofs.Orders.{count_ordered}
use Rattle.coordinate_model.proofs.Splits.{all_so, all_items}
use Rattle.coordinate_model.proofs.StartLaws.{additions_of_multiple}
use Rattle.coordinate_model.proofs.StdSort.{increasing-repeats}
use Rattle.coordinate_model.proofs.SumLemmas.{terms-sum_of}
use Rattle.tableau_order.specs.Standard.{row_at}
use Rattle.straightening.specs.RunLaws.{HasTerm}
use Rattle.straightening.proofs.Members.{contains_filter, contains_map, shorter_filter}
use Rattle.straightening.proofs.TermLists.{all_above, all_have_terms, holds_of_term}
use Rattle.contraction.specs.Passes.{own_rows, shared, further}
use Rattle.contraction.specs.PassLaws.{PassMakesFewer}
use Rattle.contraction.proofs.PairLaws.{Found, found_in, IsPair, is_pair, parts, all_own, of_two, times_filter, shared_size}
use Rattle.contraction.proofs.PassTerms.{IsTermOf, all_terms, first_in, second_in, first_second_differ, first_goes, second_goes}
use Rattle.contraction.proofs.ThreeTermSigns.{absent, times_once, none_twice, few_terms, syzygy_has_three_terms}

abbrev same : Key → Key → Bool
same = eq_by_cmp key_cmp

abbrev keys_of : BracketPolynomial → List Key
keys_of f = map (λ t. t.0) f.terms

-- a key with a term is among the keys
term_key : (f : BracketPolynomial) (k : Key) → HasTerm f k → Contains (keys_of f) k
term_key f k h =
    holds_of_term (λ l. Contains (map (λ (t : Key × ℤ). t.0) f.terms) l) f k
    (all_so (Contains f.terms) (λ (t : Key × ℤ). Contains (map (λ (t : Key × ℤ). t.0) f.terms) t.0)
    (λ t c. contains_map (λ (t : Key × ℤ). t.0) f.terms t c) f.terms
    (all_items (Contains f.terms) f.terms (All-contains_itself f.terms))) h

-- ascending keys that are all in a list are no more than it has
no_more : (ts : Terms Key) (ks : List Key) → T (is_sorted key_cmp ts) → AllByRecursion (λ t. Contains ks t.0) ts
    → length ts ≤ length ks
no_more [] ks h g = omega arith
no_more (t ∷ ts) ks h g =
    let rest : List Key = filter (λ l. not (same t.0 l)) ks in
    let less : length (filter (λ l. not (same t.0 l)) ks) < length ks =
    shorter_filter (λ l. not (same t.0 l)) ks t.0 g.0 (ap (λ o. not (is_eq o)) (tied_itself key_total t.0)) in
    let few : length ts ≤ length (filter (λ l. not (same t.0 l)) ks) =
    no_more ts (filter (λ l. not (same t.0 l)) ks) (second _ _ h)
    (later ts (all_above t.0 ts (first _ _ h)) g.1) in
    omega arith
  where
    later : (us : Terms Key) → AllByRecursion (λ u. key_cmp t.0 u.0 ≡ Less) us → AllByRecursion (λ u. Contains ks u.0) us
        → AllByRecursion (λ u. Contains (filter (λ l. not (same t.0 l)) ks) u.0) us
    later [] a c = tt
    later (u ∷ us) a c =
        (contains_filter (λ l. not (same t.0 l)) ks u.0 c.0 (ap (λ o. not (is_eq o)) a.0), later us a.1 c.1)

-- the keys but two
abbrev without_two : Key → Key → List Key → List Key
without_two k l ks = filter (λ x. not (same l x)) (filter (λ x. not (same k x)) ks)

other : (k l : Key) → (k ≡ l → ⊥) → not (same k l) ≡ true
other k l h = step (same k l) refl
  where
    step : (b : Bool) → same k l ≡ b → not b ≡ true
    step true e = absurd (h (key_same k l ((Equal-is (key_cmp k l)).0 e)))
    step false e = refl

itself : (k : Key) → not (same k k) ≡ false
itself k = ap (λ o. not (is_eq o)) (tied_itself key_total k)

two_fewer : (k l : Key) (ks : List Key) → (k ≡ l → ⊥) → Contains ks k → Contains ks l
    → length (without_two k l ks) + 2 ≤ length ks
two_fewer k l ks h c e =
    let a : length (filter (λ x. not (same k x)) ks) < length ks =
    shorter_filter (λ x. not (same k x)) ks k c (itself k) in
    let b : length (without_two k l ks) < length (filter (λ x. not (same k x)) ks) =
    shorter_filter (λ x. not (same l x)) (filter (λ x. not (same k x)) ks) l
    (contains_filter (λ x. not (same k x)) ks l e (other k l h)) (itself l) in
    omega arith

still_there : (k l x : Key) (ks : List Key) → (k ≡ x → ⊥) → (l ≡ x → ⊥) → Contains ks x
    → Contains (without_two k l ks) x
still_there k l x ks h g c =
    contains_filter (λ y. not (same l y)) (filter (λ y. not (same k y)) ks) x
    (contains_filter (λ y. not (same k y)) ks x c (other k x h)) (other l x g)

-- where two terms go that both polynomials have, the sum has fewer terms than both by four
sum_terms : (f g : BracketPolynomial) (k l : Key) → (k ≡ l → ⊥) → HasTerm f k → HasTerm f l → HasTerm g k → HasTerm g l
    → coefficient (add f g) k ≡ pos 0 → coefficient (add f g) l ≡ pos 0
    → length (add f g).terms + 4 ≤ length f.terms + length g.terms
sum_terms f g k l h fk fl gk gl zk zl =
    let a : length (without_two k l (keys_of f)) + 2 ≤ length (keys_of f) =
    two_fewer k l (keys_of f) h (term_key f k fk) (term_key f l fl) in
    let b : length (without_two k l (keys_of g)) + 2 ≤ length (keys_of g) =
    two_fewer k l (keys_of g) h (term_key g k gk) (term_key g l gl) in
    let c : length (without_two k l (keys_of f) ++ without_two k l (keys_of g))
    ≡ length (without_two k l (keys_of f)) + length (without_two k l (keys_of g)) =
    length-append (without_two k l (keys_of f)) (without_two k l (keys_of g)) in
    let e : length (add f g).terms ≤ length (without_two k l (keys_of f) ++ without_two k l (keys_of g)) =
    no_more (add f g).terms (without_two k l (keys_of f) ++ without_two k l (keys_of g))
    (first _ _ (add f g).canonical)
    (all_so (λ (t : Key × ℤ). HasTerm (add f g) t.0) _ (λ t m. inside t.0 m) (add f g).terms (all_have_terms (add f g))) in
    let p : length (keys_of f) ≡ length f.terms = length-map f.terms (λ (t : Key × ℤ). t.0) in
    let q : length (keys_of g) ≡ length g.terms = length-map g.terms (λ (t : Key × ℤ). t.0) in
    omega arith
  where
    zero_or : (c : ℤ) → (c ≡ pos 0) ⊎ (c ≡ pos 0 → ⊥)
    zero_or (pos zero) = inl refl
    zero_or (pos (suc n)) = inr (λ e. cc)
    zero_or (negsuc n) = inr (λ e. cc)

    both_zero : (a b : ℤ) → a ≡ pos 0 → b ≡ pos 0 → a +ℤ b ≡ pos 0
    both_zero a b e f = omega (arith, ints)

    inside : (x : Key) → HasTerm (add f g) x
        → Contains (without_two k l (keys_of f) ++ without_two k l (keys_of g)) x
    inside x m =
        let not_k : k ≡ x → ⊥ = λ e. m (ap (λ y. coefficient (add f g) y) (sym e) ∙ zk) in
        let not_l : l ≡ x → ⊥ = λ e. m (ap (λ y. coefficient (add f g) y) (sym e) ∙ zl) in
        elim (zero_or (coefficient f x)) [
          | inr h ↦
              Contains-append_left (without_two k l (keys_of f)) (without_two k l (keys_of g)) x
              (still_there k l x (keys_of f) not_k not_l (term_key f x h))
          | inl z ↦
              Contains-append_right (without_two k l (keys_of f)) (without_two k l (keys_of g)) x
              (still_there k l x (keys_of g) not_k not_l
              (term_key g x (λ y. m (count-plus key_cmp key_total key_same x f g
              ∙ both_zero (coefficient f x) (coefficient g x) z y))))
        ]

-- ---- the multiple

-- the shared and the further points of two rows are different
all_different : (low high : List ℕ) → ((i : ℕ) → times_in i low ≤ 1) → ((i : ℕ) → times_in i high ≤ 1)
    → repeats (shared low high ++ further low high) ≡ false
all_different low high l m = none_twice (shared low high ++ further low high) (λ i. at i)
  where
    at : (i : ℕ) → times_in i (shared low high ++ further low high) ≤ 1
    at i =
        let a : times_in i (shared low high ++ further low high) ≡ times_in i (shared low high) + times_in i (further low high) =
        many-append (λ p. i == p) (shared low high) (further low high) in
        let b : times_in i (further low high) ≡ times_in i (without low high ++ without high low) =
        count_ordered nat_cmp_total (λ p. i == p) (without low high ++ without high low) in
        let c : times_in i (without low high ++ without high low) ≡ times_in i (without low high) + times_in i (without high low) =
        many-append (λ p. i == p) (without low high) (without high low) in
        let e : times_in i (shared low high) + (times_in i (without low high) + times_in i (without high low)) ≤ 1 =
        step (has high i) (has low i) refl refl in
        omega arith
      where
        step : (b c : Bool) → has high i ≡ b → has low i ≡ c
            → times_in i (shared low high) + (times_in i (without low high) + times_in i (without high low)) ≤ 1
        step b c e f =
            let p : times_in i (shared low high) ≡ cond b (times_in i low) 0 =
            times_filter i (has high) low ∙ ap (λ z. cond z (times_in i low) 0) e in
            let q : times_in i (without low high) ≡ cond (not b) (times_in i low) 0 =
            times_filter i (λ x. not (has high x)) low ∙ ap (λ z. cond (not z) (times_in i low) 0) e in
            let r : times_in i (without high low) ≡ cond (not c) (times_in i high) 0 =
            times_filter i (λ x. not (has low x)) high ∙ ap (λ z. cond (not z) (times_in i high) 0) f in
            let s : cond b (times_in i low) 0 + (cond (not b) (times_in i low) 0 + cond (not c) (times_in i high) 0) ≤ 1 =
            cases b c e f in
            omega arith
          where
            cases : (b c : Bool) → has high i ≡ b → has low i ≡ c
                → cond b (times_in i low) 0 + (cond (not b) (times_in i low) 0 + cond (not c) (times_in i high) 0) ≤ 1
            cases true true e f = let x : times_in i low ≤ 1 = l i in omega arith
            cases true false e f =
                let x : times_in i high ≤ 1 = m i in let y : times_in i low ≡ 0 = absent i low f in omega arith
            cases false true e f = let x : times_in i low ≤ 1 = l i in omega arith
            cases false false e f =
                let x : times_in i high ≡ 0 = absent i high e in let y : times_in i low ≡ 0 = absent i low f in omega arith

-- the syzygy of points that are split so has at most three terms
few_in_syzygy : (S others : List ℕ) → IsRank (length S + 2) → length others ≡ 4 → repeats (S ++ others) ≡ false
    → length (syz [] (S ++ drop 1 others) (S ++ take 1 others)).terms ≤ 3
few_in_syzygy S [] r l h = absurd (omega arith)
few_in_syzygy S (a ∷ []) r l h = absurd (omega arith)
few_in_syzygy S (a ∷ b ∷ []) r l h = absurd (omega arith)
few_in_syzygy S (a ∷ b ∷ c ∷ []) r l h = absurd (omega arith)
few_in_syzygy S (a ∷ b ∷ c ∷ e ∷ []) r l h = (syzygy_has_three_terms S a b c e r h).few
few_in_syzygy S (a ∷ b ∷ c ∷ e ∷ p ∷ ps) r l h = absurd (omega arith)

few_in_multiple : (u : Use) → length (syz u.alpha u.beta u.gamma).terms ≤ 3 → length (multiple u).terms ≤ 3
few_in_multiple u h =
    let a : length (multiple u).terms ≡ length (collect key_cmp (additions u)) =
    ap (λ (f : BracketPolynomial). length f.terms) (sym (additions_of_multiple u))
    ∙ ap (λ (ts : Terms Key). length ts) (terms-sum_of key_cmp key_total (additions u)) in
    let b : length (collect key_cmp (additions u)) ≤ length (additions u) = few_terms (additions u) in
    let c : length (additions u) ≡ length (syz u.alpha u.beta u.gamma).terms = length-map (syz u.alpha u.beta u.gamma).terms _ in
    omega arith

few_of_pair : (d n : ℕ) (f : BracketPolynomial) → IsRank d → (t s : Key × ℤ) (u : Use) → IsTermOf d n f t → IsPair t s u
    → length (syz u.alpha u.beta u.gamma).terms ≤ 3
few_of_pair d n f rank t s u is_t pair =
    let rows : List (List ℕ) = own_rows t.0.rows s.0.rows in
    let low : List ℕ = row_at (own_rows t.0.rows s.0.rows) 0 in
    let high : List ℕ = row_at (own_rows t.0.rows s.0.rows) 1 in
    let a = parts (length (own_rows t.0.rows s.0.rows) == 2) _ pair.alike in
    let b = parts (length (own_rows s.0.rows t.0.rows) == 2) _ a.1 in
    let c = parts _ _ b.1 in
    let e = parts _ (length (further low high) == 4) c.1 in
    let two : length (own_rows t.0.rows s.0.rows) ≡ 2 = eqb-true (length (own_rows t.0.rows s.0.rows)) 2 a.0 in
    let four : length (further low high) ≡ 4 = eqb-true (length (further low high)) 4 e.1 in
    let r = of_two (IsRow d) (own_rows t.0.rows s.0.rows) two (all_own (IsRow d) t.0.rows s.0.rows is_t.key.each) in
    subst (λ (w : Use). length (syz w.alpha w.beta w.gamma).terms ≤ 3) pair.used
    (few_in_syzygy (shared low high) (further low high)
    (subst IsRank (sym (shared_size d low high r.0 r.1 four)) rank) four
    (all_different low high (λ i. times_once i low (increasing-repeats low r.0.1))
    (λ i. times_once i high (increasing-repeats high r.1.1))))

pub pass_makes_fewer : PassMakesFewer
pass_makes_fewer d n f u rank keys e =
    let w : Found (IsTermOf d n f) u = found_in (IsTermOf d n f) u f.terms (all_terms d n f keys) e in
    let p : IsPair w.first w.second u = is_pair w.first w.second u w.is in
    let few : length (multiple u).terms ≤ 3 =
    few_in_multiple u (few_of_pair d n f rank w.first w.second u w.has_first p) in
    let all : length (add f (multiple u)).terms + 4 ≤ length f.terms + length (multiple u).terms =
    sum_terms f (multiple u) w.first.0 w.second.0
    (first_second_differ d n rank f w.first w.second u w.has_first w.has_second p) w.has_first.there w.has_second.there
    (first_in d n rank f w.first w.second u w.has_first w.has_second p)
    (second_in d n rank f w.first w.second u w.has_first w.has_second p)
    (first_goes d n rank f w.first w.second u w.has_first w.has_second p)
    (second_goes d n rank f w.first w.second u w.has_first w.has_second p) in
    omega arith
