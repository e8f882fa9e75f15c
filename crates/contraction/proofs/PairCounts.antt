-- The integer of a product among the terms of a syzygy.
use Rattle.std.proofs.Common.{◌≡◌, ℕ, Bool, true, false, cond, T, List, [], ◌∷◌, is_eq, sym, ap}
use Rattle.std.proofs.Common.{◌∙◌, arith, subst}
use Rattle.std.proofs.lemmas.Int.{ints}
use Rattle.std.specs.Prelude.{ℤ, pos, ◌+ℤ◌}
use Rattle.std.specs.Cmp.{Equal-is}
use Rattle.std.specs.FinMap.{is_sorted}
use Rattle.coordinate_model.specs.Key.{Key, key_cmp, rows_cmp, rows_key}
use Rattle.coordinate_model.specs.Sums.{count_at}
use Rattle.coordinate_model.proofs.Bools.{first, second}
use Rattle.coordinate_model.proofs.KeyProducts.{key_total, key_same}
use Rattle.coordinate_model.proofs.SumLemmas.{count_first}
use Rattle.syzygies.specs.declared.pair.PairTerm.{PairTerm}
use Rattle.syzygies.specs.Terms.{pair_of, term_of, terms_of}

module _ {d : ℕ} (rows : List (List ℕ)) (p : PairTerm d) where
  abbrev same : Bool
  same = is_eq (rows_cmp rows (p.low ∷ p.high ∷ []))

  pub count_hit : (pairs rest : List (PairTerm d)) → pairs ≡ p ∷ rest → T (is_sorted key_cmp (terms_of pairs))
      → same ≡ true → p.sign_count ≡ count_at key_cmp (rows_key rows) (terms_of pairs)
  count_hit pairs rest e s h =
      let k : rows_key rows ≡ pair_of p =
      key_same (rows_key rows) (pair_of p) ((Equal-is (key_cmp (rows_key rows) (pair_of p))).0 h) in
      let t : T (is_sorted key_cmp (terms_of (p ∷ rest))) =
      subst (λ (w : List (PairTerm d)). T (is_sorted key_cmp (terms_of w))) e s in
      sym (ap (λ (w : List (PairTerm d)). count_at key_cmp (rows_key rows) (terms_of w)) e
      ∙ ap (λ (x : Key). count_at key_cmp x (terms_of (p ∷ rest))) k
      ∙ count_first key_cmp key_total key_same (term_of p) (terms_of rest) (first _ _ t))

  pub count_miss : (pairs rest : List (PairTerm d)) → pairs ≡ p ∷ rest → same ≡ false
      → count_at key_cmp (rows_key rows) (terms_of rest) ≡ count_at key_cmp (rows_key rows) (terms_of pairs)
  count_miss pairs rest e h =
      none (count_at key_cmp (rows_key rows) (terms_of rest))
      ∙ sym (ap (λ b. cond b p.sign_count (pos 0) +ℤ count_at key_cmp (rows_key rows) (terms_of rest)) h)
      ∙ sym (ap (λ (w : List (PairTerm d)). count_at key_cmp (rows_key rows) (terms_of w)) e)
    where
      none : (z : ℤ) → z ≡ pos 0 +ℤ z
      none z = omega (arith, ints)

  pub sorted_rest : (pairs rest : List (PairTerm d)) → pairs ≡ p ∷ rest → T (is_sorted key_cmp (terms_of pairs))
      → T (is_sorted key_cmp (terms_of rest))
  sorted_rest pairs rest e s =
      second _ _ (subst (λ (w : List (PairTerm d)). T (is_sorted key_cmp (terms_of w))) e s)
