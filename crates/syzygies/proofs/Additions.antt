-- The terms that a use adds come in the order of the terms of its syzygy.
use Rattle.std.proofs.Common.{◌≡◌, ℕ, T, List, [], ◌∷◌, ◌++◌, map, length, refl, sym, ap, ap₂}
use Rattle.std.proofs.Common.{subst, ◌∙◌, is_lt, append-nil}
use Rattle.std.specs.Prelude.{ℤ, ◌*ℤ◌}
use Rattle.std.specs.List.{AllByRecursion}
use Rattle.std.specs.Cmp.{tied_itself}
use Rattle.std.specs.Cmp.Lexicographic.{slice_cmp, nat_list_cmp_total}
use Rattle.std.specs.FinMap.{is_sorted}
use Rattle.std.specs.FinMap.Entries.{below_all}
use Rattle.std.specs.Ordering.{nat_cmp, ordering_then}
use Rattle.coordinate_model.specs.Sequences.{at_places}
use Rattle.coordinate_model.specs.Words.{ordered}
use Rattle.coordinate_model.specs.Sums.{Terms}
use Rattle.coordinate_model.specs.Key.{Key, key_cmp, row_cmp, rows_cmp, rows_key, key_times, add_exponents}
use Rattle.coordinate_model.specs.BracketPolynomial.{AllKeys}
use Rattle.coordinate_model.specs.Syzygy.{sorted_bracket, syz, use_key}
use Rattle.coordinate_model.proofs.Bools.{both, first, second}
use Rattle.coordinate_model.proofs.Closure.{all_signed, all_sum_over}
use Rattle.coordinate_model.proofs.KeySets.{all_times}
use Rattle.coordinate_model.proofs.KeySumLaws.{row_same}
use Rattle.coordinate_model.proofs.Openings.{syz_term, syz-is}
use Rattle.coordinate_model.proofs.WordLemmas.{ordered_ordered}
use Rattle.tableau_order.proofs.MergedRows.{keeps_order, length-ordered}
use Rattle.syzygies.specs.Places.{AdditionsAscend}
use Rattle.syzygies.proofs.Falls.{IsOneRow, one_row}

-- the key has no parameter, and two rows in order
pub record IsPair (k : Key) : Type 0 where
  pub parameters : k.exponents ≡ []
  pub two : length k.rows ≡ 2
  pub in_order : ordered row_cmp k.rows ≡ k.rows

pair_of_rows : (k l : Key) → IsOneRow k → IsOneRow l → IsPair (key_times k l)
pair_of_rows k l h o =
    let rows : List (List ℕ) = h.row ∷ o.row ∷ [] in
    let here : key_times k l ≡ rows_key (ordered row_cmp rows) = ap₂ key_times h.rows o.rows in
    subst IsPair (sym here)
    (record {
      parameters = refl;
      two = length-ordered row_cmp nat_list_cmp_total row_same rows;
      in_order =
          ap (ordered row_cmp) (sym (append-nil (ordered row_cmp rows)))
          ∙ ordered_ordered row_cmp nat_list_cmp_total row_same rows [];
    })

-- each key of a syzygy is one
pub pairs_of_syzygy : (α β γ : List ℕ) → AllKeys IsPair (syz α β γ)
pairs_of_syzygy α β γ =
    subst (AllKeys IsPair) (sym (syz-is α β γ)) (all_sum_over IsPair (syz_term α β γ) _ (terms _))
  where
    terms : (ts : List (List ℕ × List ℕ)) → AllByRecursion (λ t. AllKeys IsPair (syz_term α β γ t)) ts
    terms [] = tt
    terms (t ∷ ts) = (
      all_signed IsPair (t.0 ++ t.1) _
          (all_times IsOneRow IsOneRow IsPair pair_of_rows (sorted_bracket (α ++ at_places β t.1))
          (sorted_bracket (at_places β t.0 ++ γ)) (one_row (α ++ at_places β t.1))
          (one_row (at_places β t.0 ++ γ))),
      terms ts,
    )

-- multiples of two such keys compare as they do
key_times_cmp : (k l m : Key) → IsPair l → IsPair m → key_cmp (key_times k l) (key_times k m) ≡ key_cmp l m
key_times_cmp k l m p q =
    let with_k : List ℕ → List ℕ = add_exponents k.exponents in
    ap₂ ordering_then
    (ap₂ (slice_cmp nat_cmp) (ap with_k p.parameters) (ap with_k q.parameters)
    ∙ tied_itself nat_list_cmp_total (with_k []))
    (keeps_order k.rows l.rows m.rows (p.two ∙ sym q.two) ∙ ap₂ rows_cmp p.in_order q.in_order)
    ∙ sym (ap (λ r. ordering_then r (rows_cmp l.rows m.rows)) (ap₂ (slice_cmp nat_cmp) p.parameters q.parameters))

-- so the multiples of ascending terms ascend
module _ (k : Key) (c : ℤ) where
  abbrev multiples : Terms Key → Terms Key
  multiples ts = map (λ t. (key_times k t.0, c *ℤ t.1)) ts

  below_multiples : (l : Key) (ts : Terms Key) → IsPair l → AllByRecursion (λ t. IsPair t.0) ts
      → T (below_all key_cmp l ts)
      → T (below_all key_cmp (key_times k l) (multiples ts))
  below_multiples l [] p h s = tt
  below_multiples l (t ∷ ts) p h s =
      both _ _ (subst (λ r. T (is_lt r)) (sym (key_times_cmp k l t.0 p h.0)) (first _ _ s))
      (below_multiples l ts p h.1 (second _ _ s))

  pub multiples_ascend : (ts : Terms Key) → AllByRecursion (λ t. IsPair t.0) ts → T (is_sorted key_cmp ts)
      → T (is_sorted key_cmp (multiples ts))
  multiples_ascend [] h s = tt
  multiples_ascend (t ∷ ts) h s =
      both _ _ (below_multiples t.0 ts h.0 h.1 (first _ _ s)) (multiples_ascend ts h.1 (second _ _ s))

pub additions_ascend : AdditionsAscend
additions_ascend u =
    multiples_ascend (use_key u) u.multiplier (syz u.alpha u.beta u.gamma).terms
    (pairs_of_syzygy u.alpha u.beta u.gamma)
    (first _ _ (syz u.alpha u.beta u.gamma).canonical)
