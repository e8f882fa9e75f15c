-- A bracket of free points is zero exactly where a point comes twice: else the diagonal of its sorted row has the
-- coefficient 1 or -1.
use Rattle.std.proofs.Common.{◌≡◌, ℕ, Bool, true, false, cond, List, length, refl, sym, ap, ◌∙◌, nat_cmp, true≢false}
use lib.IntN.{ℤ, pos, neg_ℤ}
use Rattle.std.proofs.Common.{arith}
use Rattle.std.proofs.lemmas.Int.{ints}
use Rattle.coordinate_model.specs.Sequences.{is_odd, columns, repeats, IsRank}
use Rattle.coordinate_model.specs.Words.{ordered}
use Rattle.coordinate_model.specs.Sums.{coefficient}
use Rattle.coordinate_model.specs.Polynomial.{Monomial, monomial_cmp, Polynomial, Polynomials, monomial_of, br}
use Rattle.coordinate_model.specs.Key.{coordinate_product}
use Rattle.coordinate_model.specs.SyzygyLaws.{ZeroBracket, NonzeroBracket}
use Rattle.coordinate_model.proofs.Sorting.{length-ordered}
use Rattle.coordinate_model.proofs.SortedRows.{sorted_increasing}
use Rattle.coordinate_model.proofs.PolynomialRing.{monomial_total, monomial_same}
use Rattle.coordinate_model.proofs.Leading.{count-minus}
use Rattle.coordinate_model.proofs.Diagonal.{HasTop, top_bracket}
use Rattle.coordinate_model.proofs.BracketPolynomialLaws.{sorted_bracket_law, repeated_point}
use Rattle.coordinate_model.proofs.StdSort.{increasing-repeats}

not_zero : (b : Bool) (p : Polynomial) (m : Monomial) → coefficient p m ≡ pos 1
    → cond b (Polynomials.neg p) p ≡ Polynomials.𝟘 → ⊥
not_zero true p m e h =
    apart (coefficient p m) e (sym (count-minus monomial_cmp monomial_total monomial_same m p) ∙ ap
    (λ (q : Polynomial). coefficient q m) h)
  where
    apart : (x : ℤ) → x ≡ pos 1 → neg_ℤ x ≡ pos 0 → ⊥
    apart x i j = omega (arith, ints)
not_zero false p m e h = apart (coefficient p m) e (ap (λ (q : Polynomial). coefficient q m) h)
  where
    apart : (x : ℤ) → x ≡ pos 1 → x ≡ pos 0 → ⊥
    apart x i j = omega (arith, ints)

must_repeat : (ps : List ℕ) → IsRank (length ps) → br ps ≡ Polynomials.𝟘 → (b : Bool) → repeats ps ≡ b → b ≡ true
must_repeat ps r z true h = refl
must_repeat ps r z false h =
    let row : List ℕ = ordered nat_cmp ps in
    let m : Monomial = monomial_of (coordinate_product row (columns (length row))) in
    let top : HasTop m (pos 1) (br row) = top_bracket (length ps) row r (length-ordered ps, sorted_increasing ps h) in
    absurd (not_zero (is_odd ps) (br row) m top.at (sym (sorted_bracket_law ps r) ∙ z))

pub zero_bracket_law : ZeroBracket
zero_bracket_law ps r = (λ z. must_repeat ps r z (repeats ps) refl, repeated_point ps r)

pub nonzero_bracket_law : NonzeroBracket
nonzero_bracket_law ps r s z = true≢false (sym (must_repeat ps r z (repeats ps) refl) ∙ increasing-repeats ps s)
