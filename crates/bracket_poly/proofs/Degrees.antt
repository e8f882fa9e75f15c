-- Polynomials whose exponents are small.
use Rattle.std.specs.Prelude.{◌≡◌, ℕ, ◌+◌, ◌≤◌, ℤ, List, [], ◌∷◌}
use Rattle.std.specs.List.{AllByRecursion}
use Rattle.std.proofs.Common.{sym, subst, arith}
use Rattle.coordinate_model.specs.Sums.{Terms}
use Rattle.coordinate_model.specs.Key.{Key, add_exponents}
use Rattle.coordinate_model.specs.BracketPolynomial.{BracketPolynomial}
use Rattle.coordinate_model.proofs.KeySets.{all_sum_of}
use Rattle.bracket_poly.specs.Tracked.{Tracked, plus_term}
use Rattle.bracket_poly.specs.Products.{HasDegree, ExponentsFit}

abbrev AreUpTo : ℕ → List ℕ → Type 0
AreUpTo n es = AllByRecursion (λ e. e ≤ n) es

module _ (m n top : ℕ) (room : m + n ≤ top) where
  up_to : (es : List ℕ) → (low : ℕ) → low ≤ top → AreUpTo low es → AreUpTo top es
  up_to [] low r h = tt
  up_to (e ∷ es) low r h = (let b : e ≤ low = h.0 in omega arith, up_to es low r h.1)

  sums_up_to : (es fs : List ℕ) → AreUpTo m es → AreUpTo n fs → AreUpTo top (add_exponents es fs)
  sums_up_to [] fs h k = up_to fs n (omega arith) k
  sums_up_to (e ∷ es) [] h k = up_to (e ∷ es) m (omega arith) h
  sums_up_to (e ∷ es) (f ∷ fs) h k =
      (let a : e ≤ m = h.0 in let b : f ≤ n = k.0 in omega arith, sums_up_to es fs h.1 k.1)

-- polynomials whose exponents are small can be multiplied
pub exponents_fit : (m n : ℕ) (f g : BracketPolynomial) → m + n ≤ 65535 → HasDegree m f → HasDegree n g → ExponentsFit f g
exponents_fit m n f g room h k = each f.terms h
  where
    inner : (key : Key) (us : Terms Key) → AreUpTo m key.exponents → AllByRecursion (λ u. AreUpTo n u.0.exponents) us
        → AllByRecursion (λ u. AreUpTo 65535 (add_exponents key.exponents u.0.exponents)) us
    inner key [] a b = tt
    inner key (u ∷ us) a b = (sums_up_to m n 65535 room key.exponents u.0.exponents a b.0, inner key us a b.1)

    each : (ts : Terms Key) → AllByRecursion (λ t. AreUpTo m t.0.exponents) ts
        → AllByRecursion (λ t. AllByRecursion (λ u. AreUpTo 65535 (add_exponents t.0.exponents u.0.exponents)) g.terms) ts
    each [] a = tt
    each (t ∷ ts) a = (inner t.0 g.terms a.0 k, each ts a.1)

-- a polynomial with one term more
pub degree_after : (n : ℕ) (p q : Tracked) (t : Key × ℤ) → q ≡ plus_term p t → HasDegree n p.sum
    → AllByRecursion (λ e. e ≤ n) t.0.exponents → HasDegree n q.sum
degree_after n p q t e h k =
    subst (λ (r : Tracked). HasDegree n r.sum) (sym e)
    (all_sum_of (λ key. AllByRecursion (λ x. x ≤ n) key.exponents) (t ∷ p.sum.terms) (k, h))
