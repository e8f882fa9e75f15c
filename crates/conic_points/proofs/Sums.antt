-- What is made, where no limit stops it: the sums of the terms that are added.
use Rattle.std.specs.Prelude.{◌≡◌, ℕ, pos, negsuc, Bool, true, false, cond, List, [], ◌∷◌, ◌++◌, Some, Result, Ok}
use Rattle.std.proofs.Common.{refl, sym, ap, ap₂, ◌∙◌, append-nil}
use Rattle.coordinate_model.specs.Sequences.{repeats, sign_of, is_odd}
use Rattle.coordinate_model.specs.Brackets.{sum_over, signed, six_point}
use Rattle.coordinate_model.specs.Sums.{Terms, negated, sum_of, single, minus}
use Rattle.coordinate_model.specs.Key.{Key, key_cmp, rows_key}
use Rattle.coordinate_model.specs.BracketPolynomial.{KeySums, BracketPolynomial, add, mul}
use Rattle.coordinate_model.specs.Syzygy.{sorted, sorted_bracket}
use Rattle.coordinate_model.specs.Value.{Value}
use Rattle.coordinate_model.specs.Starts.{Entry, product_terms}
use Rattle.coordinate_model.specs.Conics.{bracket_of_values, conic_value}
use Rattle.coordinate_model.proofs.KeySumLaws.{add_assoc, add_zero, terms-same, terms-neg}
use Rattle.coordinate_model.proofs.Openings.{sorted_bracket-repeats, sorted_bracket-row}
use Rattle.bracket_poly.specs.Makings.{adding, each_item, made_product}
use Rattle.bracket_poly.specs.Tracked.{Tracked, Limit, nothing}
use Rattle.bracket_poly.proofs.Makings.{then_made}
use Rattle.bracket_poly.proofs.Totals.{added, zero_add, sum_of_product, makes_product, mul_nothing}
use Rattle.conic_points.specs.Laws.{times_bracket, MadeBracket, MadeConic}
use Rattle.conic_points.specs.Makings.{adding_bracket, adding_entry, made_bracket, made_four, made_conic}

-- ---- brackets

-- a sign and a row
signed_single : (ps : List ℕ) (k : Key) → sum_of key_cmp ((k, sign_of ps) ∷ []) ≡ signed KeySums ps (single key_cmp k)
unfolding single minus
signed_single ps k = by_sign (is_odd ps)
  where
    by_sign : (b : Bool) → sum_of key_cmp ((k, cond b (negsuc 0) (pos 1)) ∷ [])
        ≡ cond b (KeySums.neg (single key_cmp k)) (single key_cmp k)
    by_sign true = terms-neg ((k, pos 1) ∷ [])
    by_sign false = refl

adds_bracket : (f g : BracketPolynomial) (points : List ℕ) (p q : Tracked) → adding_bracket f g points p ≡ Ok q
    → q.sum ≡ add p.sum (mul (mul f g) (sorted_bracket points))
adds_bracket f g points p q e = by_repeats (repeats points) refl e
  where
    terms : Terms Key
    terms = product_terms f g (Some (sorted points)) (sign_of points)

    by_repeats : (b : Bool) → repeats points ≡ b → cond b (Ok p) (adding p terms) ≡ Ok q
        → q.sum ≡ add p.sum (mul (mul f g) (sorted_bracket points))
    by_repeats true h e =
        let same : q ≡ p = cc in
        ap (λ (r : Tracked). r.sum) same
        ∙ sym (ap (add p.sum) (ap (mul (mul f g)) (sorted_bracket-repeats points h) ∙ mul_nothing (mul f g))
        ∙ add_zero p.sum)
    by_repeats false h e =
        added p terms q e
        ∙ ap (add p.sum) (sum_of_product f g (Some (sorted points)) (sign_of points)
        ∙ ap (mul (mul f g)) (signed_single points (rows_key (sorted points ∷ [])) ∙ sym (sorted_bracket-row points h)))

-- a step for each entry, where each adds its part
module _ (step : Tracked → Entry → Result Tracked Limit) (part : Entry → BracketPolynomial)
    (adds : (p : Tracked) (e : Entry) (q : Tracked) → step p e ≡ Ok q → q.sum ≡ add p.sum (part e)) where
  each_sum : (es : Value) (p q : Tracked) → each_item step p es ≡ Ok q → q.sum ≡ add p.sum (sum_over KeySums part es)
  each_sum [] p q e = let same : q ≡ p = cc in ap (λ (r : Tracked). r.sum) same ∙ sym (add_zero p.sum)
  each_sum (x ∷ es) p q e =
      let made = then_made (step p x) (λ r. each_item step r es) q e in
      each_sum es made.0 q made.2 ∙ ap (λ f. add f (sum_over KeySums part es)) (adds p x made.0 made.1)
      ∙ add_assoc p.sum (part x) (sum_over KeySums part es)

module _ (after : List ℕ) where
  entry_adds : (others : List Value) (f : BracketPolynomial) (before : List ℕ) (p : Tracked) (e : Entry) (q : Tracked)
      → adding_entry after others f before p e ≡ Ok q
      → q.sum ≡ add p.sum (times_bracket after others (mul f e.1) (before ++ e.0))
  entry_adds [] f before p e q h = adds_bracket f e.1 (before ++ e.0 ++ after) p q h
  entry_adds (V ∷ others) f before p e q h =
      let made = then_made (made_product f e.1) (λ both. each_item (adding_entry after others both.sum (before ++ e.0)) p V) q h in
      each_sum (adding_entry after others made.0.sum (before ++ e.0))
      (λ x. times_bracket after others (mul made.0.sum x.1) (before ++ e.0 ++ x.0))
      (entry_adds others made.0.sum (before ++ e.0)) V p q made.2
      ∙ ap (λ g. add p.sum (times_bracket after (V ∷ others) g (before ++ e.0))) (makes_product f e.1 made.0 made.1)

pub bracket_sum : MadeBracket
unfolding made_bracket
bracket_sum before after V W others q h =
    each_sum (λ p e. each_item (adding_entry after others e.1 (before ++ e.0)) p W)
    (λ e. times_bracket after (W ∷ others) e.1 (before ++ e.0))
    (λ p e r i. each_sum (adding_entry after others e.1 (before ++ e.0))
    (λ x. times_bracket after others (mul e.1 x.1) (before ++ e.0 ++ x.0)) (entry_adds after others e.1 (before ++ e.0)) W p r i)
    V nothing q h
    ∙ zero_add _

-- three values
three_sum : (A B C : Value) (q : Tracked) → made_bracket [] (A ∷ B ∷ C ∷ []) [] ≡ Ok q → q.sum ≡ bracket_of_values A B C
unfolding bracket_of_values
three_sum A B C q h =
    bracket_sum [] [] A B (C ∷ []) q h
    ∙ λ j. sum_over KeySums (λ a. sum_over KeySums (λ b. sum_over KeySums (λ c.
    mul (mul (mul a.1 b.1) c.1) (sorted_bracket (append-nil (a.0 ++ b.0 ++ c.0) j))) C) B) A

-- ---- the four brackets, and both products

four_sum : (p1 p2 p3 p4 p5 p6 : Value) (q : Tracked) → made_four p1 p2 p3 p4 p5 p6 ≡ Ok q
    → q.sum ≡ mul (mul (mul (bracket_of_values p1 p2 p3) (bracket_of_values p1 p4 p5)) (bracket_of_values p2 p4 p6))
    (bracket_of_values p3 p5 p6)
unfolding made_four
four_sum p1 p2 p3 p4 p5 p6 q e =
    let a = then_made (made_bracket [] (p1 ∷ p2 ∷ p3 ∷ []) []) _ q e in
    let b = then_made (made_bracket [] (p1 ∷ p4 ∷ p5 ∷ []) []) _ q a.2 in
    let c = then_made (made_bracket [] (p2 ∷ p4 ∷ p6 ∷ []) []) _ q b.2 in
    let d = then_made (made_bracket [] (p3 ∷ p5 ∷ p6 ∷ []) []) _ q c.2 in
    let two = then_made (made_product a.0.sum b.0.sum) _ q d.2 in
    let three = then_made (made_product two.0.sum c.0.sum) _ q two.2 in
    makes_product three.0.sum d.0.sum q three.2
    ∙ ap₂ mul
    (makes_product two.0.sum c.0.sum three.0 three.1
    ∙ ap₂ mul
    (makes_product a.0.sum b.0.sum two.0 two.1
    ∙ ap₂ mul (three_sum p1 p2 p3 a.0 a.1) (three_sum p1 p4 p5 b.0 b.1))
    (three_sum p2 p4 p6 c.0 c.1))
    (three_sum p3 p5 p6 d.0 d.1)

pub conic_sum : MadeConic
unfolding made_conic conic_value six_point
conic_sum p1 p2 p3 p4 p5 p6 q e =
    let first = then_made (made_four p1 p2 p3 p4 p5 p6) _ q e in
    let second = then_made (made_four p1 p2 p4 p3 p5 p6) _ q first.2 in
    let start = then_made (adding nothing first.0.sum.terms) _ q second.2 in
    added start.0 (negated second.0.sum.terms) q start.2
    ∙ ap₂ add
    (added nothing first.0.sum.terms start.0 start.1 ∙ zero_add _ ∙ terms-same first.0.sum
    ∙ four_sum p1 p2 p3 p4 p5 p6 first.0 first.1)
    (terms-neg second.0.sum.terms
    ∙ ap KeySums.neg (terms-same second.0.sum ∙ four_sum p1 p2 p4 p3 p5 p6 second.0 second.1))
