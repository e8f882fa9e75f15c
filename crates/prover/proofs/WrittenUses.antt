-- The uses of a run: one after another they add their multiples within the limits, and each is one that a log may hold.
use Rattle.std.proofs.Common.{◌≡◌, ◌≢◌, ℕ, ◌+◌, ◌*◌, ◌≤◌, zero, suc, Bool, true, false, cond, T, List, [], ◌∷◌, ◌++◌}
use Rattle.std.proofs.Common.{length}
use Rattle.std.proofs.Common.{Option, Some, None, refl, sym, ap, subst, ◌∙◌, arith}
use Rattle.std.specs.Prelude.{ℤ, pos, negsuc, ◌+ℤ◌, ◌*ℤ◌, ◌^◌, neg_ℤ, unsigned_abs, nat_lt, IsSorted}
use Rattle.std.proofs.lemmas.Bool.Decides.{nat_tests}
use Rattle.std.proofs.lemmas.Int.{ints, unsigned_abs-mul}
use Rattle.std.specs.List.{AllByRecursion}
use Rattle.coordinate_model.specs.Sequences.{IsRank}
use Rattle.coordinate_model.specs.Sums.{is_zero}
use Rattle.coordinate_model.specs.Key.{row_cmp, IsRow, IsKey, points}
use Rattle.coordinate_model.specs.BracketPolynomial.{BracketPolynomial, AllKeys, IsBracketPolynomial, add}
use Rattle.coordinate_model.specs.Syzygy.{Use, AreSizes, multiple, additions}
use Rattle.coordinate_model.proofs.Splits.{all_so, all_both, all_append}
use Rattle.bracket_terms.specs.Uses.{IsLogUse}
use Rattle.bracket_poly.specs.Products.{HasDegree}
use Rattle.bracket_poly.specs.Tracked.{Tracked, Limit, fits, plus_terms, first_limit}
use Rattle.bracket_poly.proofs.Additions.{nonzero_terms, not_zero_is}
use Rattle.bracket_poly.proofs.Totals.{use_adds}
use Rattle.bracket_poly.proofs.TrackedLaws.{true_test}
use Rattle.straightening.specs.RunLaws.{HasLike}
use Rattle.straightening.specs.Runs.{Run, Stop, turns_stop, limit_stop, ended, after_use, run}
use Rattle.straightening.specs.Turns.{turn}
use Rattle.straightening.proofs.RunLemmas as turns
use Rattle.straightening.proofs.FirstViolations.{violation_found}
use Rattle.straightening.proofs.TermLists.{all_around, holds_of_term}
use Rattle.straightening.proofs.TurnLaws.{LastTerm, last_term}
use Rattle.straightening.proofs.UseLemmas.{log_use}
use Rattle.contraction.specs.Pairs.{IsTerm}
use Rattle.contraction.specs.Passes.{own_rows, count_in, pass, passes, contraction, most_terms}
use Rattle.contraction.proofs.PairLaws.{Found, found_in, IsPair, is_pair}
use Rattle.contraction.proofs.PairLaws as pairs
use Rattle.contraction.proofs.PassRuns as passes
use Rattle.contraction.proofs.PassTerms.{pass_keeps_classes}
use Rattle.contraction.proofs.RowsApart.{sorted_own}
use Rattle.cayley_run.specs.Sections.{Work, work, passes_of, turns_behind}
use Rattle.log_checker.specs.Accepted.{with_multiples, first_refused}
use Rattle.prover.proofs.WrittenLimits.{IsWithinLimits, IsFewerMet, PassAlike, pass_alike, terms_within}

-- ---- uses one after another

-- the multiples of the uses are added to p, one after another, no addition passes a limit, and q is what they leave
abbrev pub AddsUses : Tracked → List Use → Tracked → Type 0
AddsUses p [] q = p ≡ q
AddsUses p (u ∷ us) q = (first_limit p (additions u) ≡ None) × AddsUses (plus_terms p (additions u)) us q

adds_both : (p q r : Tracked) (us vs : List Use) → AddsUses p us q → AddsUses q vs r → AddsUses p (us ++ vs) r
adds_both p q r [] vs e h = subst (λ (s : Tracked). AddsUses s vs r) (sym e) h
adds_both p q r (u ∷ us) vs e h = (e.0, adds_both (plus_terms p (additions u)) q r us vs e.1 h)

-- so none is refused, also where fewer keys were met
pub none_refused : (n : ℕ) (p q r : Tracked) (us : List Use) → IsWithinLimits p → IsFewerMet p q → AddsUses p us r
    → first_refused n q us ≡ None
none_refused n p q r [] h f a = refl
none_refused n p q r (u ∷ us) h f a =
    let w : PassAlike p q (additions u) = pass_alike p q (additions u) h f a.0 in
    ap (λ (o : Option Limit). elim o as (λ _. Option (ℕ × Limit)) [
      | Some limit ↦ Some (n, limit)
      | None ↦ first_refused (n + 1) (plus_terms q (additions u)) us
    ]) w.no_limit
    ∙ none_refused (n + 1) (plus_terms p (additions u)) (plus_terms q (additions u)) r us w.within w.fewer a.1

-- and the multiples add up to what is left
pub multiples_are : (f : BracketPolynomial) (p r : Tracked) (us : List Use) → f ≡ p.sum → AddsUses p us r
    → with_multiples f us ≡ r.sum
multiples_are f p r [] e a = e ∙ ap (λ (q : Tracked). q.sum) a
multiples_are f p r (u ∷ us) e a =
    multiples_are (add f (multiple u)) (plus_terms p (additions u)) r us
    (ap (λ (g : BracketPolynomial). add g (multiple u)) e ∙ sym (use_adds p u)) a.1

-- ---- integers

abs_neg : (z : ℤ) → unsigned_abs (neg_ℤ z) ≡ unsigned_abs z
abs_neg (pos zero) = refl
abs_neg (pos (suc n)) = refl
abs_neg (negsuc n) = refl

some_abs : (z : ℤ) → z ≢ pos 0 → 1 ≤ unsigned_abs z
some_abs (pos zero) n = absurd (n refl)
some_abs (pos (suc m)) n = omega arith
some_abs (negsuc m) n = omega arith

fits_below : (c m : ℤ) → unsigned_abs m ≤ unsigned_abs c → T (fits c) → T (fits m)
fits_below c m l h = subst T (sym (below (unsigned_abs m) (unsigned_abs c) l (true_test (fits c) h))) tt
  where
    below : (a b : ℕ) → a ≤ b → nat_lt b (2 ^ 127) ≡ true → nat_lt a (2 ^ 127) ≡ true
    below a b l e = grind (arith, nat_tests)

fits_opposite : (c : ℤ) → T (fits c) → T (fits (neg_ℤ c))
fits_opposite c h = subst (λ n. T (nat_lt n (2 ^ 127))) (sym (abs_neg c)) h

-- a multiplier that takes c away at some count is not 0, and at most c in absolute value
taken_away : (c m k : ℤ) → c ≢ pos 0 → is_zero (c +ℤ m *ℤ k) ≡ true → (m ≢ pos 0) × (unsigned_abs m ≤ unsigned_abs c)
taken_away c m k z e =
    let opposite : m *ℤ k ≡ neg_ℤ c = opposite_of (m *ℤ k) (zero_of (c +ℤ m *ℤ k) e) in
    let size : unsigned_abs m * unsigned_abs k ≡ unsigned_abs c =
    sym (unsigned_abs-mul m k) ∙ ap unsigned_abs opposite ∙ abs_neg c in
    let some : 1 ≤ unsigned_abs c = some_abs c z in (
      λ n. none (unsigned_abs k) (ap (λ x. unsigned_abs x * unsigned_abs k) (sym n) ∙ size) some,
      at_most (unsigned_abs m) (unsigned_abs k) (unsigned_abs c) size some,
    )
  where
    zero_of : (x : ℤ) → is_zero x ≡ true → x ≡ pos 0
    zero_of (pos zero) e = refl
    zero_of (pos (suc n)) e = cc
    zero_of (negsuc n) e = cc

    opposite_of : (y : ℤ) → c +ℤ y ≡ pos 0 → y ≡ neg_ℤ c
    opposite_of y e = omega (arith, ints)

    none : (b : ℕ) → 0 * b ≡ unsigned_abs c → 1 ≤ unsigned_abs c → ⊥
    none b e l = omega arith

    at_most : (a b c : ℕ) → a * b ≡ c → 1 ≤ c → a ≤ c
    at_most a zero c e l = omega arith
    at_most a (suc b) c e l = omega arith

-- ---- runs

-- a polynomial of rank d, within the limits, of which no exponent passes 1,000
pub record IsGoing (d : ℕ) (p : Tracked) : Type 0 where
  pub within : IsWithinLimits p
  pub keys : IsBracketPolynomial d 64 p.sum
  pub degrees : HasDegree 1000 p.sum

-- a use that a log may hold, with a multiplier that fits
pub record IsSmallUse (d : ℕ) (u : Use) : Type 0 where
  pub formed : IsLogUse d u
  pub small : T (fits u.multiplier)

-- what a run from p does
pub record Goes (d : ℕ) (p : Tracked) (r : Run) : Type 0 where
  pub adds : AddsUses p r.uses r.last
  pub uses : AllByRecursion (IsSmallUse d) r.uses
  pub last : IsGoing d r.last

stays : (d : ℕ) (p : Tracked) (stop : Option Stop) → IsGoing d p → Goes d p (ended p stop)
stays d p stop h = record { adds = refl; uses = tt; last = h }

further : (d : ℕ) (p : Tracked) (u : Use) (r : Run) → first_limit p (additions u) ≡ None → IsSmallUse d u
    → Goes d (plus_terms p (additions u)) r → Goes d p (after_use u r)
further d p u r e s h = record { adds = (e, h.adds); uses = (s, h.uses); last = h.last }

-- no exponent rises where each key has those of an old one
degrees_after : (f g : BracketPolynomial) → AllKeys (λ k. HasLike f k.exponents (points k.rows)) g → HasDegree 1000 f
    → HasDegree 1000 g
degrees_after f g like h =
    all_so (λ t. HasLike f t.0.exponents (points t.0.rows)) (λ t. AllByRecursion (λ e. e ≤ 1000) t.0.exponents)
    (λ t l. subst (AllByRecursion (λ e. e ≤ 1000)) l.parameters
    (holds_of_term (λ k. AllByRecursion (λ e. e ≤ 1000) k.exponents) f l.key h l.there)) g.terms like

-- what holds of each term
terms_are : (d : ℕ) (p : Tracked) → IsGoing d p → AllByRecursion (λ t. IsTerm d t) p.sum.terms
terms_are d p h =
    all_so
    (λ t. IsKey d 64 t.0 × (AllByRecursion (λ e. e ≤ 1000) t.0.exponents × ((is_zero t.1 ≡ false) × T (fits t.1))))
    (λ t. IsTerm d t)
    (λ t a. record { key = a.0; degrees = a.1.0; not_zero = not_zero_is t.1 a.1.1.0; small = a.1.1.1 }) p.sum.terms
    (all_both (λ t. IsKey d 64 t.0)
    (λ t. AllByRecursion (λ e. e ≤ 1000) t.0.exponents × ((is_zero t.1 ≡ false) × T (fits t.1))) p.sum.terms h.keys
    (all_both (λ t. AllByRecursion (λ e. e ≤ 1000) t.0.exponents) (λ t. (is_zero t.1 ≡ false) × T (fits t.1))
    p.sum.terms h.degrees
    (all_both (λ t. is_zero t.1 ≡ false) (λ t. T (fits t.1)) p.sum.terms (nonzero_terms p.sum) h.within.small)))

module _ (d : ℕ) (rank : IsRank d) where
  -- ---- turns

  turn_use : (p : Tracked) (u : Use) → IsGoing d p → turn p.sum ≡ Some u → IsSmallUse d u
  turn_use p u h e =
      let l : LastTerm p.sum.terms u = last_term p.sum.terms u e in
      let is : IsTerm d l.term =
      (all_around (λ t. IsTerm d t) l.front l.term l.back
      (subst (AllByRecursion (λ t. IsTerm d t)) l.all (terms_are d p h))).here in
      subst (IsSmallUse d) l.used (record {
        formed =
            log_use d l.term l.place.0 l.place.1 rank is.key
            (violation_found d l.term.0.rows l.place is.key.each l.found) is.degrees is.not_zero is.small;
        small = fits_opposite l.term.1 is.small;
      })

  turn_next : (p : Tracked) (u : Use) → IsGoing d p → turn p.sum ≡ Some u → first_limit p (additions u) ≡ None
      → IsGoing d (plus_terms p (additions u))
  turn_next p u h e l = record {
    within = terms_within p (additions u) h.within l;
    keys = turns.formed_after d 64 rank p u h.keys e;
    degrees =
        degrees_after p.sum (plus_terms p (additions u)).sum (turns.like_after d 64 rank p u h.keys e) h.degrees;
  }

  pub run_goes : (budget : ℕ) (p : Tracked) → IsGoing d p → Goes d p (run budget p)
  run_goes zero p h = step (turn p.sum)
    where
      step : (o : Option Use) → Goes d p (elim o as (λ _. Run) [
        | None ↦ ended p None
        | Some u ↦ ended p (Some turns_stop)
      ])
      step None = stays d p None h
      step (Some u) = stays d p (Some turns_stop) h
  run_goes (suc budget) p h = step (λ q g. run_goes budget q g) (turn p.sum) refl
    where
      limited : ((q : Tracked) → IsGoing d q → Goes d q (run budget q)) → (u : Use) → turn p.sum ≡ Some u
          → (o : Option Limit) → first_limit p (additions u) ≡ o → Goes d p (elim o as (λ _. Run) [
            | Some limit ↦ ended p (Some (limit_stop limit))
            | None ↦ after_use u (run budget (plus_terms p (additions u)))
          ])
      limited ih u e (Some limit) l = stays d p (Some (limit_stop limit)) h
      limited ih u e None l =
          further d p u (run budget (plus_terms p (additions u))) l (turn_use p u h e)
          (ih (plus_terms p (additions u)) (turn_next p u h e l))

      step : ((q : Tracked) → IsGoing d q → Goes d q (run budget q)) → (o : Option Use) → turn p.sum ≡ o
          → Goes d p (elim o as (λ _. Run) [
            | None ↦ ended p None
            | Some u ↦ elim (first_limit p (additions u)) as (λ _. Run) [
              | Some limit ↦ ended p (Some (limit_stop limit))
              | None ↦ after_use u (run budget (plus_terms p (additions u)))
            ]
          ])
      step ih None e = stays d p None h
      step ih (Some u) e = limited ih u e (first_limit p (additions u)) refl

  -- ---- passes

  pass_use : (p : Tracked) (u : Use) → IsGoing d p → pass p.sum ≡ Some u → IsSmallUse d u
  pass_use p u h e = by_pair (found_in (λ t. IsTerm d t) u p.sum.terms (terms_are d p h) e)
    where
      by_pair : Found (λ t. IsTerm d t) u → IsSmallUse d u
      by_pair w =
          let pair : IsPair w.first w.second u = is_pair w.first w.second u w.is in
          let rows = own_rows w.first.0.rows w.second.0.rows in
          let m = taken_away w.first.1 u.multiplier (count_in u rows) w.has_first.not_zero pair.first in
          let small : T (fits u.multiplier) = fits_below w.first.1 u.multiplier m.1 w.has_first.small in
          let sizes : AreSizes d u.alpha u.beta u.gamma =
          pairs.sizes d 64 rank w.first w.second u w.has_first.key pair in
          record {
            formed = record {
              rank = rank;
              formed = record {
                beta_points = sizes.beta;
                other_points = sizes.others;
                not_zero = m.0;
                not_least = λ z. subst (λ (x : ℤ). T (fits x)) z small;
                ascending =
                    subst (λ (v : Use). IsSorted row_cmp v.rest) pair.used
                    (sorted_own w.first.0.rows rows w.has_first.key.ascending);
                small =
                    subst (λ (v : Use). AllByRecursion (λ e. e ≤ 1000) v.exponents) pair.used w.has_first.degrees;
              };
              parameters = subst (λ (v : Use). length v.exponents ≡ 64) pair.used w.has_first.key.parameters;
              rows =
                  subst (λ (v : Use). AllByRecursion (IsRow d) v.rest) pair.used
                  (pairs.all_own (IsRow d) w.first.0.rows rows w.has_first.key.each);
            };
            small = small;
          }

  pass_next : (p : Tracked) (u : Use) → IsGoing d p → pass p.sum ≡ Some u → first_limit p (additions u) ≡ None
      → IsGoing d (plus_terms p (additions u))
  pass_next p u h e l = record {
    within = terms_within p (additions u) h.within l;
    keys = passes.formed_after d 64 rank p u h.keys e;
    degrees =
        degrees_after p.sum (plus_terms p (additions u)).sum
        (subst (AllKeys (λ k. HasLike p.sum k.exponents (points k.rows))) (sym (use_adds p u))
        (pass_keeps_classes d 64 p.sum u rank h.keys e).keys)
        h.degrees;
  }

  passes_go : (n : ℕ) (p : Tracked) → IsGoing d p → Goes d p (passes n p)
  passes_go zero p h = stays d p None h
  passes_go (suc n) p h = step (λ q g. passes_go n q g) (pass p.sum) refl
    where
      limited : ((q : Tracked) → IsGoing d q → Goes d q (passes n q)) → (u : Use) → pass p.sum ≡ Some u
          → (o : Option Limit) → first_limit p (additions u) ≡ o → Goes d p (elim o as (λ _. Run) [
            | Some limit ↦ ended p (Some (limit_stop limit))
            | None ↦ after_use u (passes n (plus_terms p (additions u)))
          ])
      limited ih u e (Some limit) l = stays d p (Some (limit_stop limit)) h
      limited ih u e None l =
          further d p u (passes n (plus_terms p (additions u))) l (pass_use p u h e)
          (ih (plus_terms p (additions u)) (pass_next p u h e l))

      step : ((q : Tracked) → IsGoing d q → Goes d q (passes n q)) → (o : Option Use) → pass p.sum ≡ o
          → Goes d p (elim o as (λ _. Run) [
            | None ↦ ended p None
            | Some u ↦ elim (first_limit p (additions u)) as (λ _. Run) [
              | Some limit ↦ ended p (Some (limit_stop limit))
              | None ↦ after_use u (passes n (plus_terms p (additions u)))
            ]
          ])
      step ih None e = stays d p None h
      step ih (Some u) e = limited ih u e (first_limit p (additions u)) refl

  contraction_goes : (p : Tracked) → IsGoing d p → Goes d p (contraction p)
  unfolding contraction
  contraction_goes p h = passes_go (length p.sum.terms) p h

  first_goes : (contract : Bool) (p : Tracked) → IsGoing d p → Goes d p (passes_of contract p)
  first_goes false p h = stays d p None h
  first_goes true p h = step (nat_lt most_terms (length p.sum.terms))
    where
      step : (b : Bool) → Goes d p (cond b (ended p None) (contraction p))
      step true = stays d p None h
      step false = contraction_goes p h

  -- ---- passes and then turns

  -- what is done to a start
  pub record Works (p : Tracked) (w : Work) : Type 0 where
    pub adds : AddsUses p (w.passes.uses ++ w.turns.uses) w.turns.last
    pub uses : AllByRecursion (IsSmallUse d) (w.passes.uses ++ w.turns.uses)
    pub last : IsGoing d w.turns.last

  then_goes : (budget : ℕ) (first : Run) → IsGoing d first.last → Goes d first.last (turns_behind budget first)
  then_goes budget first h = step first.stop
    where
      step : (o : Option Stop) → Goes d first.last (elim o as (λ _. Run) [
        | Some stop ↦ ended first.last (Some stop)
        | None ↦ run budget first.last
      ])
      step (Some stop) = stays d first.last (Some stop) h
      step None = run_goes budget first.last h

  pub works : (contract : Bool) (budget : ℕ) (p : Tracked) → IsGoing d p → Works p (work contract budget p)
  unfolding work
  works contract budget p h =
      let a : Goes d p (passes_of contract p) = first_goes contract p h in
      let b : Goes d (passes_of contract p).last (turns_behind budget (passes_of contract p)) =
      then_goes budget (passes_of contract p) a.last in
      record {
        adds =
            adds_both p (passes_of contract p).last (turns_behind budget (passes_of contract p)).last
            (passes_of contract p).uses (turns_behind budget (passes_of contract p)).uses a.adds b.adds;
        uses =
            all_append (IsSmallUse d) (passes_of contract p).uses (turns_behind budget (passes_of contract p)).uses
            a.uses b.uses;
        last = b.last;
      }
