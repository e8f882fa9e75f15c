-- The uses of turns and of passes have lists of their sizes, and rest rows of the rank.
use Rattle.std.proofs.Common.{◌≡◌, ℕ, zero, suc, refl, sym, subst, length}
use Rattle.std.specs.Prelude.{Option, Some, None, ℤ}
use Rattle.std.specs.List.{AllByRecursion}
use Rattle.coordinate_model.specs.Sequences.{IsRank}
use Rattle.coordinate_model.specs.Key.{Key, IsKey, IsRow}
use Rattle.coordinate_model.specs.BracketPolynomial.{BracketPolynomial, IsBracketPolynomial}
use Rattle.coordinate_model.specs.Syzygy.{Use, AreSizes, additions}
use Rattle.bracket_poly.specs.Tracked.{Tracked, Limit, plus_terms, first_limit}
use Rattle.bracket_poly.proofs.Totals.{use_adds}
use Rattle.straightening.specs.Runs.{Run, limit_stop, ended, after_use, run}
use Rattle.straightening.proofs.Rewritings.{sizes, rest_rows}
use Rattle.straightening.proofs.RunLemmas.{by_turns, formed_after}
use Rattle.straightening.proofs.TurnLaws.{Taken, taken}
use Rattle.contraction.specs.Passes.{own_rows, pass, passes, contraction}
use Rattle.contraction.proofs.PairLaws as pair
use Rattle.contraction.proofs.PairLaws.{Found, found_in, IsPair, is_pair, all_own}
use Rattle.contraction.proofs.PassTerms.{pass_keeps_classes}

-- the lists of the use have their sizes, and its rest has rows of d points
pub record HasSizes (d : ℕ) (u : Use) : Type 0 where
  pub sizes : AreSizes d u.alpha u.beta u.gamma
  pub rest : AllByRecursion (IsRow d) u.rest

-- ---- turns

use_sizes : (d n : ℕ) → IsRank d → (p : Tracked) (u : Use) → Taken d n p.sum u → HasSizes d u
use_sizes d n rank p u t =
    subst (HasSizes d) t.used (record {
      sizes = sizes d n t.term t.row t.column rank t.key t.violation;
      rest = rest_rows d n t.term t.row t.column rank t.key t.violation;
    })

pub run_sizes : (d n budget : ℕ) (p : Tracked) → IsRank d → IsBracketPolynomial d n p.sum
    → AllByRecursion (HasSizes d) (run budget p).uses
run_sizes d n budget p rank keys =
    by_turns (λ (q : Tracked). IsBracketPolynomial d n q.sum) (λ q r. AllByRecursion (HasSizes d) r.uses)
    (λ q stop h k. tt) (formed_after d n rank)
    (λ q u r h e k. (use_sizes d n rank q u (taken d n q.sum u h e), k)) budget p keys

-- ---- passes

pair_sizes : (d n : ℕ) → IsRank d → (t s : Key × ℤ) (u : Use) → IsKey d n t.0 → IsPair t s u → HasSizes d u
pair_sizes d n rank t s u key is = record {
  sizes = pair.sizes d n rank t s u key is;
  rest =
      subst (λ (w : Use). AllByRecursion (IsRow d) w.rest) is.used
      (all_own (IsRow d) t.0.rows (own_rows t.0.rows s.0.rows) key.each);
}

pass_sizes : (d n : ℕ) → IsRank d → (f : BracketPolynomial) (u : Use) → IsBracketPolynomial d n f → pass f ≡ Some u
    → HasSizes d u
pass_sizes d n rank f u keys e =
    let w : Found (λ t. IsKey d n t.0) u = found_in (λ t. IsKey d n t.0) u f.terms keys e in
    pair_sizes d n rank w.first w.second u w.has_first (is_pair w.first w.second u w.is)

module _ (d n : ℕ) (rank : IsRank d) where
  abbrev Sized : ℕ → Type 0
  Sized m = (p : Tracked) → IsBracketPolynomial d n p.sum → AllByRecursion (HasSizes d) (passes m p).uses

  limited : (m : ℕ) → Sized m → (p : Tracked) (u : Use) → IsBracketPolynomial d n p.sum → pass p.sum ≡ Some u
      → (o : Option Limit) → AllByRecursion (HasSizes d) (elim o as (λ _. Run) [
        | Some limit ↦ ended p (Some (limit_stop limit))
        | None ↦ after_use u (passes m (plus_terms p (additions u)))
      ]).uses
  limited m ih p u h e (Some limit) = tt
  limited m ih p u h e None = (
    pass_sizes d n rank p.sum u h e,
    ih (plus_terms p (additions u))
        (subst (IsBracketPolynomial d n) (sym (use_adds p u)) (pass_keeps_classes d n p.sum u rank h e).formed),
  )

  passes_sizes : (m : ℕ) → Sized m
  passes_sizes zero p h = tt
  passes_sizes (suc m) p h = step (passes_sizes m) (pass p.sum) refl
    where
      step : Sized m → (o : Option Use) → pass p.sum ≡ o → AllByRecursion (HasSizes d) (elim o as (λ _. Run) [
        | None ↦ ended p None
        | Some u ↦ elim (first_limit p (additions u)) [
          | Some limit ↦ ended p (Some (limit_stop limit))
          | None ↦ after_use u (passes m (plus_terms p (additions u)))
        ]
      ]).uses
      step ih None e = tt
      step ih (Some u) e = limited m ih p u h e (first_limit p (additions u))

pub contraction_sizes : (d n : ℕ) → IsRank d → (p : Tracked) → IsBracketPolynomial d n p.sum
    → AllByRecursion (HasSizes d) (contraction p).uses
unfolding contraction
contraction_sizes d n rank p h = passes_sizes d n rank (length p.sum.terms) p h
