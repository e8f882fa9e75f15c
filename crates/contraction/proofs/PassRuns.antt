-- Runs of passes, one after another.
use Rattle.std.proofs.Common.{◌≡◌, ℕ, zero, suc, ◌<◌, ◌≤◌, [], ◌∷◌, Option, Some, None, length, refl, sym, ap, subst, ◌∙◌}
use Rattle.std.proofs.Common.{arith}
use Rattle.std.specs.Prelude.{ℤ}
use Rattle.coordinate_model.specs.Sequences.{IsRank}
use Rattle.coordinate_model.specs.Sums.{Terms}
use Rattle.coordinate_model.specs.Key.{Key, points}
use Rattle.coordinate_model.specs.BracketPolynomial.{BracketPolynomial, AllKeys, IsBracketPolynomial, value}
use Rattle.coordinate_model.specs.Syzygy.{Use, additions}
use Rattle.coordinate_model.proofs.Splits.{all_so}
use Rattle.bracket_poly.specs.Tracked.{Tracked, Limit, plus_terms, first_limit}
use Rattle.straightening.specs.RunLaws.{HasLike, use_points}
use Rattle.straightening.specs.Runs.{Run, Stop, limit_stop, ended, after_use}
use Rattle.bracket_poly.proofs.Totals.{use_adds}
use Rattle.straightening.proofs.RunLemmas.{all_like, like_further}
use Rattle.contraction.specs.Passes.{first_use, pass, passes, contraction}
use Rattle.contraction.specs.PassLaws.{KeepsClassesOf, Contracts, ContractionContracts}
use Rattle.contraction.proofs.FewerTerms.{pass_makes_fewer}
use Rattle.contraction.proofs.PairLaws.{pass_keeps_value}
use Rattle.contraction.proofs.PassTerms.{pass_keeps_classes}

-- no terms have no pass
none_of_none : (ts : Terms Key) → length ts ≤ 0 → first_use ts ≡ None
none_of_none [] l = refl
none_of_none (t ∷ ts) l = absurd (omega arith)

module _ (d n : ℕ) (rank : IsRank d) where
  stays : (p : Tracked) (stop : Option Stop) → IsBracketPolynomial d n p.sum → (stop ≡ None → pass p.sum ≡ None)
      → Contracts d n p (ended p stop)
  stays p stop h none = record {
    same = refl;
    keys = h;
    classes = record { keys = all_like p.sum; uses = tt };
    none_left = none;
  }

  module _ (p : Tracked) (u : Use) (h : IsBracketPolynomial d n p.sum) (e : pass p.sum ≡ Some u) where
    abbrev after : Tracked
    after = plus_terms p (additions u)

    pub formed_after : IsBracketPolynomial d n after.sum
    formed_after =
        subst (IsBracketPolynomial d n) (sym (use_adds p u)) (pass_keeps_classes d n p.sum u rank h e).formed

    pub fewer_after : length after.sum.terms < length p.sum.terms
    fewer_after =
        subst (λ (f : BracketPolynomial). length f.terms < length p.sum.terms) (sym (use_adds p u))
        (pass_makes_fewer d n p.sum u rank h e)

    goes_on : (r : Run) → Contracts d n after r → Contracts d n p (after_use u r)
    goes_on r k =
        let c : KeepsClassesOf d n p.sum u = pass_keeps_classes d n p.sum u rank h e in
        let like : AllKeys (λ l. HasLike p.sum l.exponents (points l.rows)) (plus_terms p (additions u)).sum =
        subst (AllKeys (λ l. HasLike p.sum l.exponents (points l.rows))) (sym (use_adds p u)) c.keys in
        record {
          same = k.same ∙ ap value (use_adds p u) ∙ (pass_keeps_value d n p.sum u rank h e).same;
          keys = k.keys;
          classes = record {
            keys =
                all_so _ _
                (λ (s : Key × ℤ) g. like_further p.sum after.sum s.0.exponents (points s.0.rows) like g) r.last.sum.terms
                k.classes.keys;
            uses = (
              c.used,
              all_so _ _ (λ (w : Use) g. like_further p.sum after.sum w.exponents (use_points w) like g) r.uses
                  k.classes.uses,
            );
          };
          none_left = k.none_left;
        }

  abbrev Goes : ℕ → Type 0
  Goes m =
      (p : Tracked) → IsBracketPolynomial d n p.sum → length p.sum.terms ≤ m → Contracts d n p (passes m p)

  limited : (m : ℕ) → Goes m → (p : Tracked) (u : Use) → IsBracketPolynomial d n p.sum → length p.sum.terms ≤ suc m
      → pass p.sum ≡ Some u → (o : Option Limit) → Contracts d n p (elim o [
        | Some limit ↦ ended p (Some (limit_stop limit))
        | None ↦ after_use u (passes m (plus_terms p (additions u)))
      ])
  limited m ih p u h l e (Some limit) = stays p (Some (limit_stop limit)) h (λ k. cc)
  limited m ih p u h l e None =
      let f : length (plus_terms p (additions u)).sum.terms < length p.sum.terms = fewer_after p u h e in
      goes_on p u h e (passes m (plus_terms p (additions u)))
      (ih (plus_terms p (additions u)) (formed_after p u h e) (omega arith))

  by_passes : (m : ℕ) → Goes m
  by_passes zero p h l = stays p None h (λ k. none_of_none p.sum.terms l)
  by_passes (suc m) p h l = step (by_passes m) (pass p.sum) refl
    where
      step : Goes m → (o : Option Use) → pass p.sum ≡ o → Contracts d n p (elim o [
        | None ↦ ended p None
        | Some u ↦ elim (first_limit p (additions u)) [
          | Some limit ↦ ended p (Some (limit_stop limit))
          | None ↦ after_use u (passes m (plus_terms p (additions u)))
        ]
      ])
      step ih None e = stays p None h (λ k. e)
      step ih (Some u) e = limited m ih p u h l e (first_limit p (additions u))

pub contraction_contracts : ContractionContracts
unfolding contraction
contraction_contracts d n p rank h = by_passes d n rank (length p.sum.terms) p h (omega arith)
