-- What the passes of a start keep, and that runs of turns end alike with and without them.
use Rattle.std.proofs.Common.{◌≡◌, ℕ, zero, suc, Bool, true, false, cond, Option, Some, None, length, refl, sym}
use Rattle.std.proofs.Common.{subst, ◌∙◌, ◌≤◌}
use Rattle.std.specs.Prelude.{ℤ, nat_lt}
use Rattle.std.specs.List.{AllByRecursion}
use Rattle.coordinate_model.specs.Sequences.{IsRank}
use Rattle.coordinate_model.specs.Key.{Key}
use Rattle.coordinate_model.specs.BracketPolynomial.{BracketPolynomial, IsBracketPolynomial, value}
use Rattle.coordinate_model.specs.Syzygy.{Use, additions}
use Rattle.coordinate_model.proofs.Independence.{same_normal}
use Rattle.coordinate_model.proofs.Splits.{all_so}
use Rattle.bracket_poly.specs.Products.{HasDegree}
use Rattle.bracket_poly.specs.Tracked.{Tracked, Limit, plus_terms, first_limit}
use Rattle.bracket_poly.proofs.Totals.{use_adds}
use Rattle.straightening.specs.RunLaws.{EndsWell, KeepsClasses}
use Rattle.straightening.specs.Runs.{Run, limit_stop, ended, after_use, run}
use Rattle.straightening.proofs.RunLemmas.{all_like, run_keeps_value, run_ends_well}
use Rattle.straightening.proofs.TermLists.{holds_of_term}
use Rattle.contraction.specs.Passes.{pass, passes, contraction, most_terms, contracted}
use Rattle.contraction.specs.PassLaws.{Contracts, EachLowers, EndAlike, ContractionEndsAlike}
use Rattle.contraction.proofs.FewerTerms.{pass_makes_fewer}
use Rattle.contraction.proofs.PassRuns.{formed_after, contraction_contracts}

-- ---- what is kept

-- the passes of a start keep its value, its rank and its classes
pub record IsKept (d n : ℕ) (p : Tracked) (r : Run) : Type 0 where
  pub same : value r.last.sum ≡ value p.sum
  pub keys : IsBracketPolynomial d n r.last.sum
  pub classes : KeepsClasses p r

pub contracted_keeps : (d n : ℕ) (p : Tracked) → IsRank d → IsBracketPolynomial d n p.sum → IsKept d n p (contracted p)
contracted_keeps d n p rank keys = step (nat_lt most_terms (length p.sum.terms))
  where
    step : (b : Bool) → IsKept d n p (cond b (ended p None) (contraction p))
    step true = record { same = refl; keys = keys; classes = record { keys = all_like p.sum; uses = tt } }
    step false =
        let c : Contracts d n p (contraction p) = contraction_contracts d n p rank keys in
        record { same = c.same; keys = c.keys; classes = c.classes }

-- no exponent rises
pub kept_degree : (m : ℕ) (p : Tracked) (r : Run) → KeepsClasses p r → HasDegree m p.sum → HasDegree m r.last.sum
kept_degree m p r c h =
    all_so _ _
    (λ (t : Key × ℤ) like.
    subst (AllByRecursion (λ e. e ≤ m)) like.parameters
    (holds_of_term (λ k. AllByRecursion (λ e. e ≤ m) k.exponents) p.sum like.key h like.there))
    r.last.sum.terms c.keys

-- ---- one pass of a run

abbrev pub limited : ℕ → Tracked → Use → Option Limit → Run
limited n p u o = elim o [
  | Some limit ↦ ended p (Some (limit_stop limit))
  | None ↦ after_use u (passes n (plus_terms p (additions u)))
]

abbrev pub going : ℕ → Tracked → Option Use → Run
going n p o = elim o [ None ↦ ended p None | Some u ↦ limited n p u (first_limit p (additions u)) ]

-- ---- each pass makes the terms fewer

module _ (d n : ℕ) (rank : IsRank d) where
  abbrev Lowers : ℕ → Type 0
  Lowers m = (q : Tracked) → IsBracketPolynomial d n q.sum → EachLowers q.sum (passes m q).uses

  lower_limited : (m : ℕ) (p : Tracked) (u : Use) → IsBracketPolynomial d n p.sum → Lowers m → pass p.sum ≡ Some u
      → (o : Option Limit) → EachLowers p.sum (limited m p u o).uses
  lower_limited m p u keys ih e (Some limit) = tt
  lower_limited m p u keys ih e None = (
    pass_makes_fewer d n p.sum u rank keys e,
    subst (λ (f : BracketPolynomial). EachLowers f (passes m (plus_terms p (additions u))).uses) (use_adds p u)
        (ih (plus_terms p (additions u)) (formed_after d n rank p u keys e)),
  )

  lower_going : (m : ℕ) (p : Tracked) → IsBracketPolynomial d n p.sum → Lowers m → (o : Option Use) → pass p.sum ≡ o
      → EachLowers p.sum (going m p o).uses
  lower_going m p keys ih None e = tt
  lower_going m p keys ih (Some u) e = lower_limited m p u keys ih e (first_limit p (additions u))

  passes_lower : (m : ℕ) → Lowers m
  passes_lower zero p keys = tt
  passes_lower (suc m) p keys = lower_going m p keys (passes_lower m) (pass p.sum) refl

  pub contracted_lowers : (p : Tracked) → IsBracketPolynomial d n p.sum → EachLowers p.sum (contracted p).uses
  unfolding contraction
  contracted_lowers p keys = step (nat_lt most_terms (length p.sum.terms))
    where
      step : (b : Bool) → EachLowers p.sum (cond b (ended p None) (passes (length p.sum.terms) p)).uses
      step true = tt
      step false = passes_lower (length p.sum.terms) p keys

-- ---- ends

pub end_alike : (d n : ℕ) (p q : Tracked) → IsRank d → IsBracketPolynomial d n p.sum → IsBracketPolynomial d n q.sum
    → value q.sum ≡ value p.sum → EndAlike p q
end_alike d n p q rank h k v = λ first second s t.
    let w : EndsWell d n (run first p) = run_ends_well d n first p rank h in
    let x : EndsWell d n (run second q) = run_ends_well d n second q rank k in
    same_normal d n rank (run first p).last.sum (run second q).last.sum (w.normal s) (x.normal t)
    (run_keeps_value d n first p rank h ∙ sym (run_keeps_value d n second q rank k ∙ v))

pub contraction_ends_alike : ContractionEndsAlike
contraction_ends_alike d n p rank keys =
    let c : IsKept d n p (contracted p) = contracted_keeps d n p rank keys in
    end_alike d n p (contracted p).last rank keys c.keys c.same
