-- What runs have met: the last polynomial of each is the first with the terms of its uses added one after another.
use Rattle.std.proofs.Common.{◌≡◌, ℕ, zero, suc, Bool, true, false, cond, List, ◌++◌, length, refl, sym, ap, ◌∙◌}
use Rattle.std.specs.Prelude.{Option, Some, None, flat_map, nat_lt}
use Rattle.std.proofs.lemmas.List.Concat.{flat_map-append}
use Rattle.coordinate_model.specs.Syzygy.{Use, additions}
use Rattle.bracket_poly.specs.Tracked.{Tracked, Limit, plus_terms, first_limit}
use Rattle.bracket_poly.proofs.Additions.{plus-append}
use Rattle.straightening.specs.Runs.{Run, turns_stop, limit_stop, ended, after_use, run}
use Rattle.straightening.specs.Turns.{turn}
use Rattle.contraction.specs.Passes.{pass, passes, contraction, contracted, most_terms}

-- the polynomial with the terms of the uses added one after another
abbrev pub plus_uses : Tracked → List Use → Tracked
plus_uses p us = plus_terms p (flat_map additions us)

-- the last polynomial is the first with the terms of the uses
abbrev pub LastIs : Tracked → Run → Type 0
LastIs p r = r.last ≡ plus_uses p r.uses

-- uses behind others
pub plus-further : (p q last : Tracked) (us vs : List Use) → q ≡ plus_uses p us → last ≡ plus_uses q vs
    → last ≡ plus_uses p (us ++ vs)
plus-further p q last us vs e f =
    f ∙ ap (λ r. plus_uses r vs) e
    ∙ sym (plus-append p (flat_map additions us) (flat_map additions vs))
    ∙ ap (plus_terms p) (sym (flat_map-append additions us vs))

-- one use before a run
last_after : (p : Tracked) (u : Use) (r : Run) → LastIs (plus_terms p (additions u)) r → LastIs p (after_use u r)
last_after p u r h = h ∙ sym (plus-append p (additions u) (flat_map additions r.uses))

by_limit : (p : Tracked) (u : Use) (r : Run) (o : Option Limit) → LastIs (plus_terms p (additions u)) r
    → LastIs p (elim o as (λ _. Run) [ Some limit ↦ ended p (Some (limit_stop limit)) | None ↦ after_use u r ])
by_limit p u r (Some limit) h = refl
by_limit p u r None h = last_after p u r h

pub run_last : (budget : ℕ) (p : Tracked) → LastIs p (run budget p)
run_last zero p = by_turn (turn p.sum)
  where
    by_turn : (o : Option Use)
        → LastIs p (elim o as (λ _. Run) [ None ↦ ended p None | Some u ↦ ended p (Some turns_stop) ])
    by_turn None = refl
    by_turn (Some u) = refl
run_last (suc budget) p = by_turn (turn p.sum) (λ u. run_last budget (plus_terms p (additions u)))
  where
    by_turn : (o : Option Use)
        → ((u : Use) → LastIs (plus_terms p (additions u)) (run budget (plus_terms p (additions u))))
        → LastIs p (elim o as (λ _. Run) [
          | None ↦ ended p None
          | Some u ↦ elim (first_limit p (additions u)) [
            | Some limit ↦ ended p (Some (limit_stop limit))
            | None ↦ after_use u (run budget (plus_terms p (additions u)))
          ]
        ])
    by_turn None h = refl
    by_turn (Some u) h =
        by_limit p u (run budget (plus_terms p (additions u))) (first_limit p (additions u)) (h u)

passes_last : (n : ℕ) (p : Tracked) → LastIs p (passes n p)
passes_last zero p = refl
passes_last (suc n) p = by_pass (pass p.sum) (λ u. passes_last n (plus_terms p (additions u)))
  where
    by_pass : (o : Option Use)
        → ((u : Use) → LastIs (plus_terms p (additions u)) (passes n (plus_terms p (additions u))))
        → LastIs p (elim o as (λ _. Run) [
          | None ↦ ended p None
          | Some u ↦ elim (first_limit p (additions u)) [
            | Some limit ↦ ended p (Some (limit_stop limit))
            | None ↦ after_use u (passes n (plus_terms p (additions u)))
          ]
        ])
    by_pass None h = refl
    by_pass (Some u) h =
        by_limit p u (passes n (plus_terms p (additions u))) (first_limit p (additions u)) (h u)

contraction_last : (p : Tracked) → LastIs p (contraction p)
unfolding contraction
contraction_last p = passes_last (length p.sum.terms) p

pub contracted_last : (p : Tracked) → LastIs p (contracted p)
contracted_last p = by_size (nat_lt most_terms (length p.sum.terms))
  where
    by_size : (b : Bool) → LastIs p (cond b (ended p None) (contraction p))
    by_size true = refl
    by_size false = contraction_last p
