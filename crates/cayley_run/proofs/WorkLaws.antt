-- Passes, and turns behind them: what they keep, and how many turns they are.
use Rattle.std.proofs.Common.{◌≡◌, ℕ, zero, suc, ◌≤◌, Bool, true, false, cond, List, ◌++◌, length, Option, Some}
use Rattle.std.proofs.Common.{None, refl, sym, ap}
use Rattle.std.proofs.Common.{subst, ◌∙◌, arith}
use Rattle.std.specs.Prelude.{ℤ, nat_lt}
use Rattle.std.specs.List.{AllByRecursion}
use Rattle.coordinate_model.specs.Sequences.{IsRank}
use Rattle.coordinate_model.specs.Key.{Key, points}
use Rattle.coordinate_model.specs.BracketPolynomial.{BracketPolynomial, IsBracketPolynomial, IsNormal, AllKeys, value}
use Rattle.coordinate_model.specs.Syzygy.{Use, additions}
use Rattle.coordinate_model.proofs.Splits.{all_so, all_append}
use Rattle.bracket_poly.specs.Tracked.{Tracked, Limit, plus_terms, first_limit}
use Rattle.straightening.specs.Bounds.{TakesAtMost, HoldsTurnable, IsTurnable, turnable_keys}
use Rattle.straightening.specs.RunLaws.{HasLike, KeepsClasses, use_points}
use Rattle.straightening.specs.Runs.{Run, Stop, turns_stop, limit_stop, ended, after_use, run}
use Rattle.straightening.proofs.BoundLaws.{run_is_bounded}
use Rattle.straightening.proofs.RunLemmas.{run_keeps_value, run_ends_well, run_keeps_classes, all_like, like_further}
use Rattle.straightening.proofs.TurnableLaws.{turnable_are}
use Rattle.contraction.specs.Passes.{pass, passes, contraction, contracted, most_terms}
use Rattle.contraction.specs.PassLaws.{Contracts}
use Rattle.contraction.proofs.PassRuns.{contraction_contracts}
use Rattle.cayley_run.specs.Sections.{passes_of, turns_behind, Work, work}
use Rattle.cayley_run.proofs.StartRuns.{turns_within}
use Rattle.cayley_run.proofs.UseSizes.{HasSizes, run_sizes, contraction_sizes}

-- ---- passes

-- passes keep the value, the rank and the classes, their uses have their sizes, and they never stop for turns
record IsFirst (d n : ℕ) (p : Tracked) (r : Run) : Type 0 where
  same : value r.last.sum ≡ value p.sum
  keys : IsBracketPolynomial d n r.last.sum
  classes : KeepsClasses p r
  sizes : AllByRecursion (HasSizes d) r.uses
  no_turns : r.stop ≡ Some turns_stop → ⊥

none_first : (d n : ℕ) (p : Tracked) → IsBracketPolynomial d n p.sum → IsFirst d n p (ended p None)
none_first d n p h = record {
  same = refl;
  keys = h;
  classes = record { keys = all_like p.sum; uses = tt };
  sizes = tt;
  no_turns = λ e. cc;
}

passes_no_turns : (m : ℕ) (p : Tracked) → (passes m p).stop ≡ Some turns_stop → ⊥
passes_no_turns zero p e = cc
passes_no_turns (suc m) p e = step (pass p.sum) (λ q. passes_no_turns m q) e
  where
    by_limit : (u : Use) (o : Option Limit) → ((q : Tracked) → (passes m q).stop ≡ Some turns_stop → ⊥)
        → (elim o as (λ _. Run) [
          | Some limit ↦ ended p (Some (limit_stop limit))
          | None ↦ after_use u (passes m (plus_terms p (additions u)))
        ]).stop ≡ Some turns_stop → ⊥
    by_limit u (Some limit) ih e = cc
    by_limit u None ih e = ih (plus_terms p (additions u)) e

    step : (o : Option Use) → ((q : Tracked) → (passes m q).stop ≡ Some turns_stop → ⊥)
        → (elim o as (λ _. Run) [
          | None ↦ ended p None
          | Some u ↦ elim (first_limit p (additions u)) [
            | Some limit ↦ ended p (Some (limit_stop limit))
            | None ↦ after_use u (passes m (plus_terms p (additions u)))
          ]
        ]).stop ≡ Some turns_stop → ⊥
    step None ih e = cc
    step (Some u) ih e = by_limit u (first_limit p (additions u)) ih e

contraction_no_turns : (p : Tracked) → (contraction p).stop ≡ Some turns_stop → ⊥
unfolding contraction
contraction_no_turns p e = passes_no_turns (length p.sum.terms) p e

module _ (d n : ℕ) (rank : IsRank d) (p : Tracked) (h : IsBracketPolynomial d n p.sum) where
  contraction_first : IsFirst d n p (contraction p)
  contraction_first =
      let c : Contracts d n p (contraction p) = contraction_contracts d n p rank h in
      record {
        same = c.same;
        keys = c.keys;
        classes = c.classes;
        sizes = contraction_sizes d n rank p h;
        no_turns = contraction_no_turns p;
      }

  contracted_first : IsFirst d n p (contracted p)
  contracted_first = by_size (nat_lt most_terms (length p.sum.terms))
    where
      by_size : (b : Bool) → IsFirst d n p (cond b (ended p None) (contraction p))
      by_size true = none_first d n p h
      by_size false = contraction_first

  passes_first : (contract : Bool) → IsFirst d n p (passes_of contract p)
  passes_first true = contracted_first
  passes_first false = none_first d n p h

-- ---- turns behind them

-- turns behind passes keep as much, end in normal polynomials, and are within their budget and the turnable keys
record IsThen (d n budget : ℕ) (p : Tracked) (r : Run) : Type 0 where
  same : value r.last.sum ≡ value p.sum
  keys : IsBracketPolynomial d n r.last.sum
  normal : r.stop ≡ None → IsNormal d n r.last.sum
  classes : KeepsClasses p r
  sizes : AllByRecursion (HasSizes d) r.uses
  within : length r.uses ≤ budget
  most : TakesAtMost (length (turnable_keys d p.sum)) budget r

module _ (d n budget : ℕ) (rank : IsRank d) (p : Tracked) (h : IsBracketPolynomial d n p.sum) (first : Run)
    (is : IsFirst d n p first) where
  -- what is turnable behind the passes was turnable before them
  still_turnable : HoldsTurnable d n first.last.sum (turnable_keys d p.sum)
  still_turnable k t =
      ((turnable_are d n p.sum rank h).exactly k).1 (record {
        key = t.key;
        not_standard = t.not_standard;
        like = like_further p.sum first.last.sum k.exponents (points k.rows) is.classes.keys t.like;
      })

  no_turn_then : (stop : Stop) → first.stop ≡ Some stop → IsThen d n budget p (ended first.last (Some stop))
  no_turn_then stop e = record {
    same = is.same;
    keys = is.keys;
    normal = λ n. cc;
    classes = record { keys = is.classes.keys; uses = tt };
    sizes = tt;
    within = omega arith;
    most = record { turns = omega arith; enough = λ l s. is.no_turns (e ∙ s) };
  }

  run_then : IsThen d n budget p (run budget first.last)
  run_then =
      let k : KeepsClasses first.last (run budget first.last) = run_keeps_classes d n budget first.last rank is.keys in
      record {
        same = run_keeps_value d n budget first.last rank is.keys ∙ is.same;
        keys = (run_ends_well d n budget first.last rank is.keys).keys;
        normal = (run_ends_well d n budget first.last rank is.keys).normal;
        classes = record {
          keys =
              all_so _ _
              (λ (s : Key × ℤ) g. like_further p.sum first.last.sum s.0.exponents (points s.0.rows) is.classes.keys g)
              (run budget first.last).last.sum.terms k.keys;
          uses =
              all_so _ _
              (λ (w : Use) g. like_further p.sum first.last.sum w.exponents (use_points w) is.classes.keys g)
              (run budget first.last).uses k.uses;
        };
        sizes = run_sizes d n budget first.last rank is.keys;
        within = turns_within budget first.last;
        most = run_is_bounded d n budget first.last (turnable_keys d p.sum) rank is.keys still_turnable;
      }

  turns_then : IsThen d n budget p (turns_behind budget first)
  turns_then = by_stop first.stop refl
    where
      by_stop : (o : Option Stop) → first.stop ≡ o → IsThen d n budget p (elim o as (λ _. Run) [
        | Some stop ↦ ended first.last (Some stop)
        | None ↦ run budget first.last
      ])
      by_stop (Some stop) e = no_turn_then stop e
      by_stop None e = run_then

-- ---- both

-- what holds of passes and turns together
pub record IsWork (d n : ℕ) (contract : Bool) (budget : ℕ) (p : Tracked) (w : Work) : Type 0 where
  pub passes : w.passes ≡ passes_of contract p
  pub same : value w.turns.last.sum ≡ value p.sum
  pub keys : IsBracketPolynomial d n w.turns.last.sum
  pub normal : w.turns.stop ≡ None → IsNormal d n w.turns.last.sum
  pub end_like : AllKeys (λ k. HasLike p.sum k.exponents (points k.rows)) w.turns.last.sum
  pub uses_like : AllByRecursion (λ u. HasLike p.sum u.exponents (use_points u)) (w.passes.uses ++ w.turns.uses)
  pub uses_sizes : AllByRecursion (HasSizes d) (w.passes.uses ++ w.turns.uses)
  pub most : TakesAtMost (length (turnable_keys d p.sum)) budget w.turns

pub work_is : (d n : ℕ) (contract : Bool) (budget : ℕ) (p : Tracked) → IsRank d → IsBracketPolynomial d n p.sum
    → IsWork d n contract budget p (work contract budget p)
unfolding work
work_is d n contract budget p rank h =
    let first : IsFirst d n p (passes_of contract p) = passes_first d n rank p h contract in
    let second : IsThen d n budget p (turns_behind budget (passes_of contract p)) =
    turns_then d n budget rank p h (passes_of contract p) first in
    record {
      passes = refl;
      same = second.same;
      keys = second.keys;
      normal = second.normal;
      end_like = second.classes.keys;
      uses_like =
          all_append (λ u. HasLike p.sum u.exponents (use_points u)) (passes_of contract p).uses
          (turns_behind budget (passes_of contract p)).uses first.classes.uses second.classes.uses;
      uses_sizes =
          all_append (HasSizes d) (passes_of contract p).uses (turns_behind budget (passes_of contract p)).uses
          first.sizes
          second.sizes;
      most = second.most;
    }

-- a work makes no more turns than it may
pub work_within : (contract : Bool) (budget : ℕ) (p : Tracked) → length (work contract budget p).turns.uses ≤ budget
unfolding work
work_within contract budget p = by_stop (passes_of contract p).stop
  where
    by_stop : (o : Option Stop) → length (elim o as (λ _. Run) [
      | Some stop ↦ ended (passes_of contract p).last (Some stop)
      | None ↦ run budget (passes_of contract p).last
    ]).uses ≤ budget
    by_stop (Some stop) = omega arith
    by_stop None = turns_within budget (passes_of contract p).last

-- its passes and its turns by themselves
pub work_passes : (contract : Bool) (budget : ℕ) (p : Tracked) → (work contract budget p).passes ≡ passes_of contract p
unfolding work
work_passes contract budget p = refl

pub work_turns : (contract : Bool) (budget : ℕ) (p : Tracked)
    → (work contract budget p).turns ≡ turns_behind budget (passes_of contract p)
unfolding work
work_turns contract budget p = refl
