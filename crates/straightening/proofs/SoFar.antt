-- How far a run has come, and what it answers.
use Rattle.std.proofs.Common.{◌≡◌, ◌≢◌, ℕ, zero, suc, ◌+◌, ◌-◌, ◌≤◌, List, [], ◌∷◌, ◌++◌, map, length, Option, Some, None}
use Rattle.std.proofs.Common.{refl, sym, ap, subst, ◌∙◌, arith, length-append, append-nil}
use Rattle.std.specs.Prelude.{Result, Ok, Err}
use Rattle.std.specs.List.{AllByRecursion}
use Rattle.bracket_terms.specs.LogUses.{use_of}
use Rattle.bracket_terms.specs.declared.log_use.LogUse.{LogUse}
use Rattle.std.proofs.lemmas.List.{length-map}
use Rattle.bracket_poly.specs.Kept.{TrackedOf, IsTracked, same_tracked}
use Rattle.bracket_poly.specs.Answers.{IsErrorOf}
use Rattle.bracket_poly.specs.Tracked.{Tracked, Limit, plus_terms, first_limit}
use Rattle.bracket_poly.specs.declared.error.PolyError.{PolyError}
use Rattle.bracket_poly.specs.declared.error.PolyError.TheVariants.{Coefficient, Keys, Memory}
use Rattle.bracket_poly.specs.Tracked.{coefficient_limit, keys_limit}
use Rattle.coordinate_model.specs.Key.{points}
use Rattle.coordinate_model.specs.Sequences.{IsRank}
use Rattle.coordinate_model.specs.BracketPolynomial.{BracketPolynomial, AllKeys, IsBracketPolynomial, IsNormal, value}
use Rattle.coordinate_model.specs.Syzygy.{Use, additions}
use Rattle.coordinate_model.proofs.Independence.{same_normal}
use Rattle.straightening.specs.declared.straight.Partial.{Partial}
use Rattle.straightening.specs.declared.straight.Straight.{Straight}
use Rattle.straightening.specs.declared.straight.StopError.{StopError}
use Rattle.straightening.specs.declared.straight.StopError.TheVariants as Stops
use Rattle.bracket_poly.specs.Products.{HasDegree}
use Rattle.straightening.specs.Results.{IsEnd, IsPart, IsStopOf, AnswersRun, stop_by}
use Rattle.straightening.specs.Results.{UsesKeepClasses, AnswersInClasses, IsUnchanged, IsOnlyNormal}
use Rattle.straightening.specs.RunLaws.{EndsWell, HasLike, KeepsClasses, use_points}
use Rattle.straightening.specs.Runs.{Run, Stop, turns_stop, limit_stop, ended, after_use, run}
use Rattle.straightening.specs.Turns.{turn}
use Rattle.straightening.proofs.RunLemmas.{keys_after, run_keeps_value, run_ends_well, run_keeps_classes, no_turn_of_normal}
use Rattle.straightening.proofs.TermLists.{holds_of_term}
use Rattle.straightening.proofs.TurnLaws.{Taken, taken}

-- ---- one step of a run

abbrev limited : ℕ → Tracked → Use → Option Limit → Run
limited n p u o = elim o [
  | Some limit ↦ ended p (Some (limit_stop limit))
  | None ↦ after_use u (run n (plus_terms p (additions u)))
]

abbrev spent : Tracked → Option Use → Run
spent p o = elim o [ None ↦ ended p None | Some u ↦ ended p (Some turns_stop) ]

abbrev going : ℕ → Tracked → Option Use → Run
going n p o = elim o [ None ↦ ended p None | Some u ↦ limited n p u (first_limit p (additions u)) ]

pub run_none : (n : ℕ) (p : Tracked) → turn p.sum ≡ None → run n p ≡ ended p None
run_none zero p e = ap (spent p) e
run_none (suc n) p e = ap (going n p) e

pub run_spent : (p : Tracked) (u : Use) → turn p.sum ≡ Some u → run zero p ≡ ended p (Some turns_stop)
run_spent p u e = ap (spent p) e

pub run_limit : (n : ℕ) (p : Tracked) (u : Use) (l : Limit) → turn p.sum ≡ Some u → first_limit p (additions u) ≡ Some l
    → run (suc n) p ≡ ended p (Some (limit_stop l))
run_limit n p u l e f = ap (going n p) e ∙ ap (limited n p u) f

pub run_on : (n : ℕ) (p : Tracked) (u : Use) → turn p.sum ≡ Some u → first_limit p (additions u) ≡ None
    → run (suc n) p ≡ after_use u (run n (plus_terms p (additions u)))
run_on n p u e f = ap (going n p) e ∙ ap (limited n p u) f

-- ---- the steps so far

abbrev after_uses : List Use → Run → Run
after_uses us r = record { uses = us ++ r.uses; last = r.last; stop = r.stop }

one_more_use : (d : ℕ) (uses : List (LogUse d)) (u : LogUse d) (r : Run)
    → after_uses (map use_of uses) (after_use (use_of u) r) ≡ after_uses (map use_of (uses ++ u ∷ [])) r
one_more_use d uses u r = λ j. record { uses = both uses j; last = r.last; stop = r.stop }
  where
    both : (uses : List (LogUse d)) → map use_of uses ++ use_of u ∷ r.uses ≡ map use_of (uses ++ u ∷ []) ++ r.uses
    both [] = refl
    both (v ∷ uses) = ap (λ us. use_of v ∷ us) (both uses)

-- so many turns of the run are made, by these uses; the rest of it begins here
pub record SoFar {d : ℕ} (budget turns : ℕ) (start now : Tracked) (uses : List (LogUse d)) : Type 0 where
  pub within : turns ≤ budget
  pub counted : turns ≡ length uses
  pub rest : run budget start ≡ after_uses (map use_of uses) (run (budget - turns) now)
  pub degrees : HasDegree 1000 now.sum

-- the run has these uses, this end and this stop
pub record IsRun (r : Run) (us : List Use) (p : Tracked) (stop : Option Stop) : Type 0 where
  pub stop_is : r.stop ≡ stop
  pub uses_are : us ≡ r.uses
  pub last_is : p ≡ r.last

pub at_start : (d budget : ℕ) (p : Tracked) → HasDegree 1000 p.sum → SoFar {d = d} budget 0 p p []
at_start d budget p h = record {
  within = omega arith;
  counted = refl;
  rest = ap (λ n. run n p) (same budget);
  degrees = h;
}
  where
    same : (n : ℕ) → n ≡ n - 0
    same n = omega arith

module _ (d budget turns : ℕ) (start p : Tracked) (uses : List (LogUse d)) (s : SoFar budget turns start p uses) where
  ends_as : (stop : Option Stop) → run (budget - turns) p ≡ ended p stop → IsRun (run budget start) (map use_of uses) p stop
  ends_as stop e =
      let all : run budget start ≡ after_uses (map use_of uses) (ended p stop) = s.rest ∙ ap (after_uses (map use_of uses)) e in
      record {
        stop_is = ap (λ (r : Run). r.stop) all;
        uses_are = sym (ap (λ (r : Run). r.uses) all ∙ append-nil (map use_of uses));
        last_is = sym (ap (λ (r : Run). r.last) all);
      }

  count : (stop : Option Stop) → IsRun (run budget start) (map use_of uses) p stop → turns ≡ length (run budget start).uses
  count stop r = s.counted ∙ sym (length-map uses use_of) ∙ ap length r.uses_are

  is_part : (stop : Stop) (part : Partial d) → part.uses ≡ uses → part.turns ≡ turns
      → IsRun (run budget start) (map use_of uses) p (Some stop) → IsPart part (run budget start) stop
  is_part stop part u t r = record {
    stopped = r.stop_is;
    uses = ap (map use_of) u ∙ r.uses_are;
    turns = t ∙ count (Some stop) r;
  }

  -- the answer where there is no turn
  pub finished : turn p.sum ≡ None → (end : Straight d) → end.uses ≡ uses → end.turns ≡ turns → end.normal.tracked ≡ p
      → IsEnd end (run budget start)
  finished e end u t n =
      let r = ends_as None (run_none (budget - turns) p e) in
      record {
        no_stop = r.stop_is;
        uses = ap (map use_of) u ∙ r.uses_are;
        normal = n ∙ r.last_is;
        turns = t ∙ count None r;
      }

  module _ (u : LogUse d) (e : turn p.sum ≡ Some (use_of u)) where
    -- where the budget is spent
    pub out_of_turns : turns ≡ budget → (part : Partial d) → part.uses ≡ uses → part.turns ≡ turns
        → IsPart part (run budget start) turns_stop
    out_of_turns same part us t =
        let none : budget - turns ≡ zero = omega arith in
        is_part turns_stop part us t
        (ends_as (Some turns_stop) (ap (λ n. run n p) none ∙ run_spent p (use_of u) e))

    module _ (more : turns ≢ budget) where
      one_more : budget - turns ≡ suc (budget - (turns + 1))
      one_more = let w : turns ≤ budget = s.within in omega arith

      stopped_at : (l : Limit) → first_limit p (additions (use_of u)) ≡ Some l
          → IsRun (run budget start) (map use_of uses) p (Some (limit_stop l))
      stopped_at l f =
          ends_as (Some (limit_stop l)) (ap (λ n. run n p) one_more ∙ run_limit (budget - (turns + 1)) p (use_of u) l e f)

      -- where an addition is refused
      pub refused : (error : PolyError) (part : Partial d) → part.uses ≡ uses → part.turns ≡ turns
          → IsErrorOf error (first_limit p (additions (use_of u))) → IsStopOf (stop_by error part) (run budget start)
      refused Coefficient part us t h = is_part (limit_stop coefficient_limit) part us t (stopped_at coefficient_limit h)
      refused Keys part us t h = is_part (limit_stop keys_limit) part us t (stopped_at keys_limit h)
      refused Memory part us t h = tt

      -- the degrees stay small
      degrees_after : IsRank d → IsBracketPolynomial d 64 p.sum → HasDegree 1000 (plus_terms p (additions (use_of u))).sum
      degrees_after rank keys =
          let t : Taken d 64 p.sum (use_of u) = taken d 64 p.sum (use_of u) keys e in
          let here : AllByRecursion (λ e. e ≤ 1000) t.term.0.exponents =
          holds_of_term (λ k. AllByRecursion (λ e. e ≤ 1000) k.exponents) p.sum t.term.0 s.degrees t.there in
          keys_after d 64 p (use_of u) rank t (λ k. AllByRecursion (λ e. e ≤ 1000) k.exponents) s.degrees
          (λ l a. subst (AllByRecursion (λ e. e ≤ 1000)) (sym a.parameters) here)

      pub after_turn : (new : Tracked) (us : List (LogUse d)) → IsTracked d p → first_limit p (additions (use_of u)) ≡ None
          → new ≡ plus_terms p (additions (use_of u)) → us ≡ uses ++ u ∷ [] → SoFar budget (turns + 1) start new us
      after_turn new us formed f n listed =
          let w : turns ≤ budget = s.within in
          let many : turns ≡ length uses = s.counted in
          subst (λ (q : Tracked). SoFar budget (turns + 1) start q us) (sym n)
          (subst (λ (vs : List (LogUse d)). SoFar budget (turns + 1) start (plus_terms p (additions (use_of u))) vs) (sym listed)
          (record {
            within = omega arith;
            counted = rw (length-append uses (u ∷ [])) (omega arith);
            rest =
                s.rest
                ∙ ap (after_uses (map use_of uses))
                (ap (λ n. run n p) one_more ∙ run_on (budget - (turns + 1)) p (use_of u) e f)
                ∙ one_more_use d uses u (run (budget - (turns + 1)) (plus_terms p (additions (use_of u))));
            degrees = degrees_after formed.rank formed.keys;
          }))

-- ---- what an answer says besides

-- the end has the value of what was given, is normal, and the only such one
pub record IsNormalForm {d : ℕ} (p : Tracked) (end : Straight d) : Type 0 where
  pub value : value end.normal.tracked.sum ≡ value p.sum
  pub normal : IsNormal d 64 end.normal.tracked.sum
  pub only : IsOnlyNormal d p.sum end.normal.tracked.sum

pub normal_form : (d budget : ℕ) (p : Tracked) (end : Straight d) → IsTracked d p → IsEnd end (run budget p)
    → IsNormalForm p end
normal_form d budget p end formed e =
    let w : EndsWell d 64 (run budget p) = run_ends_well d 64 budget p formed.rank formed.keys in
    let v : value end.normal.tracked.sum ≡ value p.sum =
    ap (λ (q : Tracked). value q.sum) e.normal ∙ run_keeps_value d 64 budget p formed.rank formed.keys in
    let n : IsNormal d 64 end.normal.tracked.sum =
    subst (λ (q : Tracked). IsNormal d 64 q.sum) (sym e.normal) (w.normal e.no_stop) in
    record {
      value = v;
      normal = n;
      only = λ g h k. same_normal d 64 formed.rank g end.normal.tracked.sum h n (k ∙ sym v);
    }

uses_in_classes : (d : ℕ) (f : BracketPolynomial) (uses : List (LogUse d))
    → AllByRecursion (λ u. HasLike f u.exponents (use_points u)) (map use_of uses) → UsesKeepClasses f uses
uses_in_classes d f [] h = tt
uses_in_classes d f (u ∷ uses) h = (h.0, uses_in_classes d f uses h.1)

-- every answer of the run is in the classes of what was given
pub in_classes : (d budget : ℕ) (p : Tracked) (r : Result (Straight d) (StopError d)) → IsTracked d p
    → AnswersRun r (run budget p) → AnswersInClasses r p.sum
in_classes d budget p r formed a = each r a
  where
    kept : KeepsClasses p (run budget p)
    kept = run_keeps_classes d 64 budget p formed.rank formed.keys

    listed : (uses : List (LogUse d)) → map use_of uses ≡ (run budget p).uses → UsesKeepClasses p.sum uses
    listed uses e =
        uses_in_classes d p.sum uses
        (subst (AllByRecursion (λ u. HasLike p.sum u.exponents (use_points u))) (sym e) kept.uses)

    each : (r : Result (Straight d) (StopError d)) → AnswersRun r (run budget p) → AnswersInClasses r p.sum
    each (Ok s) e = (
      subst (λ (q : Tracked). AllKeys (λ k. HasLike p.sum k.exponents (points k.rows)) q.sum) (sym e.normal) kept.keys,
      listed s.uses e.uses,
    )
    each (Err (Stops.Turns part)) e = listed part.uses e.uses
    each (Err (Stops.Coefficient part)) e = listed part.uses e.uses
    each (Err (Stops.Keys part)) e = listed part.uses e.uses
    each (Err Stops.Memory) e = tt

no_uses : (d : ℕ) (uses : List (LogUse d)) → map use_of uses ≡ [] → uses ≡ []
no_uses d [] e = refl
no_uses d (u ∷ uses) e = cc

-- a normal polynomial comes back
pub unchanged : (d budget : ℕ) (p : TrackedOf d) (end : Straight d) → IsEnd end (run budget p.tracked)
    → IsNormal d 64 p.tracked.sum → IsUnchanged end p
unchanged d budget p end e normal =
    let r : run budget p.tracked ≡ ended p.tracked None =
    no_turn_of_normal d 64 budget p.tracked p.formed.rank normal in
    record {
      normal = same_tracked d end.normal p (e.normal ∙ ap (λ (s : Run). s.last) r);
      uses = no_uses d end.uses (e.uses ∙ ap (λ (s : Run). s.uses) r);
      turns = e.turns ∙ ap (λ (s : Run). length s.uses) r;
    }
