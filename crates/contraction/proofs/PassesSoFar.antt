-- How far the passes have come, and what the call answers.
use Rattle.std.proofs.Common.{◌≡◌, ℕ, zero, suc, ◌<◌, ◌≤◌, Bool, true, false, cond, List, [], ◌∷◌, ◌++◌, map, length}
use Rattle.std.proofs.Common.{Option, Some, None, refl, sym, ap, subst, ◌∙◌, arith, append-nil}
use Rattle.std.specs.Prelude.{Result, Ok, Err, nat_lt}
use Rattle.std.specs.List.{AllByRecursion}
use Rattle.bracket_terms.specs.LogUses.{use_of}
use Rattle.bracket_terms.specs.declared.log_use.LogUse.{LogUse}
use Rattle.bracket_poly.specs.Kept.{TrackedOf, IsTracked}
use Rattle.bracket_poly.specs.Answers.{IsErrorOf}
use Rattle.bracket_poly.specs.Products.{HasDegree}
use Rattle.bracket_poly.specs.Tracked.{Tracked, Limit, coefficient_limit, keys_limit, plus_terms, first_limit}
use Rattle.bracket_poly.specs.declared.error.PolyError.{PolyError}
use Rattle.bracket_poly.specs.declared.error.PolyError.TheVariants.{Coefficient, Keys, Memory}
use Rattle.bracket_poly.proofs.Totals.{use_adds}
use Rattle.coordinate_model.specs.BracketPolynomial.{BracketPolynomial, AllKeys, value}
use Rattle.coordinate_model.specs.Key.{Key, points}
use Rattle.coordinate_model.specs.Sums.{Terms}
use Rattle.coordinate_model.specs.Syzygy.{Use, additions}
use Rattle.straightening.specs.declared.straight.Partial.{Partial}
use Rattle.straightening.specs.Results.{UsesKeepClasses}
use Rattle.straightening.specs.RunLaws.{HasLike, use_points}
use Rattle.straightening.specs.Runs.{Run, Stop, limit_stop, ended, after_use}
use Rattle.contraction.specs.declared.contracted.Contracted.{Contracted}
use Rattle.contraction.specs.declared.contracted.ContractError.{ContractError}
use Rattle.contraction.specs.declared.contracted.ContractError.TheVariants as Stops
use Rattle.contraction.specs.Passes.{first_use, pass, passes, contraction, most_terms, contracted}
use Rattle.contraction.specs.PassLaws.{KeepsClassesOf, Contracts, EachLowers, EndAlike}
use Rattle.contraction.specs.Results.{IsEnd, IsPart, IsStopOf, AnswersPasses, stop_by, AnswersInClasses, AnswersLower}
use Rattle.contraction.proofs.PassEnds.{limited, going, IsKept, contracted_keeps, kept_degree, contracted_lowers}
use Rattle.contraction.proofs.PassEnds.{end_alike}
use Rattle.contraction.proofs.PassRuns.{fewer_after, contraction_contracts}
use Rattle.contraction.proofs.PassTerms.{pass_keeps_classes}

-- ---- one pass of a run

passes_none : (n : ℕ) (p : Tracked) → pass p.sum ≡ None → passes n p ≡ ended p None
passes_none zero p e = refl
passes_none (suc n) p e = ap (going n p) e

passes_limit : (n : ℕ) (p : Tracked) (u : Use) (l : Limit) → pass p.sum ≡ Some u → first_limit p (additions u) ≡ Some l
    → passes (suc n) p ≡ ended p (Some (limit_stop l))
passes_limit n p u l e f = ap (going n p) e ∙ ap (limited n p u) f

passes_on : (n : ℕ) (p : Tracked) (u : Use) → pass p.sum ≡ Some u → first_limit p (additions u) ≡ None
    → passes (suc n) p ≡ after_use u (passes n (plus_terms p (additions u)))
passes_on n p u e f = ap (going n p) e ∙ ap (limited n p u) f

-- where there is a pass there is a term
some_terms : (ts : Terms Key) (u : Use) → first_use ts ≡ Some u → 1 ≤ length ts
some_terms [] u e = cc
some_terms (t ∷ ts) u e = omega arith

-- ---- the passes so far

abbrev after_uses : List Use → Run → Run
after_uses us r = record { uses = us ++ r.uses; last = r.last; stop = r.stop }

one_more_use : (d : ℕ) (uses : List (LogUse d)) (u : LogUse d) (r : Run)
    → after_uses (map use_of uses) (after_use (use_of u) r) ≡ after_uses (map use_of (uses ++ u ∷ [])) r
one_more_use d uses u r = λ j. record { uses = both uses j; last = r.last; stop = r.stop }
  where
    both : (uses : List (LogUse d)) → map use_of uses ++ use_of u ∷ r.uses ≡ map use_of (uses ++ u ∷ []) ++ r.uses
    both [] = refl
    both (v ∷ uses) = ap (λ us. use_of v ∷ us) (both uses)

-- the passes of the run are made by these uses; the rest of it begins here, and has no more passes than are left
pub record SoFar {d : ℕ} (start now : Tracked) (uses : List (LogUse d)) : Type 0 where
  pub left : ℕ
  pub enough : length now.sum.terms ≤ left
  pub rest : contracted start ≡ after_uses (map use_of uses) (passes left now)
  pub degrees : HasDegree 1000 now.sum

-- the run has these uses, this end and this stop
record IsRun (r : Run) (us : List Use) (p : Tracked) (stop : Option Stop) : Type 0 where
  stop_is : r.stop ≡ stop
  uses_are : us ≡ r.uses
  last_is : p ≡ r.last

abbrev start_run : Tracked → Bool → Run
start_run p b = cond b (ended p None) (contraction p)

pub at_start : (d : ℕ) (p : Tracked) → HasDegree 1000 p.sum → nat_lt most_terms (length p.sum.terms) ≡ false
    → SoFar {d = d} p p []
unfolding contraction
at_start d p h few = record {
  left = length p.sum.terms;
  enough = omega arith;
  rest = ap (start_run p) few;
  degrees = h;
}

module _ (d : ℕ) (start p : Tracked) (uses : List (LogUse d)) (s : SoFar start p uses) where
  ends_as : (stop : Option Stop) → passes s.left p ≡ ended p stop → IsRun (contracted start) (map use_of uses) p stop
  ends_as stop e =
      let all : contracted start ≡ after_uses (map use_of uses) (ended p stop) =
      s.rest ∙ ap (after_uses (map use_of uses)) e in
      record {
        stop_is = ap (λ (r : Run). r.stop) all;
        uses_are = sym (ap (λ (r : Run). r.uses) all ∙ append-nil (map use_of uses));
        last_is = sym (ap (λ (r : Run). r.last) all);
      }

  -- the answer where there is no pass
  pub finished : pass p.sum ≡ None → (end : Contracted d) → end.uses ≡ uses → end.poly.tracked ≡ p
      → IsEnd end (contracted start)
  finished e end u n =
      let r = ends_as None (passes_none s.left p e) in
      record { no_stop = r.stop_is; uses = ap (map use_of) u ∙ r.uses_are; poly = n ∙ r.last_is }

  module _ (u : LogUse d) (e : pass p.sum ≡ Some (use_of u)) where
    -- so many passes are left, and one more
    record OneMore : Type 0 where
      fewer : ℕ
      one : s.left ≡ suc fewer

    one_more : OneMore
    one_more =
        let a : 1 ≤ length p.sum.terms = some_terms p.sum.terms (use_of u) e in
        let b : length p.sum.terms ≤ s.left = s.enough in
        step s.left (omega arith) refl
      where
        step : (n : ℕ) → 1 ≤ n → s.left ≡ n → OneMore
        step zero l f = absurd (omega arith)
        step (suc n) l f = record { fewer = n; one = f }

    stopped_at : (l : Limit) → first_limit p (additions (use_of u)) ≡ Some l
        → IsRun (contracted start) (map use_of uses) p (Some (limit_stop l))
    stopped_at l f =
        ends_as (Some (limit_stop l))
        (ap (λ n. passes n p) one_more.one ∙ passes_limit one_more.fewer p (use_of u) l e f)

    is_part : (l : Limit) (part : Partial d) → part.uses ≡ uses → part.turns ≡ 0
        → first_limit p (additions (use_of u)) ≡ Some l → IsPart part (contracted start) l
    is_part l part us t f =
        let r = stopped_at l f in
        record { stopped = r.stop_is; uses = ap (map use_of) us ∙ r.uses_are; turns = t }

    -- where an addition is refused
    pub refused : (error : PolyError) (part : Partial d) → part.uses ≡ uses → part.turns ≡ 0
        → IsErrorOf error (first_limit p (additions (use_of u))) → IsStopOf (stop_by error part) (contracted start)
    refused Coefficient part us t h = is_part coefficient_limit part us t h
    refused Keys part us t h = is_part keys_limit part us t h
    refused Memory part us t h = tt

    module _ (formed : IsTracked d p) where
      pub fewer_terms : length (plus_terms p (additions (use_of u))).sum.terms < length p.sum.terms
      fewer_terms = fewer_after d 64 formed.rank p (use_of u) formed.keys e

      -- the degrees stay small
      degrees_after : HasDegree 1000 (plus_terms p (additions (use_of u))).sum
      degrees_after =
          let c : KeepsClassesOf d 64 p.sum (use_of u) =
          pass_keeps_classes d 64 p.sum (use_of u) formed.rank formed.keys e in
          kept_degree 1000 p (ended (plus_terms p (additions (use_of u))) None)
          (record {
            keys =
                subst (AllKeys (λ k. HasLike p.sum k.exponents (points k.rows))) (sym (use_adds p (use_of u)))
                c.keys;
            uses = tt;
          })
          s.degrees

      pub after_pass : (new : Tracked) (us : List (LogUse d)) → first_limit p (additions (use_of u)) ≡ None
          → new ≡ plus_terms p (additions (use_of u)) → us ≡ uses ++ u ∷ [] → SoFar start new us
      after_pass new us f n listed =
          let l : length (plus_terms p (additions (use_of u))).sum.terms < length p.sum.terms = fewer_terms in
          let b : length p.sum.terms ≤ s.left = s.enough in
          let w : s.left ≡ suc one_more.fewer = one_more.one in
          subst (λ (q : Tracked). SoFar start q us) (sym n)
          (subst (λ (vs : List (LogUse d)). SoFar start (plus_terms p (additions (use_of u))) vs) (sym listed)
          (record {
            left = one_more.fewer;
            enough = omega arith;
            rest =
                s.rest
                ∙ ap (after_uses (map use_of uses))
                (ap (λ n. passes n p) w ∙ passes_on one_more.fewer p (use_of u) e f)
                ∙ one_more_use d uses u (passes one_more.fewer (plus_terms p (additions (use_of u))));
            degrees = degrees_after;
          }))

-- ---- a start with too many terms

pub too_many : (d : ℕ) (p : TrackedOf d) (end : Contracted d) → nat_lt most_terms (length p.tracked.sum.terms) ≡ true
    → end.uses ≡ [] → end.poly ≡ p → IsEnd end (contracted p.tracked)
too_many d p end many us n =
    let r : contracted p.tracked ≡ ended p.tracked None = ap (start_run p.tracked) many in
    record {
      no_stop = ap (λ (w : Run). w.stop) r;
      uses = ap (map use_of) us ∙ sym (ap (λ (w : Run). w.uses) r);
      poly = ap (λ (q : TrackedOf d). q.tracked) n ∙ sym (ap (λ (w : Run). w.last) r);
    }

-- ---- what an answer says besides

uses_in_classes : (d : ℕ) (f : BracketPolynomial) (uses : List (LogUse d))
    → AllByRecursion (λ u. HasLike f u.exponents (use_points u)) (map use_of uses) → UsesKeepClasses f uses
uses_in_classes d f [] h = tt
uses_in_classes d f (u ∷ uses) h = (h.0, uses_in_classes d f uses h.1)

module _ (d : ℕ) (p : TrackedOf d) where
  abbrev r : Run
  r = contracted p.tracked

  kept : IsKept d 64 p.tracked r
  kept = contracted_keeps d 64 p.tracked p.formed.rank p.formed.keys

  -- the end has the value of the start, and runs of turns end alike from both
  pub same_value : (end : Contracted d) → IsEnd end r → value end.poly.tracked.sum ≡ value p.tracked.sum
  same_value end e = ap (λ (q : Tracked). value q.sum) e.poly ∙ kept.same

  pub alike : (end : Contracted d) → IsEnd end r → EndAlike p.tracked end.poly.tracked
  alike end e =
      end_alike d 64 p.tracked end.poly.tracked p.formed.rank p.formed.keys end.poly.formed.keys (same_value end e)

  pub degree : (end : Contracted d) → IsEnd end r → HasDegree 1000 p.tracked.sum → HasDegree 1000 end.poly.tracked.sum
  degree end e h =
      subst (λ (q : Tracked). HasDegree 1000 q.sum) (sym e.poly) (kept_degree 1000 p.tracked r kept.classes h)

  -- no pass is left where there were not too many terms
  pub none_left : (end : Contracted d) → IsEnd end r → nat_lt most_terms (length p.tracked.sum.terms) ≡ false
      → pass end.poly.tracked.sum ≡ None
  none_left end e few =
      let w : r ≡ contraction p.tracked = ap (start_run p.tracked) few in
      let c : Contracts d 64 p.tracked (contraction p.tracked) =
      contraction_contracts d 64 p.tracked p.formed.rank p.formed.keys in
      ap (λ (q : Tracked). pass q.sum) (e.poly ∙ ap (λ (x : Run). x.last) w)
      ∙ c.none_left (sym (ap (λ (x : Run). x.stop) w) ∙ e.no_stop)

  pub in_classes : (a : Result (Contracted d) (ContractError d)) → AnswersPasses a r → AnswersInClasses a p.tracked.sum
  in_classes a e = each a e
    where
      listed : (uses : List (LogUse d)) → map use_of uses ≡ r.uses → UsesKeepClasses p.tracked.sum uses
      listed uses e =
          uses_in_classes d p.tracked.sum uses
          (subst (AllByRecursion (λ u. HasLike p.tracked.sum u.exponents (use_points u))) (sym e) kept.classes.uses)

      each : (a : Result (Contracted d) (ContractError d)) → AnswersPasses a r → AnswersInClasses a p.tracked.sum
      each (Ok s) e = (
        subst (λ (q : Tracked). AllKeys (λ k. HasLike p.tracked.sum k.exponents (points k.rows)) q.sum) (sym e.poly)
            kept.classes.keys,
        listed s.uses e.uses,
      )
      each (Err (Stops.Coefficient part)) e = listed part.uses e.uses
      each (Err (Stops.Keys part)) e = listed part.uses e.uses
      each (Err Stops.Memory) e = tt

  pub lower : (a : Result (Contracted d) (ContractError d)) → AnswersPasses a r → AnswersLower a p.tracked.sum
  lower a e = each a e
    where
      listed : (us : List Use) → us ≡ r.uses → EachLowers p.tracked.sum us
      listed us e =
          subst (EachLowers p.tracked.sum) (sym e) (contracted_lowers d 64 p.formed.rank p.tracked p.formed.keys)

      each : (a : Result (Contracted d) (ContractError d)) → AnswersPasses a r → AnswersLower a p.tracked.sum
      each (Ok s) e = listed (map use_of s.uses) e.uses
      each (Err (Stops.Coefficient part)) e = listed (map use_of part.uses) e.uses
      each (Err (Stops.Keys part)) e = listed (map use_of part.uses) e.uses
      each (Err Stops.Memory) e = tt
