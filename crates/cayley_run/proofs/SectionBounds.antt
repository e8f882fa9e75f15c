-- Sections stay within the bounds of their starts.
use Rattle.std.proofs.Common.{ℕ, ◌-◌, Bool, true, false, cond, List, [], ◌∷◌, ◌++◌, map, length, sym}
use Rattle.std.proofs.Common.{subst}
use Rattle.std.specs.Prelude.{Option, Some, None, IfSome}
use Rattle.std.specs.List.{AllByRecursion, cons_option}
use Rattle.coordinate_model.specs.Sequences.{IsRank}
use Rattle.coordinate_model.specs.Key.{IsKey, points}
use Rattle.coordinate_model.specs.BracketPolynomial.{BracketPolynomial, IsBracketPolynomial}
use Rattle.coordinate_model.specs.Starts.{Product, Entry, reached, has_term}
use Rattle.coordinate_model.proofs.Ranks.{rank_pos}
use Rattle.coordinate_model.proofs.Splits.{all_so, all_both, all_map, all_filter}
use Rattle.coordinate_model.proofs.StartKeys.{keys-start}
use Rattle.coordinate_model.proofs.StartSizes.{all_reached}
use Rattle.step_types.specs.declared.measure.Measure.{Measure}
use Rattle.bracket_poly.specs.Sections.{Rewritten, value_from}
use Rattle.bracket_poly.specs.Tracked.{nothing}
use Rattle.shuffle_meet.specs.Stops.{tracked_at, tracked_entries, Start}
use Rattle.straightening.specs.Runs.{Stop}
use Rattle.straightening.specs.RunLaws.{HasLike, use_points}
use Rattle.straightening.proofs.TermLists.{holds_of_term}
use Rattle.cayley_run.specs.Sections.{Work, work, rewritten, run_starts}
use Rattle.shuffle_meet.specs.SectionStarts.{is_conclusion, section_starts}
use Rattle.cayley_run.specs.Bounds.{ArePoints, IsKeyWithin, IsPolynomialWithin, IsUseWithin, IsSectionWithin}
use Rattle.cayley_run.proofs.KeyBounds.{IsEntryWithin, IsProductWithin, key_within, use_within}
use Rattle.shuffle_meet.proofs.StartSums.{entry_at, tracked_sum}
use Rattle.cayley_run.proofs.SectionLaws.{IsStart, starts_by}
use Rattle.cayley_run.proofs.UseSizes.{HasSizes}
use Rattle.cayley_run.proofs.WorkLaws.{IsWork, work_is}

-- ---- sections

module _ (n m : ℕ) (size : Measure) where
  -- a start within the bounds
  abbrev pub IsStartWithin : Start → Type 0
  IsStartWithin start = IsEntryWithin n m size (entry_at start)

  module _ (d a : ℕ) (rank : IsRank d) (contract : Bool) where
    -- a key of the start that is like the key or the use
    module _ (f : BracketPolynomial) (keys : IsBracketPolynomial d 64 f) (within : IsPolynomialWithin n m size f)
        (es ps : List ℕ) (h : HasLike f es ps) where
      like_key : IsKey d 64 h.key
      like_key = holds_of_term (IsKey d 64) f h.key keys h.there

      like_within : IsKeyWithin n m size h.key
      like_within = holds_of_term (IsKeyWithin n m size) f h.key within h.there

    module _ (budget : ℕ) (start : Start) (formed : IsStart d a start) (within : IsStartWithin start) where
      abbrev done : Work
      done = work contract budget start.1

      is : IsWork d 64 contract budget start.1 done
      is = work_is d 64 contract budget start.1 rank formed.keys

      end_within : IsPolynomialWithin n m size done.turns.last.sum
      end_within =
          all_so _ (λ t. IsKeyWithin n m size t.0)
          (λ t h.
          key_within n m d (rank_pos d rank) size h.0.key
          (like_key start.1.sum formed.keys within.keys t.0.exponents (points t.0.rows) h.0)
          (like_within start.1.sum formed.keys within.keys t.0.exponents (points t.0.rows) h.0) t.0 h.1 h.0.parameters
          h.0.same_points)
          done.turns.last.sum.terms
          (all_both (λ t. HasLike start.1.sum t.0.exponents (points t.0.rows)) (λ t. IsKey d 64 t.0)
          done.turns.last.sum.terms is.end_like is.keys)

      uses_within : AllByRecursion (IsUseWithin n m size) (done.passes.uses ++ done.turns.uses)
      uses_within =
          all_so _ (IsUseWithin n m size)
          (λ u h.
          use_within n m d (rank_pos d rank) size h.0.key
          (like_key start.1.sum formed.keys within.keys u.exponents (use_points u) h.0)
          (like_within start.1.sum formed.keys within.keys u.exponents (use_points u) h.0) u h.1.sizes h.1.rest
          h.0.parameters h.0.same_points)
          (done.passes.uses ++ done.turns.uses)
          (all_both (λ u. HasLike start.1.sum u.exponents (use_points u)) (HasSizes d)
          (done.passes.uses ++ done.turns.uses) is.uses_like is.uses_sizes)

      section_within : IsSectionWithin n m size (rewritten start (work contract budget start.1))
      section_within = record {
        extensor = within.points;
        start = within.keys;
        uses = uses_within;
        end = step (work contract budget start.1).turns.stop;
      }
        where
          step : (o : Option Stop)
              → IfSome (elim o as (λ _. Option BracketPolynomial) [
                | Some stop ↦ None
                | None ↦ Some (work contract budget start.1).turns.last.sum
              ]) (IsPolynomialWithin n m size)
          step (Some stop) = tt
          step None = end_within

    pub starts_within : (budget : ℕ) (starts : List Start) → AllByRecursion (IsStart d a) starts
        → AllByRecursion IsStartWithin starts
        → AllByRecursion (IsSectionWithin n m size) (run_starts contract budget starts).sections
    starts_within budget [] h w = tt
    starts_within budget (start ∷ starts) h w =
        step (work contract budget start.1).turns.stop (section_within budget start h.0 w.0)
        (starts_within left starts h.1 w.1)
      where
        left : ℕ
        left = budget - length (work contract budget start.1).turns.uses

        step : (o : Option Stop) → IsSectionWithin n m size (rewritten start (work contract budget start.1))
            → AllByRecursion (IsSectionWithin n m size) (run_starts contract left starts).sections
            → AllByRecursion (IsSectionWithin n m size)
            (starts_by d a rank contract left start (work contract budget start.1) (run_starts contract left starts)
            o).sections
        step (Some stop) s ih = (s, tt)
        step None s ih = (s, ih)

  -- the value that sections end with
  pub value_within : (ss : List Rewritten) → AllByRecursion (IsSectionWithin n m size) ss
      → AllByRecursion (IsEntryWithin n m size) (value_from ss)
  value_within [] h = tt
  value_within (s ∷ ss) h = by_end s.end h.0.end (value_within ss h.1)
    where
      by_term : (b : Bool) (f : BracketPolynomial) → IsPolynomialWithin n m size f
          → AllByRecursion (IsEntryWithin n m size) (value_from ss)
          → AllByRecursion (IsEntryWithin n m size) (cons_option (cond b (Some (s.scalar, f)) None) (value_from ss))
      by_term true f k ih = (record { points = h.0.extensor; keys = k }, ih)
      by_term false f k ih = ih

      by_end : (o : Option BracketPolynomial) → IfSome o (IsPolynomialWithin n m size)
          → AllByRecursion (IsEntryWithin n m size) (value_from ss)
          → AllByRecursion (IsEntryWithin n m size) (cons_option (elim o as (λ _. Option Entry) [
            | None ↦ None
            | Some f ↦ cond (has_term (s.scalar, f)) (Some (s.scalar, f)) None
          ]) (value_from ss))
      by_end None k ih = ih
      by_end (Some f) k ih = by_term (has_term (s.scalar, f)) f k ih

  -- the starts of products
  pub tracked_within : (ps : List Product) → AllByRecursion (IsProductWithin n m size) ps
      → AllByRecursion IsStartWithin (tracked_entries ps)
  tracked_within ps h =
      all_filter IsStartWithin (λ e. has_term (e.0, e.1.sum)) (map (λ x. (x, tracked_at x ps)) (reached ps))
      (all_map (ArePoints n) IsStartWithin (λ x. (x, tracked_at x ps))
      (λ x e. record {
        points = e;
        keys =
            subst (IsPolynomialWithin n m size) (sym (tracked_sum x ps))
            (keys-start (IsKeyWithin n m size) x ps
            (all_so (IsProductWithin n m size) _ (λ p i. i.terms) ps h));
      })
      (reached ps)
      (all_reached (ArePoints n) ps
      (all_so (IsProductWithin n m size) (λ p. ArePoints n p.extensor) (λ p i. i.extensor) ps h)))

  pub section_starts_within : (d step : ℕ) (ps : List Product) → AllByRecursion (IsProductWithin n m size) ps
      → AllByRecursion IsStartWithin (section_starts d step ps)
  section_starts_within d step ps h =
      by_entries (tracked_entries ps) (tracked_within ps h) (is_conclusion d step)
    where
      by_entries : (es : List Start) → AllByRecursion IsStartWithin es → (b : Bool)
          → AllByRecursion IsStartWithin
          (elim es as (λ _. List Start) [ [] ↦ cond b (([], nothing) ∷ []) [] | start ∷ others ↦ start ∷ others ])
      by_entries [] k true = (record { points = tt; keys = tt }, tt)
      by_entries [] k false = tt
      by_entries (start ∷ others) k b = k
