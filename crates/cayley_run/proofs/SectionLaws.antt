-- Sections of starts: each ends well, and where nothing stopped them their ends have the coordinates of the starts.
use Rattle.std.proofs.Common.{◌≡◌, ℕ, ◌-◌, Bool, true, false, cond, List, [], ◌∷◌, filter, length, refl, sym, ap, ap₂}
use Rattle.std.proofs.Common.{◌∙◌, subst}
use Rattle.std.specs.Prelude.{Option, Some, None}
use Rattle.std.specs.List.{AllByRecursion, cons_option}
use Rattle.coordinate_model.specs.Sequences.{IsRank}
use Rattle.coordinate_model.specs.BracketPolynomial.{BracketPolynomial}
use Rattle.coordinate_model.specs.Polynomial.{Polynomials}
use Rattle.coordinate_model.specs.Starts.{Entry, has_term}
use Rattle.coordinate_model.specs.Value.{Value, coordinates}
use Rattle.coordinate_model.proofs.KeySumLaws.{normal-is}
use Rattle.coordinate_model.proofs.Splits.{all_filter}
use Rattle.coordinate_model.proofs.StartLaws.{zero_entries}
use Rattle.coordinate_model.proofs.StartSizes.{IsEntry}
use Rattle.coordinate_model.proofs.ValueLaws.{free, coordinates-more}
use Rattle.bracket_poly.specs.Sections.{Rewritten, entry_from, value_from}
use Rattle.straightening.specs.Runs.{Stop}
use Rattle.cayley_run.specs.Sections.{Work, work, rewritten, Sections, in_front, run_starts}
use Rattle.shuffle_meet.specs.Stops.{Start}
use Rattle.cayley_run.specs.RunLaws.{IsEndOf, EndsWell}
use Rattle.cayley_run.proofs.WorkLaws.{work_is}
use Rattle.shuffle_meet.proofs.StartSums.{entry_at, entries_at}

-- the section ends with a normal polynomial of the value of the start
pub record IsEnded (d : ℕ) (start : Start) (s : Rewritten) : Type 0 where
  pub scalar : s.scalar ≡ start.0
  pub end : BracketPolynomial
  pub ended : s.end ≡ Some end
  pub well : IsEndOf d start.1.sum end

-- there is such a section for each start
abbrev pub AreEnded : ℕ → List Start → List Rewritten → Type 0
AreEnded d [] [] = Unit {0}
AreEnded d [] (s ∷ ss) = ⊥
AreEnded d (start ∷ starts) [] = ⊥
AreEnded d (start ∷ starts) (s ∷ ss) = IsEnded d start s × AreEnded d starts ss

-- a start of rank d whose extensor has a points
abbrev pub IsStart : ℕ → ℕ → Start → Type 0
IsStart d a start = IsEntry d 64 a (entry_at start)

-- ---- runs of starts

module _ (d a : ℕ) (rank : IsRank d) (contract : Bool) where
  work_of_start : (budget : ℕ) (start : Start) → IsStart d a start → (work contract budget start.1).turns.stop ≡ None
      → IsEndOf d start.1.sum (work contract budget start.1).turns.last.sum
  work_of_start budget start h e =
      let w = work_is d 64 contract budget start.1 rank h.keys in
      record { normal = w.normal e; same_value = w.same }

  section_well : (budget : ℕ) (start : Start) → IsStart d a start → EndsWell d
      (rewritten start (work contract budget start.1))
  section_well budget start h = step (work contract budget start.1).turns.stop refl
    where
      step : (o : Option Stop) → (work contract budget start.1).turns.stop ≡ o
          → elim (elim o as (λ _. Option BracketPolynomial)
          [ Some stop ↦ None | None ↦ Some (work contract budget start.1).turns.last.sum ])
          as (λ _. Type 0) [ None ↦ Unit {0} | Some end ↦ IsEndOf d start.1.sum end ]
      step (Some stop) e = tt
      step None e = work_of_start budget start h e

  -- one start before others
  abbrev pub starts_by : ℕ → Start → Work → Sections → Option Stop → Sections
  starts_by left start w others o = elim o [
    | Some stop ↦ record { sections = rewritten start w ∷ []; left = left; stop = Some stop }
    | None ↦ in_front (rewritten start w) others
  ]

  pub starts_well : (budget : ℕ) (starts : List Start) → AllByRecursion (IsStart d a) starts
      → AllByRecursion (EndsWell d) (run_starts contract budget starts).sections
  starts_well budget [] h = tt
  starts_well budget (start ∷ starts) h =
      step (work contract budget start.1).turns.stop (section_well budget start h.0) (starts_well left starts h.1)
    where
      left : ℕ
      left = budget - length (work contract budget start.1).turns.uses

      step : (o : Option Stop) → EndsWell d (rewritten start (work contract budget start.1))
          → AllByRecursion (EndsWell d) (run_starts contract left starts).sections
          → AllByRecursion (EndsWell d) (starts_by left start (work contract budget start.1)
          (run_starts contract left starts) o).sections
      step (Some stop) w ih = (w, tt)
      step None w ih = (w, ih)

  pub starts_ended : (budget : ℕ) (starts : List Start) → AllByRecursion (IsStart d a) starts
      → (run_starts contract budget starts).stop ≡ None → AreEnded d starts (run_starts contract budget starts).sections
  starts_ended budget [] h e = tt
  starts_ended budget (start ∷ starts) h e =
      step (work contract budget start.1).turns.stop refl e (λ k. starts_ended left starts h.1 k)
    where
      left : ℕ
      left = budget - length (work contract budget start.1).turns.uses

      step : (o : Option Stop) → (work contract budget start.1).turns.stop ≡ o
          → (starts_by left start (work contract budget start.1) (run_starts contract left starts) o).stop ≡ None
          → ((run_starts contract left starts).stop ≡ None → AreEnded d starts
          (run_starts contract left starts).sections)
          → AreEnded d (start ∷ starts) (starts_by left start (work contract budget start.1)
          (run_starts contract left starts) o).sections
      step (Some stop) s k ih = cc
      step None s k ih = (
        record {
          scalar = refl;
          end = (work contract budget start.1).turns.last.sum;
          ended =
              ap (λ (o : Option Stop). elim o as (λ _. Option BracketPolynomial) [
                | Some stop ↦ None
                | None ↦ Some (work contract budget start.1).turns.last.sum
              ]) s;
          well = work_of_start budget start h.0 s;
        },
        ih k,
      )

-- ---- the value that sections end with

-- the ends, each with its extensor
abbrev ends : (d : ℕ) (starts : List Start) (ss : List Rewritten) → AreEnded d starts ss → Value
ends d [] [] h = []
ends d [] (s ∷ ss) h = []
ends d (start ∷ starts) [] h = []
ends d (start ∷ starts) (s ∷ ss) h = (start.0, h.0.end) ∷ ends d starts ss h.1

entry_of_ended : (d : ℕ) (start : Start) (s : Rewritten) (h : IsEnded d start s)
    → entry_from s ≡ cond (has_term (start.0, h.end)) (Some (start.0, h.end)) None
entry_of_ended d start s h =
    ap₂ (λ (x : List ℕ) (o : Option BracketPolynomial). elim o as (λ _. Option Entry) [
      | None ↦ None
      | Some f ↦ cond (has_term (x, f)) (Some (x, f)) None
    ]) h.scalar h.ended

value_of_ended : (d : ℕ) (starts : List Start) (ss : List Rewritten) (h : AreEnded d starts ss)
    → value_from ss ≡ filter has_term (ends d starts ss h)
value_of_ended d [] [] h = refl
value_of_ended d [] (s ∷ ss) h = absurd h
value_of_ended d (start ∷ starts) [] h = absurd h
value_of_ended d (start ∷ starts) (s ∷ ss) h =
    ap₂ (λ (o : Option Entry) (es : Value). cons_option o es) (entry_of_ended d start s h.0)
    (value_of_ended d starts ss h.1)
    ∙ step (has_term (start.0, h.0.end))
  where
    step : (b : Bool) → cons_option (cond b (Some (start.0, h.0.end)) None) (filter has_term (ends d starts ss h.1))
        ≡ cond b ((start.0, h.0.end) ∷ filter has_term (ends d starts ss h.1)) (filter has_term (ends d starts ss h.1))
    step true = refl
    step false = refl

pub same_coordinates : (d : ℕ) (starts : List Start) (ss : List Rewritten) → AreEnded d starts ss → (K : List ℕ)
    → coordinates (value_from ss) K ≡ coordinates (entries_at starts) K
same_coordinates d starts ss h K =
    ap (λ A. coordinates A K) (value_of_ended d starts ss h) ∙ zero_entries (ends d starts ss h) K ∙ each starts ss h
  where
    each : (starts : List Start) (ss : List Rewritten) (h : AreEnded d starts ss)
        → coordinates (ends d starts ss h) K ≡ coordinates (entries_at starts) K
    each [] [] h = refl
    each [] (s ∷ ss) h = absurd h
    each (start ∷ starts) [] h = absurd h
    each (start ∷ starts) (s ∷ ss) h =
        coordinates-more (start.0, h.0.end) (ends d starts ss h.1) K
        ∙ ap₂ (λ f r. Polynomials.◌⊕◌ (Polynomials.◌⊗◌ f (free start.0 K)) r) h.0.well.same_value (each starts ss h.1)
        ∙ sym (coordinates-more (entry_at start) (entries_at starts) K)

pub entries_ended : (d a : ℕ) (starts : List Start) (ss : List Rewritten) → AreEnded d starts ss
    → AllByRecursion (IsStart d a) starts → AllByRecursion (IsEntry d 64 a) (value_from ss)
entries_ended d a starts ss h p =
    subst (AllByRecursion (IsEntry d 64 a)) (sym (value_of_ended d starts ss h))
    (all_filter (IsEntry d 64 a) has_term (ends d starts ss h) (each starts ss h p))
  where
    each : (starts : List Start) (ss : List Rewritten) (h : AreEnded d starts ss) → AllByRecursion (IsStart d a) starts
        → AllByRecursion (IsEntry d 64 a) (ends d starts ss h)
    each [] [] h p = tt
    each [] (s ∷ ss) h p = absurd h
    each (start ∷ starts) [] h p = absurd h
    each (start ∷ starts) (s ∷ ss) h p = (
      record { points = p.0.points; keys = normal-is d 64 h.0.end h.0.well.normal },
      each starts ss h.1 p.1,
    )
