-- A run is that of its objects one after another.
use Rattle.std.specs.Prelude.{◌≡◌, ℕ, List, [], ◌∷◌, map, Option, Some, None, Result, Ok, Err}
use Rattle.std.proofs.Common.{refl, ap, ◌∙◌}
use Rattle.coordinate_model.specs.Starts.{Product}
use Rattle.bracket_poly.specs.Tracked.{Tracked, Limit}
use Rattle.cayley_terms.specs.Starts.{products_of, value_at}
use Rattle.cayley_terms.specs.Starts as operation
use Rattle.cayley_terms.specs.declared.instr.Instr.TheVariants.{Free, Join, Meet, On, Conic}
use Rattle.conic_points.specs.Makings.{made_of}
use Rattle.shuffle_meet.specs.SectionStarts.{section_starts}
use Rattle.shuffle_meet.specs.Stops.{first_stop}
use Rattle.straightening.specs.Runs.{Stop, limit_stop}
use Rattle.cayley_run.specs.Objects.{stopped_before, started, run_of_products, run_of_start, options_left, with_next}
use Rattle.cayley_run.specs.Objects.{run_by_objects, NextIsByItself, RunIsByObjects}
use Rattle.cayley_run.specs.Runs.{Log, with_sections, with_stop, with_starts, with_object, with_start, with_instr, run_on}
use Rattle.cayley_run.specs.Sections.{Sections}

of_products : (d step : ℕ) (ps : List Product) (log : Log)
    → with_object d step ps log ≡ with_sections step log (run_of_products d step (options_left log) ps)
of_products d step ps log = by_stop (first_stop [] ps)
  where
    by_stop : (o : Option Limit)
        → elim o as (λ _. Log) [
          | Some limit ↦ with_stop step (limit_stop limit) log
          | None ↦ with_starts step (section_starts d step ps) log
        ]
        ≡ with_sections step log (elim o as (λ _. Sections) [
          | Some limit ↦ stopped_before (options_left log) (limit_stop limit)
          | None ↦ started (options_left log) (section_starts d step ps)
        ])
    by_stop (Some limit) = refl
    by_stop None = refl

of_start : (step : ℕ) (made : Result Tracked Limit) (log : Log)
    → with_start step made log ≡ with_sections step log (run_of_start (options_left log) made)
of_start step (Err limit) log = refl
of_start step (Ok start) log = refl

pub next_is_by_itself : NextIsByItself
next_is_by_itself d log (Free i, step) = refl
next_is_by_itself d log (Join a b, step) = of_products d step (products_of operation.Join d log.values a b) log
next_is_by_itself d log (Meet a b, step) = of_products d step (products_of operation.Meet d log.values a b) log
next_is_by_itself d log (On a b s t, step) = of_products d step (products_of (operation.On s t) d log.values a b) log
next_is_by_itself d log (Conic p1 p2 p3 p4 p5 p6, step) =
    of_start step (made_of (map (value_at log.values) (p1 ∷ p2 ∷ p3 ∷ p4 ∷ p5 ∷ p6 ∷ []))) log

pub run_is_by_objects : RunIsByObjects
run_is_by_objects d log [] = refl
run_is_by_objects d log (instr ∷ instrs) = by_stop log.stop (run_is_by_objects d (with_instr d log instr) instrs)
  where
    by_stop : (o : Option Stop) → run_on d (with_instr d log instr) instrs ≡ run_by_objects d (with_instr d log instr) instrs
        → elim o as (λ _. Log) [ Some stop ↦ log | None ↦ run_on d (with_instr d log instr) instrs ]
        ≡ elim o as (λ _. Log) [ Some stop ↦ log | None ↦ run_by_objects d (with_next d log instr) instrs ]
    by_stop (Some stop) ih = refl
    by_stop None ih = ih ∙ ap (λ (l : Log). run_by_objects d l instrs) (next_is_by_itself d log instr)
