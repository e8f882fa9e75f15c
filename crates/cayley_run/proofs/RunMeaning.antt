-- What the run of a program means, by its instructions one after another.
use Rattle.std.proofs.Common.{◌≡◌, ℕ, ◌+◌, ◌-◌, List, [], ◌∷◌, ◌++◌, map, zip, length, get_or, refl, sym, ap, subst, ◌∙◌}
use Rattle.std.proofs.Common.{arith, append_assoc, append-nil}
use Rattle.std.specs.Prelude.{Option, Some, None}
use Rattle.std.specs.List.{AllByRecursion}
use Rattle.std.proofs.Math.ListN.{get_or-map}
use Rattle.std.proofs.Math.Seq.{get_or-append_seam}
use Rattle.std.proofs.lemmas.List.{length-map}
use lib.ListN.{length-append}
use Rattle.coordinate_model.specs.Sequences.{IsRank}
use Rattle.coordinate_model.specs.Polynomial.{Polynomials}
use Rattle.coordinate_model.specs.BracketPolynomial.{BracketPolynomial, IsNormal}
use Rattle.coordinate_model.specs.Value.{Value}
use Rattle.coordinate_model.proofs.Hom.{map-append}
use Rattle.coordinate_model.proofs.Splits.{all_so, all_append, all_back, at_each}
use Rattle.step_types.specs.declared.measure.Measure.{Measure}
use Rattle.bracket_poly.specs.Sections.{Worked}
use Rattle.straightening.specs.Runs.{Stop}
use Rattle.cayley_terms.specs.declared.instr.Instr.{Instr}
use Rattle.cayley_terms.specs.declared.program.Program.{Program}
use Rattle.cayley_terms.specs.Figures.{Figure, no_figure, scalar}
use Rattle.cayley_terms.specs.Instrs.{made_behind, instr_measure, instr_figure}
use Rattle.cayley_terms.specs.Meaning.{Variables}
use Rattle.cayley_terms.specs.Programs.{EndsInOne, IsLast}
use Rattle.cayley_run.specs.Runs.{Log, at_start, with_instr, run_on, run_of}
use Rattle.cayley_run.specs.RunLaws.{IsEndOf, EndsWell, AllEndWell, IsValueOf, LastEnds, RunMeans}
use Rattle.cayley_run.proofs.InstrLaws.{Made, nothing_made, measures_of, figures_of, values_of, IsMade, Adds, HasScalar}
use Rattle.cayley_run.proofs.InstrLaws.{log_behind, figure_of, made_of, inner_instr, last_instr}

-- ---- what instructions make, alone

abbrev pub new_behind : {X : Type 0} → (List X → Instr → X) → List X → List Instr → List X
new_behind f before [] = []
new_behind f before (instr ∷ instrs) = f before instr ∷ new_behind f (before ++ f before instr ∷ []) instrs

pub made-new : {X : Type 0} (f : List X → Instr → X) (before : List X) (instrs : List Instr)
    → made_behind f before instrs ≡ before ++ new_behind f before instrs
unfolding made_behind
made-new f before [] = sym (append-nil before)
made-new {X} f before (instr ∷ instrs) =
    made-new f (before ++ f before instr ∷ []) instrs
    ∙ append_assoc before (f before instr ∷ []) (new_behind f (before ++ f before instr ∷ []) instrs)

made-first : {X : Type 0} (f : List X → Instr → X) (before : List X) (instr : Instr) (instrs : List Instr)
    → made_behind f before (instr ∷ instrs) ≡ made_behind f (before ++ f before instr ∷ []) instrs
unfolding made_behind
made-first f before instr instrs = refl

made-none : {X : Type 0} (f : List X → Instr → X) (before : List X) → made_behind f before [] ≡ before
unfolding made_behind
made-none f before = refl

-- ---- runs

-- the instructions with their steps, behind these measures
abbrev pub with_steps : ℕ → List Measure → List Instr → List (Instr × ℕ)
with_steps d before instrs = zip instrs (map (λ m. m.step) (new_behind (instr_measure d) before instrs))

-- a run that has stopped does nothing more
pub stopped : (d : ℕ) (log : Log) (stop : Stop) → log.stop ≡ Some stop → (instrs : List (Instr × ℕ))
    → run_on d log instrs ≡ log
stopped d log stop e [] = refl
stopped d log stop e (instr ∷ instrs) =
    ap (λ (o : Option Stop). elim o as (λ _. Log) [ Some s ↦ log | None ↦ run_on d (with_instr d log instr) instrs ]) e

-- and one that has not takes the next instruction
pub goes_on : (d : ℕ) (log : Log) → log.stop ≡ None → (instr : Instr × ℕ) (instrs : List (Instr × ℕ))
    → run_on d log (instr ∷ instrs) ≡ run_on d (with_instr d log instr) instrs
goes_on d log e instr instrs =
    ap (λ (o : Option Stop). elim o as (λ _. Log) [ Some s ↦ log | None ↦ run_on d (with_instr d log instr) instrs ]) e

-- what a finished run has made: a value for each object, and the coordinate of the last
pub record Finishes (d : ℕ) (figures : List (Figure Polynomials)) (log : Log) : Type 0 where
  pub made : List Made
  pub values : log.values ≡ values_of made
  pub same_figures : figures ≡ figures_of made
  pub all : AllByRecursion (λ x. IsValueOf d x.value x.figure) made
  pub last : HasScalar d (get_or figures (length figures - 1) (no_figure Polynomials)) log

-- what holds of a run that began behind these objects
pub record Means (d : ℕ) (figures : List (Figure Polynomials)) (log : Log) : Type 0 where
  pub sections : AllEndWell d log.objects
  pub finishes : log.stop ≡ None → Finishes d figures log

module _ (d : ℕ) (rank : IsRank d) where
  -- the objects that are made in all
  abbrev all_figures : List Made → List Instr → List (Figure Polynomials)
  all_figures made instrs = made_behind (instr_figure Variables d) (figures_of made) instrs

  last_means : (made : List Made) (log : Log) (instr : Instr) → AllByRecursion (IsMade d) made
      → log.values ≡ values_of made → AllEndWell d log.objects → IsLast d (measures_of made) instr
      → Means d (figures_of made ++ instr_figure Variables d (figures_of made) instr ∷ [])
      (with_instr d log (instr, (instr_measure d (measures_of made) instr).step))
  last_means made log instr all values sections h = record {
    sections = added.well;
    finishes = λ e. record {
      made = made ++ made_of d rank made log all values sections instr added.value ∷ [];
      values =
          added.values ∙ ap (λ vs. vs ++ added.value ∷ []) values
          ∙ sym (map-append (λ (x : Made). x.value) made (made_of d rank made log all values sections instr added.value ∷ []));
      same_figures =
          sym (map-append (λ (x : Made). x.figure) made (made_of d rank made log all values sections instr added.value ∷ []));
      all =
          all_append (λ (x : Made). IsValueOf d x.value x.figure) made
          (made_of d rank made log all values sections instr added.value ∷ [])
          (all_so (IsMade d) (λ (x : Made). IsValueOf d x.value x.figure) (λ x h. h.is_value) made all)
          ((added.good e).0, tt);
      last =
          subst (λ (f : Figure Polynomials). HasScalar d f (log_behind d rank made log all values sections instr))
          (sym at_last) (added.good e).1;
    };
  }
    where
      added : Adds d log
          (λ v. IsValueOf d v (figure_of d rank made log all values sections instr)
          × HasScalar d (figure_of d rank made log all values sections instr)
          (log_behind d rank made log all values sections instr))
          (log_behind d rank made log all values sections instr)
      added = last_instr d rank made log all values sections instr h

      fs : List (Figure Polynomials)
      fs = figures_of made

      f : Figure Polynomials
      f = instr_figure Variables d (figures_of made) instr

      at_last : get_or (fs ++ f ∷ []) (length (fs ++ f ∷ []) - 1) (no_figure Polynomials) ≡ f
      at_last =
          ap (λ n. get_or (fs ++ f ∷ []) n (no_figure Polynomials))
          (let l : length (fs ++ f ∷ []) ≡ length fs + 1 = length-append fs (f ∷ []) in
          let e : length (fs ++ f ∷ []) - 1 ≡ length fs = omega arith in e)
          ∙ get_or-append_seam fs f [] (no_figure Polynomials)

  pub run_on_means : (made : List Made) (log : Log) (instrs : List Instr) → AllByRecursion (IsMade d) made
      → log.values ≡ values_of made → AllEndWell d log.objects → log.stop ≡ None → EndsInOne d (measures_of made) instrs
      → Means d (all_figures made instrs) (run_on d log (with_steps d (measures_of made) instrs))
  run_on_means made log [] all values sections e h = absurd h
  run_on_means made log (instr ∷ []) all values sections e h =
      subst (Means d (all_figures made (instr ∷ [])))
      (sym (goes_on d log e (instr, (instr_measure d (measures_of made) instr).step) []))
      (subst (λ fs. Means d fs (with_instr d log (instr, (instr_measure d (measures_of made) instr).step)))
      (sym (made-first (instr_figure Variables d) (figures_of made) instr []
      ∙ made-none (instr_figure Variables d) (figures_of made ++ instr_figure Variables d (figures_of made) instr ∷ [])))
      (last_means made log instr all values sections h))
  run_on_means made log (instr ∷ next ∷ instrs) all values sections e h =
      subst (Means d (all_figures made (instr ∷ next ∷ instrs)))
      (sym (goes_on d log e (instr, (instr_measure d (measures_of made) instr).step)
      (with_steps d (measures_of made ++ instr_measure d (measures_of made) instr ∷ []) (next ∷ instrs))))
      (by_stop new.stop refl
      (λ x log all values sections e h. run_on_means (made ++ x ∷ []) log (next ∷ instrs) all values sections e h))
    where
      new : Log
      new = with_instr d log (instr, (instr_measure d (measures_of made) instr).step)

      added : Adds d log (λ v. IsMade d (made_of d rank made log all values sections instr v)) new
      added = inner_instr d rank made log all values sections instr h.0

      x : Made
      x = made_of d rank made log all values sections instr added.value

      rest : List (Instr × ℕ)
      rest = with_steps d (measures_of made ++ instr_measure d (measures_of made) instr ∷ []) (next ∷ instrs)

      -- the run from one more on
      Goes : Type 0
      Goes =
          (x : Made) (log : Log) → AllByRecursion (IsMade d) (made ++ x ∷ []) → log.values ≡ values_of (made ++ x ∷ [])
          → AllEndWell d log.objects → log.stop ≡ None → EndsInOne d (measures_of (made ++ x ∷ [])) (next ∷ instrs)
          → Means d (all_figures (made ++ x ∷ []) (next ∷ instrs))
          (run_on d log (with_steps d (measures_of (made ++ x ∷ [])) (next ∷ instrs)))

      by_stop : (o : Option Stop) → new.stop ≡ o → Goes
          → Means d (all_figures made (instr ∷ next ∷ instrs)) (run_on d new rest)
      by_stop (Some stop) s ih =
          subst (Means d (all_figures made (instr ∷ next ∷ instrs))) (sym (stopped d new stop s rest))
          (record { sections = added.well; finishes = λ k. absurd (let z = sym s ∙ k in cc) })
      by_stop None s ih =
          subst (λ fs. Means d fs (run_on d new rest))
          (ap (λ fs. made_behind (instr_figure Variables d) fs (next ∷ instrs))
          (map-append (λ (y : Made). y.figure) made (x ∷ []))
          ∙ sym (made-first (instr_figure Variables d) (figures_of made) instr (next ∷ instrs)))
          (subst (λ ms. Means d (all_figures (made ++ x ∷ []) (next ∷ instrs)) (run_on d new (with_steps d ms (next ∷ instrs))))
          (map-append (λ (y : Made). y.measure) made (x ∷ []))
          (ih x new (all_append (IsMade d) made (x ∷ []) all (added.good s, tt))
          (added.values ∙ ap (λ vs. vs ++ added.value ∷ []) values ∙ sym (map-append (λ (y : Made). y.value) made (x ∷ [])))
          added.well s
          (subst (λ ms. EndsInOne d ms (next ∷ instrs)) (sym (map-append (λ (y : Made). y.measure) made (x ∷ []))) h.1)))

-- ---- programs

pub length-new : {X : Type 0} (f : List X → Instr → X) (before : List X) (instrs : List Instr)
    → length (new_behind f before instrs) ≡ length instrs
length-new f before [] = refl
length-new f before (instr ∷ instrs) =
    let e = length-new f (before ++ f before instr ∷ []) instrs in omega arith

pub run_means : RunMeans
unfolding run_of
run_means options p = record {
  sections = means.sections;
  values = λ e n l.
      let f = means.finishes e in
      let m : length (figures_of f.made) ≡ length f.made = length-map f.made (λ x. x.figure) in
      let k : length p.instrs ≡ length (figures_of f.made) = sym all_figures-length ∙ ap (λ fs. length fs) f.same_figures in
      subst (λ (vs : List Value). IsValueOf p.rank (get_or vs n []) (get_or (all_figures-of p) n (no_figure Polynomials)))
      (sym f.values)
      (subst (λ (fs : List (Figure Polynomials)).
      IsValueOf p.rank (get_or (values_of f.made) n []) (get_or fs n (no_figure Polynomials))) (sym f.same_figures)
      (subst (λ (v : Value). IsValueOf p.rank v (get_or (figures_of f.made) n (no_figure Polynomials)))
      (sym (get_or-map (λ (x : Made). x.value) f.made n nothing_made))
      (subst (λ (g : Figure Polynomials). IsValueOf p.rank (get_or f.made n nothing_made).value g)
      (sym (get_or-map (λ (x : Made). x.figure) f.made n nothing_made))
      (at_each (λ (x : Made). IsValueOf p.rank x.value x.figure) f.made f.all n nothing_made (omega arith)))));
  conclusion = λ e.
      let f = means.finishes e in (
        f.last.end,
        f.last.last,
        f.last.same
            ∙ ap (λ n. scalar Polynomials p.rank (get_or (all_figures-of p) (n - 1) (no_figure Polynomials))) all_figures-length,
      );
}
  where
    all_figures-of : Program → List (Figure Polynomials)
    all_figures-of p = made_behind (instr_figure Variables p.rank) [] p.instrs

    all_figures-length : length (all_figures-of p) ≡ length p.instrs
    all_figures-length =
        ap (λ fs. length fs) (made-new (instr_figure Variables p.rank) [] p.instrs)
        ∙ length-new (instr_figure Variables p.rank) [] p.instrs

    means : Means p.rank (all_figures-of p) (run_on p.rank (at_start options) (zip p.instrs p.steps))
    means =
        subst (λ (ns : List ℕ). Means p.rank (all_figures-of p) (run_on p.rank (at_start options) (zip p.instrs ns)))
        (sym (p.formed.stepped ∙ ap (λ (ms : List Measure). map (λ m. m.step) ms)
        (made-new (instr_measure p.rank) [] p.instrs)))
        (run_on_means p.rank p.formed.rank [] (at_start options) p.instrs tt refl tt refl p.formed.each)

-- ---- the end of the last section

-- it is normal
pub last_is_normal : (d : ℕ) (log : Log) (end : BracketPolynomial) → AllEndWell d log.objects → LastEnds log end
    → IsNormal d 64 end
last_is_normal d log end h l =
    let object : Worked = record { number = l.number; step = l.step; sections = l.section ∷ [] } in
    let w = all_back (λ (o : Worked). AllByRecursion (EndsWell d) o.sections) l.front (object ∷ [])
    (subst (AllEndWell d) l.last h) in
    by_end l.section.end l.ends w.0.0
  where
    by_end : (o : Option BracketPolynomial) → o ≡ Some end
        → elim o as (λ _. Type 0) [ None ↦ Unit {0} | Some f ↦ IsEndOf d l.section.start f ] → IsNormal d 64 end
    by_end None e w = cc
    by_end (Some f) e w = subst (IsNormal d 64) (let same : f ≡ end = cc in same) w.normal
