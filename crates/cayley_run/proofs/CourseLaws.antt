-- What is kept of a run that is written as it goes is what the log says.
use Rattle.std.proofs.Common.{◌≡◌, ℕ, ◌+◌, List, [], ◌∷◌, ◌++◌, drop, length, refl, sym, ap, ap₂, subst, ◌∙◌}
use Rattle.std.proofs.Common.{append-nil, arith}
use Rattle.std.specs.Prelude.{⊤, ◌-◌, Option, Some, None, Result, Ok, Err, IfOk, flat_map, map, slice_get}
use Rattle.std.proofs.lemmas.List.{length-map}
use Rattle.std.proofs.lemmas.Option.{slice_get-map}
use Rattle.coordinate_model.specs.BracketPolynomial.{BracketPolynomial}
use Rattle.bracket_poly.specs.Tracked.{nothing}
use Rattle.std.specs.List.{AllByRecursion}
use Rattle.std.specs.Option.{option_map}
use Rattle.std.specs.Result.{IsErrAnd}
use Rattle.coordinate_model.proofs.Splits.{all_back}
use Rattle.coordinate_model.specs.Value as model
use Rattle.bracket_terms.specs.declared.extensor.Extensor.{Extensor}
use Rattle.bracket_poly.specs.Kept.{TrackedOf}
use Rattle.bracket_poly.specs.Sections.{Worked, value_from}
use Rattle.bracket_poly.specs.Values.{value_of}
use Rattle.bracket_poly.specs.declared.value.Value.{Value}
use Rattle.conic_points.specs.Points.{values_of}
use Rattle.proof_text.specs.Proofs.{IsSectionNamed, object_line, object_lines}
use Rattle.proof_text.specs.Writes.{Writes}
use Rattle.proof_text.specs.declared.error.WriteError.{WriteError}
use Rattle.proof_text.specs.declared.error.WriteError.TheVariants.{Memory}
use Rattle.proof_text.proofs.Writing.{writes_more, writes_none, same_lines}
use Rattle.step_types.specs.declared.names.Names.{Names}
use Rattle.cayley_run.specs.Courses.{IsCourseOf, Finishes, AddsPoint, last_of, first_polynomial, last_polynomial}
use Rattle.cayley_run.specs.Endings.{IsEnding}
use Rattle.cayley_terms.specs.declared.instr.Instr.{Instr}
use Rattle.cayley_run.specs.Making.{AddsMade, with_made}
use Rattle.cayley_run.specs.Results.{stop_of}
use Rattle.cayley_run.specs.Runs.{Log, with_instr, with_sections, with_starts, with_stop}
use Rattle.cayley_run.specs.Sections.{Sections, run_starts}
use Rattle.cayley_run.specs.Seen.{starts_of}
use Rattle.cayley_run.specs.Written.{AreNamed}
use Rattle.cayley_run.specs.declared.answer.Options.{Options}
use Rattle.cayley_run.specs.declared.answer.StopKind.{StopKind}
use Rattle.cayley_run.specs.declared.course.Course.{Course}
use Rattle.cayley_run.specs.declared.making.Made.{Made}
use Rattle.cayley_run.specs.declared.writing.Ending.{Ending}

-- lists with the same front have the same rest
pub same_rest : {A : Type 0} (xs ys zs : List A) → xs ++ ys ≡ xs ++ zs → ys ≡ zs
same_rest [] ys zs e = e
same_rest (x ∷ xs) ys zs e = same_rest xs ys zs (ap (λ us. drop 1 us) e)

-- where memory lacks behind lines, they are a front
pub writes_then_none : (a b : Option (List ℕ)) (i j : ℕ) (r : Result ⊤ WriteError) (ls : List (List ℕ))
    → Writes {T = ⊤} a b i j (Ok tt) ls → IsErrAnd r (λ e. e ≡ Memory) → Writes a b i j r ls
writes_then_none a b i j r ls wrote none =
    same_lines a b i j r (ls ++ []) ls (append-nil ls)
    (writes_more a b b i j j r ls [] wrote (writes_none b j r [] none))

module _ {d : ℕ} (old : Course d) (log : Log) (h : IsCourseOf old log) where
  -- the sections of starts are those that the log has of them
  same_sections : (starts : List (Extensor × TrackedOf d))
      → run_starts old.options.contract old.left (starts_of starts)
      ≡ run_starts log.options.contract log.left (starts_of starts)
  same_sections starts =
      ap₂ (λ (o : Options) (n : ℕ). run_starts o.contract n (starts_of starts)) h.options h.left

  -- ---- one object more

  module _ (new : Course d) (step : ℕ) (e : Ending d) (f : Finishes old new step e) where
    finished : (s : Sections) → IsEnding e s → IsCourseOf new (with_sections step log s)
    finished s is = record {
      options = f.options ∙ h.options;
      values = f.values ∙ ap₂ (λ (vs : List model.Value) (v : model.Value). vs ++ v ∷ []) h.values is.value;
      count =
          f.count ∙ ap (λ (n : ℕ). n + 1) h.count
          ∙ sym (length_more log.objects (record
          { number = length log.objects + 1; step = step; sections = s.sections }));
      left = f.left ∙ is.left;
      stop = ap (λ (o : Option StopKind). option_map stop_of o) f.stop ∙ is.stop;
    }
      where
        length_more : (os : List Worked) (o : Worked) → length (os ++ o ∷ []) ≡ length os + 1
        length_more [] o = refl
        length_more (x ∷ os) o = let e : length (os ++ o ∷ []) ≡ length os + 1 = length_more os o in omega arith

    pub finished_starts : (starts : List (Extensor × TrackedOf d))
        → IsEnding e (run_starts old.options.contract old.left (starts_of starts))
        → IsCourseOf new (with_starts step (starts_of starts) log)
    finished_starts starts is =
        finished (run_starts log.options.contract log.left (starts_of starts))
        (subst (λ (s : Sections). IsEnding e s) (same_sections starts) is)

    pub finished_stop : (kind : StopKind) → e.entries.items ≡ [] → e.left ≡ old.left → e.stop ≡ Some kind
        → IsCourseOf new (with_stop step (stop_of kind) log)
    finished_stop kind none left stop =
        finished (record { sections = []; left = log.left; stop = Some (stop_of kind) })
        (record {
          value = ap (λ es. value_of es) none;
          left = left ∙ h.left;
          stop = ap (λ (o : Option StopKind). option_map stop_of o) stop;
        })

  -- ---- a free point

  pub with_point : (new : Course d) (value : Value d) → AddsPoint old new value
      → IsCourseOf new (record log { values = log.values ++ value_of value.entries ∷ [] })
  with_point new value f = record {
    options = f.options ∙ h.options;
    values = f.values ∙ ap (λ (vs : List model.Value). vs ++ value_of value.entries ∷ []) h.values;
    count = f.count ∙ h.count;
    left = f.left ∙ h.left;
    stop = ap (λ (o : Option StopKind). option_map stop_of o) f.stop ∙ h.stop;
  }

  -- ---- the lines

  -- what is more in the log is the object that was written
  pub lines_more : (names : Names) (step : ℕ) (s : Sections) (more : List Worked)
      → (with_sections step log s).objects ≡ log.objects ++ more
      → object_lines names (record { number = old.objects + 1; step = step; sections = s.sections })
      ≡ flat_map (object_lines names) more
  lines_more names step s more e =
      ap (λ (n : ℕ). object_lines names (record { number = n + 1; step = step; sections = s.sections })) h.count
      ∙ sym (append-nil _) ∙ ap (λ os. flat_map (object_lines names) os) (same_rest log.objects _ more e)

  -- the same of the sections of starts
  pub starts_lines : (names : Names) (step : ℕ) (starts given : List (Extensor × TrackedOf d)) (more : List Worked)
      → given ≡ starts → (with_starts step (starts_of starts) log).objects ≡ log.objects ++ more
      → object_lines names (record {
        number = old.objects + 1;
        step = step;
        sections = (run_starts old.options.contract old.left (starts_of given)).sections;
      })
      ≡ flat_map (object_lines names) more
  starts_lines names step starts given more same e =
      ap (λ (s : Sections). object_lines names
      (record { number = old.objects + 1; step = step; sections = s.sections }))
      (ap (λ es. run_starts old.options.contract old.left (starts_of es)) same ∙ same_sections starts)
      ∙ lines_more names step (run_starts log.options.contract log.left (starts_of starts)) more e

  -- the sections of starts have names, where the objects of the log with them have
  pub starts_named : (names : Names) (step : ℕ) (starts : List (Extensor × TrackedOf d))
      → AreNamed names (with_starts step (starts_of starts) log).objects
      → AllByRecursion (IsSectionNamed names) (run_starts old.options.contract old.left (starts_of starts)).sections
  starts_named names step starts all =
      subst (λ (s : Sections). AllByRecursion (IsSectionNamed names) s.sections) (sym (same_sections starts))
      (all_back (λ (o : Worked). AllByRecursion (IsSectionNamed names) o.sections) log.objects _ all).0

-- what was made is more in the log
pub made_is : {d : ℕ} (values : List model.Value) (instr : Instr) (step : ℕ) (made shape : Made d) (log : Log)
    → AddsMade values instr step made → made ≡ shape → log.values ≡ values
    → with_instr d log (instr, step) ≡ with_made step shape log
made_is values instr step made shape log adds is same = adds log same ∙ ap (λ m. with_made step m log) is

pub made_objects : {d : ℕ} (values : List model.Value) (instr : Instr) (step : ℕ) (made shape : Made d) (log : Log)
    (more : List Worked) → AddsMade values instr step made → made ≡ shape → log.values ≡ values
    → (with_instr d log (instr, step)).objects ≡ log.objects ++ more
    → (with_made step shape log).objects ≡ log.objects ++ more
made_objects values instr step made shape log more adds is same e =
    ap (λ (l : Log). l.objects) (sym (made_is values instr step made shape log adds is same)) ∙ e

-- ---- the last polynomial

last_map : {A B : Type 0} (f : A → B) (xs : List A) → last_of (map f xs) ≡ option_map f (last_of xs)
last_map f xs = ap (λ n. slice_get (map f xs) (n - 1)) (length-map xs f) ∙ slice_get-map f xs (length xs - 1)

-- it is that of the first entry of the last value
pub last_by : {d : ℕ} (vs : List (Value d)) (o : Option (Value d)) → o ≡ slice_get vs (length vs - 1)
    → last_polynomial (values_of vs) ≡ elim o as (λ _. BracketPolynomial) [
      | None ↦ nothing.sum
      | Some v ↦ first_polynomial (value_of v.entries)
    ]
last_by {d = d} vs o e =
    ap first_in (last_map (λ (v : Value d). value_of v.entries) vs)
    ∙ ap (λ (p : Option (Value d)). first_in (option_map (λ v. value_of v.entries) p)) (sym e) ∙ by_last o
  where
    first_in : Option model.Value → BracketPolynomial
    first_in p = elim p [ None ↦ nothing.sum | Some v ↦ first_polynomial v ]

    by_last : (o : Option (Value d)) → first_in (option_map (λ v. value_of v.entries) o)
        ≡ elim o as (λ _. BracketPolynomial) [ None ↦ nothing.sum | Some v ↦ first_polynomial (value_of v.entries) ]
    by_last None = refl
    by_last (Some v) = refl

pub first_by : {d : ℕ} (es : List (Extensor × TrackedOf d)) (o : Option (Extensor × TrackedOf d)) → o ≡ slice_get es 0
    → first_polynomial (value_of es) ≡ elim o as (λ _. BracketPolynomial) [
      | None ↦ nothing.sum
      | Some e ↦ e.1.tracked.sum
    ]
first_by {d = d} es o e = by_entries es ∙ ap first_in (sym e)
  where
    first_in : Option (Extensor × TrackedOf d) → BracketPolynomial
    first_in p = elim p [ None ↦ nothing.sum | Some e ↦ e.1.tracked.sum ]

    by_entries : (es : List (Extensor × TrackedOf d)) → first_polynomial (value_of es) ≡ first_in (slice_get es 0)
    by_entries [] = refl
    by_entries (e ∷ es) = refl

-- and a copy of a polynomial has its value
pub copy_result : {d : ℕ} {E : Type 0} (result : Result (TrackedOf d) E) (p : TrackedOf d) (f : BracketPolynomial)
    → p.tracked.sum ≡ f → IfOk result (λ copy. copy ≡ p) → IfOk result (λ copy. copy.tracked.sum ≡ f)
copy_result (Err error) p f e h = tt
copy_result {d = d} (Ok copy) p f e h = ap (λ (q : TrackedOf d). q.tracked.sum) h ∙ e
