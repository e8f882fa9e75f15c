-- Objects that are worked out: their sections end well, and where nothing stopped them their values have the coordinates
-- of the starts.
use Rattle.std.proofs.Common.{◌≡◌, ℕ, ◌+◌, Bool, true, false, cond, List, [], ◌∷◌, ◌++◌, map, filter, length}
use Rattle.std.proofs.Common.{refl, sym, ap, subst, ◌∙◌, arith}
use Rattle.std.specs.Prelude.{Option, Some, None}
use Rattle.std.specs.List.{AllByRecursion}
use Rattle.coordinate_model.specs.Sequences.{IsRank}
use Rattle.coordinate_model.specs.BracketPolynomial.{BracketPolynomial, IsBracketPolynomial, value}
use Rattle.coordinate_model.specs.Starts.{Product, reached, starts, has_term}
use Rattle.coordinate_model.specs.Value.{Value, coordinates}
use Rattle.coordinate_model.proofs.BracketPolynomialLaws.{value-hom}
use Rattle.coordinate_model.proofs.Grouping.{Ascend, ascend-reached}
use Rattle.coordinate_model.proofs.Splits.{all_so, all_map, all_append, all_filter}
use Rattle.coordinate_model.proofs.StartKeys.{start-is, IsProduct}
use Rattle.coordinate_model.proofs.StartLaws.{zero_entries}
use Rattle.coordinate_model.proofs.StartSizes.{IsEntry, IsSizedProduct, all_reached}
use Rattle.coordinate_model.proofs.ValueLaws.{coordinates-none, coordinates-scalar}
use Rattle.bracket_poly.specs.Sections.{Rewritten, Worked, value_from}
use Rattle.bracket_poly.specs.Tracked.{Tracked, Limit, nothing}
use Rattle.shuffle_meet.specs.Stops.{tracked_at, tracked_entries, first_stop, Start}
use Rattle.straightening.specs.Runs.{limit_stop}
use Rattle.cayley_run.specs.Sections.{Sections, run_starts}
use Rattle.shuffle_meet.specs.SectionStarts.{is_conclusion, section_starts}
use Rattle.cayley_run.specs.Runs.{Log, with_sections, with_object}
use Rattle.cayley_run.specs.RunLaws.{EndsWell, AllEndWell, LastEnds}
use Rattle.shuffle_meet.proofs.StartSums.{entries_at, tracked_sum, entries-tracked}
use Rattle.cayley_run.proofs.SectionLaws.{IsStart, AreEnded, starts_well, starts_ended, same_coordinates, entries_ended}

-- with sections that end well, each section of the log does
pub worked_well : (d step : ℕ) (log : Log) (s : Sections) → AllEndWell d log.objects → AllByRecursion (EndsWell d) s.sections
    → AllEndWell d (with_sections step log s).objects
worked_well d step log s h w =
    all_append (λ (o : Worked). AllByRecursion (EndsWell d) o.sections) log.objects
    (record { number = length log.objects + 1; step = step; sections = s.sections } ∷ []) h (w, tt)

-- the log ends with one section, of this start
pub record EndsOne (start : BracketPolynomial) (new : Log) : Type 0 where
  pub end : BracketPolynomial
  pub last : LastEnds new end
  pub same : value end ≡ value start

pub one_section : (d step : ℕ) (log : Log) (s : Sections) (f : Tracked) → AreEnded d (([], f) ∷ []) s.sections
    → EndsOne f.sum (with_sections step log s)
one_section d step log s f h = by_sections s.sections h refl
  where
    by_sections : (ss : List Rewritten) → AreEnded d (([], f) ∷ []) ss → s.sections ≡ ss
        → EndsOne f.sum (with_sections step log s)
    by_sections [] h e = absurd h
    by_sections (x ∷ y ∷ ss) h e = absurd h.1
    by_sections (x ∷ []) h e = record {
      end = h.0.end;
      last = record {
        front = log.objects;
        number = length log.objects + 1;
        step = step;
        section = x;
        last =
            ap (λ (ss : List Rewritten). log.objects
            ++ record { number = length log.objects + 1; step = step; sections = ss } ∷ []) e;
        ends = h.0.ended;
      };
      same = h.0.well.same_value;
    }

-- products of an object of this step in rank d, whose extensors have a points: none where it is a conclusion
module _ (d a step : ℕ) (rank : IsRank d) (ps : List Product) (sized : AllByRecursion (IsSizedProduct d 64 a) ps)
    (none : is_conclusion d step ≡ true → a ≡ 0) where
  -- ---- the starts

  entries-are : AllByRecursion (IsStart d a) (tracked_entries ps)
  entries-are =
      all_filter (IsStart d a) (λ e. has_term (e.0, e.1.sum)) (map (λ x. (x, tracked_at x ps)) (reached ps))
      (all_map (λ x. length x ≡ a) (IsStart d a) (λ x. (x, tracked_at x ps))
      (λ x e. record {
        points = e;
        keys =
            subst (IsBracketPolynomial d 64) (sym (tracked_sum x ps))
            (start-is d 64 x ps (all_so (IsSizedProduct d 64 a) (IsProduct d 64) (λ p h. h.product) ps sized));
      })
      (reached ps)
      (all_reached (λ x. length x ≡ a) ps
      (all_so (IsSizedProduct d 64 a) (λ p. length p.extensor ≡ a) (λ p h. h.points) ps sized)))

  abbrev starts_by : Bool → List Start → List Start
  starts_by b es = elim es [ [] ↦ cond b (([], nothing) ∷ []) [] | start ∷ others ↦ start ∷ others ]

  pub starts-are : AllByRecursion (IsStart d a) (section_starts d step ps)
  starts-are = by_entries (tracked_entries ps) entries-are (is_conclusion d step) refl
    where
      by_entries : (es : List Start) → AllByRecursion (IsStart d a) es → (b : Bool) → is_conclusion d step ≡ b
          → AllByRecursion (IsStart d a) (starts_by b es)
      by_entries [] h true e = (record { points = sym (none e); keys = tt }, tt)
      by_entries [] h false e = tt
      by_entries (start ∷ others) h b e = h

  pub starts-same : (K : List ℕ) → coordinates (entries_at (section_starts d step ps)) K ≡ coordinates (starts ps) K
  starts-same K =
      by_entries (tracked_entries ps) (is_conclusion d step)
      ∙ ap (λ A. coordinates A K) (entries-tracked ps) ∙ zero_entries (starts ps) K
    where
      by_entries : (es : List Start) (b : Bool)
          → coordinates (entries_at (starts_by b es)) K ≡ coordinates (entries_at es) K
      by_entries [] true =
          coordinates-scalar nothing.sum K ∙ value-hom.to_zero ∙ sym (coordinates-none K)
      by_entries [] false = refl
      by_entries (start ∷ others) b = refl

  -- a conclusion has one start, without points
  pub one_start : is_conclusion d step ≡ true → (f : Tracked) × (section_starts d step ps ≡ ([], f) ∷ [])
  one_start e =
      by_reached (reached ps) (ascend-reached ps)
      (all_reached (λ x. length x ≡ a) ps
      (all_so (IsSizedProduct d 64 a) (λ p. length p.extensor ≡ a) (λ p h. h.points) ps sized))
    where
      kept : List (List ℕ) → List Start
      kept xs = filter (λ e. has_term (e.0, e.1.sum)) (map (λ x. (x, tracked_at x ps)) xs)

      from : List Start → Type 0
      from es = (f : Tracked) × (starts_by (is_conclusion d step) es ≡ ([], f) ∷ [])

      no_entry : from []
      no_entry = (nothing, ap (λ (b : Bool). cond {A = List Start} b (([], nothing) ∷ []) []) e)

      by_test : (b : Bool) (f : Tracked) → from (cond b (([], f) ∷ []) [])
      by_test true f = (f, refl)
      by_test false f = no_entry

      by_reached : (xs : List (List ℕ)) → Ascend xs → AllByRecursion (λ x. length x ≡ a) xs → from (kept xs)
      by_reached [] h l = no_entry
      by_reached ([] ∷ []) h l = by_test (has_term ([], (tracked_at [] ps).sum)) (tracked_at [] ps)
      by_reached ((i ∷ x) ∷ xs) h l = absurd (let z = none e in let w = l.0 in omega arith)
      by_reached ([] ∷ [] ∷ xs) h l = absurd (let w = h.0.0 in cc)
      by_reached ([] ∷ (i ∷ y) ∷ xs) h l = absurd (let z = none e in let w = l.1.0 in omega arith)

  -- ---- the object

  -- what the object adds to a log
  pub record HasObject (log new : Log) : Type 0 where
    pub well : AllEndWell d new.objects
    pub value : Value
    pub values : new.values ≡ log.values ++ value ∷ []
    pub same : new.stop ≡ None → (K : List ℕ) → coordinates value K ≡ coordinates (starts ps) K
    pub entries : new.stop ≡ None → AllByRecursion (IsEntry d 64 a) value

  -- and what a conclusion ends with
  pub record HasEnd (new : Log) : Type 0 where
    pub end : BracketPolynomial
    pub last : LastEnds new end
    pub same : (K : List ℕ) → value end ≡ coordinates (starts ps) K

  module _ (log : Log) where
    abbrev object_by : Option Limit → Log
    object_by o = elim o [
      | Some limit ↦ with_sections step log (record { sections = []; left = log.left; stop = Some (limit_stop limit) })
      | None ↦ with_sections step log (run_starts log.options.contract log.left (section_starts d step ps))
    ]

    pub has_object : AllEndWell d log.objects → HasObject log (with_object d step ps log)
    has_object h = by_limit (first_stop [] ps)
      where
        s : Sections
        s = run_starts log.options.contract log.left (section_starts d step ps)

        by_limit : (o : Option Limit) → HasObject log (object_by o)
        by_limit (Some limit) = record {
          well = worked_well d step log (record { sections = []; left = log.left; stop = Some (limit_stop limit) }) h tt;
          value = [];
          values = refl;
          same = λ e. cc;
          entries = λ e. cc;
        }
        by_limit None = record {
          well = worked_well d step log s h
              (starts_well d a rank log.options.contract log.left (section_starts d step ps) starts-are);
          value = value_from s.sections;
          values = refl;
          same = λ e K.
              same_coordinates d (section_starts d step ps) s.sections
              (starts_ended d a rank log.options.contract log.left (section_starts d step ps) starts-are e) K
              ∙ starts-same K;
          entries = λ e.
              entries_ended d a (section_starts d step ps) s.sections
              (starts_ended d a rank log.options.contract log.left (section_starts d step ps) starts-are e) starts-are;
        }

    pub has_end : is_conclusion d step ≡ true → (with_object d step ps log).stop ≡ None
        → HasEnd (with_object d step ps log)
    has_end c = by_limit (first_stop [] ps)
      where
        s : Sections
        s = run_starts log.options.contract log.left (section_starts d step ps)

        by_limit : (o : Option Limit) → (object_by o).stop ≡ None → HasEnd (object_by o)
        by_limit (Some limit) e = cc
        by_limit None e =
            let one = one_start c in
            let last = one_section d step log s one.0
            (subst (λ (es : List Start). AreEnded d es s.sections) one.1
            (starts_ended d a rank log.options.contract log.left (section_starts d step ps) starts-are e)) in
            record {
              end = last.end;
              last = last.last;
              same = λ K.
                  last.same ∙ sym (coordinates-scalar one.0.sum K)
                  ∙ ap (λ (es : List Start). coordinates (entries_at es) K) (sym one.1) ∙ starts-same K;
            }
