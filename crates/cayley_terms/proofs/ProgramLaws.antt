-- The program of a good construction.
use Rattle.std.proofs.Common.{◌≡◌, ℕ, ◌-◌, ◌≤◌, List, [], ◌∷◌, length, map, fold, get_or, Option, sym, ap, ◌∙◌, subst, refl, arith, length-append}
use Rattle.std.specs.Prelude.{sum_by, unwrap_or}
use Rattle.std.specs.List.{AllByRecursion, enumerate_from, flat_map}
use Rattle.std.proofs.lemmas.List.Sums.{sum_by-cons}
use Rattle.construction_reader.specs.declared.construction.Construction.{Construction}
use Rattle.construction_reader.specs.Seen.{account}
use Rattle.construction_reader.specs.Said.{Sentence, Account, sentences_of}
use Rattle.construction_reader.specs.Rules.{version_1}
use Rattle.construction_reader.specs.Grammar.{free_names, definitions, conclusions, params_of, IsAccount}
use Rattle.construction_reader.proofs.ConclusionLaws.{ends_once}
use Rattle.step_types.specs.declared.measure.Measure.{Measure}
use Rattle.step_types.specs.Known.{nothing, found}
use Rattle.step_types.specs.declared.names.Names.{Names}
use Rattle.step_types.specs.Checks.{IsGood, objects_in, objects_of, free_in, names_of}
use Rattle.cayley_terms.specs.declared.instr.Instr.{Instr}
use Rattle.cayley_terms.specs.declared.instr.Instr.TheVariants as instr
use Rattle.cayley_terms.specs.Figures.{no_figure, scalar}
use Rattle.coordinate_model.specs.Polynomial.{Polynomials}
use Rattle.cayley_terms.specs.Meaning.{Frame, Variables, empty_scene, scene_of, conclusion_polynomial}
use Rattle.cayley_terms.specs.Meaning.{definitions as definitions_of}
use Rattle.cayley_terms.specs.Instrs.{made_behind, figures, no_measure, measures}
use Rattle.cayley_terms.specs.Programs.{IsProgram, EndsInOne}
use Rattle.cayley_terms.specs.Straight.{Lowered, row_lowered, lowered}
use Rattle.cayley_terms.specs.Straight as straight
use Rattle.cayley_terms.specs.Room.{Fits}
use Rattle.cayley_terms.specs.Kept.{ends, defined_in, definition_measures, IsNamed}
use Rattle.cayley_terms.proofs.Sound.{IsGivenBelow}
use Rattle.cayley_terms.proofs.Params.{all_say}
use Rattle.cayley_terms.proofs.Rows.{AreFound, Matches}
use Rattle.cayley_terms.proofs.Whole.{points_at_end, defined_at_end, IsWhole, whole_rows}

-- the names of the parameters of a construction
abbrev pub params_in : Account → List (List ℕ)
params_in c = params_of [] (sentences_of c.rows)

module _ (F : Frame) (c : Account) (good : IsGood c) (given : IsAccount c.rank (sentences_of c.rows))
    (one : sum_by conclusions (sentences_of c.rows) ≡ 1) where
  at_head : Matches F c.rank (length (params_in c)) straight.nothing (empty_scene F) [] []
  unfolding made_behind
  at_head =
      record {
        all = [];
        sound = record { inner = tt; lines = refl; marks = refl; figures = refl; measures = refl; free = tt };
        tied = record { ties = []; numbered = refl; measured = refl; meant = refl; each = tt };
        points = refl;
        count = refl;
        counted = refl;
        each = tt;
        few = omega arith;
        distinct = tt;
      }

  -- the straight list is the whole construction
  pub whole : IsWhole F c.rank (params_in c) (lowered c) (scene_of F c) (objects_of c)
      (flat_map defined_in (sentences_of c.rows))
  unfolding lowered scene_of
  whole =
      let ranked = given.ranked in
      let points = given.few_free in
      subst (λ r. IsWhole F c.rank (params_in c) (lowered c) (scene_of F c) (objects_in r)
      (flat_map defined_in (sentences_of c.rows))) (sym good.1)
      (whole_rows F c.rank (params_in c) (omega arith) ranked.1 given.few_params c.rows straight.nothing (empty_scene F) nothing good.0 []
      at_head good.1 given.each (all_say [] (sentences_of c.rows)) (ends_once version_1 (sentences_of c.rows) given.ends one)
      (omega (arith, points)))

  -- as many points and definitions as the text has
  pub points_are : (lowered c).points ≡ sum_by free_names (sentences_of c.rows)
  unfolding scene_of
  points_are =
      let e = points_at_end F c.rank (params_in c) (sentences_of c.rows) (empty_scene F) in
      let p = whole.points in
      omega (arith, e, p)

  pub definitions_are : (lowered c).definitions ≡ sum_by definitions (sentences_of c.rows)
  unfolding scene_of
  definitions_are =
      let e = defined_at_end F c.rank (params_in c) (sentences_of c.rows) (empty_scene F) in
      let p = whole.count in
      omega (arith, e, p)

  -- there is room for it
  pub fits_whole : Fits (lowered c)
  fits_whole =
      let points = points_are in
      let definitions = definitions_are in
      let few_free = given.few_free in
      let few_definitions = given.few_definitions in
      let few = whole.few in
      record {
        instrs = let small : length (lowered c).instrs ≤ 1040500 = omega (arith, points, definitions, few_free, few_definitions, few) in omega arith;
        points = omega (arith, points, few_free);
        definitions = omega (arith, definitions, few_definitions);
        names = whole.distinct;
      }

  -- the measures of the definitions are those of the step rules
  found_map : (made : List (List ℕ × Measure)) (names : List (List ℕ)) (ms : List Measure) → AreFound made names ms
      → ms ≡ map (λ name. unwrap_or (found name made) no_measure) names
  found_map made [] [] each = refl
  found_map made [] (m ∷ ms) each = absurd each
  found_map made (name ∷ names) [] each = absurd each
  found_map made (name ∷ names) (m ∷ ms) each =
      ap (λ (o : Option Measure). unwrap_or o no_measure ∷ ms) (sym each.0)
      ∙ ap (λ rest. unwrap_or (found name made) no_measure ∷ rest) (found_map made names ms each.1)

  pub measures_kept : ends (lowered c).defined (measures c.rank (lowered c).instrs)
      ≡ enumerate_from 0 (definition_measures c)
  measures_kept =
      whole.ended.measured ∙ ap (enumerate_from 0) (found_map (objects_of c) _ whole.all whole.each)

  pub definitions_kept : ends (lowered c).defined (figures F c.rank (lowered c).instrs)
      ≡ enumerate_from 0 (scene_of F c).defined
  definitions_kept = whole.ended.meant

  pub conclusion_kept : scalar F.ring c.rank
      (get_or (figures F c.rank (lowered c).instrs) (length (lowered c).instrs - 1) (no_figure F.ring))
      ≡ scalar F.ring c.rank (scene_of F c).concluded
  conclusion_kept = ap (scalar F.ring c.rank) whole.ended.last

  -- points and parameters are numbers of names
  names_count : (sentences : List Sentence) → length (flat_map free_in sentences) ≡ sum_by free_names sentences
  names_count [] = refl
  names_count (Sentence.Free names ∷ sentences) =
      omega (
        arith,
        names_count sentences,
        sum_by-cons free_names (Sentence.Free names) sentences,
        length-append names (flat_map free_in sentences),
      )
  names_count (Sentence.Define kind name recipe ∷ sentences) =
      omega (arith, names_count sentences, sum_by-cons free_names (Sentence.Define kind name recipe) sentences)
  names_count (Sentence.Conclude claim ∷ sentences) =
      omega (arith, names_count sentences, sum_by-cons free_names (Sentence.Conclude claim) sentences)

  given_named : (n : ℕ) (names : Names) (instrs : List Instr) → n ≡ length names.free
      → AllByRecursion (IsGivenBelow (length names.params) n) instrs → AllByRecursion (IsNamed names) instrs
  given_named n names [] same all = tt
  given_named n names (i ∷ instrs) same all = (named i all.0, given_named n names instrs same all.1) where
    named : (i : Instr) → IsGivenBelow (length names.params) n i → IsNamed names i
    named (instr.Free k) below = omega arith
    named (instr.Join a b) below = tt
    named (instr.Meet a b) below = tt
    named (instr.On a b s t) below = below
    named (instr.Conic p1 p2 p3 p4 p5 p6) below = tt

  pub names_kept : AllByRecursion (IsNamed (names_of c)) (lowered c).instrs
  names_kept =
      given_named (lowered c).points (names_of c) (lowered c).instrs
      (points_are ∙ sym (names_count (sentences_of c.rows))) whole.ended.free

-- from the head of the text on
pub lowered_from : (c : Account) (start : Lowered) → start ≡ straight.nothing
    → fold (row_lowered (params_in c)) start c.rows ≡ lowered c
unfolding lowered
lowered_from c start at_start = ap (λ (s : Lowered). fold (row_lowered (params_in c)) s c.rows) at_start

-- ---- the program

-- the rule of a program, of the straight list
pub program_rule : (c : Account) (l : Lowered) (steps : List ℕ) → IsGood c
    → IsAccount c.rank (sentences_of c.rows) → sum_by conclusions (sentences_of c.rows) ≡ 1 → l ≡ lowered c
    → steps ≡ map (λ m. m.step) (measures c.rank l.instrs)
    → IsProgram c.rank l.instrs steps l.lines l.defined
program_rule c l steps good given one same stepped =
    let all = whole Variables c good given one in
    let rule : IsProgram c.rank (lowered c).instrs (map (λ m. m.step) (measures c.rank (lowered c).instrs))
    (lowered c).lines (lowered c).defined =
    record {
      rank = (let ranked = given.ranked in omega arith, given.ranked.1);
      few = (fits_whole Variables c good given one).instrs;
      each = all.ended.each;
      stepped = refl;
      lined = all.ended.lines;
      marked = all.ended.marks;
    } in
    subst (λ (ss : List ℕ). IsProgram c.rank l.instrs ss l.lines l.defined) (sym stepped)
    (subst (λ (k : Lowered). IsProgram c.rank k.instrs (map (λ m. m.step) (measures c.rank k.instrs)) k.lines k.defined)
    (sym same) rule)

-- what was put together is the straight list
pub record IsPut (c : Account) (d : ℕ) (instrs : List Instr) (lines : List ℕ) (defined : List (Option ℕ)) : Type 0 where
  pub rank : d ≡ c.rank
  pub instrs_are : instrs ≡ (lowered c).instrs
  pub lines_are : lines ≡ (lowered c).lines
  pub defined_are : defined ≡ (lowered c).defined

pub put_of : (now read : Construction) (l view : Lowered) (instrs : List Instr) (lines : List ℕ)
    (defined : List (Option ℕ)) → read ≡ now → l ≡ lowered (account read) → view ≡ l → instrs ≡ view.instrs
    → lines ≡ view.lines → defined ≡ view.defined → IsPut (account now) read.rank instrs lines defined
put_of now read l view instrs lines defined same made seen instrs_are lines_are defined_are =
    let whole = seen ∙ made ∙ ap (λ (k : Construction). lowered (account k)) same in
    record {
      rank = ap (λ (k : Construction). k.rank) same;
      instrs_are = instrs_are ∙ ap (λ (k : Lowered). k.instrs) whole;
      lines_are = lines_are ∙ ap (λ (k : Lowered). k.lines) whole;
      defined_are = defined_are ∙ ap (λ (k : Lowered). k.defined) whole;
    }

module _ (c : Account) (d : ℕ) (instrs : List Instr) (lines : List ℕ) (defined : List (Option ℕ))
    (put : IsPut c d instrs lines defined) (good : IsGood c)
    (given : IsAccount c.rank (sentences_of c.rows)) (one : sum_by conclusions (sentences_of c.rows) ≡ 1) where
  pub put_definitions : ends defined (figures Variables d instrs) ≡ enumerate_from 0 (definitions_of Variables c)
  put_definitions = rw (put.rank, put.instrs_are, put.defined_are) (definitions_kept Variables c good given one)

  pub put_measures : ends defined (measures d instrs) ≡ enumerate_from 0 (definition_measures c)
  put_measures = rw (put.rank, put.instrs_are, put.defined_are) (measures_kept Variables c good given one)

  pub put_conclusion : scalar Polynomials d
      (get_or (figures Variables d instrs) (length instrs - 1) (no_figure Polynomials)) ≡ conclusion_polynomial c
  put_conclusion = rw (put.rank, put.instrs_are) (conclusion_kept Variables c good given one)

  pub put_names : AllByRecursion (IsNamed (names_of c)) instrs
  put_names = rw (put.instrs_are) (names_kept Variables c good given one)

  pub put_rule : (steps : List ℕ) → steps ≡ map (λ m. m.step) (measures d instrs)
      → IsProgram d instrs steps lines defined
  put_rule steps stepped =
      let stepped_so : steps ≡ map (λ m. m.step) (measures c.rank (lowered c).instrs) =
      stepped ∙ rw (put.rank, put.instrs_are) refl in
      rw (put.rank, put.instrs_are, put.lines_are, put.defined_are)
      (program_rule c (lowered c) steps good given one refl stepped_so)

  pub put_each : EndsInOne d [] instrs
  put_each = rw (put.rank, put.instrs_are) (whole Variables c good given one).ended.each
