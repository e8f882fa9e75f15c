-- A text may give the samples.
use Rattle.std.proofs.Common.{◌≡◌, ℕ, zero, suc, ◌+◌, ◌-◌, ◌<◌, ◌≤◌, true, false, List, [], ◌∷◌, ◌++◌, refl, arith, lit≤, lit<}
use Rattle.std.specs.Prelude.{map, sum_by}
use Rattle.std.specs.List.{range_with_len, AllByRecursion}
use Rattle.std.proofs.lemmas.List.Sums.{sum_by-cons}
use Rattle.std.proofs.lemmas.Bool.{agree_below_at}
use Rattle.construction_reader.specs.Words.{is_name, is_keyword}
use Rattle.construction_reader.specs.Said.{Object, Sentence, Row, sentences_of}
use Rattle.construction_reader.specs.Grammar.{IsObject, IsSentence, is_conclusion, EndsOnce, free_names, definitions, conclusions, params_of, IsGiven, RisesFrom}
use Rattle.sample_maker.specs.declared.choice.Choice.{Choice}
use Rattle.sample_maker.specs.Sample.{made, definition, conclusion, chosen, choice_of, free, definition_row, sample_of}
use Rattle.sample_maker.proofs.Shown.{shown, made_shown}

-- ---- names

shown_name : (k : ℕ) → k < 13 → is_name (shown k) ≡ true
unfolding is_name is_keyword
shown_name k small = agree_below_at (λ k. is_name (shown k)) (λ _. true) 13 k refl small

made_name : (k : ℕ) → k < 13 → is_name (made k) ≡ true
made_name k small = rw (made_shown k) (shown_name k small)

-- the names of the points that are chosen are names
pub record HasNames (choice : Choice) : Type 0 where
  pub u : is_name (choice.u ∷ []) ≡ true
  pub v : is_name (choice.v ∷ []) ≡ true
  pub w : is_name (choice.w ∷ []) ≡ true

chosen_names : (r : ℕ) → r < 60 → HasNames (chosen r)
unfolding is_name is_keyword
chosen_names r small =
    let u = agree_below_at (λ r. let choice = chosen r in is_name (choice.u ∷ [])) (λ _. true) 60 r refl small in
    let v = agree_below_at (λ r. let choice = chosen r in is_name (choice.v ∷ [])) (λ _. true) 60 r refl small in
    let w = agree_below_at (λ r. let choice = chosen r in is_name (choice.w ∷ [])) (λ _. true) 60 r refl small in
    record { u = u; v = v; w = w }

letter_a : is_name (65 ∷ []) ≡ true
unfolding is_name is_keyword
letter_a = refl

letter_b : is_name (66 ∷ []) ≡ true
unfolding is_name is_keyword
letter_b = refl

-- ---- sentences

free_said : IsSentence free
unfolding is_name is_keyword
free_said = (lit< tt, refl)

definition_said : (name before : List ℕ) (choice : Choice) → is_name name ≡ true → is_name before ≡ true
    → HasNames choice → IsSentence (definition name before choice)
definition_said name before choice named behind names = (
  named,
  (
    record { names = (behind, names.u); shallow = lit≤ tt },
    record { names = (names.v, names.w); shallow = lit≤ tt },
  ),
)

named_said : (name : List ℕ) → is_name name ≡ true → IsObject (Object.Named name)
named_said name named = record { names = named; shallow = lit≤ tt }

conclusion_said : (name : List ℕ) → is_name name ≡ true → IsSentence (conclusion name)
conclusion_said name named = (refl, (named_said name named, (named_said _ letter_a, (named_said _ letter_b, tt))))

-- ---- the rows

-- these rows may stand from this line on, and are so many definitions and a conclusion
pub record IsTail (line count : ℕ) (rows : List Row) : Type 0 where
  pub each : AllByRecursion IsSentence (sentences_of rows)
  pub ends : EndsOnce (sentences_of rows)
  pub free : sum_by free_names (sentences_of rows) ≡ 0
  pub defined : sum_by definitions (sentences_of rows) ≡ count
  pub params : params_of [] (sentences_of rows) ≡ []
  pub concluded : sum_by conclusions (sentences_of rows) ≡ 1
  pub rising : RisesFrom line rows

ends_more : (s : Sentence) (others : List Sentence) → is_conclusion s ≡ false → EndsOnce others → EndsOnce (s ∷ others)
ends_more s [] other ends = absurd ends
ends_more s (next ∷ others) other ends = (other, ends)

-- the rows of so many definitions, from definition a on, and of the conclusion on this line
abbrev rest_of : ℕ → ℕ → ℕ → ℕ → List Row
rest_of number last a count =
    map (definition_row number) (range_with_len a count)
    ++ record { line = last; sentence = conclusion (made number) } ∷ []

definition_row_said : (number a : ℕ) → a < 13
    → IsSentence (definition (made a) (made (a - 1)) (chosen (choice_of number a)))
definition_row_said number a small =
    let names = chosen_names (choice_of number a) (omega arith) in
    definition_said (made a) (made (a - 1)) _ (made_name a small) (made_name (a - 1) (omega arith)) names

tail : (number last a count line : ℕ) → number < 13 → a + count ≤ 13 → line ≡ a + 3 → last ≡ a + count + 3
    → IsTail line count (rest_of number last a count)
tail number last a zero line small fits here end = record {
  each = (conclusion_said (made number) (made_name number small), tt);
  ends = refl;
  free = refl;
  defined = refl;
  params = refl;
  concluded = refl;
  rising = (omega arith, tt);
}
tail number last a (suc n) line small fits here end =
    let others = sentences_of (rest_of number last (a + 1) n) in
    let first = definition (made a) (made (a - 1)) (chosen (choice_of number a)) in
    let rest = tail number last (a + 1) n (a + 3 + 1) small (omega arith) (omega arith) (omega arith) in
    record {
      each = (definition_row_said number a (omega arith), rest.each);
      ends = ends_more first others refl rest.ends;
      free = omega (arith, rest.free, sum_by-cons free_names first others);
      defined = omega (arith, rest.defined, sum_by-cons definitions first others);
      params = rest.params;
      concluded = omega (arith, rest.concluded, sum_by-cons conclusions first others);
      rising = (omega arith, rest.rising);
    }

pub given : (number : ℕ) → number ≤ 12 → IsGiven (sample_of number)
given number small =
    let others = sentences_of (rest_of number (number + 4) 1 number) in
    let rest = tail number (number + 4) 1 number 4 (omega arith) (omega arith) refl (omega arith) in
    record {
      good = record {
        ranked = (lit≤ tt, lit≤ tt);
        each = (free_said, rest.each);
        ends = ends_more free others refl rest.ends;
        few_free = omega (arith, rest.free, sum_by-cons free_names free others);
        few_definitions = omega (arith, rest.defined, sum_by-cons definitions free others);
        few_params = rw rest.params (lit≤ tt);
        few_conclusions = omega (arith, rest.concluded, sum_by-cons conclusions free others);
      };
      rising = (lit≤ tt, rest.rising);
    }
