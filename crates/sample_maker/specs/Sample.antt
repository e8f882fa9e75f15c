-- What the sample construction of each number says.
use Rattle.std.specs.Prelude.{ℕ, ◌+◌, ◌-◌, ◌*◌, ◌/◌, ◌%◌, ◌==◌, if◌then◌else◌}
use Rattle.std.specs.Prelude.{List, [], ◌∷◌, ◌++◌, map, remove, slice_index, codes, decimal}
use Rattle.std.specs.List.{range_with_len}
use Rattle.std.specs.Fn.{iterate}
use Rattle.construction_reader.specs.declared.types.ObjectKind.TheVariants.{Point}
use Rattle.construction_reader.specs.Said.{Object, Recipe, Claim, Sentence, Row, Account}
use Rattle.sample_maker.specs.declared.choice.Choice.{Choice}

-- ---- the choices

-- the number behind x in the sequence that the choices come from
abbrev pub next : ℕ → ℕ
next x = (421 * x + 1663) % 7875

-- the choice, one of sixty, of definition k in the sample of this number
abbrev pub choice_of : ℕ → ℕ → ℕ
choice_of number k = iterate next k number % 60

-- the points of choice r: u of the five from B to F, v of the four that are left, and w of the three then left
abbrev pub chosen : ℕ → Choice
chosen r =
    let five = codes "BCDEF" in
    let four = remove five (r % 5) in
    let three = remove four (r / 5 % 4) in
    record { u = slice_index five (r % 5); v = slice_index four (r / 5 % 4); w = slice_index three (r / 20) }

-- ---- the sentences

-- the point of this letter
abbrev pub point : ℕ → Object
point letter = Object.Named (letter ∷ [])

-- the name of the point that definition k makes, and A in place of one before the first
abbrev pub made : ℕ → List ℕ
made k = if k == 0 then codes "A" else codes "P" ++ decimal k

-- a point of this name: the meet of the line through the point before it and u with the line through v and w
abbrev pub definition : List ℕ → List ℕ → Choice → Sentence
definition name before choice =
    let first = Object.Join (Object.Named before) (point choice.u) in
    let second = Object.Join (point choice.v) (point choice.w) in
    Sentence.Define Point name (Recipe.Meet first second)

-- the free points A to F
abbrev pub free : Sentence
free = Sentence.Free (map (λ letter. letter ∷ []) (codes "ABCDEF"))

-- the point of this name is on the line through A and B
abbrev pub conclusion : List ℕ → Sentence
conclusion name = Sentence.Conclude (Claim.Collinear (map Object.Named (name ∷ codes "A" ∷ codes "B" ∷ [])))

-- ---- the whole

-- definition k of the sample of this number, on its line
abbrev pub definition_row : ℕ → ℕ → Row
definition_row number k = record {
  line = k + 3;
  sentence = definition (made k) (made (k - 1)) (chosen (choice_of number k));
}

-- the free points, as many definitions as the number says, and the conclusion, on the lines 3, 4, 5 and so on
abbrev pub rows_of : ℕ → List Row
rows_of number =
    record { line = 3; sentence = free }
    ∷ (map (definition_row number) (range_with_len 1 number)
    ++ record { line = number + 4; sentence = conclusion (made number) } ∷ [])

-- what the sample of this number says
abbrev pub sample_of : ℕ → Account
sample_of number = record { rank = 3; rows = rows_of number }
