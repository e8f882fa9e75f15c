-- The step rules of one statement, and which of its faults decides.
use Rattle.std.specs.Prelude.{ℕ, Bool, true, false, not, ◌&&◌, ◌||◌, ◌==◌, nat_lt, List, [], ◌∷◌, length, Option, Some, None, is_some, Result, Ok, Err, if◌then◌else◌}
use Rattle.std.specs.List.{list_all, list_any}
use Rattle.construction_reader.specs.Words.{◌is◌}
use Rattle.construction_reader.specs.Said.{Object, Recipe, Claim, Sentence}
use Rattle.construction_reader.specs.Grammar.{claim_args}
use Rattle.step_types.specs.declared.measure.Measure.{Measure}
use Rattle.step_types.specs.declared.fault.StepKind.{StepKind}
use Rattle.step_types.specs.declared.fault.StepKind.TheVariants.{Rank, Twice, Unknown, Step, Rows, Degree}
use Rattle.step_types.specs.Measures.{kind_step}
use Rattle.step_types.specs.Known.{Known, found}
use Rattle.step_types.specs.Forms.{sentence_measure}

-- ---- what a rank has

-- whether the rank has this recipe: pascal is of rank 3
abbrev pub recipe_fits : ℕ → Recipe → Bool
recipe_fits rank (Recipe.Join a b) = true
recipe_fits rank (Recipe.Meet a b) = true
recipe_fits rank (Recipe.On a b s t) = true
recipe_fits rank (Recipe.Pascal five through) = rank == 3

-- whether the rank has this claim: concurrent of as many objects as the rank, collinear and conic of rank 3,
-- coplanar and meeting of rank 4
abbrev pub claim_fits : ℕ → Claim → Bool
claim_fits rank (Claim.Collinear args) = rank == 3
claim_fits rank (Claim.Concurrent args) = length args == rank
claim_fits rank (Claim.Coplanar args) = rank == 4
claim_fits rank (Claim.Meeting args) = rank == 4
claim_fits rank (Claim.Incident args) = true
claim_fits rank (Claim.Conic args) = rank == 3

-- whether the rank has this sentence: an object's step is below the rank
abbrev pub fits_rank : ℕ → Sentence → Bool
fits_rank rank (Sentence.Free names) = true
fits_rank rank (Sentence.Define kind name recipe) = nat_lt (kind_step kind) rank && recipe_fits rank recipe
fits_rank rank (Sentence.Conclude claim) = claim_fits rank claim

-- ---- what names stand for

-- whether it is the name of an object
abbrev pub is_object : Known → List ℕ → Bool
is_object known name = is_some (found name known.made)

-- whether it is the name of an object or a parameter
abbrev pub is_taken : Known → List ℕ → Bool
is_taken known name = is_object known name || list_any (λ param. param is name) known.params

-- whether one of the names stands again behind it
abbrev pub has_repeat : List (List ℕ) → Bool
has_repeat [] = false
has_repeat (name ∷ names) = list_any (λ other. other is name) names || has_repeat names

-- the parameters of a recipe
abbrev pub recipe_params : Recipe → List (List ℕ)
recipe_params (Recipe.Join a b) = []
recipe_params (Recipe.Meet a b) = []
recipe_params (Recipe.On a b s t) = s ∷ t ∷ []
recipe_params (Recipe.Pascal five through) = []

-- whether a name that is made here stands for something else: or a parameter for an object
abbrev pub is_twice : Known → Sentence → Bool
is_twice known (Sentence.Free names) = list_any (is_taken known) names || has_repeat names
is_twice known (Sentence.Define kind name recipe) =
    is_taken known name || list_any (λ param. is_object known param || (param is name)) (recipe_params recipe)
is_twice known (Sentence.Conclude claim) = false

-- whether each name in it is the name of an object
abbrev pub knows : Known → Object → Bool
knows known (Object.Named name) = is_object known name
knows known (Object.Join a b) = knows known a && knows known b
knows known (Object.Meet a b) = knows known a && knows known b

-- the objects that a recipe makes one of
abbrev pub recipe_args : Recipe → List Object
recipe_args (Recipe.Join a b) = a ∷ b ∷ []
recipe_args (Recipe.Meet a b) = a ∷ b ∷ []
recipe_args (Recipe.On a b s t) = a ∷ b ∷ []
recipe_args (Recipe.Pascal five through) = through ∷ five

-- the objects that a sentence speaks of
abbrev pub sentence_args : Sentence → List Object
sentence_args (Sentence.Free names) = []
sentence_args (Sentence.Define kind name recipe) = recipe_args recipe
sentence_args (Sentence.Conclude claim) = claim_args claim

-- ---- the first fault

-- the measure, within the limits
unfoldable pub within : Option Measure → Result Measure StepKind
within None = Err Step
within (Some m) =
    if nat_lt 64 m.rows then Err Rows
    else if nat_lt 1000 m.degree then Err Degree
    else Ok m

-- the measure of what a sentence makes or concludes, or the first kind of fault that it has
unfoldable pub measured : ℕ → Known → Sentence → Result Measure StepKind
measured rank known sentence =
    if not (fits_rank rank sentence) then Err Rank
    else if is_twice known sentence then Err Twice
    else if not (list_all (knows known) (sentence_args sentence)) then Err Unknown
    else within (sentence_measure rank known.made sentence)
