-- The measures of objects, recipes and claims: where their names are known and their steps are as required.
use Rattle.std.specs.Prelude.{ℕ, ◌-◌, List, [], ◌∷◌, Option, Some, None, length}
use Rattle.construction_reader.specs.Said.{Object, Recipe, Claim, Sentence}
use Rattle.step_types.specs.declared.measure.Measure.{Measure}
use Rattle.step_types.specs.Outcome.{◌>>=◌}
use Rattle.step_types.specs.Measures.{free_point, joined, met, of_step, mixed, pascal, both, none_of, with_rows, conic, kind_step}
use Rattle.step_types.specs.Known.{found}

-- the measure of an object
unfoldable pub measure_of : ℕ → List (List ℕ × Measure) → Object → Option Measure
measure_of rank made (Object.Named name) = found name made
measure_of rank made (Object.Join a b) = do
  first ← measure_of rank made a
  second ← measure_of rank made b
  joined rank first second
measure_of rank made (Object.Meet a b) = do
  first ← measure_of rank made a
  second ← measure_of rank made b
  met rank first second

-- the measure of an object that is required to have this step
unfoldable pub measure_at : ℕ → List (List ℕ × Measure) → ℕ → Object → Option Measure
measure_at rank made step object = do
  m ← measure_of rank made object
  of_step step m

-- the measure of five points and the one that the line goes through
unfoldable pub pascal_measure : ℕ → List (List ℕ × Measure) → List Object → Object → Option Measure
pascal_measure rank made (a ∷ b ∷ c ∷ d ∷ e ∷ []) through = do
  a ← measure_at rank made 1 a
  b ← measure_at rank made 1 b
  c ← measure_at rank made 1 c
  d ← measure_at rank made 1 d
  e ← measure_at rank made 1 e
  q ← measure_at rank made 1 through
  pascal rank a b c d e q
pascal_measure rank made five through = None

-- the measure of what a recipe makes
unfoldable pub recipe_measure : ℕ → List (List ℕ × Measure) → Recipe → Option Measure
recipe_measure rank made (Recipe.Join a b) = measure_of rank made (Object.Join a b)
recipe_measure rank made (Recipe.Meet a b) = measure_of rank made (Object.Meet a b)
recipe_measure rank made (Recipe.On a b s t) = do
  first ← measure_of rank made a
  second ← measure_of rank made b
  mixed first second
recipe_measure rank made (Recipe.Pascal five through) = pascal_measure rank made five through

-- rows and degree of the objects added up, each of which is required to have this step
unfoldable pub total : ℕ → List (List ℕ × Measure) → ℕ → List Object → Option Measure
total rank made step [] = Some (none_of step)
total rank made step (object ∷ objects) = do
  first ← measure_at rank made step object
  others ← total rank made step objects
  Some (both first others)

-- rows and degree of a point and of the hyperplane behind it, added up
unfoldable pub point_and_hyperplane : ℕ → List (List ℕ × Measure) → List Object → Option Measure
point_and_hyperplane rank made [] = None
point_and_hyperplane rank made (point ∷ others) = do
  first ← measure_at rank made 1 point
  second ← total rank made (rank - 1) others
  Some (both first second)

-- the measure of what a claim says to be zero
unfoldable pub claim_measure : ℕ → List (List ℕ × Measure) → Claim → Option Measure
claim_measure rank made (Claim.Collinear args) = do
  sum ← total rank made 1 args
  Some (with_rows 3 1 sum)
claim_measure rank made (Claim.Concurrent args) = do
  sum ← total rank made (rank - 1) args
  Some (with_rows 0 (length args - 1) sum)
claim_measure rank made (Claim.Coplanar args) = do
  sum ← total rank made 1 args
  Some (with_rows 4 1 sum)
claim_measure rank made (Claim.Meeting args) = do
  sum ← total rank made 2 args
  Some (with_rows 4 1 sum)
claim_measure rank made (Claim.Incident args) = do
  sum ← point_and_hyperplane rank made args
  Some (with_rows rank 1 sum)
claim_measure rank made (Claim.Conic args) = do
  sum ← total rank made 1 args
  Some (conic sum)

-- the measure of what a sentence makes or concludes
unfoldable pub sentence_measure : ℕ → List (List ℕ × Measure) → Sentence → Option Measure
sentence_measure rank made (Sentence.Free names) = Some free_point
sentence_measure rank made (Sentence.Define kind name recipe) = do
  m ← recipe_measure rank made recipe
  of_step (kind_step kind) m
sentence_measure rank made (Sentence.Conclude claim) = claim_measure rank made claim
