-- How a sentence is read from the tokens of a line: what the reader's own functions answer.
use Rattle.std.specs.Prelude.{ℕ, zero, suc, Bool, not, ◌||◌, ◌==◌, List, [], ◌∷◌, ◌++◌, length, Result, Ok, Err, codes, if◌then◌else◌}
use Rattle.std.specs.List.{list_all}
use Rattle.construction_reader.specs.declared.fault.Kind.{Kind}
use Rattle.construction_reader.specs.declared.fault.Kind.TheVariants.{Keyword, Deep, Shape}
use Rattle.construction_reader.specs.declared.types.ObjectKind.{ObjectKind}
use Rattle.construction_reader.specs.declared.types.ObjectKind.TheVariants.{Point, Line, Plane}
use Rattle.construction_reader.specs.Outcome.{◌>>=◌}
use Rattle.construction_reader.specs.Words.{◌is◌, is_name}
use Rattle.construction_reader.specs.Said.{Object, Recipe, Claim, Sentence}
use Rattle.construction_reader.specs.Lines.{has_keyword, is_deep}
use Rattle.construction_reader.specs.Objects.{token_at, name_at, after_word, both_at, object_at}

-- that no token is left
unfoldable pub ended : List (List ℕ) → Result (Unit {0}) Kind
ended [] = Ok tt
ended (token ∷ rest) = Err Shape

-- the objects at the front of the tokens, at most so many, and what follows them
unfoldable pub objects_at : ℕ → List (List ℕ) → Result (List Object × List (List ℕ)) Kind
objects_at zero tokens = Ok ([], tokens)
objects_at (suc most) [] = Ok ([], [])
objects_at (suc most) (token ∷ rest) = do
  first ← object_at 32 (token ∷ rest)
  others ← objects_at most first.1
  Ok (first.0 ∷ others.0, others.1)

-- the objects behind these
abbrev pub behind : List Object → Result (List Object × List (List ℕ)) Kind
    → Result (List Object × List (List ℕ)) Kind
behind front read = read >>= λ x. Ok (front ++ x.0, x.1)

-- two objects, which end the line
unfoldable pub two_at : List (List ℕ) → Result (Object × Object) Kind
two_at tokens = do
  both ← both_at (object_at 32) tokens
  end ← ended both.2
  Ok (both.0, both.1)

-- `with` and two weights, which end the line
unfoldable pub weights_at : List (List ℕ) → Result (List ℕ × List ℕ) Kind
weights_at tokens = do
  names ← after_word (codes "with") tokens
  s ← name_at names
  t ← name_at s.1
  end ← ended t.1
  Ok (s.0, t.0)

-- two objects with two weights, which end the line
unfoldable pub on_at : List (List ℕ) → Result Recipe Kind
on_at tokens = do
  both ← both_at (object_at 32) tokens
  weights ← weights_at both.2
  Ok (Recipe.On both.0 both.1 weights.0 weights.1)

-- five objects, and the one behind `through`, which end the line
unfoldable pub pascal_at : List (List ℕ) → Result Recipe Kind
pascal_at tokens = do
  five ← objects_at 5 tokens
  rest ← after_word (codes "through") five.1
  through ← object_at 32 rest
  end ← ended through.1
  Ok (Recipe.Pascal five.0 through.0)

-- the recipe that begins with this word
unfoldable pub recipe_at : List ℕ → List (List ℕ) → Result Recipe Kind
recipe_at word tokens =
    if word is codes "join" then two_at tokens >>= (λ two. Ok (Recipe.Join two.0 two.1))
    else if word is codes "meet" then two_at tokens >>= (λ two. Ok (Recipe.Meet two.0 two.1))
    else if word is codes "on" then on_at tokens
    else if word is codes "pascal" then pascal_at tokens
    else Err Shape

-- what follows the first word of a definition
unfoldable pub definition_at : ObjectKind → List (List ℕ) → Result Sentence Kind
definition_at kind tokens = do
  name ← name_at tokens
  rest ← after_word (codes "=") name.1
  word ← token_at rest
  recipe ← recipe_at word.0 word.1
  Ok (Sentence.Define kind name.0 recipe)

-- what follows `free`
unfoldable pub free_at : List (List ℕ) → Result Sentence Kind
free_at tokens = if length tokens == 0 || not (list_all is_name tokens) then Err Shape else Ok (Sentence.Free tokens)

-- the claim, where it is about as many objects as it wants
abbrev pub counted : Bool → Claim → Result Claim Kind
counted fits claim = if fits then Ok claim else Err Shape

-- the claim of this word, where it is about so many objects
unfoldable pub claim_of : List ℕ → List Object → Result Claim Kind
claim_of word args =
    if word is codes "collinear" then counted (length args == 3) (Claim.Collinear args)
    else if word is codes "concurrent" then counted (length args == 3 || length args == 4) (Claim.Concurrent args)
    else if word is codes "coplanar" then counted (length args == 4) (Claim.Coplanar args)
    else if word is codes "meeting" then counted (length args == 2) (Claim.Meeting args)
    else if word is codes "incident" then counted (length args == 2) (Claim.Incident args)
    else if word is codes "conic" then counted (length args == 6) (Claim.Conic args)
    else Err Shape

-- what follows `conclude`
unfoldable pub claim_at : List (List ℕ) → Result Sentence Kind
claim_at tokens = do
  word ← token_at tokens
  args ← objects_at 6 word.1
  end ← ended args.1
  claim ← claim_of word.0 args.0
  Ok (Sentence.Conclude claim)

-- the sentence that begins with this word
unfoldable pub begun_by : List ℕ → List (List ℕ) → Result Sentence Kind
begun_by word rest =
    if word is codes "free" then free_at rest
    else if word is codes "point" then definition_at Point rest
    else if word is codes "line" then definition_at Line rest
    else if word is codes "plane" then definition_at Plane rest
    else claim_at rest

-- the sentence that the tokens have the form of
unfoldable pub shaped : List (List ℕ) → Result Sentence Kind
shaped tokens = do
  first ← token_at tokens
  begun_by first.0 first.1

-- the sentence of a line, or the first kind of fault that it has
unfoldable pub sentence_at : List (List ℕ) → Result Sentence Kind
sentence_at tokens =
    if not (has_keyword tokens) then Err Keyword
    else if is_deep 0 tokens then Err Deep
    else shaped tokens
