-- The grammar: which tokens say what, and what may be said.
use Rattle.std.specs.Prelude.{◌≡◌, ℕ, ◌+◌, ◌≤◌, ◌<◌, max, Bool, true, false, not, ◌&&◌, List, [], ◌∷◌, ◌++◌, length, sum_by, codes}
use Rattle.std.specs.List.{flat_map, AllByRecursion, list_all}
use Rattle.construction_reader.specs.declared.types.ObjectKind.{ObjectKind}
use Rattle.construction_reader.specs.declared.types.ObjectKind.TheVariants.{Point, Line, Plane}
use Rattle.construction_reader.specs.Words.{is_name}
use Rattle.construction_reader.specs.Rules.{Rules, version_1, IsRankBy, allows_several}
use Rattle.construction_reader.specs.Said.{Object, Recipe, Claim, Sentence, Row, Account, sentences_of}
use Rattle.construction_reader.specs.Params.{with_params}

-- ---- the tokens that say it

-- the tokens of an object
abbrev pub object_tokens : Object → List (List ℕ)
object_tokens (Object.Named name) = name ∷ []
object_tokens (Object.Join a b) =
    codes "(" ∷ codes "join" ∷ (object_tokens a ++ (object_tokens b ++ codes ")" ∷ []))
object_tokens (Object.Meet a b) =
    codes "(" ∷ codes "meet" ∷ (object_tokens a ++ (object_tokens b ++ codes ")" ∷ []))

-- the tokens of objects, one after the other
abbrev pub objects_tokens : List Object → List (List ℕ)
objects_tokens objects = flat_map object_tokens objects

-- the tokens behind the equals sign of a definition
abbrev pub recipe_tokens : Recipe → List (List ℕ)
recipe_tokens (Recipe.Join a b) = codes "join" ∷ (object_tokens a ++ object_tokens b)
recipe_tokens (Recipe.Meet a b) = codes "meet" ∷ (object_tokens a ++ object_tokens b)
recipe_tokens (Recipe.On a b s t) =
    codes "on" ∷ (object_tokens a ++ (object_tokens b ++ codes "with" ∷ s ∷ t ∷ []))
recipe_tokens (Recipe.Pascal five through) =
    codes "pascal" ∷ (objects_tokens five ++ codes "through" ∷ object_tokens through)

-- the word of a claim
abbrev pub claim_word : Claim → List ℕ
claim_word (Claim.Collinear args) = codes "collinear"
claim_word (Claim.Concurrent args) = codes "concurrent"
claim_word (Claim.Coplanar args) = codes "coplanar"
claim_word (Claim.Meeting args) = codes "meeting"
claim_word (Claim.Incident args) = codes "incident"
claim_word (Claim.Conic args) = codes "conic"

-- the objects that a claim is about
abbrev pub claim_args : Claim → List Object
claim_args (Claim.Collinear args) = args
claim_args (Claim.Concurrent args) = args
claim_args (Claim.Coplanar args) = args
claim_args (Claim.Meeting args) = args
claim_args (Claim.Incident args) = args
claim_args (Claim.Conic args) = args

-- the tokens behind `conclude`
abbrev pub claim_tokens : Claim → List (List ℕ)
claim_tokens claim = claim_word claim ∷ objects_tokens (claim_args claim)

-- the word of a kind of object
abbrev pub kind_word : ObjectKind → List ℕ
kind_word Point = codes "point"
kind_word Line = codes "line"
kind_word Plane = codes "plane"

-- the tokens of a line that says this
abbrev pub sentence_tokens : Sentence → List (List ℕ)
sentence_tokens (Sentence.Free names) = codes "free" ∷ names
sentence_tokens (Sentence.Define kind name recipe) = kind_word kind ∷ name ∷ codes "=" ∷ recipe_tokens recipe
sentence_tokens (Sentence.Conclude claim) = codes "conclude" ∷ claim_tokens claim

-- ---- what may be said

-- how many parentheses are open at once in it
abbrev pub nesting : Object → ℕ
nesting (Object.Named name) = 0
nesting (Object.Join a b) = max (nesting a) (nesting b) + 1
nesting (Object.Meet a b) = max (nesting a) (nesting b) + 1

-- each name in it is a name of the grammar
abbrev pub HasNames : Object → Type 0
HasNames (Object.Named name) = is_name name ≡ true
HasNames (Object.Join a b) = HasNames a × HasNames b
HasNames (Object.Meet a b) = HasNames a × HasNames b

-- an object of the grammar
pub record IsObject (o : Object) : Type 0 where
  pub names : HasNames o
  pub shallow : nesting o ≤ 32

-- so many objects of the grammar
abbrev pub AreObjects : ℕ → List Object → Type 0
AreObjects count args = (length args ≡ count) × AllByRecursion IsObject args

-- a claim of the grammar, about as many objects as its word wants
abbrev pub IsClaim : Claim → Type 0
IsClaim (Claim.Collinear args) = AreObjects 3 args
IsClaim (Claim.Concurrent args) = (3 ≤ length args) × (length args ≤ 4) × AllByRecursion IsObject args
IsClaim (Claim.Coplanar args) = AreObjects 4 args
IsClaim (Claim.Meeting args) = AreObjects 2 args
IsClaim (Claim.Incident args) = AreObjects 2 args
IsClaim (Claim.Conic args) = AreObjects 6 args

-- ---- whole constructions

-- whether it is a conclusion
abbrev pub is_conclusion : Sentence → Bool
is_conclusion (Sentence.Free names) = false
is_conclusion (Sentence.Define kind name recipe) = false
is_conclusion (Sentence.Conclude claim) = true

-- how many free names it has
abbrev pub free_names : Sentence → ℕ
free_names (Sentence.Free names) = length names
free_names (Sentence.Define kind name recipe) = 0
free_names (Sentence.Conclude claim) = 0

-- how many definitions it is
abbrev pub definitions : Sentence → ℕ
definitions (Sentence.Free names) = 0
definitions (Sentence.Define kind name recipe) = 1
definitions (Sentence.Conclude claim) = 0

-- how many conclusions it is
abbrev pub conclusions : Sentence → ℕ
conclusions (Sentence.Free names) = 0
conclusions (Sentence.Define kind name recipe) = 0
conclusions (Sentence.Conclude claim) = 1

-- these parameters, and behind them the new ones of the sentence
abbrev pub params_with : List (List ℕ) → Sentence → List (List ℕ)
params_with params (Sentence.Free names) = params
params_with params (Sentence.Define kind name recipe) = with_params params recipe
params_with params (Sentence.Conclude claim) = params

-- these parameters, and behind them the new ones of the sentences, each once
abbrev pub params_of : List (List ℕ) → List Sentence → List (List ℕ)
params_of params [] = params
params_of params (sentence ∷ others) = params_of (params_with params sentence) others

-- the lines of the rows rise, the first of them at this line or below it
abbrev pub RisesFrom : ℕ → List Row → Type 0
RisesFrom line [] = Unit {0}
RisesFrom line (row ∷ rows) = (line ≤ row.line) × RisesFrom (row.line + 1) rows

-- ---- what the rules of a version decide

module _ (rules : Rules) where
  -- a recipe of the grammar
  abbrev pub IsRecipeBy : Recipe → Type 0
  IsRecipeBy (Recipe.Join a b) = IsObject a × IsObject b
  IsRecipeBy (Recipe.Meet a b) = IsObject a × IsObject b
  IsRecipeBy (Recipe.On a b s t) =
      IsObject a × IsObject b × (rules.is_weight s ≡ true) × (rules.is_weight t ≡ true)
  IsRecipeBy (Recipe.Pascal five through) = AreObjects 5 five × IsObject through

  -- a sentence of the grammar
  abbrev pub IsSentenceBy : Sentence → Type 0
  IsSentenceBy (Sentence.Free names) = (0 < length names) × (list_all is_name names ≡ true)
  IsSentenceBy (Sentence.Define kind name recipe) = (is_name name ≡ true) × IsRecipeBy recipe
  IsSentenceBy (Sentence.Conclude claim) = IsClaim claim

  -- whether the sentence is a conclusion, and the next one no further conclusion
  abbrev pub ends_too_soon : Sentence → Sentence → Bool
  ends_too_soon sentence next = not (allows_several rules && is_conclusion next) && is_conclusion sentence

  -- the last of the sentences is a conclusion; no other is, or where several may be, only those directly before it
  abbrev pub EndsBy : List Sentence → Type 0
  EndsBy [] = ⊥
  EndsBy (sentence ∷ []) = is_conclusion sentence ≡ true
  EndsBy (sentence ∷ next ∷ others) = (ends_too_soon sentence next ≡ false) × EndsBy (next ∷ others)

  -- a rank and sentences that a text may give, within the limits
  pub record IsAccountBy (rank : ℕ) (sentences : List Sentence) : Type 0 where
    pub ranked : IsRankBy rules rank
    pub each : AllByRecursion IsSentenceBy sentences
    pub ends : EndsBy sentences
    pub few_free : sum_by free_names sentences ≤ 200
    pub few_definitions : sum_by definitions sentences ≤ 2000
    pub few_params : length (params_of [] sentences) ≤ 64
    pub few_conclusions : sum_by conclusions sentences ≤ rules.most_conclusions

  -- what a text may give: behind the header, the sentences stand on lines of their own
  pub record IsGivenBy (c : Account) : Type 0 where
    pub good : IsAccountBy c.rank (sentences_of c.rows)
    pub rising : RisesFrom 3 c.rows

-- ---- in version 1

-- a recipe of the grammar
abbrev pub IsRecipe : Recipe → Type 0
IsRecipe recipe = IsRecipeBy version_1 recipe

-- a sentence of the grammar
abbrev pub IsSentence : Sentence → Type 0
IsSentence sentence = IsSentenceBy version_1 sentence

-- the last of the sentences is a conclusion, and no other is
abbrev pub EndsOnce : List Sentence → Type 0
EndsOnce sentences = EndsBy version_1 sentences

-- a rank and sentences that a text may give, within the limits
abbrev pub IsAccount : ℕ → List Sentence → Type 0
IsAccount rank sentences = IsAccountBy version_1 rank sentences

-- what a text may give: behind the header, the sentences stand on lines of their own
abbrev pub IsGiven : Account → Type 0
IsGiven c = IsGivenBy version_1 c
