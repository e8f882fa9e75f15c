-- What a construction says, apart from where it lies in memory.
use Rattle.std.specs.Prelude.{ℕ, List, map}
use Rattle.construction_reader.specs.declared.types.Arg as arg
use Rattle.construction_reader.specs.declared.types.Arg.{Arg}
use Rattle.construction_reader.specs.declared.types.Expr.{Expr}
use Rattle.construction_reader.specs.declared.types.Expr.TheVariants as expr
use Rattle.construction_reader.specs.declared.types.Conclusion.{Conclusion}
use Rattle.construction_reader.specs.declared.types.Conclusion.TheVariants as conclusion
use Rattle.construction_reader.specs.declared.types.ObjectKind.{ObjectKind}
use Rattle.construction_reader.specs.declared.types.Body.{Body}
use Rattle.construction_reader.specs.declared.types.Body.TheVariants as body
use Rattle.construction_reader.specs.declared.types.Statement.{Statement}

-- an object: a name, or the join or meet of two
pub data Object : Type 0 where
  Named : List ℕ → Object
  Join : Object → Object → Object
  Meet : Object → Object → Object

-- what a definition makes its object of
pub data Recipe : Type 0 where
  Join : Object → Object → Recipe
  Meet : Object → Object → Recipe
  On : Object → Object → List ℕ → List ℕ → Recipe
  Pascal : List Object → Object → Recipe

-- what is concluded, and of which objects
pub data Claim : Type 0 where
  Collinear : List Object → Claim
  Concurrent : List Object → Claim
  Coplanar : List Object → Claim
  Meeting : List Object → Claim
  Incident : List Object → Claim
  Conic : List Object → Claim

-- what a line says
pub data Sentence : Type 0 where
  Free : List (List ℕ) → Sentence
  Define : ObjectKind → List ℕ → Recipe → Sentence
  Conclude : Claim → Sentence

-- a sentence and the number of its line
pub record Row : Type 0 where
  pub line : ℕ
  pub sentence : Sentence

-- what a whole text says
pub record Account : Type 0 where
  pub rank : ℕ
  pub rows : List Row

-- the sentences without their lines
abbrev pub sentences_of : List Row → List Sentence
sentences_of rows = map (λ row. row.sentence) rows

-- ---- what the values of the code say

-- what an object of the code says
abbrev pub object : Arg → Object
object (arg.Named name) = Object.Named name
object (arg.Join' p a q b) = Object.Join (object a) (object b)
object (arg.Meet' p a q b) = Object.Meet (object a) (object b)

-- what objects of the code say
abbrev pub objects : List Arg → List Object
objects args = map object args

-- what an expression of the code says
abbrev pub recipe : Expr → Recipe
recipe (expr.Join a b) = Recipe.Join (object a) (object b)
recipe (expr.Meet a b) = Recipe.Meet (object a) (object b)
recipe (expr.On a b s t) = Recipe.On (object a) (object b) s t
recipe (expr.Pascal five through) = Recipe.Pascal (objects five) (object through)

-- what a conclusion of the code says
abbrev pub claim : Conclusion → Claim
claim (conclusion.Collinear args) = Claim.Collinear (objects args)
claim (conclusion.Concurrent args) = Claim.Concurrent (objects args)
claim (conclusion.Coplanar args) = Claim.Coplanar (objects args)
claim (conclusion.Meeting args) = Claim.Meeting (objects args)
claim (conclusion.Incident args) = Claim.Incident (objects args)
claim (conclusion.Conic args) = Claim.Conic (objects args)

-- what a body of the code says
abbrev pub sentence : Body → Sentence
sentence (body.Free names) = Sentence.Free names
sentence (body.Define kind name expr) = Sentence.Define kind name (recipe expr)
sentence (body.Conclude conclusion) = Sentence.Conclude (claim conclusion)

-- what a statement of the code says
abbrev pub row : Statement → Row
row s = record { line = s.line; sentence = sentence s.body }

-- what a rank and statements of the code say
abbrev pub account_of : ℕ → List Statement → Account
account_of rank statements = record { rank = rank; rows = map row statements }
