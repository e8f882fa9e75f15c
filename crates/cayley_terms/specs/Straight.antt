-- The straight list of a construction: which instructions come of its statements, in order.
use Rattle.std.specs.Prelude.{ℕ, suc, Option, Some, None, List, [], ◌∷◌, ◌++◌, fold, length}
use Rattle.construction_reader.specs.Said.{Object, Recipe, Claim, Sentence, Row, Account, sentences_of}
use Rattle.construction_reader.specs.Grammar.{params_of}
use Rattle.cayley_terms.specs.declared.instr.Instr.{Instr}
use Rattle.cayley_terms.specs.declared.instr.Instr.TheVariants as instr
use Rattle.cayley_terms.specs.Named.{named, place_of}

-- what has been lowered up to a place of a text: the instructions, the line of each, and for each that ends a
-- definition the definition's number; the numbers of the instructions that ended the named objects; how many free
-- points and how many definitions there are
pub record Lowered : Type 0 where
  pub instrs : List Instr
  pub lines : List ℕ
  pub defined : List (Option ℕ)
  pub numbers : List (List ℕ × ℕ)
  pub points : ℕ
  pub definitions : ℕ

-- at the head of a text
abbrev pub nothing : Lowered
nothing = record { instrs = []; lines = []; defined = []; numbers = []; points = 0; definitions = 0 }

-- what changes it, and answers something
abbrev pub Step : Type 0 → Type 0
Step X = Lowered → Lowered × X

-- the next step, with what the one before answered
infixl 10 ◌>>=◌
abbrev pub ◌>>=◌ : {A B : Type 0} → Step A → (A → Step B) → Step B
(m >>= f) s =
    let r = m s in
    f r.1 r.0

-- this answer, and no change
abbrev pub answer : {X : Type 0} → X → Step X
answer x s = (s, x)

-- one instruction more, of a statement on this line, which ends this definition or none: its number
abbrev pub pushed : ℕ → Option ℕ → Instr → Step ℕ
pushed line ends i s = (
  record s { instrs = s.instrs ++ i ∷ []; lines = s.lines ++ line ∷ []; defined = s.defined ++ ends ∷ [] },
  length s.instrs,
)

-- an object: a name stands for the instruction that ended its definition; a join or a meet comes behind its parts
unfoldable pub object_lowered : ℕ → Object → Step ℕ
object_lowered line (Object.Named name) = λ s. (s, named 0 s.numbers name)
object_lowered line (Object.Join a b) = do
  first ← object_lowered line a
  second ← object_lowered line b
  pushed line None (instr.Join first second)
object_lowered line (Object.Meet a b) = do
  first ← object_lowered line a
  second ← object_lowered line b
  pushed line None (instr.Meet first second)

-- objects, one behind the other
unfoldable pub objects_lowered : ℕ → List Object → Step (List ℕ)
objects_lowered line [] = answer []
objects_lowered line (object ∷ others) = do
  first ← object_lowered line object
  rest ← objects_lowered line others
  answer (first ∷ rest)

-- the joins and meets of five points and one more on the line; the last of them is the answer, and is not pushed yet
unfoldable pub pascal_lowered : ℕ → List ℕ → ℕ → Step Instr
pascal_lowered line (a ∷ b ∷ c ∷ d ∷ e ∷ []) q = do
  l ← pushed line None (instr.Join a q)
  g ← pushed line None (instr.Join a b)
  h ← pushed line None (instr.Join d e)
  x ← pushed line None (instr.Meet g h)
  k ← pushed line None (instr.Join c d)
  y ← pushed line None (instr.Meet l k)
  m ← pushed line None (instr.Join b c)
  n ← pushed line None (instr.Join x y)
  z ← pushed line None (instr.Meet m n)
  p ← pushed line None (instr.Join e z)
  answer (instr.Meet l p)
pascal_lowered line five q = answer (instr.Free 0)

-- a recipe, where the parameters have these names: the instruction that ends it is the answer, and is not pushed yet
unfoldable pub recipe_lowered : List (List ℕ) → ℕ → Recipe → Step Instr
recipe_lowered params line (Recipe.Join a b) = do
  first ← object_lowered line a
  second ← object_lowered line b
  answer (instr.Join first second)
recipe_lowered params line (Recipe.Meet a b) = do
  first ← object_lowered line a
  second ← object_lowered line b
  answer (instr.Meet first second)
recipe_lowered params line (Recipe.On a b s t) = do
  first ← object_lowered line a
  second ← object_lowered line b
  answer (instr.On first second (place_of s params) (place_of t params))
recipe_lowered params line (Recipe.Pascal five through) = do
  points ← objects_lowered line five
  q ← object_lowered line through
  pascal_lowered line points q

-- behind the first instruction, what `make` makes of it and the next, and so on
unfoldable pub chain_lowered : (ℕ → ℕ → Instr) → ℕ → ℕ → List ℕ → Step ℕ
chain_lowered make line first [] = answer first
chain_lowered make line first (second ∷ others) = do
  both ← pushed line None (make first second)
  chain_lowered make line both others

-- what `make` makes of objects, from the left
abbrev pub from_left_lowered : (ℕ → ℕ → Instr) → ℕ → List ℕ → Step ℕ
from_left_lowered make line [] = answer 0
from_left_lowered make line (first ∷ others) = chain_lowered make line first others

-- the six-point polynomial of six
abbrev pub conic_lowered : ℕ → List ℕ → Step ℕ
conic_lowered line (p1 ∷ p2 ∷ p3 ∷ p4 ∷ p5 ∷ p6 ∷ []) = pushed line None (instr.Conic p1 p2 p3 p4 p5 p6)
conic_lowered line others = answer 0

-- a claim: joins from the left, meets from the left, or the six-point polynomial
unfoldable pub claim_lowered : ℕ → Claim → Step ℕ
claim_lowered line (Claim.Collinear args) = objects_lowered line args >>= from_left_lowered instr.Join line
claim_lowered line (Claim.Concurrent args) = objects_lowered line args >>= from_left_lowered instr.Meet line
claim_lowered line (Claim.Coplanar args) = objects_lowered line args >>= from_left_lowered instr.Join line
claim_lowered line (Claim.Meeting args) = objects_lowered line args >>= from_left_lowered instr.Join line
claim_lowered line (Claim.Incident args) = objects_lowered line args >>= from_left_lowered instr.Join line
claim_lowered line (Claim.Conic args) = objects_lowered line args >>= conic_lowered line

-- one free point more, of this name
abbrev pub point_lowered : ℕ → Lowered → List ℕ → Lowered
point_lowered line s name =
    let r = pushed line None (instr.Free s.points) s in
    record r.0 { numbers = r.0.numbers ++ (name, r.1) ∷ []; points = suc r.0.points }

-- one definition more, of this name, which the instruction ends
abbrev pub ended : ℕ → List ℕ → Lowered × Instr → Lowered
ended line name last =
    let r = pushed line (Some last.0.definitions) last.1 last.0 in
    record r.0 { numbers = r.0.numbers ++ (name, r.1) ∷ []; definitions = suc r.0.definitions }

-- one definition more, of this name and by this recipe, where the parameters have these names
abbrev pub defined_lowered : List (List ℕ) → ℕ → List ℕ → Recipe → Lowered → Lowered
defined_lowered params line name recipe s = ended line name (recipe_lowered params line recipe s)

-- a sentence on this line, where the parameters have these names
abbrev pub sentence_lowered : List (List ℕ) → ℕ → Lowered → Sentence → Lowered
sentence_lowered params line s (Sentence.Free names) = fold (point_lowered line) s names
sentence_lowered params line s (Sentence.Define kind name recipe) = defined_lowered params line name recipe s
sentence_lowered params line s (Sentence.Conclude claim) = (claim_lowered line claim s).0

-- a statement
abbrev pub row_lowered : List (List ℕ) → Lowered → Row → Lowered
row_lowered params s row = sentence_lowered params row.line s row.sentence

-- a whole text
unfoldable pub lowered : Account → Lowered
lowered c = fold (row_lowered (params_of [] (sentences_of c.rows))) nothing c.rows
