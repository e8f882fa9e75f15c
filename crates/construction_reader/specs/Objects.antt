-- How objects are read from the tokens of a line: what the reader's own functions answer.
use Rattle.std.specs.Prelude.{ℕ, zero, suc, List, [], ◌∷◌, Result, Ok, Err, codes, if◌then◌else◌}
use Rattle.construction_reader.specs.declared.fault.Kind.{Kind}
use Rattle.construction_reader.specs.declared.fault.Kind.TheVariants.{Shape}
use Rattle.construction_reader.specs.Outcome.{◌>>=◌}
use Rattle.construction_reader.specs.Words.{◌is◌, is_name}
use Rattle.construction_reader.specs.Said.{Object}

-- the next token, and what follows it
unfoldable pub token_at : List (List ℕ) → Result (List ℕ × List (List ℕ)) Kind
token_at [] = Err Shape
token_at (token ∷ rest) = Ok (token, rest)

-- a name, and what follows it
unfoldable pub name_at : List (List ℕ) → Result (List ℕ × List (List ℕ)) Kind
name_at tokens = do
  first ← token_at tokens
  if is_name first.0 then Ok first else Err Shape

-- what follows this token
unfoldable pub after_word : List ℕ → List (List ℕ) → Result (List (List ℕ)) Kind
after_word word tokens = do
  first ← token_at tokens
  if first.0 is word then Ok first.1 else Err Shape

-- the pair that this word makes of two objects
abbrev pub pair_of : List ℕ → Object → Object → Result Object Kind
pair_of word a b =
    if word is codes "join" then Ok (Object.Join a b)
    else if word is codes "meet" then Ok (Object.Meet a b)
    else Err Shape

-- two objects, which the reader of objects reads, and what follows them
unfoldable pub both_at : (List (List ℕ) → Result (Object × List (List ℕ)) Kind) → List (List ℕ)
    → Result (Object × Object × List (List ℕ)) Kind
both_at object_of tokens = do
  a ← object_of tokens
  b ← object_of a.1
  Ok (a.0, b.0, b.1)

-- two objects between parentheses
unfoldable pub pair_at : (List (List ℕ) → Result (Object × List (List ℕ)) Kind) → List (List ℕ)
    → Result (Object × List (List ℕ)) Kind
pair_at object_of tokens = do
  word ← token_at tokens
  both ← both_at object_of word.1
  rest ← after_word (codes ")") both.2
  pair ← pair_of word.0 both.0 both.1
  Ok (pair, rest)

-- an object that is a name
unfoldable pub named_at : List (List ℕ) → Result (Object × List (List ℕ)) Kind
named_at tokens = do
  name ← name_at tokens
  Ok (Object.Named name.0, name.1)

-- the object at the front of the tokens, and what follows it, where room more parentheses may be open
unfoldable pub object_at : ℕ → List (List ℕ) → Result (Object × List (List ℕ)) Kind
object_at zero tokens = named_at tokens
object_at (suc room) [] = named_at []
object_at (suc room) (first ∷ rest) =
    if first is codes "(" then pair_at (object_at room) rest else named_at (first ∷ rest)
