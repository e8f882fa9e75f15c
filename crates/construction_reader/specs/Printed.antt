-- The canonical text of an account.
use Rattle.std.specs.Prelude.{ℕ, ◌+◌, ◌||◌, Bool, true, List, [], ◌∷◌, ◌++◌, codes, decimal, if◌then◌else◌}
use Rattle.std.specs.List.{flat_map}
use Rattle.construction_reader.specs.Words.{◌is◌}
use Rattle.construction_reader.specs.Rules.{Rules, version_1}
use Rattle.construction_reader.specs.Said.{Sentence, Row, Account, sentences_of}
use Rattle.construction_reader.specs.Grammar.{sentence_tokens}

-- the space before a token, where none is left out
abbrev pub gap : Bool → List ℕ → List ℕ
gap glued token = if glued || (token is codes ")") then [] else 32 ∷ []

-- tokens with one space between, but for after ( and before )
unfoldable pub spaced : Bool → List (List ℕ) → List ℕ
spaced glued [] = []
spaced glued (token ∷ rest) = gap glued token ++ (token ++ spaced (token is codes "(") rest)

-- the line of these tokens, with its LF
abbrev pub line_text : List (List ℕ) → List ℕ
line_text tokens = spaced true tokens ++ 10 ∷ []

-- the canonical text: the two lines of the header, and a line for each sentence
abbrev pub printed_by : Rules → Account → List ℕ
printed_by rules c =
    line_text (codes "construction" ∷ rules.version ∷ [])
    ++ (line_text (codes "rank" ∷ decimal c.rank ∷ [])
    ++ flat_map (λ row. line_text (sentence_tokens row.sentence)) c.rows)

-- the canonical text in version 1
abbrev pub printed : Account → List ℕ
printed c = printed_by version_1 c

-- these sentences on this line and those that follow it
abbrev pub on_lines : ℕ → List Sentence → List Row
on_lines line [] = []
on_lines line (sentence ∷ others) = record { line = line; sentence = sentence } ∷ on_lines (line + 1) others

-- the same rank and sentences, on the lines 3, 4, 5 and so on
abbrev pub renumbered : Account → Account
renumbered c = record { rank = c.rank; rows = on_lines 3 (sentences_of c.rows) }
