-- The lines of a text, and the tests of a line.
use Rattle.std.specs.Prelude.{ℕ, Bool, true, false, not, ◌&&◌, ◌||◌, ◌==◌, nat_lt, nat_le, ◌+◌, ◌-◌, take, slice_index, List, [], ◌∷◌, length, codes, Result, Ok, Err, if◌then◌else◌}
use Rattle.std.specs.List.{list_any, list_all, before_first}
use Rattle.construction_reader.specs.declared.fault.Kind.{Kind}
use Rattle.construction_reader.specs.declared.fault.Kind.TheVariants.{Byte, LongName}
use Rattle.construction_reader.specs.Words.{◌is◌, is_sign, is_space}
use Rattle.construction_reader.specs.Rules.{Rules, version_1}
use Rattle.construction_reader.specs.Tokens.{tokens_of}

-- the byte in front of the first line
abbrev pub onto_line : ℕ → List (List ℕ) → List (List ℕ)
onto_line b [] = (b ∷ []) ∷ []
onto_line b (line ∷ lines) = (b ∷ line) ∷ lines

-- the lines: each ends with LF, and the last may lack it
unfoldable pub lines_of : List ℕ → List (List ℕ)
lines_of [] = []
lines_of (b ∷ bytes) = if b == 10 then [] ∷ lines_of bytes else onto_line b (lines_of bytes)

-- the line without one CR as its last byte
unfoldable pub without_return : List ℕ → List ℕ
without_return line = if slice_index line (length line - 1) == 13 then take (length line - 1) line else line

-- what stands before the first #
unfoldable pub without_comment : List ℕ → List ℕ
without_comment line = before_first (λ b. b == 35) line

-- what of the line is no comment
unfoldable pub content : List ℕ → List ℕ
content line = without_comment (without_return line)

-- whether the byte may stand outside comments
abbrev pub is_allowed_by : Rules → ℕ → Bool
is_allowed_by rules b = rules.is_run_byte b || is_sign b || is_space b

-- whether each byte may
abbrev pub is_clean_by : Rules → List ℕ → Bool
is_clean_by rules bytes = list_all (is_allowed_by rules) bytes

-- whether the byte may stand outside comments in version 1
abbrev pub is_allowed : ℕ → Bool
is_allowed b = is_allowed_by version_1 b

-- whether each byte may in version 1
abbrev pub is_clean : List ℕ → Bool
is_clean bytes = is_clean_by version_1 bytes

-- whether a token has more than 32 bytes
abbrev pub is_long : List ℕ → Bool
is_long token = nat_lt 32 (length token)

-- whether it is the word of a claim
abbrev pub is_claim_word : List ℕ → Bool
is_claim_word word =
    (word is codes "collinear") || (word is codes "concurrent") || (word is codes "coplanar")
    || (word is codes "meeting") || (word is codes "incident") || (word is codes "conic")

-- whether a word of a claim comes next, or nothing
unfoldable pub may_claim : List (List ℕ) → Bool
may_claim [] = true
may_claim (word ∷ rest) = is_claim_word word

-- whether the line begins as a sentence does
unfoldable pub has_keyword : List (List ℕ) → Bool
has_keyword [] = false
has_keyword (first ∷ rest) =
    (first is codes "free") || (first is codes "point") || (first is codes "line") || (first is codes "plane")
    || ((first is codes "conclude") && may_claim rest)

-- whether more than 32 parentheses are open at once, where so many are open before these tokens
unfoldable pub is_deep : ℕ → List (List ℕ) → Bool
is_deep depth [] = false
is_deep depth (token ∷ rest) =
    if token is codes "(" then nat_le 32 depth || is_deep (depth + 1) rest
    else if token is codes ")" then is_deep (depth - 1) rest
    else is_deep depth rest

-- the tokens of a line, or a fault of its bytes, in version 1
unfoldable pub line_tokens : List ℕ → Result (List (List ℕ)) Kind
line_tokens line =
    if not (is_clean (content line)) then Err Byte
    else if list_any is_long (tokens_of (content line)) then Err LongName
    else Ok (tokens_of (content line))
