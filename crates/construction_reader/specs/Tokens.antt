-- The tokens of a line.
use Rattle.std.specs.Prelude.{ℕ, Bool, false, not, ◌||◌, List, [], ◌∷◌, if◌then◌else◌}
use Rattle.std.specs.List.{position_or_len}
use Rattle.construction_reader.specs.Words.{is_sign}
use Rattle.construction_reader.specs.Rules.{Rules, version_1}

-- the byte in front of the first token
abbrev pub onto_first : ℕ → List (List ℕ) → List (List ℕ)
onto_first b [] = (b ∷ []) ∷ []
onto_first b (run ∷ tokens) = (b ∷ run) ∷ tokens

module _ (rules : Rules) where
  -- whether a byte of a run comes first
  abbrev pub begins_run : List ℕ → Bool
  begins_run [] = false
  begins_run (b ∷ bytes) = rules.is_run_byte b

  -- the tokens: the longest runs, and each sign by itself
  unfoldable pub tokens_by : List ℕ → List (List ℕ)
  tokens_by [] = []
  tokens_by (b ∷ bytes) =
      if rules.is_run_byte b then
      (if begins_run bytes then onto_first b (tokens_by bytes) else (b ∷ []) ∷ tokens_by bytes)
      else if is_sign b then (b ∷ []) ∷ tokens_by bytes
      else tokens_by bytes

  -- whether a token begins at this byte, behind none that reaches it
  abbrev pub begins_token_by : ℕ → Bool
  begins_token_by b = rules.is_run_byte b || is_sign b

  -- how many bytes the token at the front has, or 1 at a space
  abbrev pub front_length_by : List ℕ → ℕ
  front_length_by bytes =
      if begins_run bytes then position_or_len (λ b. not (rules.is_run_byte b)) bytes else 1

-- ---- in version 1

-- whether a name byte comes first
abbrev pub begins_with_name_byte : List ℕ → Bool
begins_with_name_byte bytes = begins_run version_1 bytes

-- the tokens: the longest runs of name bytes, and each sign by itself
abbrev pub tokens_of : List ℕ → List (List ℕ)
tokens_of bytes = tokens_by version_1 bytes

-- whether a token begins at this byte, behind none that reaches it
abbrev pub begins_token : ℕ → Bool
begins_token b = begins_token_by version_1 b

-- how many bytes the token at the front has, or 1 at a space
abbrev pub front_length : List ℕ → ℕ
front_length bytes = front_length_by version_1 bytes
