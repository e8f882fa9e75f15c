-- Which texts give a construction.
use Rattle.std.specs.Prelude.{◌≡◌, ℕ, ◌+◌, true, false, List, [], ◌∷◌, map, codes, decimal}
use Rattle.std.specs.List.{AllByRecursion, list_any}
use Rattle.construction_reader.specs.Rules.{Rules, version_1}
use Rattle.construction_reader.specs.Tokens.{tokens_by}
use Rattle.construction_reader.specs.Said.{Account, sentences_of}
use Rattle.construction_reader.specs.Lines.{lines_of, content, is_clean_by, is_long}
use Rattle.construction_reader.specs.Grammar.{sentence_tokens, IsAccountBy}

-- a line of these tokens in front of others, unless it is blank
abbrev pub onto_full : ℕ → List (List ℕ) → List (ℕ × List (List ℕ)) → List (ℕ × List (List ℕ))
onto_full n [] others = others
onto_full n (token ∷ rest) others = (n, token ∷ rest) ∷ others

module _ (rules : Rules) where
  -- the lines that are not blank, each with its number and its tokens
  abbrev pub full_lines_by : ℕ → List (List ℕ) → List (ℕ × List (List ℕ))
  full_lines_by n [] = []
  full_lines_by n (line ∷ lines) = onto_full n (tokens_by rules (content line)) (full_lines_by (n + 1) lines)

  -- no byte but the allowed ones, and no long run
  abbrev pub IsCleanBy : List ℕ → Type 0
  IsCleanBy line =
      (is_clean_by rules (content line) ≡ true) × (list_any is_long (tokens_by rules (content line)) ≡ false)

  -- the text gives this account, and so this construction
  pub record TextBy (text : List ℕ) (c : Account) : Type 0 where
    pub first : ℕ
    pub second : ℕ
    pub clean : AllByRecursion IsCleanBy (lines_of text)
    -- the lines that are not blank are the two first ones and the sentences
    pub says : full_lines_by 1 (lines_of text)
        ≡ (first, codes "construction" ∷ rules.version ∷ []) ∷ (second, codes "rank" ∷ decimal c.rank ∷ [])
        ∷ map (λ row. (row.line, sentence_tokens row.sentence)) c.rows
    pub good : IsAccountBy rules c.rank (sentences_of c.rows)

-- ---- in version 1

-- the lines that are not blank, each with its number and its tokens
abbrev pub full_lines : ℕ → List (List ℕ) → List (ℕ × List (List ℕ))
full_lines n lines = full_lines_by version_1 n lines

-- no byte but the allowed ones, and no long run
abbrev pub IsClean : List ℕ → Type 0
IsClean line = IsCleanBy version_1 line

-- the text gives this account, and so this construction
abbrev pub TextOf : List ℕ → Account → Type 0
TextOf text c = TextBy version_1 text c
