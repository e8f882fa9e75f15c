-- The input cut in two, at the first line that is a separator.
use Rattle.std.specs.Prelude.{◌≡◌, ◌≢◌, ◌⊎◌, ℕ, ◌+◌, List, [], ◌∷◌, ◌++◌, drop, length}
use Rattle.std.specs.List.{AllByRecursion}
use Rattle.proof_text.specs.Lines.{text_of}

-- the bytes are those of one line, its LF left out
abbrev pub HasNoFeed : List ℕ → Type 0
HasNoFeed line = AllByRecursion (λ b. b ≢ 10) line

-- a line that separates
pub record IsSeparator (line : List ℕ) : Type 0 where
  pub some : line ≢ []
  pub no_feed : HasNoFeed line

-- a line, and another one than the separator
pub record IsOther (separator line : List ℕ) : Type 0 where
  pub no_feed : HasNoFeed line
  pub other : line ≢ separator

-- the first line of the bytes is this one: with its LF, or the whole of them
abbrev pub BeginsWith : List ℕ → List ℕ → Type 0
BeginsWith line bytes = (bytes ≡ line) ⊎ ((behind : List ℕ) × (bytes ≡ line ++ 10 ∷ behind))

-- the first part is whole lines, none of which is the separator, and the rest begins with the separator
pub record IsCutAt (separator first rest : List ℕ) : Type 0 where
  pub lines : List (List ℕ)
  pub others : AllByRecursion (IsOther separator) lines
  pub first_is : first ≡ text_of lines
  pub begins : BeginsWith separator rest

-- the first part is lines, none of which is the separator, the last one without LF, and there is no rest
pub record IsUncut (separator first rest : List ℕ) : Type 0 where
  pub lines : List (List ℕ)
  pub others : AllByRecursion (IsOther separator) lines
  pub last : List ℕ
  pub last_other : IsOther separator last
  pub first_is : first ≡ text_of lines ++ last
  pub no_rest : rest ≡ []

-- the input is the first part and the rest, cut before the first line that is the separator, if one is
pub record IsCut (separator input first rest : List ℕ) : Type 0 where
  pub whole : input ≡ first ++ rest
  pub cut : IsCutAt separator first rest ⊎ IsUncut separator first rest

-- what stands behind the separator and its LF
abbrev pub behind_separator : List ℕ → List ℕ → List ℕ
behind_separator separator rest = drop (length separator + 1) rest
