-- Which fault a text has: its first faulty line decides, and in that line the first kind of fault.
use Rattle.std.specs.Prelude.{◌≡◌, ℕ, ◌+◌, ◌≤◌, ◌<◌, ◌⊎◌, Bool, true, false, ◌&&◌, nat_lt, List, [], ◌∷◌, ◌++◌, drop, length, map, sum_by, codes, decimal, if◌then◌else◌}
use Rattle.std.specs.List.{flat_map, AllByRecursion, list_any}
use Rattle.construction_reader.specs.declared.fault.Kind.{Kind}
use Rattle.construction_reader.specs.declared.fault.Kind.TheVariants.{Byte, LongName, NoHeader, AfterConclusion, Keyword, Deep, Shape, TooMany, NoConclusion}
use Rattle.construction_reader.specs.declared.fault.TextFault.{TextFault}
use Rattle.construction_reader.specs.declared.fault.ReadTextError.{ReadTextError}
use Rattle.construction_reader.specs.declared.fault.ReadTextError.TheVariants as errors
use Rattle.construction_reader.specs.Words.{◌is◌}
use Rattle.construction_reader.specs.Rules.{Rules, version_1, IsRankBy, allows_several}
use Rattle.construction_reader.specs.Tokens.{tokens_by}
use Rattle.construction_reader.specs.Said.{Sentence}
use Rattle.construction_reader.specs.Lines.{lines_of, content, is_clean_by, is_long, has_keyword, is_deep}
use Rattle.construction_reader.specs.Grammar.{sentence_tokens, IsSentenceBy, free_names, definitions, conclusions, params_of}

-- a line of these tokens, unless it is blank
abbrev pub unless_blank : List (List ℕ) → List (List (List ℕ))
unless_blank [] = []
unless_blank (token ∷ rest) = (token ∷ rest) ∷ []

-- whether it is the line of a conclusion
abbrev pub concludes : List (List ℕ) → Bool
concludes [] = false
concludes (first ∷ rest) = first is codes "conclude"

-- it is neither blank nor a line of the header
abbrev pub IsBehindHeader : List (List (List ℕ)) → List (List ℕ) → Type 0
IsBehindHeader earlier tokens = (2 ≤ length earlier) × (0 < length tokens)

-- the kinds that a line may have, in the order in which they decide
abbrev pub kinds : List Kind
kinds = Byte ∷ LongName ∷ NoHeader ∷ AfterConclusion ∷ Keyword ∷ Deep ∷ Shape ∷ TooMany ∷ []

-- it is the first of these kinds that there is
abbrev pub IsFirst : (Kind → Type 0) → Kind → List Kind → Type 0
IsFirst Has kind [] = ⊥
IsFirst Has kind (next ∷ others) = ((kind ≡ next) × Has next) ⊎ ((Has next → ⊥) × IsFirst Has kind others)

-- ---- what is wrong with a line that is not blank, behind these that are not blank

module _ (rules : Rules) where
  -- the tokens of each line that is not blank
  abbrev pub spoken_by : List (List ℕ) → List (List (List ℕ))
  spoken_by lines = flat_map (λ line. unless_blank (tokens_by rules (content line))) lines

  -- it is the first or the second, and not the required one
  abbrev pub IsWrongHeaderBy : List (List (List ℕ)) → List (List ℕ) → Type 0
  IsWrongHeaderBy [] tokens = tokens ≡ codes "construction" ∷ rules.version ∷ [] → ⊥
  IsWrongHeaderBy (first ∷ []) tokens =
      (rank : ℕ) → IsRankBy rules rank → tokens ≡ codes "rank" ∷ decimal rank ∷ [] → ⊥
  IsWrongHeaderBy (first ∷ second ∷ others) tokens = ⊥

  -- whether it may stand behind a conclusion
  abbrev pub may_follow : List (List ℕ) → Bool
  may_follow tokens = allows_several rules && concludes tokens

  -- it is in no form of a sentence
  abbrev pub IsShapelessBy : List (List ℕ) → Type 0
  IsShapelessBy tokens = (sentence : Sentence) → IsSentenceBy rules sentence → tokens ≡ sentence_tokens sentence → ⊥

  -- these lines are the header and these sentences
  pub record SayBy (lines : List (List (List ℕ))) (sentences : List Sentence) : Type 0 where
    pub tokens : drop 2 lines ≡ map sentence_tokens sentences
    pub each : AllByRecursion (IsSentenceBy rules) sentences

  -- a limit on free names, definitions, parameters or conclusions is passed
  abbrev pub PassesLimitBy : List Sentence → Type 0
  PassesLimitBy sentences =
      (200 < sum_by free_names sentences) ⊎ ((2000 < sum_by definitions sentences)
      ⊎ ((64 < length (params_of [] sentences)) ⊎ (rules.most_conclusions < sum_by conclusions sentences)))

  -- ---- the faults of a line

  -- a line of these bytes and tokens has a fault of this kind, behind these lines that are not blank
  abbrev pub IsWrongBy : List (List (List ℕ)) → List ℕ → List (List ℕ) → Kind → Type 0
  IsWrongBy earlier bytes tokens Byte = is_clean_by rules bytes ≡ false
  IsWrongBy earlier bytes tokens LongName = list_any is_long tokens ≡ true
  IsWrongBy earlier bytes tokens NoHeader = (0 < length tokens) × IsWrongHeaderBy earlier tokens
  IsWrongBy earlier bytes tokens AfterConclusion =
      IsBehindHeader earlier tokens × (list_any concludes earlier ≡ true) × (may_follow tokens ≡ false)
  IsWrongBy earlier bytes tokens Keyword = IsBehindHeader earlier tokens × (has_keyword tokens ≡ false)
  IsWrongBy earlier bytes tokens Deep = IsBehindHeader earlier tokens × (is_deep 0 tokens ≡ true)
  IsWrongBy earlier bytes tokens Shape = IsBehindHeader earlier tokens × IsShapelessBy tokens
  IsWrongBy earlier bytes tokens TooMany =
      IsBehindHeader earlier tokens
      × ((sentences : List Sentence) × SayBy (earlier ++ tokens ∷ []) sentences × PassesLimitBy sentences)
  IsWrongBy earlier bytes tokens NoConclusion = ⊥

  -- the line has a fault of this kind, behind these lines
  abbrev pub HasFaultBy : List (List ℕ) → List ℕ → Kind → Type 0
  HasFaultBy before line kind =
      IsWrongBy (spoken_by before) (content line) (tokens_by rules (content line)) kind

  -- none of the lines is faulty
  abbrev pub NoneFaultyBy : List (List ℕ) → Type 0
  NoneFaultyBy lines = (before : List (List ℕ)) (line : List ℕ) (after : List (List ℕ))
      → lines ≡ before ++ line ∷ after → (kind : Kind) → HasFaultBy before line kind → ⊥

  -- ---- the fault of a text

  -- the first faulty one of these lines, and the first of its faults
  pub record IsFaultyLineBy (lines : List (List ℕ)) (fault : TextFault) : Type 0 where
    pub before : List (List ℕ)
    pub line : List ℕ
    pub after : List (List ℕ)
    pub split : lines ≡ before ++ line ∷ after
    pub number : fault.line ≡ length before + 1
    pub fine_before : NoneFaultyBy before
    pub kind : IsFirst (HasFaultBy before line) fault.kind kinds

  -- none of the lines is faulty, but a line of the header or the conclusion is missing
  pub record EndsEarlyBy (lines : List (List ℕ)) (fault : TextFault) : Type 0 where
    pub fine : NoneFaultyBy lines
    pub open_end : list_any concludes (spoken_by lines) ≡ false
    pub number : fault.line ≡ length lines + 1
    pub kind : fault.kind ≡ (if nat_lt (length (spoken_by lines)) 2 then NoHeader else NoConclusion)

  -- the fault of the text
  abbrev pub IsFaultBy : List ℕ → TextFault → Type 0
  IsFaultBy text fault = IsFaultyLineBy (lines_of text) fault ⊎ EndsEarlyBy (lines_of text) fault

  -- the error is the fault of the text, or that memory was wanting
  abbrev pub IsCauseBy : List ℕ → ReadTextError → Type 0
  IsCauseBy text errors.Memory = Unit {0}
  IsCauseBy text (errors.Fault fault) = IsFaultBy text fault

-- ---- in version 1

-- the tokens of each line that is not blank
abbrev pub spoken : List (List ℕ) → List (List (List ℕ))
spoken lines = spoken_by version_1 lines

-- it is the first or the second, and not the required one
abbrev pub IsWrongHeader : List (List (List ℕ)) → List (List ℕ) → Type 0
IsWrongHeader earlier tokens = IsWrongHeaderBy version_1 earlier tokens

-- it is in no form of a sentence
abbrev pub IsShapeless : List (List ℕ) → Type 0
IsShapeless tokens = IsShapelessBy version_1 tokens

-- these lines are the header and these sentences
abbrev pub Say : List (List (List ℕ)) → List Sentence → Type 0
Say lines sentences = SayBy version_1 lines sentences

-- a limit on free names, definitions, parameters or conclusions is passed
abbrev pub PassesLimit : List Sentence → Type 0
PassesLimit sentences = PassesLimitBy version_1 sentences

-- a line of these bytes and tokens has a fault of this kind, behind these lines that are not blank
abbrev pub IsWrong : List (List (List ℕ)) → List ℕ → List (List ℕ) → Kind → Type 0
IsWrong earlier bytes tokens kind = IsWrongBy version_1 earlier bytes tokens kind

-- the line has a fault of this kind, behind these lines
abbrev pub HasFault : List (List ℕ) → List ℕ → Kind → Type 0
HasFault before line kind = HasFaultBy version_1 before line kind

-- none of the lines is faulty
abbrev pub NoneFaulty : List (List ℕ) → Type 0
NoneFaulty lines = NoneFaultyBy version_1 lines

-- the first faulty one of these lines, and the first of its faults
abbrev pub IsFaultyLine : List (List ℕ) → TextFault → Type 0
IsFaultyLine lines fault = IsFaultyLineBy version_1 lines fault

-- none of the lines is faulty, but a line of the header or the conclusion is missing
abbrev pub EndsEarly : List (List ℕ) → TextFault → Type 0
EndsEarly lines fault = EndsEarlyBy version_1 lines fault

-- the fault of the text
abbrev pub IsFault : List ℕ → TextFault → Type 0
IsFault text fault = IsFaultBy version_1 text fault

-- the error is the fault of the text, or that memory was wanting
abbrev pub IsCause : List ℕ → ReadTextError → Type 0
IsCause text error = IsCauseBy version_1 text error
