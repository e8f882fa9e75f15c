-- Options and numbers, by the words that give them.
use Rattle.std.specs.Prelude.{◌≡◌, ◌≤◌, ◌+◌, ◌⊎◌, ℕ, suc, Bool, true, false, List, [], ◌∷◌, ◌++◌, flat_map, codes}
use Rattle.std.specs.Prelude.{decimal, Option, Some, None}
use Rattle.std.specs.List.{AllByRecursion}
use Rattle.cayley_run.specs.declared.answer.Options.{Options}
use Rattle.prover.specs.declared.words.Chosen.{Chosen}

-- ---- numbers

-- the word is this number, from 1 to the most, in its one spelling
pub record IsNumber (most : ℕ) (word : List ℕ) (number : ℕ) : Type 0 where
  pub spelled : word ≡ decimal number
  pub least : 1 ≤ number
  pub within : number ≤ most

-- the word is no such number
abbrev pub NoNumber : ℕ → List ℕ → Type 0
NoNumber most word = (number : ℕ) → IsNumber most word number → ⊥

-- the most turns that a run may be given, and those that it has where the words do not say it
abbrev pub most_turns : ℕ
most_turns = 10000000

abbrev pub usual_turns : ℕ
usual_turns = 1000000

-- ---- options

-- an option: so many turns, or that each section begins with contraction
pub data Choice : Type 0 where
  Turns : ℕ → Choice
  Contract : Choice

-- the words of an option
abbrev pub choice_words : Choice → List (List ℕ)
choice_words (Turns number) = codes "--budget" ∷ decimal number ∷ []
choice_words Contract = codes "--contract" ∷ []

-- an option that may be given
abbrev pub IsChoice : Choice → Type 0
IsChoice (Turns number) = IsNumber most_turns (decimal number) number
IsChoice Contract = Unit {0}

-- the words are those of these options, one behind the other
pub record AreChoices (words : List (List ℕ)) (choices : List Choice) : Type 0 where
  pub spelled : words ≡ flat_map choice_words choices
  pub each : AllByRecursion IsChoice choices

-- the numbers of turns that are given
abbrev pub turns_in : List Choice → List ℕ
turns_in [] = []
turns_in (Turns number ∷ choices) = number ∷ turns_in choices
turns_in (Contract ∷ choices) = turns_in choices

-- how often contraction is asked for
abbrev pub contractions_in : List Choice → ℕ
contractions_in [] = 0
contractions_in (Turns number ∷ choices) = contractions_in choices
contractions_in (Contract ∷ choices) = suc (contractions_in choices)

-- how often it may be asked for
abbrev pub times : Bool → ℕ
times true = 1
times false = 0

-- the words are options in any order, each kind at most once, and give these
pub record GiveOptions (words : List (List ℕ)) (options : Options) : Type 0 where
  pub choices : List Choice
  pub are : AreChoices words choices
  pub turns : ((turns_in choices ≡ []) × (options.budget ≡ usual_turns)) ⊎ (turns_in choices ≡ options.budget ∷ [])
  pub contract : contractions_in choices ≡ times options.contract

-- they are not
abbrev pub NoOptions : List (List ℕ) → Type 0
NoOptions words = (options : Options) → GiveOptions words options → ⊥

-- ---- options that are read one after the other

-- the number of turns, where one is chosen
abbrev pub turns_of : Option ℕ → List ℕ
turns_of None = []
turns_of (Some number) = number ∷ []

-- the words add options to those chosen before, so that each kind is still chosen at most once
pub record AddsChoices (words : List (List ℕ)) (old new : Chosen) : Type 0 where
  pub choices : List Choice
  pub are : AreChoices words choices
  pub turns : turns_of old.budget ++ turns_in choices ≡ turns_of new.budget
  pub contract : times old.contract + contractions_in choices ≡ times new.contract

-- they do not
abbrev pub AddsNone : List (List ℕ) → Chosen → Type 0
AddsNone words old = (new : Chosen) → AddsChoices words old new → ⊥
