-- What a text may give is so in one way, and so a construction may keep it as a fact.
use Rattle.std.specs.Prelude.{◌≡◌, ℕ, ◌+◌, Bool, true, false, List, [], ◌∷◌, length}
use Rattle.std.specs.List.{AllByRecursion-prop, list_all}
use Rattle.std.specs.Coded.{Coded-set, coded_bool, coded_ℕ, ×_prop, Unit-prop, le_prop}
use Rattle.construction_reader.specs.Words.{is_name}
use Rattle.construction_reader.specs.Rules.{Rules}
use Rattle.construction_reader.specs.Said.{Object, Recipe, Claim, Sentence, Row, Account, sentences_of}
use Rattle.construction_reader.specs.Grammar.{HasNames, IsObject, AreObjects, IsClaim, RisesFrom, IsRecipeBy, IsSentenceBy, is_conclusion, ends_too_soon, EndsBy, IsAccountBy, IsGivenBy}

-- two tests agree in one way
pub is_true-prop : (a b : Bool) → IsProp (a ≡ b)
is_true-prop a b = Coded-set coded_bool a b

-- each name is a name in one way
pub HasNames-prop : (o : Object) → IsProp (HasNames o)
HasNames-prop (Object.Named name) = is_true-prop (is_name name) true
HasNames-prop (Object.Join a b) = ×_prop (HasNames-prop a) (HasNames-prop b)
HasNames-prop (Object.Meet a b) = ×_prop (HasNames-prop a) (HasNames-prop b)

-- it is an object of the grammar in one way
pub IsObject-prop : (o : Object) → IsProp (IsObject o)
IsObject-prop o x y = λ i. record { names = HasNames-prop o x.names y.names i; shallow = le_prop x.shallow y.shallow i }

-- they are objects of the grammar in one way
pub AreObjects-prop : (count : ℕ) (args : List Object) → IsProp (AreObjects count args)
AreObjects-prop count args = ×_prop (Coded-set coded_ℕ (length args) count)
    (AllByRecursion-prop IsObject IsObject-prop args)

-- it is a claim of the grammar in one way
pub IsClaim-prop : (claim : Claim) → IsProp (IsClaim claim)
IsClaim-prop (Claim.Collinear args) = AreObjects-prop 3 args
IsClaim-prop (Claim.Concurrent args) = λ x y. λ i. (
  le_prop x.0 y.0 i,
  le_prop x.1 y.1 i,
  AllByRecursion-prop IsObject IsObject-prop args x.2 y.2 i,
)
IsClaim-prop (Claim.Coplanar args) = AreObjects-prop 4 args
IsClaim-prop (Claim.Meeting args) = AreObjects-prop 2 args
IsClaim-prop (Claim.Incident args) = AreObjects-prop 2 args
IsClaim-prop (Claim.Conic args) = AreObjects-prop 6 args

-- the lines rise in one way
pub RisesFrom-prop : (line : ℕ) (rows : List Row) → IsProp (RisesFrom line rows)
RisesFrom-prop line [] = Unit-prop
RisesFrom-prop line (row ∷ rows) = ×_prop le_prop (RisesFrom-prop (row.line + 1) rows)

module _ (rules : Rules) where
  -- it is a recipe of the grammar in one way
  pub IsRecipeBy-prop : (r : Recipe) → IsProp (IsRecipeBy rules r)
  IsRecipeBy-prop (Recipe.Join a b) = ×_prop (IsObject-prop a) (IsObject-prop b)
  IsRecipeBy-prop (Recipe.Meet a b) = ×_prop (IsObject-prop a) (IsObject-prop b)
  IsRecipeBy-prop (Recipe.On a b s t) = λ x y. λ i. (
    IsObject-prop a x.0 y.0 i,
    IsObject-prop b x.1 y.1 i,
    is_true-prop (rules.is_weight s) true x.2 y.2 i,
    is_true-prop (rules.is_weight t) true x.3 y.3 i,
  )
  IsRecipeBy-prop (Recipe.Pascal five through) = ×_prop (AreObjects-prop 5 five) (IsObject-prop through)

  -- it is a sentence of the grammar in one way
  pub IsSentenceBy-prop : (s : Sentence) → IsProp (IsSentenceBy rules s)
  IsSentenceBy-prop (Sentence.Free names) = ×_prop le_prop (is_true-prop (list_all is_name names) true)
  IsSentenceBy-prop (Sentence.Define kind name recipe) =
      ×_prop (is_true-prop (is_name name) true) (IsRecipeBy-prop recipe)
  IsSentenceBy-prop (Sentence.Conclude claim) = IsClaim-prop claim

  -- they end so in one way
  pub EndsBy-prop : (sentences : List Sentence) → IsProp (EndsBy rules sentences)
  EndsBy-prop [] = λ x y. absurd x
  EndsBy-prop (sentence ∷ []) = is_true-prop (is_conclusion sentence) true
  EndsBy-prop (sentence ∷ next ∷ others) =
      ×_prop (is_true-prop (ends_too_soon rules sentence next) false) (EndsBy-prop (next ∷ others))

  -- they are within the limits in one way
  pub IsAccountBy-prop : (rank : ℕ) (sentences : List Sentence) → IsProp (IsAccountBy rules rank sentences)
  IsAccountBy-prop rank sentences x y = λ i. record {
    ranked = ×_prop le_prop le_prop x.ranked y.ranked i;
    each = AllByRecursion-prop (IsSentenceBy rules) IsSentenceBy-prop sentences x.each y.each i;
    ends = EndsBy-prop sentences x.ends y.ends i;
    few_free = le_prop x.few_free y.few_free i;
    few_definitions = le_prop x.few_definitions y.few_definitions i;
    few_params = le_prop x.few_params y.few_params i;
    few_conclusions = le_prop x.few_conclusions y.few_conclusions i;
  }

  -- that it may be given holds in one way
  pub IsGivenBy-prop : (c : Account) → IsProp (IsGivenBy rules c)
  IsGivenBy-prop c x y = λ i. record {
    good = IsAccountBy-prop c.rank (sentences_of c.rows) x.good y.good i;
    rising = RisesFrom-prop 3 c.rows x.rising y.rising i;
  }
