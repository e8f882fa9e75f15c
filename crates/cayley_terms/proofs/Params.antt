-- The parameters of a construction, by their places.
use Rattle.std.proofs.Common.{◌≡◌, ℕ, ◌+◌, ◌<◌, ◌≤◌, Bool, true, false, not, ◌||◌, cond, List, [], ◌∷◌, ◌++◌, length, None, Some, ◌∙◌, refl, arith, nat_lt}
use Rattle.std.specs.Prelude.{unwrap_or, position}
use Rattle.std.specs.List.{AllByRecursion, list_any, position_or_len}
use Rattle.std.proofs.lemmas.List.Folds.{list_any-append}
use Rattle.std.proofs.lemmas.Slice.Eq.{bytes_eq-Decides}
use Rattle.construction_reader.specs.Words.{◌is◌}
use Rattle.construction_reader.specs.Params.{with_param, with_params}
use Rattle.construction_reader.specs.Said.{Recipe, Sentence}
use Rattle.construction_reader.specs.Grammar.{params_with, params_of}
use Rattle.cayley_terms.specs.Named.{place_of}

-- whether the name is among the parameters
abbrev pub has_param : List (List ℕ) → List ℕ → Bool
has_param params name = list_any (λ p. p is name) params

pub place_below : (params : List (List ℕ)) (name : List ℕ) → has_param params name ≡ true
    → place_of name params < length params
place_below [] name has = absurd cc
place_below (p ∷ params) name has =
    elim (p is name) as (λ b. (b || has_param params name) ≡ true
    → cond (not b) (1 + place_of name params) 0 < length (p ∷ params)) [
      | true ↦ λ e. omega arith
      | false ↦ λ e. let below = place_below params name e in omega arith
    ] has

position-most : {X : Type 0} (test : X → Bool) (xs : List X) → position_or_len test xs ≤ length xs
position-most test [] = omega arith
position-most test (x ∷ xs) =
    let rest = position-most test xs in
    elim (test x) as (λ b. cond (not b) (1 + position_or_len test xs) 0 ≤ length (x ∷ xs)) [
      | true ↦ omega arith
      | false ↦ omega arith
    ]

-- what `position` answers, or else the length
pub position_or : {X : Type 0} (test : X → Bool) (xs : List X)
    → unwrap_or (position test xs) (length xs) ≡ position_or_len test xs
position_or test xs = by (position_or_len test xs) (length xs) (position-most test xs) where
  by : (n all : ℕ) → n ≤ all → unwrap_or (cond (nat_lt n all) (Some n) None) all ≡ n
  by n all few = grind arith

-- ---- the parameters of each statement are among those of the whole

-- those of a recipe are among these
abbrev pub HasParams : List (List ℕ) → Recipe → Type 0
HasParams params (Recipe.Join a b) = Unit {0}
HasParams params (Recipe.Meet a b) = Unit {0}
HasParams params (Recipe.On a b s t) = (has_param params s ≡ true) × (has_param params t ≡ true)
HasParams params (Recipe.Pascal five through) = Unit {0}

-- and so of a sentence
abbrev pub SaysParams : List (List ℕ) → Sentence → Type 0
SaysParams params (Sentence.Free names) = Unit {0}
SaysParams params (Sentence.Define kind name recipe) = HasParams params recipe
SaysParams params (Sentence.Conclude claim) = Unit {0}

either_true : (a b : Bool) → a ≡ true → (a || b) ≡ true
either_true true b e = refl
either_true false b e = absurd cc

param_kept : (params : List (List ℕ)) (other name : List ℕ) → has_param params name ≡ true
    → has_param (with_param params other) name ≡ true
param_kept params other name has =
    elim (has_param params other) as (λ b. has_param (cond b params (params ++ other ∷ [])) name ≡ true) [
      | true ↦ has
      | false ↦
          list_any-append (λ p. p is name) params (other ∷ []) ∙ either_true (has_param params name) _ has
    ]

param_new : (params : List (List ℕ)) (name : List ℕ) → has_param (with_param params name) name ≡ true
param_new params name =
    let same : name is name ≡ true = (bytes_eq-Decides name name).1 refl in
    (elim (has_param params name) as (λ b. has_param params name ≡ b
    → has_param (cond b params (params ++ name ∷ [])) name ≡ true) [
      | true ↦ λ e. e
      | false ↦ λ e.
          list_any-append (λ p. p is name) params (name ∷ []) ∙ rw (e, same) refl
    ]) refl

recipe_kept : (params : List (List ℕ)) (r : Recipe) (name : List ℕ) → has_param params name ≡ true
    → has_param (with_params params r) name ≡ true
recipe_kept params (Recipe.Join a b) name has = has
recipe_kept params (Recipe.Meet a b) name has = has
recipe_kept params (Recipe.On a b s t) name has = param_kept (with_param params s) t name (param_kept params s name has)
recipe_kept params (Recipe.Pascal five through) name has = has

sentence_kept : (params : List (List ℕ)) (x : Sentence) (name : List ℕ) → has_param params name ≡ true
    → has_param (params_with params x) name ≡ true
sentence_kept params (Sentence.Free names) name has = has
sentence_kept params (Sentence.Define kind other recipe) name has = recipe_kept params recipe name has
sentence_kept params (Sentence.Conclude claim) name has = has

all_kept : (params : List (List ℕ)) (sentences : List Sentence) (name : List ℕ) → has_param params name ≡ true
    → has_param (params_of params sentences) name ≡ true
all_kept params [] name has = has
all_kept params (x ∷ sentences) name has =
    all_kept (params_with params x) sentences name (sentence_kept params x name has)

says_so : (params : List (List ℕ)) (x : Sentence) (sentences : List Sentence)
    → SaysParams (params_of (params_with params x) sentences) x
says_so params (Sentence.Free names) sentences = tt
says_so params (Sentence.Define kind name (Recipe.Join a b)) sentences = tt
says_so params (Sentence.Define kind name (Recipe.Meet a b)) sentences = tt
says_so params (Sentence.Define kind name (Recipe.On a b s t)) sentences =
    let one = with_param params s in (
      all_kept (with_param one t) sentences s (param_kept one t s (param_new params s)),
      all_kept (with_param one t) sentences t (param_new one t),
    )
says_so params (Sentence.Define kind name (Recipe.Pascal five through)) sentences = tt
says_so params (Sentence.Conclude claim) sentences = tt

pub all_say : (params : List (List ℕ)) (sentences : List Sentence)
    → AllByRecursion (SaysParams (params_of params sentences)) sentences
all_say params [] = tt
all_say params (x ∷ sentences) = (says_so params x sentences, all_say (params_with params x) sentences)
