-- The names of a good construction: few, short and all different.
use Rattle.std.proofs.Common.{◌≡◌, ◌≢◌, ℕ, ◌≤◌, Bool, true, false, true≢false, not, ◌&&◌, ◌||◌, cond, List, [], ◌∷◌, ◌++◌}
use Rattle.std.proofs.Common.{flat_map, length, Some, is_some, Result, Ok, Err, refl, sym, ap, subst, ◌∙◌}
use Rattle.std.proofs.Common.{append_assoc, append-nil, length-append, arith}
use Rattle.std.specs.Prelude.{nat_le, sum_by}
use Rattle.std.specs.List.{AllByRecursion, IsDistinct, list_any, list_all}
use Rattle.std.proofs.lemmas.Bool.{leb-true}
use Rattle.std.proofs.lemmas.Bool.Decides.{Decides-ltb}
use Rattle.std.proofs.lemmas.List.Sums.{sum_by-cons}
use Rattle.std.proofs.lemmas.Slice.Eq.{bytes_eq-Decides}
use Rattle.construction_reader.specs.Words.{◌is◌, is_name, is_name_byte, begins_with_letter, is_keyword}
use Rattle.construction_reader.specs.Params.{with_param, with_params}
use Rattle.construction_reader.specs.Said.{Recipe, Sentence, Row, Account, sentences_of}
use Rattle.construction_reader.specs.Grammar.{IsSentence, IsAccount, params_with, params_of, free_names}
use Rattle.step_types.specs.declared.measure.Measure.{Measure}
use Rattle.step_types.specs.declared.fault.StepKind.{StepKind}
use Rattle.step_types.specs.declared.fault.StepKind.TheVariants.{Rank, Twice}
use Rattle.step_types.specs.Checks.{IsGood, outcome, free_in, names_of}
use Rattle.step_types.specs.Known.{Known, nothing, found, names_made, entries_of}
use Rattle.step_types.specs.Rules.{fits_rank, is_object, is_taken, has_repeat, is_twice, measured, recipe_params}
use Rattle.step_types.proofs.NewNames.{either_false}
use Rattle.step_types.proofs.GoodLaws.{measure_behind, first_taken, params_at_end, both_true}
use Rattle.proof_text.specs.Numbers.{is_run}
use Rattle.proof_text.specs.Outcome.{AreNames}

abbrev Name : Type 0
Name = List ℕ

-- ---- lists

all_append : {A : Type 0} (P : A → Type 0) (xs ys : List A) → AllByRecursion P xs → AllByRecursion P ys
    → AllByRecursion P (xs ++ ys)
all_append P [] ys a b = b
all_append P (x ∷ xs) ys a b = (a.0, all_append P xs ys a.1 b)

all_map : {A : Type 0} (P Q : A → Type 0) → ((x : A) → P x → Q x) → (xs : List A) → AllByRecursion P xs
    → AllByRecursion Q xs
all_map P Q f [] a = tt
all_map P Q f (x ∷ xs) a = (f x a.0, all_map P Q f xs a.1)

all_both : {A : Type 0} (P Q : A → Type 0) (xs : List A) → AllByRecursion P xs → AllByRecursion Q xs
    → AllByRecursion (λ x. P x × Q x) xs
all_both P Q [] a b = tt
all_both P Q (x ∷ xs) a b = ((a.0, b.0), all_both P Q xs a.1 b.1)

-- what holds between each of these and each of those
abbrev Between : {A : Type 0} → (A → A → Type 0) → List A → List A → Type 0
Between R xs ys = AllByRecursion (λ x. AllByRecursion (R x) ys) xs

turned : {A : Type 0} (R S : A → A → Type 0) → ((x y : A) → R x y → S y x) → (xs ys : List A) → Between R xs ys
    → Between S ys xs
turned R S f xs [] a = tt
turned {A} R S f xs (y ∷ ys) a = (
  all_map (λ x. AllByRecursion (R x) (y ∷ ys)) (λ x. S y x) (λ x r. f x y r.0) xs a,
  turned R S f xs ys
      (all_map (λ x. AllByRecursion (R x) (y ∷ ys)) (λ x. AllByRecursion (R x) ys) (λ x r. r.1) xs a),
)

all_false : {A : Type 0} (f : A → Bool) (xs : List A) → list_any f xs ≡ false → AllByRecursion (λ x. f x ≡ false) xs
all_false f [] e = tt
all_false f (x ∷ xs) e = let both = either_false (f x) (list_any f xs) e in (both.0, all_false f xs both.1)

none_true : {A : Type 0} (f : A → Bool) (xs : List A) → AllByRecursion (λ x. f x ≡ false) xs → list_any f xs ≡ false
none_true f [] a = refl
none_true f (x ∷ xs) a = rw a.0 (none_true f xs a.1)

all_true : {A : Type 0} (f : A → Bool) (xs : List A) → list_all f xs ≡ true → AllByRecursion (λ x. f x ≡ true) xs
all_true f [] e = tt
all_true f (x ∷ xs) e = let both = both_true (f x) (list_all f xs) e in (both.0, all_true f xs both.1)

true_all : {A : Type 0} (f : A → Bool) (xs : List A) → AllByRecursion (λ x. f x ≡ true) xs → list_all f xs ≡ true
true_all f [] a = refl
true_all f (x ∷ xs) a = rw a.0 (true_all f xs a.1)

-- ---- names that are all different

apart : (a b : Name) → a is b ≡ false → a ≢ b
apart a b other e = true≢false (sym ((bytes_eq-Decides a b).1 e) ∙ other)

is_apart : (a b : Name) → a ≢ b → a is b ≡ false
is_apart a b other = go (a is b) (bytes_eq-Decides a b).0
  where
    go : (b' : Bool) → (b' ≡ true → a ≡ b) → b' ≡ false
    go true same = absurd (other (same refl))
    go false same = refl

abbrev AreApart : List Name → Type 0
AreApart [] = Unit {0}
AreApart (name ∷ names) = AllByRecursion (λ other. name ≢ other) names × AreApart names

apart_append : (xs ys : List Name) → AreApart xs → AreApart ys → Between (λ x y. x ≢ y) xs ys → AreApart (xs ++ ys)
apart_append [] ys a b between = b
apart_append (x ∷ xs) ys a b between =
    (all_append (λ y. x ≢ y) xs ys a.0 between.0, apart_append xs ys a.1 b between.1)

distinct : (names : List Name) → AreApart names → IsDistinct (λ a b. a is b) names
unfolding IsDistinct
distinct [] a = tt
distinct (name ∷ names) a = (
  all_map (λ other. name ≢ other) (λ other. name is other ≡ false) (is_apart name) names a.0,
  distinct names a.1,
)

-- a test that holds of all of these and of none of those tells them apart
apart_by : (f : Name → Bool) (xs ys : List Name) → AllByRecursion (λ x. f x ≡ true) xs
    → AllByRecursion (λ y. f y ≡ false) ys → Between (λ x y. x ≢ y) xs ys
apart_by f [] ys a b = tt
apart_by f (x ∷ xs) ys a b = (
  all_map (λ y. f y ≡ false) (λ y. x ≢ y) (λ y none e. true≢false (sym a.0 ∙ ap f e ∙ none)) ys b,
  apart_by f xs ys a.1 b,
)

no_repeat : (names : List Name) → has_repeat names ≡ false → AreApart names
no_repeat [] e = tt
no_repeat (name ∷ names) e =
    let both = either_false (list_any (λ other. other is name) names) (has_repeat names) e in (
      all_map (λ other. other is name ≡ false) (λ other. name ≢ other) (λ other none same. apart other name none (sym same)) names
          (all_false (λ other. other is name) names both.0),
      no_repeat names both.1,
    )

-- ---- the objects that are made

-- whether an object has the name
abbrev has : List (Name × Measure) → Name → Bool
has made name = is_some (found name made)

has_append : (made more : List (Name × Measure)) (name : Name) → has (made ++ more) name ≡ (has made name || has more name)
has_append [] more name = refl
has_append (entry ∷ made) more name =
    elim (name is entry.0) as (λ b. is_some (cond b (Some entry.1) (found name (made ++ more)))
    ≡ (is_some (cond b (Some entry.1) (found name made)) || has more name)) [
      | true ↦ refl
      | false ↦ has_append made more name
    ]

has_entries : (m : Measure) (names : List Name) (name : Name)
    → has (entries_of m names) name ≡ list_any (λ other. name is other) names
has_entries m [] name = refl
has_entries m (other ∷ names) name =
    elim (name is other) as (λ b. is_some (cond b (Some m) (found name (entries_of m names)))
    ≡ (b || list_any (λ x. name is x) names)) [
      | true ↦ refl
      | false ↦ has_entries m names name
    ]

-- each of the names is among them
among : (xs ys : List Name) → AllByRecursion (λ name. list_any (λ other. name is other) (xs ++ ys) ≡ true) ys
among xs [] = tt
among xs (y ∷ ys) = (
  here xs,
  subst (λ (zs : List Name). AllByRecursion (λ name. list_any (λ other. name is other) zs ≡ true) ys)
      (append_assoc xs (y ∷ []) ys) (among (xs ++ y ∷ []) ys),
)
  where
    here : (xs : List Name) → list_any (λ other. y is other) (xs ++ y ∷ ys) ≡ true
    here [] = rw ((bytes_eq-Decides y y).1 refl) refl
    here (x ∷ xs) =
        elim (y is x) as (λ b. (b || list_any (λ other. y is other) (xs ++ y ∷ ys)) ≡ true) [
          | true ↦ refl
          | false ↦ here xs
        ]

-- free points and parameters that are all different: the one are objects, the other none
record Keeps (made : List (Name × Measure)) (free params : List Name) : Type 0 where
  free_apart : AreApart free
  params_apart : AreApart params
  objects : AllByRecursion (λ name. has made name ≡ true) free
  others : AllByRecursion (λ name. has made name ≡ false) params

-- names that are not taken, and all different
record AreNew (known : Known) (names : List Name) : Type 0 where
  each : AllByRecursion (λ name. is_taken known name ≡ false) names
  different : AreApart names

new_names : (known : Known) (s : Sentence) → is_twice known s ≡ false → AreNew known (names_made s)
new_names known (Sentence.Free names) once =
    let both = either_false (list_any (is_taken known) names) (has_repeat names) once in
    record { each = all_false (is_taken known) names both.0; different = no_repeat names both.1 }
new_names known (Sentence.Define kind name recipe) once =
    let both = either_false (is_taken known name) _ once in
    record { each = (both.0, tt); different = (tt, tt) }
new_names known (Sentence.Conclude claim) once = record { each = tt; different = tt }

module _ (known : Known) (m : Measure) (names free : List Name) (new : AreNew known names)
    (keeps : Keeps known.made free known.params) where
  abbrev more : List (Name × Measure)
  more = known.made ++ entries_of m names

  two : AllByRecursion (λ name. (is_object known name ≡ false) × (list_any (λ param. param is name) known.params ≡ false)) names
  two =
      all_map (λ name. is_taken known name ≡ false) _
      (λ name none. either_false (is_object known name) (list_any (λ param. param is name) known.params) none) names new.each

  -- the free points stay objects
  still_objects : AllByRecursion (λ name. has more name ≡ true) free
  still_objects =
      all_map (λ name. has known.made name ≡ true) (λ name. has more name ≡ true)
      (λ name holds. has_append known.made (entries_of m names) name ∙ ap (λ b. b || has (entries_of m names) name) holds)
      free keeps.objects

  -- and the new names are
  new_objects : AllByRecursion (λ name. has more name ≡ true) names
  new_objects =
      all_map (λ name. list_any (λ other. name is other) names ≡ true) (λ name. has more name ≡ true)
      (λ name holds. has_append known.made (entries_of m names) name
      ∙ ap (λ b. has known.made name || b) (has_entries m names name ∙ holds) ∙ or_true (has known.made name))
      names (among [] names)
    where
      or_true : (b : Bool) → (b || true) ≡ true
      or_true true = refl
      or_true false = refl

  -- the parameters are no new names
  not_new : Between (λ param name. param is name ≡ false) known.params names
  not_new =
      turned (λ name param. param is name ≡ false) (λ param name. param is name ≡ false) (λ name param none. none) names
      known.params
      (all_map _ (λ name. AllByRecursion (λ param. param is name ≡ false) known.params)
      (λ name none. all_false (λ param. param is name) known.params none.1) names two)

  -- a name that was no object, and is no new name, is none
  no_object : (name : Name) → has known.made name ≡ false → AllByRecursion (λ other. name is other ≡ false) names
      → has more name ≡ false
  no_object name none others =
      has_append known.made (entries_of m names) name ∙ ap (λ b. b || has (entries_of m names) name) none
      ∙ has_entries m names name ∙ none_true (λ other. name is other) names others

  still_others : AllByRecursion (λ name. has more name ≡ false) known.params
  still_others =
      all_map (λ name. (has known.made name ≡ false) × AllByRecursion (λ other. name is other ≡ false) names)
      (λ name. has more name ≡ false) (λ name none. no_object name none.0 none.1) known.params
      (all_both (λ name. has known.made name ≡ false) (λ name. AllByRecursion (λ other. name is other ≡ false) names)
      known.params keeps.others not_new)

  free_still_apart : AreApart (free ++ names)
  free_still_apart =
      apart_append free names keeps.free_apart new.different
      (apart_by (has known.made) free names keeps.objects
      (all_map _ (λ name. has known.made name ≡ false) (λ name none. none.0) names two))

-- ---- the parameters of a recipe

record AreParams (made : List (Name × Measure)) (params : List Name) : Type 0 where
  different : AreApart params
  others : AllByRecursion (λ name. has made name ≡ false) params

with_one : (made : List (Name × Measure)) (params : List Name) (name : Name) → AreParams made params
    → has made name ≡ false → AreParams made (with_param params name)
with_one made params name are none = go (list_any (λ p. p is name) params) refl
  where
    go : (b : Bool) → list_any (λ p. p is name) params ≡ b
        → AreParams made (cond b params (params ++ name ∷ []))
    go true e = are
    go false e =
        record {
          different = apart_append params (name ∷ []) are.different (tt, tt)
              (all_map (λ p. p is name ≡ false) (λ p. AllByRecursion (λ other. p ≢ other) (name ∷ []))
              (λ p other. (apart p name other, tt)) params (all_false (λ p. p is name) params e));
          others = all_append (λ n. has made n ≡ false) params (name ∷ []) are.others (none, tt);
        }

with_recipe : (made : List (Name × Measure)) (params : List Name) (recipe : Recipe) → AreParams made params
    → AllByRecursion (λ name. has made name ≡ false) (recipe_params recipe) → AreParams made (with_params params recipe)
with_recipe made params (Recipe.Join a b) are none = are
with_recipe made params (Recipe.Meet a b) are none = are
with_recipe made params (Recipe.On a b s t) are none =
    with_one made (with_param params s) t (with_one made params s are none.0) none.1.0
with_recipe made params (Recipe.Pascal five through) are none = are

-- ---- sentences

keeps_next : (known : Known) (s : Sentence) (m : Measure) (free : List Name) → Keeps known.made free known.params
    → is_twice known s ≡ false
    → Keeps (known.made ++ entries_of m (names_made s)) (free ++ free_in s) (params_with known.params s)
keeps_next known (Sentence.Free names) m free keeps once =
    let new = new_names known (Sentence.Free names) once in
    record {
      free_apart = free_still_apart known m names free new keeps;
      params_apart = keeps.params_apart;
      objects = all_append (λ name. has (known.made ++ entries_of m names) name ≡ true) free names
          (still_objects known m names free new keeps) (new_objects known m names free new keeps);
      others = still_others known m names free new keeps;
    }
keeps_next known (Sentence.Define kind name recipe) m free keeps once =
    let s : Sentence = Sentence.Define kind name recipe in
    let new = new_names known s once in
    let both = either_false (is_taken known name) _ once in
    let none = all_false (λ param. is_object known param || (param is name)) (recipe_params recipe) both.1 in
    let others : AllByRecursion (λ param. has (known.made ++ entries_of m (name ∷ [])) param ≡ false) (recipe_params recipe) =
    all_map (λ param. (is_object known param || (param is name)) ≡ false) _
    (λ param neither.
    let two = either_false (is_object known param) (param is name) neither in
    no_object known m (name ∷ []) free new keeps param two.0 (two.1, tt)) (recipe_params recipe) none in
    let are = with_recipe (known.made ++ entries_of m (name ∷ [])) known.params recipe
    (record { different = keeps.params_apart; others = still_others known m (name ∷ []) free new keeps }) others in
    record {
      free_apart = subst AreApart (sym (append-nil free)) keeps.free_apart;
      params_apart = are.different;
      objects = subst (AllByRecursion (λ n. has (known.made ++ entries_of m (name ∷ [])) n ≡ true))
          (sym (append-nil free)) (still_objects known m (name ∷ []) free new keeps);
      others = are.others;
    }
keeps_next known (Sentence.Conclude claim) m free keeps once =
    let same = append-nil known.made in
    record {
      free_apart = subst AreApart (sym (append-nil free)) keeps.free_apart;
      params_apart = keeps.params_apart;
      objects = subst (λ (made : List (Name × Measure)). AllByRecursion (λ n. has made n ≡ true) (free ++ [])) (sym same)
          (subst (AllByRecursion (λ n. has known.made n ≡ true)) (sym (append-nil free)) keeps.objects);
      others = subst (λ (made : List (Name × Measure)). AllByRecursion (λ n. has made n ≡ false) known.params) (sym same)
          keeps.others;
    }

not_err : (b : Bool) (kind : StepKind) (other : Result Measure StepKind) (m : Measure) → cond b (Err kind) other ≡ Ok m
    → (b ≡ false) × (other ≡ Ok m)
not_err true kind other m e = absurd cc
not_err false kind other m e = (refl, e)

made_once : (rank : ℕ) (known : Known) (s : Sentence) (m : Measure) → measured rank known s ≡ Ok m → is_twice known s ≡ false
unfolding measured
made_once rank known s m e =
    let fits = not_err (not (fits_rank rank s)) Rank _ m e in (not_err (is_twice known s) Twice _ m fits.1).0

keeps_all : (rank : ℕ) (known last : Known) (rows : List Row) (free : List Name) → outcome rank known rows ≡ Ok last
    → Keeps known.made free known.params
    → (made : List (Name × Measure)) × Keeps made (free ++ flat_map free_in (sentences_of rows)) last.params
unfolding outcome
keeps_all rank known last [] free e keeps =
    let same : known ≡ last = cc in (
      known.made,
      subst (λ (f : List Name). Keeps known.made f last.params) (sym (append-nil free))
          (subst (λ (k : Known). Keeps known.made free k.params) same keeps),
    )
keeps_all rank known last (row ∷ rows) free e keeps =
    let first = first_taken rank known last row rows e in
    let measure = measure_behind known first.0 row (measured rank known row.sentence) first.1.0 in
    let next = keeps_next known row.sentence measure.0 free keeps
    (made_once rank known row.sentence measure.0 measure.1.0) in
    let there : Keeps first.0.made (free ++ free_in row.sentence) first.0.params =
    subst (λ (k : Known). Keeps k.made (free ++ free_in row.sentence) k.params) (sym measure.1.1) next in
    let found_all = keeps_all rank first.0 last rows (free ++ free_in row.sentence) first.1.1 there in (
      found_all.0,
      subst (λ (f : List Name). Keeps found_all.0 f last.params)
          (append_assoc free (free_in row.sentence) (flat_map free_in (sentences_of rows))) found_all.1,
    )

names_apart : (c : Account) → IsGood c → AreApart ((names_of c).free ++ (names_of c).params)
names_apart c good =
    let start : Keeps [] [] [] = record { free_apart = tt; params_apart = tt; objects = tt; others = tt } in
    let all = keeps_all c.rank nothing good.0 c.rows [] good.1 start in
    let params : good.0.params ≡ (names_of c).params = params_at_end c.rank nothing good.0 c.rows good.1 in
    let keeps : Keeps all.0 (names_of c).free (names_of c).params =
    subst (Keeps all.0 (names_of c).free) params all.1 in
    apart_append (names_of c).free (names_of c).params keeps.free_apart keeps.params_apart
    (apart_by (has all.0) (names_of c).free (names_of c).params keeps.objects keeps.others)

-- ---- each is a name of the grammar

abbrev IsName : Name → Type 0
IsName name = is_name name ≡ true

free_named : (sentences : List Sentence) → AllByRecursion IsSentence sentences
    → AllByRecursion IsName (flat_map free_in sentences)
free_named [] all = tt
free_named (Sentence.Free names ∷ sentences) all =
    all_append IsName names (flat_map free_in sentences) (all_true is_name names all.0.1) (free_named sentences all.1)
free_named (Sentence.Define kind name recipe ∷ sentences) all = free_named sentences all.1
free_named (Sentence.Conclude claim ∷ sentences) all = free_named sentences all.1

param_named : (params : List Name) (name : Name) → AllByRecursion IsName params → IsName name
    → AllByRecursion IsName (with_param params name)
param_named params name all fits = go (list_any (λ p. p is name) params)
  where
    go : (b : Bool) → AllByRecursion IsName (cond b params (params ++ name ∷ []))
    go true = all
    go false = all_append IsName params (name ∷ []) all (fits, tt)

params_named : (params : List Name) (sentences : List Sentence) → AllByRecursion IsName params
    → AllByRecursion IsSentence sentences → AllByRecursion IsName (params_of params sentences)
params_named params [] all each = all
params_named params (Sentence.Free names ∷ sentences) all each = params_named params sentences all each.1
params_named params (Sentence.Define kind name (Recipe.Join a b) ∷ sentences) all each =
    params_named params sentences all each.1
params_named params (Sentence.Define kind name (Recipe.Meet a b) ∷ sentences) all each =
    params_named params sentences all each.1
params_named params (Sentence.Define kind name (Recipe.On a b s t) ∷ sentences) all each =
    params_named (with_param (with_param params s) t) sentences
    (param_named (with_param params s) t (param_named params s all each.0.1.2) each.0.1.3) each.1
params_named params (Sentence.Define kind name (Recipe.Pascal five through) ∷ sentences) all each =
    params_named params sentences all each.1
params_named params (Sentence.Conclude claim ∷ sentences) all each = params_named params sentences all each.1

-- a name is a short run
named_run : (name : Name) → IsName name → (is_run name ≡ true) × (length name ≤ 32)
unfolding is_name
named_run [] e = absurd cc
named_run (b ∷ bytes) e =
    let name = b ∷ bytes in
    let word = both_true (begins_with_letter name && nat_le (length name) 32 && list_all is_name_byte name)
    (not (is_keyword name)) e in
    let all = both_true (begins_with_letter name && nat_le (length name) 32) (list_all is_name_byte name) word.0 in
    let short = both_true (begins_with_letter name) (nat_le (length name) 32) all.0 in
    (rw (all.1, (Decides-ltb 0 (length name)).1 (omega arith)) refl, leb-true _ _ short.1)

count_free : (sentences : List Sentence) → length (flat_map free_in sentences) ≡ sum_by free_names sentences
count_free [] = refl
count_free (Sentence.Free names ∷ sentences) =
    omega (
      arith,
      count_free sentences,
      sum_by-cons free_names (Sentence.Free names) sentences,
      length-append names (flat_map free_in sentences),
    )
count_free (Sentence.Define kind name recipe ∷ sentences) =
    omega (arith, count_free sentences, sum_by-cons free_names (Sentence.Define kind name recipe) sentences)
count_free (Sentence.Conclude claim ∷ sentences) =
    omega (arith, count_free sentences, sum_by-cons free_names (Sentence.Conclude claim) sentences)

-- ---- the names of a construction

pub are_names : (c : Account) → IsGood c → IsAccount c.rank (sentences_of c.rows) → AreNames c.rank (names_of c)
are_names c good given =
    let names = names_of c in
    let sentences = sentences_of c.rows in
    let all : AllByRecursion IsName (names.free ++ names.params) =
    all_append IsName names.free names.params (free_named sentences given.each) (params_named [] sentences tt given.each) in
    let runs = all_map IsName (λ name. (is_run name ≡ true) × (length name ≤ 32)) named_run (names.free ++ names.params) all in
    record {
      rank = refl;
      few_free = omega (arith, count_free sentences, given.few_free);
      few_params = given.few_params;
      runs = true_all is_run (names.free ++ names.params)
          (all_map _ (λ name. is_run name ≡ true) (λ name both. both.0) (names.free ++ names.params) runs);
      short = all_map _ (λ name. length name ≤ 32) (λ name both. both.1) (names.free ++ names.params) runs;
      different = distinct (names.free ++ names.params) (names_apart c good);
    }
