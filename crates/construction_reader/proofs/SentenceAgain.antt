-- What says a sentence is read as it.
use Rattle.std.proofs.Common.{◌≡◌, ℕ, zero, suc, ◌+◌, ◌≤◌, ◌<◌, true, false, eqb, List, [], ◌∷◌, ◌++◌, length, Ok, refl, sym, ap, ◌∙◌, append_assoc, arith, codes, inl, inr, ◌⊎◌, nat_lt}
use Rattle.std.specs.List.{AllByRecursion, list_all}
use Rattle.std.proofs.lemmas.Bool.{cases_Bool, eqb-true, ltb-true, ltb-false}
use Rattle.std.proofs.lemmas.List.{append-nil}
use Rattle.std.proofs.lemmas.List.Concat.{flat_map-cons}
use Rattle.construction_reader.specs.declared.types.ObjectKind.TheVariants.{Point, Line, Plane}
use Rattle.construction_reader.specs.declared.types.ObjectKind.{ObjectKind}
use Rattle.construction_reader.specs.Words.{is_name}
use Rattle.construction_reader.specs.Said.{Object, Recipe, Claim, Sentence}
use Rattle.construction_reader.specs.Objects.{token_at, object_at}
use Rattle.construction_reader.specs.Lines.{may_claim, has_keyword, is_deep}
use Rattle.construction_reader.specs.Sentences.{ended, objects_at, weights_at, on_at, pascal_at, recipe_at, definition_at, free_at, claim_of, claim_at, begun_by, shaped, sentence_at}
use Rattle.construction_reader.specs.Grammar.{object_tokens, objects_tokens, recipe_tokens, kind_word, claim_word, claim_args, claim_tokens, IsClaim, sentence_tokens, IsSentence, nesting, IsObject, AreObjects, IsRecipe}
use Rattle.construction_reader.proofs.ObjectLaws.{is_other, opening_is_no_name, name_again, word_again, object_again}
use Rattle.construction_reader.proofs.SpacedLaws.{and_true}
use Rattle.construction_reader.proofs.SentenceLaws.{both_again, closing_is_no_name, deep-object, first_token, step, objects_again, two_again}

-- ---- no sentence is too deep

deep-name : (name : List ℕ) (rest : List (List ℕ)) → is_name name ≡ true → is_deep 0 (name ∷ rest) ≡ is_deep 0 rest
unfolding is_deep
deep-name name rest e = rw (
  is_other name (codes "(") e opening_is_no_name,
  is_other name (codes ")") e closing_is_no_name,
) refl

deep-names : (names : List (List ℕ)) → list_all is_name names ≡ true → is_deep 0 names ≡ false
unfolding is_deep
deep-names [] all = refl
deep-names (name ∷ names) all =
    let both = and_true (is_name name) (list_all is_name names) all in
    deep-name name names both.0 ∙ deep-names names both.1

deep-front : (o : Object) (rest : List (List ℕ)) → IsObject o → is_deep 0 (object_tokens o ++ rest) ≡ is_deep 0 rest
deep-front o rest fits = let room : 0 + nesting o ≤ 32 = omega (arith, fits.shallow) in
    deep-object o 0 rest fits.names room

deep-last : (o : Object) → IsObject o → is_deep 0 (object_tokens o) ≡ false
unfolding is_deep
deep-last o fits = ap (is_deep 0) (sym (append-nil (object_tokens o))) ∙ deep-front o [] fits

objects_tokens-cons : (o : Object) (os : List Object) (rest : List (List ℕ)) → objects_tokens (o ∷ os)
    ++ rest ≡ object_tokens o ++ (objects_tokens os ++ rest)
objects_tokens-cons o os rest = ap (λ ts. ts ++ rest) (flat_map-cons object_tokens o os)
    ∙ append_assoc (object_tokens o) (objects_tokens os) rest

deep-objects : (os : List Object) (rest : List (List ℕ)) → AllByRecursion IsObject os
    → is_deep 0 (objects_tokens os ++ rest) ≡ is_deep 0 rest
deep-objects [] rest each = refl
deep-objects (o ∷ os) rest each = ap (is_deep 0) (objects_tokens-cons o os rest)
    ∙ deep-front o (objects_tokens os ++ rest) each.0 ∙ deep-objects os rest each.1

deep-all : (os : List Object) → AllByRecursion IsObject os → is_deep 0 (objects_tokens os) ≡ false
unfolding is_deep
deep-all os each = ap (is_deep 0) (sym (append-nil (objects_tokens os))) ∙ deep-objects os [] each

deep-recipe : (r : Recipe) → IsRecipe r → is_deep 0 (recipe_tokens r) ≡ false
unfolding is_deep
deep-recipe (Recipe.Join a b) fits = deep-front a (object_tokens b) fits.0 ∙ deep-last b fits.1
deep-recipe (Recipe.Meet a b) fits = deep-front a (object_tokens b) fits.0 ∙ deep-last b fits.1
deep-recipe (Recipe.On a b s t) fits =
    deep-front a (object_tokens b ++ codes "with" ∷ s ∷ t ∷ []) fits.0
    ∙ deep-front b (codes "with" ∷ s ∷ t ∷ []) fits.1 ∙ deep-name s (t ∷ []) fits.2 ∙ deep-name t [] fits.3
deep-recipe (Recipe.Pascal five through) fits = deep-objects five (codes "through" ∷ object_tokens through) fits.0.1
    ∙ deep-last through fits.1

deep-kind : (kind : ObjectKind) (rest : List (List ℕ)) → is_deep 0 (kind_word kind ∷ rest) ≡ is_deep 0 rest
unfolding is_deep
deep-kind Point rest = refl
deep-kind Line rest = refl
deep-kind Plane rest = refl

deep-claim : (claim : Claim) → IsClaim claim → is_deep 0 (claim_tokens claim) ≡ false
unfolding is_deep
deep-claim (Claim.Collinear args) fits = deep-all args fits.1
deep-claim (Claim.Concurrent args) fits = deep-all args fits.2
deep-claim (Claim.Coplanar args) fits = deep-all args fits.1
deep-claim (Claim.Meeting args) fits = deep-all args fits.1
deep-claim (Claim.Incident args) fits = deep-all args fits.1
deep-claim (Claim.Conic args) fits = deep-all args fits.1

shallow : (s : Sentence) → IsSentence s → is_deep 0 (sentence_tokens s) ≡ false
unfolding is_deep
shallow (Sentence.Free names) fits = deep-names names fits.1
shallow (Sentence.Define kind name recipe) fits = deep-kind kind (name ∷ codes "=" ∷ recipe_tokens recipe)
    ∙ deep-name name (codes "=" ∷ recipe_tokens recipe) fits.0 ∙ deep-recipe recipe fits.1
shallow (Sentence.Conclude claim) fits = deep-claim claim fits

-- ---- a sentence begins with its word

begins : (s : Sentence) → has_keyword (sentence_tokens s) ≡ true
unfolding has_keyword may_claim
begins (Sentence.Free names) = refl
begins (Sentence.Define Point name recipe) = refl
begins (Sentence.Define Line name recipe) = refl
begins (Sentence.Define Plane name recipe) = refl
begins (Sentence.Conclude (Claim.Collinear args)) = refl
begins (Sentence.Conclude (Claim.Concurrent args)) = refl
begins (Sentence.Conclude (Claim.Coplanar args)) = refl
begins (Sentence.Conclude (Claim.Meeting args)) = refl
begins (Sentence.Conclude (Claim.Incident args)) = refl
begins (Sentence.Conclude (Claim.Conic args)) = refl

-- ---- each form is read as it

object_last : (o : Object) → IsObject o → object_at 32 (object_tokens o) ≡ Ok (o, [])
object_last o fits = ap (object_at 32) (sym (append-nil (object_tokens o)))
    ∙ object_again 32 o [] fits.names fits.shallow

on_again : (a b : Object) (s t : List ℕ) → IsObject a → IsObject b → is_name s ≡ true → is_name t ≡ true
    → on_at (object_tokens a ++ (object_tokens b ++ codes "with" ∷ s ∷ t ∷ [])) ≡ Ok (Recipe.On a b s t)
unfolding on_at weights_at ended
on_again a b s t fa fb ns nt =
    rw (
      both_again a b (codes "with" ∷ s ∷ t ∷ []) fa fb,
      word_again (codes "with") (s ∷ t ∷ []),
      name_again s (t ∷ []) ns,
      name_again t [] nt,
    ) refl

pascal_again : (five : List Object) (through : Object) → AreObjects 5 five → IsObject through
    → pascal_at (objects_tokens five ++ codes "through" ∷ object_tokens through) ≡ Ok (Recipe.Pascal five through)
unfolding pascal_at ended
pascal_again five through fits last =
    let rest = codes "through" ∷ object_tokens through in
    let read : objects_at 5 (objects_tokens five ++ rest) ≡ Ok (five, rest) =
    ap (λ n. objects_at n (objects_tokens five ++ rest)) (sym fits.0) ∙ objects_again five rest fits.1 in
    rw (read, word_again (codes "through") (object_tokens through), object_last through last) refl

-- the first word of a recipe, and what follows it
abbrev recipe_word : Recipe → List ℕ
recipe_word (Recipe.Join a b) = codes "join"
recipe_word (Recipe.Meet a b) = codes "meet"
recipe_word (Recipe.On a b s t) = codes "on"
recipe_word (Recipe.Pascal five through) = codes "pascal"

abbrev recipe_rest : Recipe → List (List ℕ)
recipe_rest (Recipe.Join a b) = object_tokens a ++ object_tokens b
recipe_rest (Recipe.Meet a b) = object_tokens a ++ object_tokens b
recipe_rest (Recipe.On a b s t) = object_tokens a ++ (object_tokens b ++ codes "with" ∷ s ∷ t ∷ [])
recipe_rest (Recipe.Pascal five through) = objects_tokens five ++ codes "through" ∷ object_tokens through

recipe_tokens-split : (r : Recipe) → recipe_tokens r ≡ recipe_word r ∷ recipe_rest r
recipe_tokens-split (Recipe.Join a b) = refl
recipe_tokens-split (Recipe.Meet a b) = refl
recipe_tokens-split (Recipe.On a b s t) = refl
recipe_tokens-split (Recipe.Pascal five through) = refl

recipe_again : (r : Recipe) → IsRecipe r → recipe_at (recipe_word r) (recipe_rest r) ≡ Ok r
unfolding recipe_at
recipe_again (Recipe.Join a b) fits = rw (two_again a b fits.0 fits.1) refl
recipe_again (Recipe.Meet a b) fits = rw (two_again a b fits.0 fits.1) refl
recipe_again (Recipe.On a b s t) fits = on_again a b s t fits.0 fits.1 fits.2 fits.3
recipe_again (Recipe.Pascal five through) fits = pascal_again five through fits.0 fits.1

definition_again : (kind : ObjectKind) (name : List ℕ) (r : Recipe) → is_name name ≡ true → IsRecipe r
    → definition_at kind (name ∷ codes "=" ∷ recipe_tokens r) ≡ Ok (Sentence.Define kind name r)
unfolding definition_at token_at
definition_again kind name r named fits =
    ap (λ ts. definition_at kind (name ∷ codes "=" ∷ ts)) (recipe_tokens-split r)
    ∙ rw (
      name_again name (codes "=" ∷ recipe_word r ∷ recipe_rest r) named,
      word_again (codes "=") (recipe_word r ∷ recipe_rest r),
      recipe_again r fits,
    ) refl

-- all objects up to the end of the line
objects_all : (most : ℕ) (os : List Object) → length os ≤ most → AllByRecursion IsObject os
    → objects_at most (objects_tokens os) ≡ Ok (os, [])
unfolding objects_at
objects_all zero [] fits each = refl
objects_all (suc most) [] fits each = refl
objects_all zero (o ∷ os) fits each = absurd (omega arith)
objects_all (suc most) (o ∷ os) fits each =
    let f = first_token o in
    let some : 0 < length (object_tokens o ++ objects_tokens os) = rw f.2 (omega arith) in
    ap (objects_at (suc most)) (flat_map-cons object_tokens o os)
    ∙ step most (object_tokens o ++ objects_tokens os) some
    ∙ rw (
      object_again 32 o (objects_tokens os) each.0.names each.0.shallow,
      objects_all most os (omega arith) each.1,
    ) refl

pub three_or_four : (n : ℕ) → 3 ≤ n → n ≤ 4 → (n ≡ 3) ⊎ (n ≡ 4)
three_or_four n low high =
    elim (cases_Bool (nat_lt 3 n)) [
      | inl more ↦ let above : 3 < n = ltb-true _ _ more in inr (omega arith)
      | inr other ↦ let below : n ≤ 3 = ltb-false _ _ other in inl (omega arith)
    ]

claim_of-again : (claim : Claim) → IsClaim claim → claim_of (claim_word claim) (claim_args claim) ≡ Ok claim
unfolding claim_of
claim_of-again (Claim.Collinear args) fits = rw fits.0 refl
claim_of-again (Claim.Concurrent args) fits = elim (three_or_four
    (length args) fits.0 fits.1) [ inl three ↦ rw three refl | inr four ↦ rw four refl ]
claim_of-again (Claim.Coplanar args) fits = rw fits.0 refl
claim_of-again (Claim.Meeting args) fits = rw fits.0 refl
claim_of-again (Claim.Incident args) fits = rw fits.0 refl
claim_of-again (Claim.Conic args) fits = rw fits.0 refl

-- a claim is about at most six objects
pub few : (claim : Claim) → IsClaim claim → (length (claim_args claim) ≤ 6) × AllByRecursion IsObject (claim_args claim)
few (Claim.Collinear args) fits = (omega (arith, fits.0), fits.1)
few (Claim.Concurrent args) fits = (omega (arith, fits.1), fits.2)
few (Claim.Coplanar args) fits = (omega (arith, fits.0), fits.1)
few (Claim.Meeting args) fits = (omega (arith, fits.0), fits.1)
few (Claim.Incident args) fits = (omega (arith, fits.0), fits.1)
few (Claim.Conic args) fits = (omega (arith, fits.0), fits.1)

claim_again : (claim : Claim) → IsClaim claim → claim_at (claim_tokens claim) ≡ Ok (Sentence.Conclude claim)
unfolding claim_at token_at ended
claim_again claim fits =
    let args = few claim fits in
    rw (objects_all 6 (claim_args claim) args.0 args.1, claim_of-again claim fits) refl

not_none : (n : ℕ) → 0 < n → eqb n 0 ≡ false
not_none n some = elim (cases_Bool (eqb n 0)) [
  | inl none ↦ let never : n ≡ 0 = eqb-true n 0 none in absurd (omega arith)
  | inr other ↦ other
]

free_again : (names : List (List ℕ)) → 0 < length names → list_all is_name names ≡ true
    → free_at names ≡ Ok (Sentence.Free names)
unfolding free_at
free_again names some all = rw (not_none (length names) some, all) refl

-- ---- sentences

pub shaped_again : (s : Sentence) → IsSentence s → shaped (sentence_tokens s) ≡ Ok s
unfolding shaped token_at begun_by
shaped_again (Sentence.Free names) fits = free_again names fits.0 fits.1
shaped_again (Sentence.Define Point name recipe) fits = definition_again Point name recipe fits.0 fits.1
shaped_again (Sentence.Define Line name recipe) fits = definition_again Line name recipe fits.0 fits.1
shaped_again (Sentence.Define Plane name recipe) fits = definition_again Plane name recipe fits.0 fits.1
shaped_again (Sentence.Conclude claim) fits = claim_again claim fits

pub sentence_again : (s : Sentence) → IsSentence s → sentence_at (sentence_tokens s) ≡ Ok s
unfolding sentence_at
sentence_again s fits = rw (begins s, shallow s fits) (shaped_again s fits)
