-- What is read as a sentence says it, and what says a sentence is read as it.
use Rattle.std.proofs.Common.{◌≡◌, ℕ, zero, suc, ◌+◌, ◌-◌, ◌≤◌, ◌<◌, Bool, true, false, ◌||◌, not, eqb, cond, List, [], ◌∷◌, ◌++◌, length, Result, Ok, Err, refl, sym, ap, subst, ◌∙◌, append_assoc, arith, codes, inl, inr, ◌⊎◌, nat_le}
use Rattle.std.specs.List.{AllByRecursion, list_all}
use Rattle.std.proofs.lemmas.Bool.{cases_Bool, lt-leb, eqb-true}
use Rattle.std.proofs.lemmas.List.{append-nil}
use Rattle.std.proofs.lemmas.List.Concat.{flat_map-cons}
use Rattle.construction_reader.specs.declared.fault.Kind.{Kind}
use Rattle.construction_reader.specs.declared.fault.Kind.TheVariants.{Shape, Keyword, Deep}
use Rattle.construction_reader.specs.declared.types.ObjectKind.TheVariants.{Point, Line, Plane}
use Rattle.construction_reader.specs.declared.types.ObjectKind.{ObjectKind}
use Rattle.construction_reader.specs.Outcome.{◌>>=◌}
use Rattle.construction_reader.specs.Words.{◌is◌, is_name}
use Rattle.construction_reader.specs.Said.{Object, Recipe, Claim, Sentence}
use Rattle.construction_reader.specs.Objects.{token_at, name_at, after_word, both_at, object_at}
use Rattle.construction_reader.specs.Lines.{has_keyword, is_deep}
use Rattle.construction_reader.specs.Sentences.{ended, objects_at, two_at, weights_at, on_at, pascal_at, recipe_at, definition_at, free_at, claim_of, claim_at, begun_by, shaped, sentence_at}
use Rattle.construction_reader.specs.Grammar.{object_tokens, objects_tokens, recipe_tokens, kind_word, claim_tokens, IsClaim, sentence_tokens, IsSentence, nesting, HasNames, IsObject, IsRecipe}
use Rattle.construction_reader.proofs.ObjectLaws.{bind_ok, ok_is, passed, chosen, is_same, is_other, opening_is_no_name, token_takes, name_takes, word_takes, Says, SaysBoth, both_take, object_takes, object_again}

-- ---- depth

pub closing_is_no_name : is_name (codes ")") ≡ false
unfolding is_name
closing_is_no_name = refl

-- an object opens and closes its own parentheses
pub deep-object : (o : Object) (depth : ℕ) (rest : List (List ℕ)) → HasNames o → depth + nesting o ≤ 32
    → is_deep depth (object_tokens o ++ rest) ≡ is_deep depth rest
unfolding is_deep
deep-object (Object.Named name) depth rest names fits =
    rw (is_other name (codes "(") names opening_is_no_name, is_other name (codes ")") names closing_is_no_name) refl
deep-object (Object.Join a b) depth rest names fits =
    let room : nat_le 32 depth ≡ false = lt-leb _ _ (omega arith) in
    let flat : (object_tokens a ++ (object_tokens b ++ codes ")" ∷ [])) ++ rest ≡ object_tokens a
    ++ (object_tokens b ++ codes ")" ∷ rest) = append_assoc (object_tokens a)
    (object_tokens b ++ codes ")" ∷ []) rest ∙ ap (λ ts. object_tokens a ++ ts)
    (append_assoc (object_tokens b) (codes ")" ∷ []) rest) in
    let back : depth + 1 - 1 ≡ depth = omega arith in
    ap (λ ts. is_deep depth (codes "(" ∷ codes "join" ∷ ts)) flat
    ∙ rw room (deep-object a (depth + 1) (object_tokens b ++ codes ")" ∷ rest) names.0 (omega arith)
    ∙ deep-object b (depth + 1) (codes ")" ∷ rest) names.1 (omega arith) ∙ ap (λ d. is_deep d rest) back)
deep-object (Object.Meet a b) depth rest names fits =
    let room : nat_le 32 depth ≡ false = lt-leb _ _ (omega arith) in
    let flat : (object_tokens a ++ (object_tokens b ++ codes ")" ∷ [])) ++ rest ≡ object_tokens a
    ++ (object_tokens b ++ codes ")" ∷ rest) = append_assoc (object_tokens a)
    (object_tokens b ++ codes ")" ∷ []) rest ∙ ap (λ ts. object_tokens a ++ ts)
    (append_assoc (object_tokens b) (codes ")" ∷ []) rest) in
    let back : depth + 1 - 1 ≡ depth = omega arith in
    ap (λ ts. is_deep depth (codes "(" ∷ codes "meet" ∷ ts)) flat
    ∙ rw room (deep-object a (depth + 1) (object_tokens b ++ codes ")" ∷ rest) names.0 (omega arith)
    ∙ deep-object b (depth + 1) (codes ")" ∷ rest) names.1 (omega arith) ∙ ap (λ d. is_deep d rest) back)

-- ---- several objects

-- an object has a first token
pub first_token : (o : Object) → (t : List ℕ) × (ts : List (List ℕ)) × (object_tokens o ≡ t ∷ ts)
first_token (Object.Named name) = (name, [], refl)
first_token (Object.Join a b) = (_, _, refl)
first_token (Object.Meet a b) = (_, _, refl)

pub record SaysAll (most : ℕ) (tokens : List (List ℕ)) (objects : List Object) (rest : List (List ℕ)) : Type 0 where
  pub parts : tokens ≡ objects_tokens objects ++ rest
  pub each : AllByRecursion IsObject objects
  pub full : (length objects ≡ most) ⊎ (rest ≡ [])

one_more : (most : ℕ) (tokens mid rest : List (List ℕ)) (o : Object) (os : List Object) → Says 32 tokens o mid
    → SaysAll most mid os rest → SaysAll (suc most) tokens (o ∷ os) rest
one_more most tokens mid rest o os s more =
    record {
      parts = s.parts ∙ ap (λ ts. object_tokens o ++ ts) more.parts
          ∙ sym (append_assoc (object_tokens o) (objects_tokens os) rest)
          ∙ ap (λ ts. ts ++ rest) (sym (flat_map-cons object_tokens o os));
      each = (record { names = s.names; shallow = s.room_for }, more.each);
      full = elim more.full [ inl e ↦ inl (ap suc e) | inr e ↦ inr e ];
    }

pub objects_take : (most : ℕ) (tokens : List (List ℕ)) (x : List Object × List (List ℕ))
    → objects_at most tokens ≡ Ok x → SaysAll most tokens x.0 x.1
unfolding objects_at
objects_take zero tokens x e =
    let made : List Object × List (List ℕ) = ([], tokens) in
    subst (λ (y : List Object × List (List ℕ)). SaysAll 0 tokens y.0 y.1) (ok_is made x e)
    (record { parts = refl; each = tt; full = inl refl })
objects_take (suc most) [] x e =
    let made : List Object × List (List ℕ) = ([], []) in
    subst (λ (y : List Object × List (List ℕ)). SaysAll (suc most) [] y.0 y.1) (ok_is made x e)
    (record { parts = refl; each = tt; full = inr refl })
objects_take (suc most) (t ∷ ts) x e =
    let a = bind_ok (object_at 32 (t ∷ ts)) (λ first. objects_at most first.1 >>= λ others. Ok
    (first.0 ∷ others.0, others.1)) x e in
    let b = bind_ok (objects_at most a.0.1) (λ others. Ok (a.0.0 ∷ others.0, others.1)) x a.2 in
    let made : List Object × List (List ℕ) = (a.0.0 ∷ b.0.0, b.0.1) in
    subst (λ (y : List Object × List (List ℕ)). SaysAll (suc most) (t ∷ ts) y.0 y.1) (ok_is made x b.2)
    (one_more most (t ∷ ts) a.0.1 b.0.1 a.0.0 b.0.0 (object_takes 32 (t ∷ ts) a.0 a.1)
    (objects_take most a.0.1 b.0 b.1))

pub step : (most : ℕ) (tokens : List (List ℕ)) → 0 < length tokens
    → objects_at (suc most) tokens ≡ (object_at 32 tokens >>= λ first. objects_at most first.1 >>= λ others. Ok
    (first.0 ∷ others.0, others.1))
unfolding objects_at
step most [] h = absurd (omega arith)
step most (t ∷ ts) h = refl

-- so many objects, and then anything
pub objects_again : (os : List Object) (rest : List (List ℕ)) → AllByRecursion IsObject os
    → objects_at (length os) (objects_tokens os ++ rest) ≡ Ok (os, rest)
unfolding objects_at
objects_again [] rest each = refl
objects_again (o ∷ os) rest each =
    let flat : objects_tokens (o ∷ os) ++ rest ≡ object_tokens o ++ (objects_tokens os ++ rest) =
    ap (λ ts. ts ++ rest) (flat_map-cons object_tokens o os)
    ∙ append_assoc (object_tokens o) (objects_tokens os) rest in
    let f = first_token o in
    let some : 0 < length (object_tokens o ++ (objects_tokens os ++ rest)) = rw f.2 (omega arith) in
    ap (objects_at (suc (length os))) flat ∙ step (length os) (object_tokens o ++ (objects_tokens os ++ rest)) some
    ∙ rw (
      object_again 32 o (objects_tokens os ++ rest) each.0.names each.0.shallow,
      objects_again os rest each.1,
    ) refl

-- ---- recipes

end_takes : (tokens : List (List ℕ)) (u : Unit {0}) → ended tokens ≡ Ok u → tokens ≡ []
unfolding ended
end_takes [] u e = refl
end_takes (t ∷ ts) u e = absurd cc

pub two_take : (tokens : List (List ℕ)) (x : Object × Object) → two_at tokens ≡ Ok x
    → (tokens ≡ object_tokens x.0 ++ object_tokens x.1) × IsObject x.0 × IsObject x.1
unfolding two_at
two_take tokens x e =
    let both = bind_ok (both_at (object_at 32) tokens) (λ both. ended both.2 >>= λ end. Ok (both.0, both.1)) x e in
    last both.0 (both_take 32 tokens both.0 (object_takes 32) both.1) both.2
  where
    last : (both : Object × Object × List (List ℕ)) → SaysBoth 32 tokens both.0 both.1 both.2
        → (ended both.2 >>= λ end. Ok (both.0, both.1)) ≡ Ok x
        → (tokens ≡ object_tokens x.0 ++ object_tokens x.1) × IsObject x.0 × IsObject x.1
    last both s e =
        let u = bind_ok (ended both.2) (λ end. Ok (both.0, both.1)) x e in
        let end : object_tokens both.1 ++ both.2 ≡ object_tokens both.1 =
        ap (λ ts. object_tokens both.1 ++ ts) (end_takes both.2 u.0 u.1) ∙ append-nil (object_tokens both.1) in
        let made : Object × Object = (both.0, both.1) in
        subst (λ (y : Object × Object). (tokens ≡ object_tokens y.0 ++ object_tokens y.1) × IsObject y.0 × IsObject y.1)
        (ok_is made x u.2) (
          s.parts ∙ ap (λ ts. object_tokens both.0 ++ ts) end,
          record { names = s.names.0; shallow = s.room_for.0 },
          record { names = s.names.1; shallow = s.room_for.1 },
        )

-- two objects, and then anything
pub both_again : (a b : Object) (rest : List (List ℕ)) → IsObject a → IsObject b
    → both_at (object_at 32) (object_tokens a ++ (object_tokens b ++ rest)) ≡ Ok (a, b, rest)
unfolding both_at
both_again a b rest fa fb =
    rw (
      object_again 32 a (object_tokens b ++ rest) fa.names fa.shallow,
      object_again 32 b rest fb.names fb.shallow,
    ) refl

pub two_again : (a b : Object) → IsObject a → IsObject b → two_at (object_tokens a ++ object_tokens b) ≡ Ok (a, b)
unfolding two_at ended
two_again a b fa fb =
    let read : both_at (object_at 32) (object_tokens a ++ object_tokens b) ≡ Ok (a, b, []) =
    ap (λ ts. both_at (object_at 32) (object_tokens a ++ ts)) (sym (append-nil (object_tokens b)))
    ∙ both_again a b [] fa fb in
    rw read refl

weights_take : (tokens : List (List ℕ)) (x : List ℕ × List ℕ) → weights_at tokens ≡ Ok x
    → (tokens ≡ codes "with" ∷ x.0 ∷ x.1 ∷ []) × (is_name x.0 ≡ true) × (is_name x.1 ≡ true)
unfolding weights_at
weights_take tokens x e =
    let w = bind_ok (after_word (codes "with") tokens)
    (λ ns. name_at ns >>= λ s. name_at s.1 >>= λ t. ended t.1 >>= λ end. Ok (s.0, t.0)) x e in
    let s = bind_ok (name_at w.0) (λ s. name_at s.1 >>= λ t. ended t.1 >>= λ end. Ok (s.0, t.0)) x w.2 in
    let t = bind_ok (name_at s.0.1) (λ t. ended t.1 >>= λ end. Ok (s.0.0, t.0)) x s.2 in
    let u = bind_ok (ended t.0.1) (λ end. Ok (s.0.0, t.0.0)) x t.2 in
    let ns = name_takes w.0 s.0 s.1 in
    let nt = name_takes s.0.1 t.0 t.1 in
    let made : List ℕ × List ℕ = (s.0.0, t.0.0) in
    subst (λ (y : List ℕ × List ℕ). (tokens ≡ codes "with" ∷ y.0 ∷ y.1 ∷ [])
    × (is_name y.0 ≡ true) × (is_name y.1 ≡ true)) (ok_is made x u.2) (
      word_takes (codes "with") tokens w.0 w.1
          ∙ ap (λ ts. codes "with" ∷ ts) (ns.0 ∙ ap (λ ts. s.0.0 ∷ ts)
          (nt.0 ∙ ap (λ ts. t.0.0 ∷ ts) (end_takes t.0.1 u.0 u.1))),
      ns.1,
      nt.1,
    )

on_take : (tokens : List (List ℕ)) (x : Recipe) → on_at tokens ≡ Ok x → (codes "on" ∷ tokens ≡ recipe_tokens x)
    × IsRecipe x
unfolding on_at
on_take tokens x e =
    let both = bind_ok (both_at (object_at 32) tokens)
    (λ both. weights_at both.2 >>= λ weights. Ok (Recipe.On both.0 both.1 weights.0 weights.1)) x e in
    let weights = bind_ok (weights_at both.0.2)
    (λ weights. Ok (Recipe.On both.0.0 both.0.1 weights.0 weights.1)) x both.2 in
    made both.0 weights.0 (both_take 32 tokens both.0 (object_takes 32) both.1)
    (weights_take both.0.2 weights.0 weights.1) weights.2
  where
    made : (both : Object × Object × List (List ℕ)) (weights : List ℕ × List ℕ)
        → SaysBoth 32 tokens both.0 both.1 both.2
        → (both.2 ≡ codes "with" ∷ weights.0 ∷ weights.1 ∷ []) × (is_name weights.0 ≡ true) × (is_name weights.1 ≡ true)
        → (let r : Result Recipe Kind = Ok (Recipe.On both.0 both.1 weights.0 weights.1) in r) ≡ Ok x
        → (codes "on" ∷ tokens ≡ recipe_tokens x) × IsRecipe x
    made both weights says names e =
        let on = Recipe.On both.0 both.1 weights.0 weights.1 in
        let whole : codes "on" ∷ tokens ≡ recipe_tokens on =
        ap (λ ts. codes "on" ∷ ts) (says.parts
        ∙ ap (λ ts. object_tokens both.0 ++ (object_tokens both.1 ++ ts)) names.0) in
        subst (λ (y : Recipe). (codes "on" ∷ tokens ≡ recipe_tokens y) × IsRecipe y) (ok_is on x e) (
          whole,
          (
            record { names = says.names.0; shallow = says.room_for.0 },
            record { names = says.names.1; shallow = says.room_for.1 },
            names.1,
            names.2,
          ),
        )

pascal_take : (tokens : List (List ℕ)) (x : Recipe) → pascal_at tokens ≡ Ok x
    → (codes "pascal" ∷ tokens ≡ recipe_tokens x) × IsRecipe x
unfolding pascal_at
pascal_take tokens x e =
    let five = bind_ok (objects_at 5 tokens) (λ five. after_word
    (codes "through") five.1 >>= λ rest. object_at 32 rest >>= λ through. ended through.1 >>= λ end. Ok
    (Recipe.Pascal five.0 through.0)) x e in
    let w = bind_ok (after_word (codes "through") five.0.1)
    (λ rest. object_at 32 rest >>= λ through. ended through.1 >>= λ end. Ok
    (Recipe.Pascal five.0.0 through.0)) x five.2 in
    let q = bind_ok (object_at 32 w.0) (λ through. ended through.1 >>= λ end. Ok
    (Recipe.Pascal five.0.0 through.0)) x w.2 in
    let u = bind_ok (ended q.0.1) (λ end. Ok (Recipe.Pascal five.0.0 q.0.0)) x q.2 in
    let s5 = objects_take 5 tokens five.0 five.1 in
    let sq = object_takes 32 w.0 q.0 q.1 in
    let word = word_takes (codes "through") five.0.1 w.0 w.1 in
    let count : length five.0.0 ≡ 5 = elim s5.full [
      | inl n ↦ n
      | inr none ↦ let never = sym none ∙ word in
          absurd cc
    ] in
    let last : w.0 ≡ object_tokens q.0.0 = sq.parts ∙ ap (λ ts. object_tokens q.0.0 ++ ts) (end_takes q.0.1 u.0 u.1)
    ∙ append-nil (object_tokens q.0.0) in
    let whole : codes "pascal" ∷ tokens ≡ recipe_tokens (Recipe.Pascal five.0.0 q.0.0) =
    ap (λ ts. codes "pascal" ∷ ts) (s5.parts ∙ ap (λ ts. objects_tokens five.0.0 ++ ts)
    (word ∙ ap (λ ts. codes "through" ∷ ts) last)) in
    subst (λ (y : Recipe). (codes "pascal" ∷ tokens ≡ recipe_tokens y) × IsRecipe y)
    (ok_is (Recipe.Pascal five.0.0 q.0.0) x u.2)
    (whole, ((count, s5.each), record { names = sq.names; shallow = sq.room_for }))

recipe_take : (word : List ℕ) (tokens : List (List ℕ)) (x : Recipe) → recipe_at word tokens ≡ Ok x
    → (word ∷ tokens ≡ recipe_tokens x) × IsRecipe x
unfolding recipe_at
recipe_take word tokens x e =
    let at : (w : List ℕ) → word is w ≡ true → word ∷ tokens ≡ w ∷ tokens =
    λ w h. ap (λ v. v ∷ tokens) (is_same word w h) in
    elim (chosen (word is codes "join") _ _ (Ok x) e) [
      | inl join ↦
          let a = bind_ok (two_at tokens) (λ two. Ok (Recipe.Join two.0 two.1)) x join.1 in
          let t = two_take tokens a.0 a.1 in
          subst (λ (y : Recipe). (word ∷ tokens ≡ recipe_tokens y) × IsRecipe y)
          (ok_is (Recipe.Join a.0.0 a.0.1) x a.2) (
            at (codes "join") join.0 ∙ ap (λ ts. codes "join" ∷ ts) t.0,
            (t.1, t.2),
          )
      | inr b ↦ elim (chosen (word is codes "meet") _ _ (Ok x) b.1) [
        | inl meet ↦
            let a = bind_ok (two_at tokens) (λ two. Ok (Recipe.Meet two.0 two.1)) x meet.1 in
            let t = two_take tokens a.0 a.1 in
            subst (λ (y : Recipe). (word ∷ tokens ≡ recipe_tokens y) × IsRecipe y)
            (ok_is (Recipe.Meet a.0.0 a.0.1) x a.2)
            (at (codes "meet") meet.0 ∙ ap (λ ts. codes "meet" ∷ ts) t.0, (t.1, t.2))
        | inr c ↦ elim (chosen (word is codes "on") _ _ (Ok x) c.1) [
          | inl on ↦ let t = on_take tokens x on.1 in (at (codes "on") on.0 ∙ t.0, t.1)
          | inr d ↦ elim (chosen (word is codes "pascal") _ _ (Ok x) d.1) [
            | inl pascal ↦ let t = pascal_take tokens x pascal.1 in (at (codes "pascal") pascal.0 ∙ t.0, t.1)
            | inr never ↦ let no_shape = never.1 in absurd cc
          ]
        ]
      ]
    ]

definition_take : (kind : ObjectKind) (tokens : List (List ℕ)) (x : Sentence) → definition_at kind tokens ≡ Ok x
    → (kind_word kind ∷ tokens ≡ sentence_tokens x) × IsSentence x
unfolding definition_at
definition_take kind tokens x e =
    let n = bind_ok (name_at tokens) (λ name. after_word
    (codes "=") name.1 >>= λ rest. token_at rest >>= λ word. recipe_at word.0 word.1 >>= λ recipe. Ok
    (Sentence.Define kind name.0 recipe)) x e in
    let q = bind_ok (after_word (codes "=") n.0.1)
    (λ rest. token_at rest >>= λ word. recipe_at word.0 word.1 >>= λ recipe. Ok
    (Sentence.Define kind n.0.0 recipe)) x n.2 in
    let w = bind_ok (token_at q.0) (λ word. recipe_at word.0 word.1 >>= λ recipe. Ok
    (Sentence.Define kind n.0.0 recipe)) x q.2 in
    let r = bind_ok (recipe_at w.0.0 w.0.1) (λ recipe. Ok (Sentence.Define kind n.0.0 recipe)) x w.2 in
    let nt = name_takes tokens n.0 n.1 in
    let rt = recipe_take w.0.0 w.0.1 r.0 r.1 in
    let whole : kind_word kind ∷ tokens ≡ sentence_tokens (Sentence.Define kind n.0.0 r.0) =
    ap (λ ts. kind_word kind ∷ ts) (nt.0 ∙ ap (λ ts. n.0.0 ∷ ts)
    (word_takes (codes "=") n.0.1 q.0 q.1 ∙ ap (λ ts. codes "=" ∷ ts) (token_takes q.0 w.0 w.1 ∙ rt.0))) in
    subst (λ (y : Sentence). (kind_word kind ∷ tokens ≡ sentence_tokens y) × IsSentence y)
    (ok_is (Sentence.Define kind n.0.0 r.0) x r.2) (whole, (nt.1, rt.1))

or_true : (a b : Bool) → (a || b) ≡ true → (a ≡ true) ⊎ (b ≡ true)
or_true true b e = inl refl
or_true false b e = inr e

claim_take : (word : List ℕ) (args : List Object) (x : Claim) → AllByRecursion IsObject args
    → claim_of word args ≡ Ok x → (word ∷ objects_tokens args ≡ claim_tokens x) × IsClaim x
unfolding claim_of
claim_take word args x each e =
    elim (chosen (word is codes "collinear") _ _ (Ok x) e) [
      | inl it ↦
          let fits = passed (eqb (length args) 3) (Claim.Collinear args) x it.1 in
          subst (λ (y : Claim). (word ∷ objects_tokens args ≡ claim_tokens y) × IsClaim y) fits.1
          (ap (λ v. v ∷ objects_tokens args) (is_same word (codes "collinear") it.0), (eqb-true _ _ fits.0, each))
      | inr h0 ↦ elim (chosen (word is codes "concurrent") _ _ (Ok x) h0.1) [
        | inl it ↦
            let fits = passed (eqb (length args) 3 || eqb (length args) 4) (Claim.Concurrent args) x it.1 in
            subst (λ (y : Claim). (word ∷ objects_tokens args ≡ claim_tokens y) × IsClaim y) fits.1 (
              ap (λ v. v ∷ objects_tokens args) (is_same word (codes "concurrent") it.0),
              elim (or_true _ _ fits.0) [
                | inl e ↦ let three : length args ≡ 3 = eqb-true _ _ e in
                    (omega (arith, three), omega (arith, three), each)
                | inr e ↦ let four : length args ≡ 4 =
                    eqb-true _ _ e in (omega (arith, four), omega (arith, four), each)
              ],
            )
        | inr h1 ↦ elim (chosen (word is codes "coplanar") _ _ (Ok x) h1.1) [
          | inl it ↦
              let fits = passed (eqb (length args) 4) (Claim.Coplanar args) x it.1 in
              subst (λ (y : Claim). (word ∷ objects_tokens args ≡ claim_tokens y) × IsClaim y) fits.1 (
                ap (λ v. v ∷ objects_tokens args) (is_same word (codes "coplanar") it.0),
                (eqb-true _ _ fits.0, each),
              )
          | inr h2 ↦ elim (chosen (word is codes "meeting") _ _ (Ok x) h2.1) [
            | inl it ↦
                let fits = passed (eqb (length args) 2) (Claim.Meeting args) x it.1 in
                subst (λ (y : Claim). (word ∷ objects_tokens args ≡ claim_tokens y) × IsClaim y) fits.1 (
                  ap (λ v. v ∷ objects_tokens args) (is_same word (codes "meeting") it.0),
                  (eqb-true _ _ fits.0, each),
                )
            | inr h3 ↦ elim (chosen (word is codes "incident") _ _ (Ok x) h3.1) [
              | inl it ↦
                  let fits = passed (eqb (length args) 2) (Claim.Incident args) x it.1 in
                  subst (λ (y : Claim). (word ∷ objects_tokens args ≡ claim_tokens y) × IsClaim y) fits.1 (
                    ap (λ v. v ∷ objects_tokens args) (is_same word (codes "incident") it.0),
                    (eqb-true _ _ fits.0, each),
                  )
              | inr h4 ↦ elim (chosen (word is codes "conic") _ _ (Ok x) h4.1) [
                | inl it ↦
                    let fits = passed (eqb (length args) 6) (Claim.Conic args) x it.1 in
                    subst (λ (y : Claim). (word ∷ objects_tokens args ≡ claim_tokens y) × IsClaim y) fits.1 (
                      ap (λ v. v ∷ objects_tokens args) (is_same word (codes "conic") it.0),
                      (eqb-true _ _ fits.0, each),
                    )
                | inr h5 ↦ let no_shape = h5.1 in absurd cc
              ]
            ]
          ]
        ]
      ]
    ]

conclusion_take : (tokens : List (List ℕ)) (x : Sentence) → claim_at tokens ≡ Ok x
    → (codes "conclude" ∷ tokens ≡ sentence_tokens x) × IsSentence x
unfolding claim_at
conclusion_take tokens x e =
    let w = bind_ok (token_at tokens)
    (λ word. objects_at 6 word.1 >>= λ args. ended args.1 >>= λ end. claim_of word.0 args.0 >>= λ claim. Ok
    (Sentence.Conclude claim)) x e in
    let a = bind_ok (objects_at 6 w.0.1) (λ args. ended args.1 >>= λ end. claim_of w.0.0 args.0 >>= λ claim. Ok
    (Sentence.Conclude claim)) x w.2 in
    let u = bind_ok (ended a.0.1) (λ end. claim_of w.0.0 a.0.0 >>= λ claim. Ok (Sentence.Conclude claim)) x a.2 in
    let c = bind_ok (claim_of w.0.0 a.0.0) (λ claim. Ok (Sentence.Conclude claim)) x u.2 in
    let sa = objects_take 6 w.0.1 a.0 a.1 in
    let ct = claim_take w.0.0 a.0.0 c.0 sa.each c.1 in
    let args : w.0.1 ≡ objects_tokens a.0.0 = sa.parts
    ∙ ap (λ ts. objects_tokens a.0.0 ++ ts) (end_takes a.0.1 u.0 u.1) ∙ append-nil (objects_tokens a.0.0) in
    let whole : codes "conclude" ∷ tokens ≡ codes "conclude" ∷ claim_tokens c.0 =
    ap (λ ts. codes "conclude" ∷ ts) (token_takes tokens w.0 w.1 ∙ ap (λ ts. w.0.0 ∷ ts) args ∙ ct.0) in
    subst (λ (y : Sentence). (codes "conclude" ∷ tokens ≡ sentence_tokens y) × IsSentence y)
    (ok_is (Sentence.Conclude c.0) x c.2) (whole, ct.1)

failed : {A : Type 0} (b : Bool) (k : Kind) (r : Result A Kind) (x : A) → cond b (Err k) r ≡ Ok x → (b ≡ false)
    × (r ≡ Ok x)
failed true k r x e = absurd cc
failed false k r x e = (refl, e)

or_false : (a b : Bool) → (a || b) ≡ false → (a ≡ false) × (b ≡ false)
or_false true b e = absurd cc
or_false false b e = (refl, e)

not_false : (b : Bool) → not b ≡ false → b ≡ true
not_false true e = refl
not_false false e = absurd cc

some_length : (n : ℕ) → eqb n 0 ≡ false → 0 < n
some_length zero e = absurd cc
some_length (suc n) e = omega arith

free_take : (tokens : List (List ℕ)) (x : Sentence) → free_at tokens ≡ Ok x
    → (codes "free" ∷ tokens ≡ sentence_tokens x) × IsSentence x
unfolding free_at
free_take tokens x e =
    let f = failed (eqb (length tokens) 0 || not (list_all is_name tokens)) Shape _ x e in
    let both = or_false (eqb (length tokens) 0) (not (list_all is_name tokens)) f.0 in
    subst (λ (y : Sentence). (codes "free" ∷ tokens ≡ sentence_tokens y) × IsSentence y)
    (ok_is (Sentence.Free tokens) x f.1) (refl, (some_length _ both.0, not_false _ both.1))

-- a line that begins as a sentence does, and not by one of the first four words, begins with conclude
concludes : (first : List ℕ) (rest : List (List ℕ)) → has_keyword (first ∷ rest) ≡ true
    → first is codes "free" ≡ false → first is codes "point" ≡ false → first is codes "line" ≡ false
    → first is codes "plane" ≡ false → first is codes "conclude" ≡ true
unfolding has_keyword
concludes first rest e a b c d =
    elim (cases_Bool (first is codes "conclude")) [
      | inl so ↦ so
      | inr other ↦ let never = rw (a, b, c, d, other) at e in absurd cc
    ]

begun_take : (first : List ℕ) (rest : List (List ℕ)) (x : Sentence) → has_keyword (first ∷ rest) ≡ true
    → begun_by first rest ≡ Ok x → (first ∷ rest ≡ sentence_tokens x) × IsSentence x
unfolding begun_by
begun_take first rest x key e =
    let at : (w : List ℕ) → first is w ≡ true → first ∷ rest ≡ w ∷ rest =
    λ w h. ap (λ v. v ∷ rest) (is_same first w h) in
    elim (chosen (first is codes "free") _ _ (Ok x) e) [
      | inl it ↦ let t = free_take rest x it.1 in (at (codes "free") it.0 ∙ t.0, t.1)
      | inr a ↦ elim (chosen (first is codes "point") _ _ (Ok x) a.1) [
        | inl it ↦ let t = definition_take Point rest x it.1 in (at (codes "point") it.0 ∙ t.0, t.1)
        | inr b ↦ elim (chosen (first is codes "line") _ _ (Ok x) b.1) [
          | inl it ↦ let t = definition_take Line rest x it.1 in (at (codes "line") it.0 ∙ t.0, t.1)
          | inr c ↦ elim (chosen (first is codes "plane") _ _ (Ok x) c.1) [
            | inl it ↦ let t = definition_take Plane rest x it.1 in (at (codes "plane") it.0 ∙ t.0, t.1)
            | inr d ↦ let t = conclusion_take rest x d.1 in
                (at (codes "conclude") (concludes first rest key a.0 b.0 c.0 d.0) ∙ t.0, t.1)
          ]
        ]
      ]
    ]

-- ---- sentences

pub sentence_takes : (tokens : List (List ℕ)) (s : Sentence) → sentence_at tokens ≡ Ok s
    → (tokens ≡ sentence_tokens s) × IsSentence s
unfolding sentence_at shaped
sentence_takes tokens s e =
    let k = failed (not (has_keyword tokens)) Keyword _ s e in
    let d = failed (is_deep 0 tokens) Deep _ s k.1 in
    let f = bind_ok (token_at tokens) (λ first. begun_by first.0 first.1) s d.1 in
    let split = token_takes tokens f.0 f.1 in
    let t = begun_take f.0.0 f.0.1 s (ap has_keyword (sym split) ∙ not_false _ k.0) f.2 in
    (split ∙ t.0, t.1)
