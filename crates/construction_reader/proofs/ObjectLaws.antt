-- What is read as an object says it, and what says an object is read as it.
use Rattle.std.proofs.Common.{◌≡◌, ℕ, zero, suc, ◌≤◌, Bool, true, false, cond, List, [], ◌∷◌, ◌++◌, Result, Ok, Err, refl, sym, ap, subst, ◌∙◌, append_assoc, arith, codes, inl, inr, ◌⊎◌}
use Rattle.std.proofs.lemmas.Bool.{cases_Bool}
use Rattle.std.proofs.lemmas.Slice.Eq.{bytes_eq-Decides}
use Rattle.construction_reader.specs.declared.fault.Kind.{Kind}
use Rattle.construction_reader.specs.declared.fault.Kind.TheVariants.{Shape}
use Rattle.construction_reader.specs.Outcome.{◌>>=◌}
use Rattle.construction_reader.specs.Words.{◌is◌, is_name}
use Rattle.construction_reader.specs.Said.{Object}
use Rattle.construction_reader.specs.Objects.{token_at, name_at, after_word, named_at, both_at, pair_of, pair_at, object_at}
use Rattle.construction_reader.specs.Grammar.{object_tokens, nesting, HasNames}

-- ---- steps

pub bind_ok : {A B : Type 0} (r : Result A Kind) (f : A → Result B Kind) (y : B) → (r >>= f) ≡ Ok y → (x : A)
    × (r ≡ Ok x) × (f x ≡ Ok y)
bind_ok (Ok x) f y e = (x, refl, e)
bind_ok (Err d) f y e = absurd cc

abbrev pub done : {A : Type 0} → A → Result A Kind
done x = Ok x

pub ok_is : {A : Type 0} (x y : A) → done x ≡ done y → x ≡ y
ok_is x y e = cc

-- a test that did not fail
pub passed : {A : Type 0} (b : Bool) (x y : A) → cond b (done x) (Err Shape) ≡ Ok y → (b ≡ true) × (x ≡ y)
passed true x y e = (refl, cc)
passed false x y e = absurd cc

pub chosen : {A : Type 0} (b : Bool) (x y z : A) → cond b x y ≡ z → ((b ≡ true) × (x ≡ z)) ⊎ ((b ≡ false) × (y ≡ z))
chosen true x y z e = inl (refl, e)
chosen false x y z e = inr (refl, e)

-- ---- words

pub is_same : (token word : List ℕ) → token is word ≡ true → token ≡ word
is_same token word e = (bytes_eq-Decides token word).0 e

pub is_itself : (word : List ℕ) → word is word ≡ true
is_itself word = (bytes_eq-Decides word word).1 refl

-- no name is a word that is no name
pub is_other : (name word : List ℕ) → is_name name ≡ true → is_name word ≡ false → name is word ≡ false
is_other name word e h =
    elim (cases_Bool (name is word)) [
      | inl same ↦ let never : true ≡ false = sym e ∙ ap is_name (is_same name word same) ∙ h in absurd cc
      | inr other ↦ other
    ]

pub opening_is_no_name : is_name (codes "(") ≡ false
unfolding is_name
opening_is_no_name = refl

-- ---- the next token

pub token_takes : (tokens : List (List ℕ)) (x : List ℕ × List (List ℕ)) → token_at tokens ≡ Ok x → tokens ≡ x.0 ∷ x.1
unfolding token_at
token_takes [] x e = absurd cc
token_takes (t ∷ ts) x e = ap (λ (y : List ℕ × List (List ℕ)). y.0 ∷ y.1) (ok_is (t, ts) x e)

pub name_takes : (tokens : List (List ℕ)) (x : List ℕ × List (List ℕ)) → name_at tokens ≡ Ok x → (tokens ≡ x.0 ∷ x.1)
    × (is_name x.0 ≡ true)
unfolding name_at
name_takes tokens x e =
    let a = bind_ok (token_at tokens) (λ first. cond (is_name first.0) (Ok first) (Err Shape)) x e in
    let b = passed (is_name a.0.0) a.0 x a.2 in
    (token_takes tokens x (a.1 ∙ ap done b.1), ap (λ (y : List ℕ × List (List ℕ)). is_name y.0) (sym b.1) ∙ b.0)

pub word_takes : (word : List ℕ) (tokens rest : List (List ℕ)) → after_word word tokens ≡ Ok rest → tokens ≡ word ∷ rest
unfolding after_word
word_takes word tokens rest e =
    let a = bind_ok (token_at tokens) (λ first. cond (first.0 is word) (Ok first.1) (Err Shape)) rest e in
    let b = passed (a.0.0 is word) a.0.1 rest a.2 in
    token_takes tokens a.0 a.1 ∙ ap (λ t. t ∷ a.0.1) (is_same a.0.0 word b.0) ∙ ap (λ ts. word ∷ ts) b.1

pub name_again : (name : List ℕ) (rest : List (List ℕ)) → is_name name ≡ true → name_at (name ∷ rest) ≡ Ok (name, rest)
unfolding name_at token_at
name_again name rest e = rw e refl

pub word_again : (word : List ℕ) (rest : List (List ℕ)) → after_word word (word ∷ rest) ≡ Ok rest
unfolding after_word token_at
word_again word rest = rw (is_itself word) refl

-- ---- objects

pub record Says (room : ℕ) (tokens : List (List ℕ)) (object : Object) (rest : List (List ℕ)) : Type 0 where
  pub parts : tokens ≡ object_tokens object ++ rest
  pub names : HasNames object
  pub room_for : nesting object ≤ room

named_takes : (room : ℕ) (tokens : List (List ℕ)) (x : Object × List (List ℕ)) → named_at tokens ≡ Ok x
    → Says room tokens x.0 x.1
unfolding named_at
named_takes room tokens x e =
    let a = bind_ok (name_at tokens) (λ name. Ok (Object.Named name.0, name.1)) x e in
    let t = name_takes tokens a.0 a.1 in
    let made : Object × List (List ℕ) = (Object.Named a.0.0, a.0.1) in
    subst (λ (y : Object × List (List ℕ)). Says room tokens y.0 y.1) (ok_is made x a.2)
    (record { parts = t.0; names = t.1; room_for = omega arith })

pub record SaysBoth (room : ℕ) (tokens : List (List ℕ)) (a b : Object) (rest : List (List ℕ)) : Type 0 where
  pub parts : tokens ≡ object_tokens a ++ (object_tokens b ++ rest)
  pub names : HasNames a × HasNames b
  pub room_for : (nesting a ≤ room) × (nesting b ≤ room)

-- two objects, where each is read as it says
pub both_take : (room : ℕ) (tokens : List (List ℕ)) (x : Object × Object × List (List ℕ))
    → ((tokens : List (List ℕ)) (y : Object × List (List ℕ)) → object_at room tokens ≡ Ok y → Says room tokens y.0 y.1)
    → both_at (object_at room) tokens ≡ Ok x → SaysBoth room tokens x.0 x.1 x.2
unfolding both_at
both_take room tokens x take e =
    let a = bind_ok (object_at room tokens) (λ a. object_at room a.1 >>= λ b. Ok (a.0, b.0, b.1)) x e in
    second a.0 (take tokens a.0 a.1) a.2
  where
    second : (a : Object × List (List ℕ)) → Says room tokens a.0 a.1
        → (object_at room a.1 >>= λ b. Ok (a.0, b.0, b.1)) ≡ Ok x → SaysBoth room tokens x.0 x.1 x.2
    second a sa e =
        let b = bind_ok (object_at room a.1) (λ b. Ok (a.0, b.0, b.1)) x e in
        let sb = take a.1 b.0 b.1 in
        let made : Object × Object × List (List ℕ) = (a.0, b.0.0, b.0.1) in
        subst (λ (y : Object × Object × List (List ℕ)). SaysBoth room tokens y.0 y.1 y.2) (ok_is made x b.2) (record {
          parts = sa.parts ∙ ap (λ ts. object_tokens a.0 ++ ts) sb.parts;
          names = (sa.names, sb.names);
          room_for = (sa.room_for, sb.room_for);
        })

-- the pair that this word makes
pair_takes : (room : ℕ) (word : List ℕ) (a b o : Object) (tokens mid rest : List (List ℕ))
    → pair_of word a b ≡ Ok o → tokens ≡ word ∷ mid → SaysBoth room mid a b (codes ")" ∷ rest)
    → Says (suc room) (codes "(" ∷ tokens) o rest
pair_takes room word a b o tokens mid rest e split s =
    let inside = s.parts in
    let flat : (object_tokens a ++ (object_tokens b ++ codes ")" ∷ [])) ++ rest ≡ object_tokens a
    ++ (object_tokens b ++ codes ")" ∷ rest) = append_assoc (object_tokens a)
    (object_tokens b ++ codes ")" ∷ []) rest ∙ ap (λ ts. object_tokens a ++ ts)
    (append_assoc (object_tokens b) (codes ")" ∷ []) rest) in
    elim (chosen (word is codes "join") (done (Object.Join a b))
    (cond (word is codes "meet") (Ok (Object.Meet a b)) (Err Shape)) (Ok o) e) [
      | inl join ↦
          let whole : codes "(" ∷ tokens ≡ object_tokens (Object.Join a b) ++ rest =
          ap (λ ts. codes "(" ∷ ts) (split ∙ ap (λ w. w ∷ mid) (is_same word (codes "join") join.0)
          ∙ ap (λ ts. codes "join" ∷ ts) (inside ∙ sym flat)) in
          subst (λ o. Says (suc room) (codes "(" ∷ tokens) o rest) (ok_is (Object.Join a b) o join.1)
          (record {
            parts = whole;
            names = s.names;
            room_for = omega (arith, s.room_for.0, s.room_for.1);
          })
      | inr other ↦
          let meet = passed (word is codes "meet") (Object.Meet a b) o other.1 in
          let whole : codes "(" ∷ tokens ≡ object_tokens (Object.Meet a b) ++ rest =
          ap (λ ts. codes "(" ∷ ts) (split ∙ ap (λ w. w ∷ mid) (is_same word (codes "meet") meet.0)
          ∙ ap (λ ts. codes "meet" ∷ ts) (inside ∙ sym flat)) in
          subst (λ o. Says (suc room) (codes "(" ∷ tokens) o rest) meet.1
          (record {
            parts = whole;
            names = s.names;
            room_for = omega (arith, s.room_for.0, s.room_for.1);
          })
    ]

-- the first token and what is between the parentheses
inside_takes : (room : ℕ) (tokens : List (List ℕ)) (x : Object × List (List ℕ)) (word : List ℕ × List (List ℕ))
    (both : Object × Object × List (List ℕ)) → tokens ≡ word.0 ∷ word.1
    → SaysBoth room word.1 both.0 both.1 both.2
    → (after_word (codes ")") both.2 >>= λ rest. pair_of word.0 both.0 both.1 >>= λ pair. Ok (pair, rest)) ≡ Ok x
    → Says (suc room) (codes "(" ∷ tokens) x.0 x.1
inside_takes room tokens x word both split s e =
    let r = bind_ok (after_word (codes ")") both.2)
    (λ rest. pair_of word.0 both.0 both.1 >>= λ pair. Ok (pair, rest)) x e in
    let p = bind_ok (pair_of word.0 both.0 both.1) (λ pair. Ok (pair, r.0)) x r.2 in
    let made : Object × List (List ℕ) = (p.0, r.0) in
    subst (λ (y : Object × List (List ℕ)). Says (suc room) (codes "(" ∷ tokens) y.0 y.1) (ok_is made x p.2)
    (pair_takes room word.0 both.0 both.1 p.0 tokens word.1 r.0 p.1 split
    (subst (λ ts. SaysBoth room word.1 both.0 both.1 ts) (word_takes (codes ")") both.2 r.0 r.1) s))

pub object_takes : (room : ℕ) (tokens : List (List ℕ)) (x : Object × List (List ℕ)) → object_at room tokens ≡ Ok x
    → Says room tokens x.0 x.1
unfolding object_at pair_at
object_takes zero tokens x e = named_takes zero tokens x e
object_takes (suc room) [] x e = named_takes (suc room) [] x e
object_takes (suc room) (first ∷ tokens) x e =
    elim (chosen (first is codes "(") (pair_at (object_at room) tokens) (named_at (first ∷ tokens)) (Ok x) e) [
      | inl opens ↦
          let w = bind_ok (token_at tokens) (λ word. both_at (object_at room) word.1 >>= λ both. after_word
          (codes ")") both.2 >>= λ rest. pair_of word.0 both.0 both.1 >>= λ pair. Ok (pair, rest)) x opens.1 in
          let b = bind_ok (both_at (object_at room) w.0.1) (λ both. after_word
          (codes ")") both.2 >>= λ rest. pair_of w.0.0 both.0 both.1 >>= λ pair. Ok (pair, rest)) x w.2 in
          subst (λ t. Says (suc room) (t ∷ tokens) x.0 x.1) (sym (is_same first (codes "(") opens.0))
          (inside_takes room tokens x w.0 b.0 (token_takes tokens w.0 w.1)
          (both_take room w.0.1 b.0 (object_takes room) b.1) b.2)
      | inr other ↦ named_takes (suc room) (first ∷ tokens) x other.1
    ]

pub object_again : (room : ℕ) (o : Object) (rest : List (List ℕ)) → HasNames o → nesting o ≤ room
    → object_at room (object_tokens o ++ rest) ≡ Ok (o, rest)
unfolding object_at both_at pair_at named_at token_at
object_again zero (Object.Named name) rest names fits = rw (name_again name rest names) refl
object_again (suc room) (Object.Named name) rest names fits =
    rw (is_other name (codes "(") names opening_is_no_name, name_again name rest names) refl
object_again zero (Object.Join a b) rest names fits = absurd (omega arith)
object_again zero (Object.Meet a b) rest names fits = absurd (omega arith)
object_again (suc room) (Object.Join a b) rest names fits =
    let flat : (object_tokens a ++ (object_tokens b ++ codes ")" ∷ [])) ++ rest ≡ object_tokens a
    ++ (object_tokens b ++ codes ")" ∷ rest) = append_assoc (object_tokens a)
    (object_tokens b ++ codes ")" ∷ []) rest ∙ ap (λ ts. object_tokens a ++ ts)
    (append_assoc (object_tokens b) (codes ")" ∷ []) rest) in
    ap (λ ts. object_at (suc room) (codes "(" ∷ codes "join" ∷ ts)) flat
    ∙ rw (
      object_again room a (object_tokens b ++ codes ")" ∷ rest) names.0 (omega arith),
      object_again room b (codes ")" ∷ rest) names.1 (omega arith),
      word_again (codes ")") rest,
    ) refl
object_again (suc room) (Object.Meet a b) rest names fits =
    let flat : (object_tokens a ++ (object_tokens b ++ codes ")" ∷ [])) ++ rest ≡ object_tokens a
    ++ (object_tokens b ++ codes ")" ∷ rest) = append_assoc (object_tokens a)
    (object_tokens b ++ codes ")" ∷ []) rest ∙ ap (λ ts. object_tokens a ++ ts)
    (append_assoc (object_tokens b) (codes ")" ∷ []) rest) in
    ap (λ ts. object_at (suc room) (codes "(" ∷ codes "meet" ∷ ts)) flat
    ∙ rw (
      object_again room a (object_tokens b ++ codes ")" ∷ rest) names.0 (omega arith),
      object_again room b (codes ")" ∷ rest) names.1 (omega arith),
      word_again (codes ")") rest,
    ) refl
