-- What is read of the tokens of a line has one kind of fault, its shape.
use Rattle.std.proofs.Common.{◌≡◌, ℕ, zero, suc, Bool, true, false, not, ◌||◌, eqb, cond, List, [], ◌∷◌, length, Result, Ok, Err, codes}
use Rattle.std.specs.List.{list_all}
use Rattle.construction_reader.specs.declared.fault.Kind.{Kind}
use Rattle.construction_reader.specs.declared.fault.Kind.TheVariants.{Shape}
use Rattle.construction_reader.specs.declared.types.ObjectKind.{ObjectKind}
use Rattle.construction_reader.specs.declared.types.ObjectKind.TheVariants.{Point, Line, Plane}
use Rattle.construction_reader.specs.Outcome.{◌>>=◌}
use Rattle.construction_reader.specs.Words.{◌is◌, is_name}
use Rattle.construction_reader.specs.Said.{Object, Recipe, Claim, Sentence}
use Rattle.construction_reader.specs.Objects.{token_at, name_at, after_word, named_at, both_at, pair_of, pair_at, object_at}
use Rattle.construction_reader.specs.Sentences.{ended, objects_at, two_at, weights_at, on_at, pascal_at, recipe_at, definition_at, free_at, counted, claim_of, claim_at, begun_by, shaped}

-- it fails by its shape alone
pub record ByShape {A : Type 0} (r : Result A Kind) : Type 0 where
  pub only : (k : Kind) → r ≡ Err k → k ≡ Shape

ok_by : {A : Type 0} (x : A) → ByShape {A = A} (Ok x)
ok_by x = record { only = λ k e. absurd cc }

abbrev no_shape : {A : Type 0} → Result A Kind
no_shape = Err Shape

err_by : {A : Type 0} → ByShape {A = A} (Err Shape)
err_by = record { only = λ k e. let same : Shape ≡ k = cc in cc }

bind_by : {A B : Type 0} (r : Result A Kind) (f : A → Result B Kind) → ByShape r → ((x : A) → ByShape (f x))
    → ByShape (r >>= f)
bind_by (Ok x) f first then = then x
bind_by {B = B} (Err d) f first then = record { only = λ k e. first.only k (let same : d ≡ k = cc in cc) }

cond_by : {A : Type 0} (b : Bool) (x y : Result A Kind) → ByShape x → ByShape y → ByShape (cond b x y)
cond_by true x y one other = one
cond_by false x y one other = other

token_by : (tokens : List (List ℕ)) → ByShape (token_at tokens)
unfolding token_at
token_by [] = err_by
token_by (t ∷ ts) = ok_by (t, ts)

name_by : (tokens : List (List ℕ)) → ByShape (name_at tokens)
unfolding name_at
name_by tokens = bind_by (token_at tokens) _ (token_by tokens)
    (λ first. cond_by (is_name first.0) (Ok first) no_shape (ok_by first) err_by)

word_by : (word : List ℕ) (tokens : List (List ℕ)) → ByShape (after_word word tokens)
unfolding after_word
word_by word tokens = bind_by (token_at tokens) _ (token_by tokens)
    (λ first. cond_by (first.0 is word) (Ok first.1) no_shape (ok_by first.1) err_by)

end_by : (tokens : List (List ℕ)) → ByShape (ended tokens)
unfolding ended
end_by [] = ok_by tt
end_by (t ∷ ts) = err_by

named_by : (tokens : List (List ℕ)) → ByShape (named_at tokens)
unfolding named_at
named_by tokens = bind_by (name_at tokens) _ (name_by tokens) (λ name. ok_by (Object.Named name.0, name.1))

pair_of-by : (word : List ℕ) (a b : Object) → ByShape (pair_of word a b)
pair_of-by word a b = cond_by (word is codes "join") _ _ (ok_by (Object.Join a b))
    (cond_by (word is codes "meet") _ _ (ok_by (Object.Meet a b)) err_by)

both_by : (object_of : List (List ℕ) → Result (Object × List (List ℕ)) Kind)
    → ((tokens : List (List ℕ)) → ByShape (object_of tokens)) → (tokens : List (List ℕ))
    → ByShape (both_at object_of tokens)
unfolding both_at
both_by object_of each tokens = bind_by (object_of tokens) _ (each tokens)
    (λ a. bind_by (object_of a.1) _ (each a.1) (λ b. ok_by (a.0, b.0, b.1)))

pair_by : (object_of : List (List ℕ) → Result (Object × List (List ℕ)) Kind)
    → ((tokens : List (List ℕ)) → ByShape (object_of tokens)) → (tokens : List (List ℕ))
    → ByShape (pair_at object_of tokens)
unfolding pair_at
pair_by object_of each tokens =
    bind_by (token_at tokens) _ (token_by tokens)
    (λ word. bind_by (both_at object_of word.1) _ (both_by object_of each word.1)
    (λ both. bind_by (after_word (codes ")") both.2) _ (word_by (codes ")") both.2)
    (λ rest. bind_by (pair_of word.0 both.0 both.1) _ (pair_of-by word.0 both.0 both.1)
    (λ pair. ok_by (pair, rest)))))

object_by : (room : ℕ) (tokens : List (List ℕ)) → ByShape (object_at room tokens)
unfolding object_at
object_by zero tokens = named_by tokens
object_by (suc room) [] = named_by []
object_by (suc room) (first ∷ rest) = cond_by (first is codes "(") (pair_at (object_at room) rest)
    (named_at (first ∷ rest)) (pair_by (object_at room) (object_by room) rest) (named_by (first ∷ rest))

objects_by : (most : ℕ) (tokens : List (List ℕ)) → ByShape (objects_at most tokens)
unfolding objects_at
objects_by zero tokens = ok_by ([], tokens)
objects_by (suc most) [] = ok_by ([], [])
objects_by (suc most) (t ∷ ts) = bind_by (object_at 32 (t ∷ ts)) _ (object_by 32 (t ∷ ts))
    (λ first. bind_by (objects_at most first.1) _ (objects_by most first.1)
    (λ others. ok_by (first.0 ∷ others.0, others.1)))

two_by : (tokens : List (List ℕ)) → ByShape (two_at tokens)
unfolding two_at
two_by tokens = bind_by (both_at (object_at 32) tokens) _ (both_by (object_at 32) (object_by 32) tokens)
    (λ both. bind_by (ended both.2) _ (end_by both.2) (λ end. ok_by (both.0, both.1)))

weights_by : (tokens : List (List ℕ)) → ByShape (weights_at tokens)
unfolding weights_at
weights_by tokens = bind_by (after_word (codes "with") tokens) _ (word_by (codes "with") tokens)
    (λ names. bind_by (name_at names) _ (name_by names)
    (λ s. bind_by (name_at s.1) _ (name_by s.1)
    (λ t. bind_by (ended t.1) _ (end_by t.1) (λ end. ok_by (s.0, t.0)))))

on_by : (tokens : List (List ℕ)) → ByShape (on_at tokens)
unfolding on_at
on_by tokens = bind_by (both_at (object_at 32) tokens) _ (both_by (object_at 32) (object_by 32) tokens)
    (λ both. bind_by (weights_at both.2) _ (weights_by both.2)
    (λ weights. ok_by (Recipe.On both.0 both.1 weights.0 weights.1)))

pascal_by : (tokens : List (List ℕ)) → ByShape (pascal_at tokens)
unfolding pascal_at
pascal_by tokens =
    bind_by (objects_at 5 tokens) _ (objects_by 5 tokens)
    (λ five. bind_by (after_word (codes "through") five.1) _ (word_by (codes "through") five.1)
    (λ rest. bind_by (object_at 32 rest) _ (object_by 32 rest)
    (λ through. bind_by (ended through.1) _ (end_by through.1) (λ end. ok_by (Recipe.Pascal five.0 through.0)))))

recipe_by : (word : List ℕ) (tokens : List (List ℕ)) → ByShape (recipe_at word tokens)
unfolding recipe_at
recipe_by word tokens =
    cond_by (word is codes "join") _ _ (bind_by (two_at tokens) _ (two_by tokens)
    (λ two. ok_by (Recipe.Join two.0 two.1)))
    (cond_by (word is codes "meet") _ _ (bind_by (two_at tokens) _ (two_by tokens)
    (λ two. ok_by (Recipe.Meet two.0 two.1)))
    (cond_by (word is codes "on") _ _ (on_by tokens) (cond_by (word is codes "pascal") _ _ (pascal_by tokens) err_by)))

definition_by : (kind : ObjectKind) (tokens : List (List ℕ)) → ByShape (definition_at kind tokens)
unfolding definition_at
definition_by kind tokens =
    bind_by (name_at tokens) _ (name_by tokens) (λ name. bind_by (after_word (codes "=") name.1) _
    (word_by (codes "=") name.1) (λ rest. bind_by (token_at rest) _ (token_by rest)
    (λ word. bind_by (recipe_at word.0 word.1) _ (recipe_by word.0 word.1)
    (λ recipe. ok_by (Sentence.Define kind name.0 recipe)))))

free_by : (tokens : List (List ℕ)) → ByShape (free_at tokens)
unfolding free_at
free_by tokens = cond_by (eqb (length tokens) 0 || not (list_all is_name tokens)) no_shape _ err_by
    (ok_by (Sentence.Free tokens))

counted_by : (fits : Bool) (claim : Claim) → ByShape (counted fits claim)
counted_by fits claim = cond_by fits (Ok claim) no_shape (ok_by claim) err_by

claim_of-by : (word : List ℕ) (args : List Object) → ByShape (claim_of word args)
unfolding claim_of
claim_of-by word args =
    cond_by (word is codes "collinear") _ _ (counted_by (eqb (length args) 3) (Claim.Collinear args))
    (cond_by (word is codes "concurrent") _ _ (counted_by (eqb (length args) 3 || eqb (length args) 4)
    (Claim.Concurrent args))
    (cond_by (word is codes "coplanar") _ _ (counted_by (eqb (length args) 4) (Claim.Coplanar args))
    (cond_by (word is codes "meeting") _ _ (counted_by (eqb (length args) 2) (Claim.Meeting args))
    (cond_by (word is codes "incident") _ _ (counted_by (eqb (length args) 2) (Claim.Incident args))
    (cond_by (word is codes "conic") _ _ (counted_by (eqb (length args) 6) (Claim.Conic args)) err_by)))))

claim_by : (tokens : List (List ℕ)) → ByShape (claim_at tokens)
unfolding claim_at
claim_by tokens =
    bind_by (token_at tokens) _ (token_by tokens) (λ word. bind_by (objects_at 6 word.1) _ (objects_by 6 word.1)
    (λ args. bind_by (ended args.1) _ (end_by args.1)
    (λ end. bind_by (claim_of word.0 args.0) _ (claim_of-by word.0 args.0)
    (λ claim. ok_by (Sentence.Conclude claim)))))

begun_by-by : (word : List ℕ) (rest : List (List ℕ)) → ByShape (begun_by word rest)
unfolding begun_by
begun_by-by word rest =
    cond_by (word is codes "free") _ _ (free_by rest)
    (cond_by (word is codes "point") _ _ (definition_by Point rest)
    (cond_by (word is codes "line") _ _ (definition_by Line rest)
    (cond_by (word is codes "plane") _ _ (definition_by Plane rest) (claim_by rest))))

pub shaped_by : (tokens : List (List ℕ)) → ByShape (shaped tokens)
unfolding shaped
shaped_by tokens = bind_by (token_at tokens) _ (token_by tokens) (λ first. begun_by-by first.0 first.1)
