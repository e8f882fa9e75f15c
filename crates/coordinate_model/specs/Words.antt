-- Words: letters in ascending order, in which a letter may come more than once. A word stands for the product of its
-- letters, and two words are equal where they have the same letters equally often (the free commutative monoid).
use Rattle.std.specs.Prelude.{◌≡◌, Bool, true, false, not, if◌then◌else◌, ◌&&◌, T, List, [], ◌∷◌, ◌++◌}
use Rattle.std.specs.Ordering.{is_gt}
use Rattle.std.specs.declared.cmp.Ordering.{Ordering}
use Rattle.std.proofs.Common.{refl, sym, subst}
use Rattle.coordinate_model.specs.Ring.{Ops}

module _ {A : Type 0} (S : A → A → Ordering) where
  -- the letter in its place in an ascending list
  abbrev pub place : A → List A → List A
  place x [] = x ∷ []
  place x (y ∷ ys) = if is_gt (S x y) then y ∷ place x ys else x ∷ y ∷ ys

  -- the letters in ascending order
  abbrev pub ordered : List A → List A
  ordered [] = []
  ordered (x ∷ xs) = place x (ordered xs)

  -- whether x is greater than no letter of the list
  abbrev pub is_least : A → List A → Bool
  is_least x [] = true
  is_least x (y ∷ ys) = not (is_gt (S x y)) && is_least x ys

  -- whether no letter stands before a lesser one
  abbrev pub is_ascending : List A → Bool
  is_ascending [] = true
  is_ascending (x ∷ xs) = is_least x xs && is_ascending xs

-- a word: its letters, in ascending order
pub record Word {A : Type 0} (S : A → A → Ordering) : Type 0 where
  pub letters : List A
  pub ascending : T (is_ascending S letters)

module _ {A : Type 0} (S : A → A → Ordering) where
  -- the empty word
  abbrev pub no_letters : Word S
  no_letters = record { letters = []; ascending = tt }

  -- the word of an ascending list, as what is `ordered` is; any other list would give the empty word
  abbrev pub checked_word : (xs : List A) (b : Bool) → is_ascending S xs ≡ b → Word S
  checked_word xs true e = record { letters = xs; ascending = subst T (sym e) tt }
  checked_word xs false e = no_letters

  -- the word of the letters of a list
  unfoldable pub word_of : List A → Word S
  word_of xs = checked_word (ordered S xs) (is_ascending S (ordered S xs)) refl

  -- the product of two words: the letters of both
  abbrev pub join_words : Word S → Word S → Word S
  join_words v w = word_of (v.letters ++ w.letters)

-- the product in a ring of the values that g gives the letters
abbrev pub product_of : {A : Type 0} (R : Ops) → (A → R.carrier) → List A → R.carrier
product_of R g [] = R.𝟙
product_of R g (x ∷ xs) = R.◌⊗◌ (g x) (product_of R g xs)
