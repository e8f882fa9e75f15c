-- Names and their places: the name at the place of a name is that name, and the place of the name at a place is that place.
use Rattle.std.proofs.Common.{◌≡◌, ℕ, zero, suc, ◌<◌, Bool, true, false, List, [], ◌∷◌, ◌++◌, length, map, get_or, refl, ap, ◌∙◌, arith, inl, inr}
use Rattle.std.specs.Prelude.{slice_index_or}
use Rattle.std.specs.List.{list_all, IsDistinct, AllByRecursion}
use Rattle.std.proofs.lemmas.Bool.{cases_Bool}
use Rattle.std.proofs.Math.Numerals.{one-add}
use Rattle.step_types.specs.declared.names.Names.{Names}
use Rattle.construction_reader.specs.Words.{◌is◌}
use Rattle.construction_reader.proofs.ObjectLaws.{is_same, is_itself}
use Rattle.proof_text.specs.Numbers.{is_run}
use Rattle.proof_text.specs.Forms.{AreRuns}
use Rattle.proof_text.specs.Meant.{is_among, place_of, points_meant}
use Rattle.proof_text.specs.Terms.{point_names}
use Rattle.proof_text.specs.Told.{AreBelow}
use Rattle.proof_text.proofs.NumberLaws.{and_true}

-- ---- lists

pub all_at : {A : Type 0} (P : A → Type 0) (xs : List A) (i : ℕ) (d : A) → AllByRecursion P xs → i < length xs → P (get_or xs i d)
all_at P [] i d all below = absurd (omega arith)
all_at P (x ∷ xs) zero d all below = all.0
all_at P (x ∷ xs) (suc i) d all below = all_at P xs i d all.1 (omega arith)

pub test_at : {A : Type 0} (p : A → Bool) (xs : List A) (i : ℕ) (d : A) → list_all p xs ≡ true → i < length xs → p (get_or xs i d) ≡ true
test_at p [] i d all below = absurd (omega arith)
test_at p (x ∷ xs) zero d all below = (and_true (p x) (list_all p xs) all).0
test_at p (x ∷ xs) (suc i) d all below = test_at p xs i d (and_true (p x) (list_all p xs) all).1 (omega arith)

pub length-map : {A B : Type 0} (f : A → B) (xs : List A) → length (map f xs) ≡ length xs
length-map f [] = refl
length-map f (x ∷ xs) = ap suc (length-map f xs)

-- no two of the names are the same
abbrev pub AreDifferent : List (List ℕ) → Type 0
AreDifferent names = IsDistinct (λ a b. a is b) names

pub different_front : (names others : List (List ℕ)) → AreDifferent (names ++ others) → AreDifferent names
unfolding IsDistinct
different_front [] others differ = tt
different_front (name ∷ names) others differ =
    (front names differ.0, different_front names others differ.1)
  where
    front : (names : List (List ℕ)) → AllByRecursion (λ b. name is b ≡ false) (names ++ others) → AllByRecursion (λ b. name is b ≡ false) names
    front [] all = tt
    front (next ∷ names) all = (all.0, front names all.1)

pub different_back : (names others : List (List ℕ)) → AreDifferent (names ++ others) → AreDifferent others
unfolding IsDistinct
different_back [] others differ = differ
different_back (name ∷ names) others differ = different_back names others differ.1

-- ---- one name

pub name_at : (names : List (List ℕ)) (name : List ℕ) → is_among names name ≡ true
    → slice_index_or names (place_of names name) [] ≡ name
name_at [] name among = absurd cc
name_at (first ∷ names) name among = elim (cases_Bool (first is name)) [
  | inl it ↦ rw it (is_same first name it)
  | inr other ↦ rw (other, one-add (place_of names name)) (name_at names name (rw other at among))
]

pub place_below : (names : List (List ℕ)) (name : List ℕ) → is_among names name ≡ true → place_of names name < length names
place_below [] name among = absurd cc
place_below (first ∷ names) name among = elim (cases_Bool (first is name)) [
  | inl it ↦ rw it (omega arith)
  | inr other ↦ let less = place_below names name (rw other at among) in rw other (omega arith)
]

pub place_again : (names : List (List ℕ)) (i : ℕ) → AreDifferent names → i < length names
    → place_of names (slice_index_or names i []) ≡ i
unfolding IsDistinct
place_again [] i differ below = absurd (omega arith)
place_again (first ∷ names) zero differ below = rw (is_itself first) refl
place_again (first ∷ names) (suc i) differ below =
    let other = all_at (λ b. first is b ≡ false) names i [] differ.0 (omega arith) in
    rw (other, one-add (place_of names (slice_index_or names i []))) (ap suc (place_again names i differ.1 (omega arith)))

pub among_at : (names : List (List ℕ)) (i : ℕ) → i < length names → is_among names (slice_index_or names i []) ≡ true
among_at [] i below = absurd (omega arith)
among_at (first ∷ names) zero below = rw (is_itself first) refl
among_at (first ∷ names) (suc i) below = elim (cases_Bool (first is slice_index_or names i [])) [
  | inl it ↦ rw it refl
  | inr other ↦ rw other (among_at names i (omega arith))
]

-- ---- points

pub names_again : (names : Names) (words : List (List ℕ)) → list_all (is_among names.free) words ≡ true
    → point_names names (points_meant names words) ≡ words
names_again names [] among = refl
names_again names (word ∷ words) among =
    let both = and_true (is_among names.free word) (list_all (is_among names.free) words) among in
    ap (λ w. w ∷ point_names names (points_meant names words)) (name_at names.free word both.0)
    ∙ ap (λ ws. word ∷ ws) (names_again names words both.1)

pub points_below : (names : Names) (words : List (List ℕ)) → list_all (is_among names.free) words ≡ true
    → AreBelow names (points_meant names words)
points_below names [] among = tt
points_below names (word ∷ words) among =
    let both = and_true (is_among names.free word) (list_all (is_among names.free) words) among in
    (place_below names.free word both.0, points_below names words both.1)

pub points_again : (names : Names) (points : List ℕ) → AreDifferent names.free → AreBelow names points
    → points_meant names (point_names names points) ≡ points
points_again names [] differ below = refl
points_again names (point ∷ points) differ below =
    ap (λ p. p ∷ points_meant names (point_names names points)) (place_again names.free point differ below.0)
    ∙ ap (λ ps. point ∷ ps) (points_again names points differ below.1)

pub points_among : (names : Names) (points : List ℕ) → AreBelow names points
    → list_all (is_among names.free) (point_names names points) ≡ true
points_among names [] below = refl
points_among names (point ∷ points) below =
    rw (among_at names.free point below.0) (points_among names points below.1)

pub points_run : (names : Names) (points : List ℕ) → AreRuns names.free → AreBelow names points
    → AreRuns (point_names names points)
points_run names [] runs below = refl
points_run names (point ∷ points) runs below =
    rw (test_at is_run names.free point [] runs below.0) (points_run names points runs below.1)
