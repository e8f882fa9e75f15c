-- Names in lists and in maps.
use Rattle.std.proofs.Common.{◌≡◌, ℕ, Bool, true, false, ◌||◌, cond, List, [], ◌∷◌, ◌++◌, map, Some, None, sym, ap, ◌∙◌, refl, nat_eq}
use Rattle.std.specs.Prelude.{unwrap_or}
use Rattle.std.specs.Global.{Vec}
use Rattle.std.specs.Map.{lookup}
use Rattle.std.specs.Cmp.Lexicographic.{pointwise}
use Rattle.std.proofs.lemmas.List.{map_push}
use Rattle.std.proofs.lemmas.List.Folds.{list_any-append}
use Rattle.std.proofs.lemmas.Slice.Eq.{bytes_eq-Decides}
use Rattle.indexmap.specs.IndexMap.{IndexMap, insert_entry}
use Rattle.indexmap.proofs.CallerLemmas.{insert_entry-new}
use Rattle.construction_reader.specs.Words.{◌is◌}
use Rattle.cayley_terms.specs.Named.{named, has_name, AreDistinct}
use Rattle.cayley_terms.specs.Listed.{entry_of, listed}

-- ---- names that stand once

pub either_false : (a b : Bool) → (a || b) ≡ false → (a ≡ false) × (b ≡ false)
either_false true b e = absurd cc
either_false false b e = (refl, e)

pub is-sym : (a b : List ℕ) → a is b ≡ false → b is a ≡ false
is-sym a b apart =
    (elim (b is a) as (λ r. (r ≡ true → b ≡ a) → r ≡ false) [
      | true ↦ λ same.
          let one : a is b ≡ true = (bytes_eq-Decides a b).1 (sym (same refl)) in
          absurd cc
      | false ↦ λ same. refl
    ]) (bytes_eq-Decides b a).0

-- of more entries the front has no name twice
pub distinct_front : {X : Type 0} (xs ys : List (List ℕ × X)) → AreDistinct (xs ++ ys) → AreDistinct xs
distinct_front [] ys distinct = tt
distinct_front {X = X} (x ∷ xs) ys distinct =
    let apart = list_any-append (λ (entry : List ℕ × X). x.0 is entry.0) xs ys in (
      (either_false (has_name x.0 xs) (has_name x.0 ys) (sym apart ∙ distinct.0)).0,
      distinct_front xs ys distinct.1,
    )

-- where no name stands twice, none that comes later stands before
pub distinct_new : {X : Type 0} (xs ys : List (List ℕ × X)) (name : List ℕ) (x : X)
    → AreDistinct (xs ++ (name, x) ∷ ys) → has_name name xs ≡ false
distinct_new [] ys name x distinct = refl
distinct_new {X = X} (first ∷ xs) ys name x distinct =
    let all = list_any-append (λ (entry : List ℕ × X). first.0 is entry.0) xs ((name, x) ∷ ys) in
    let both = either_false (has_name first.0 xs) (has_name first.0 ((name, x) ∷ ys)) (sym all ∙ distinct.0) in
    let one = either_false (first.0 is name) (has_name first.0 ys) both.1 in
    rw (is-sym first.0 name one.0, distinct_new xs ys name x distinct.1) refl

-- ---- the map

-- looking a name up in the list is looking its bytes up in the map
pub named-listed : (name : List ℕ) (entries : List (Vec ℕ × ℕ))
    → named 0 (map entry_of entries) name ≡ unwrap_or (lookup (λ key. pointwise nat_eq name key.items) entries) 0
named-listed name [] = refl
named-listed name (entry ∷ entries) =
    elim (pointwise nat_eq name entry.0.items) as (λ b. cond b entry.1 (named 0 (map entry_of entries) name)
    ≡ unwrap_or (cond b (Some entry.1) (lookup (λ key. pointwise nat_eq name key.items) entries)) 0) [
      | true ↦ refl
      | false ↦ named-listed name entries
    ]

-- a name that the list has not is not in the map
pub lookup-new : (name : List ℕ) (entries : List (Vec ℕ × ℕ)) → has_name name (map entry_of entries) ≡ false
    → lookup (λ key. pointwise nat_eq name key.items) entries ≡ None
lookup-new name [] new = refl
lookup-new name (entry ∷ entries) new =
    let both = either_false (name is entry.0.items) (has_name name (map entry_of entries)) new in
    rw (both.0) (lookup-new name entries both.1)

-- a new name goes last
pub listed-insert : {S : Type 0} (numbers : IndexMap (Vec ℕ) ℕ S) (key : Vec ℕ) (n : ℕ)
    → has_name key.items (listed numbers) ≡ false
    → map entry_of (insert_entry (λ a b. pointwise nat_eq a.items b.items) numbers.entries key n)
    ≡ listed numbers ++ (key.items, n) ∷ []
listed-insert numbers key n new =
    ap (map entry_of) (insert_entry-new (λ a b. pointwise nat_eq a.items b.items) numbers key n
    (lookup-new key.items numbers.entries new))
    ∙ map_push entry_of numbers.entries (key, n)
