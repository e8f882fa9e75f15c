-- Names that stand for nothing yet, added one after the other.
use Rattle.std.proofs.Common.{◌≡◌, ℕ, zero, suc, ◌+◌, ◌<◌, Bool, true, false, ◌||◌, cond, List, [], ◌∷◌, ◌++◌, length, take, drop, get_or, append_assoc, Option, Some, None, is_some, sym, ap, ◌∙◌, subst, refl, arith, add-one}
use Rattle.std.proofs.lemmas.List.{take_more, map_push}
use Rattle.std.specs.List.{list_any}
use Rattle.construction_reader.specs.Words.{◌is◌}
use Rattle.construction_reader.specs.Said.{Sentence}
use Rattle.step_types.specs.declared.measure.Measure.{Measure}
use Rattle.step_types.specs.Known.{Known, found, AreNew, names_made, entries_of}
use Rattle.step_types.specs.Rules.{is_object, is_taken, has_repeat, is_twice}

-- a false choice is of two that are false
pub either_false : (a b : Bool) → (a || b) ≡ false → (a ≡ false) × (b ≡ false)
either_false true b e = absurd cc
either_false false b e = (refl, e)

-- what is not there is none
pub none_from_is_some : {A : Type 0} (o : Option A) → is_some o ≡ false → o ≡ None
none_from_is_some None e = refl
none_from_is_some (Some x) e = absurd cc

-- another name stays unknown behind one more object
found-push : (name : List ℕ) (made : List (List ℕ × Measure)) (entry : List ℕ × Measure) → found name made ≡ None
    → name is entry.0 ≡ false → found name (made ++ entry ∷ []) ≡ None
found-push name [] entry none other = rw other refl
found-push name (first ∷ made) entry none other =
    elim (name is first.0) as (λ b. cond b (Some first.1) (found name made) ≡ None
    → cond b (Some first.1) (found name (made ++ entry ∷ [])) ≡ None) [
      | true ↦ λ (e : Some first.1 ≡ None). absurd cc
      | false ↦ λ (e : found name made ≡ None). found-push name made entry e other
    ] none

-- the names behind the first stay new once it is made
AreNew-push : (made : List (List ℕ × Measure)) (name : List ℕ) (m : Measure) (names : List (List ℕ)) → AreNew made names
    → list_any (λ other. other is name) names ≡ false → AreNew (made ++ (name, m) ∷ []) names
AreNew-push made name m [] new apart = tt
AreNew-push made name m (next ∷ names) new apart =
    let two = either_false (next is name) (list_any (λ other. other is name) names) apart in
    (found-push next made (name, m) new.0 two.0, new.1, AreNew-push made name m names new.2 two.1)

front : (made : List (List ℕ × Measure)) (names : List (List ℕ)) (i : ℕ) (name : List ℕ) → i < length names
    → name ≡ get_or names i name → AreNew made (drop i names) → AreNew made (name ∷ drop (suc i) names)
front made [] i name less at new = absurd (omega arith)
front made (first ∷ names) zero name less at new = subst (λ n. AreNew made (n ∷ names)) (sym at) new
front made (first ∷ names) (suc i) name less at new = front made names i name (omega arith) at new

-- the name at this place is new
pub here : (made : List (List ℕ × Measure)) (names : List (List ℕ)) (i : ℕ) (name : List ℕ) → i < length names
    → name ≡ get_or names i name → AreNew made (drop i names) → found name made ≡ None
here made names i name less at new = (front made names i name less at new).0

-- and once it is made, the names behind it are
pub behind : (made : List (List ℕ × Measure)) (names : List (List ℕ)) (i : ℕ) (name : List ℕ) (m : Measure)
    → i < length names → name ≡ get_or names i name → AreNew made (drop i names)
    → AreNew (made ++ (name, m) ∷ []) (drop (i + 1) names)
behind made names i name m less at new =
    let split = front made names i name less at new in
    rw add-one (AreNew-push made name m (drop (suc i) names) split.2 split.1)

-- names that are not taken, and do not stand again, are new
not_taken : (known : Known) (names : List (List ℕ)) → list_any (is_taken known) names ≡ false → has_repeat names ≡ false
    → AreNew known.made names
not_taken known [] free apart = tt
not_taken known (name ∷ names) free apart =
    let one = either_false (is_taken known name) (list_any (is_taken known) names) free in
    let no_object = either_false (is_object known name) (list_any (λ param. param is name) known.params) one.0 in
    let two = either_false (list_any (λ other. other is name) names) (has_repeat names) apart in
    (none_from_is_some (found name known.made) no_object.0, two.0, not_taken known names one.1 two.1)

-- what a sentence makes is new, where it makes nothing twice
pub once_new : (known : Known) (s : Sentence) → is_twice known s ≡ false → AreNew known.made (names_made s)
once_new known (Sentence.Free names) once =
    let both = either_false (list_any (is_taken known) names) (has_repeat names) once in
    not_taken known names both.0 both.1
once_new known (Sentence.Define kind name recipe) once =
    let both = either_false (is_taken known name) _ once in
    let no_object = either_false (is_object known name) (list_any (λ param. param is name) known.params) both.0 in
    (none_from_is_some (found name known.made) no_object.0, refl, tt)
once_new known (Sentence.Conclude claim) once = tt

-- the objects behind one more of the names
pub one_more : (made old : List (List ℕ × Measure)) (names : List (List ℕ)) (i : ℕ) (name : List ℕ) (m : Measure)
    → i < length names → name ≡ get_or names i name → made ≡ old ++ entries_of m (take i names)
    → made ++ (name, m) ∷ [] ≡ old ++ entries_of m (take (i + 1) names)
one_more made old names i name m less at same =
    let front : take (i + 1) names ≡ take i names ++ name ∷ [] =
    take_more names i name less ∙ ap (λ n. take i names ++ n ∷ []) (sym at) in
    let entries : entries_of m (take (i + 1) names) ≡ entries_of m (take i names) ++ (name, m) ∷ [] =
    ap (entries_of m) front ∙ map_push (λ (n : List ℕ). (n, m)) (take i names) name in
    ap (λ es. es ++ (name, m) ∷ []) same ∙ append_assoc old (entries_of m (take i names)) ((name, m) ∷ [])
    ∙ ap (λ es. old ++ es) (sym entries)
