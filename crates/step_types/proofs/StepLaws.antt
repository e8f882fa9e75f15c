-- Which names have a step.
use Rattle.std.proofs.Common.{◌≡◌, ℕ, zero, suc, true, false, cond, List, [], ◌∷◌, Option, Some, None, is_some, sym, subst, refl, arith}
use Rattle.std.specs.Prelude.{◌↔◌, Contains, IsSome}
use Rattle.std.specs.Option.{option_map}
use Rattle.std.proofs.lemmas.Slice.Eq.{bytes_eq-Decides}
use Rattle.construction_reader.specs.Words.{◌is◌}
use Rattle.construction_reader.specs.Said.{Account}
use Rattle.step_types.specs.declared.measure.Measure.{Measure}
use Rattle.step_types.specs.Known.{found}
use Rattle.step_types.specs.Checks.{IsGood, objects_of, step_in}
use Rattle.step_types.specs.Good.{names_of, all_made}
use Rattle.step_types.proofs.GoodLaws.{found_name, all_objects}

some_found : (o : Option Measure) → IsSome (option_map (λ m. m.step) o) → is_some o ≡ true
some_found None some = absurd cc
some_found (Some m) some = refl

found_some : (o : Option Measure) → is_some o ≡ true → IsSome (option_map (λ m. m.step) o)
found_some None e = absurd cc
found_some (Some m) e = refl

-- one of the names is found
name_found : (name : List ℕ) (made : List (List ℕ × Measure)) → Contains (names_of made) name
    → is_some (found name made) ≡ true
name_found name [] (k, less, at) = absurd (omega arith)
name_found name (entry ∷ made) (zero, less, at) =
    let here : name is entry.0 ≡ true = (bytes_eq-Decides name entry.0).1 (sym at) in
    rw here refl
name_found name (entry ∷ made) (suc k, less, at) =
    let later : is_some (found name made) ≡ true = name_found name made (k, omega arith, at) in
    elim (name is entry.0) as (λ b. is_some (cond b (Some entry.1) (found name made)) ≡ true) [
      | true ↦ refl
      | false ↦ later
    ]

-- a name has a step exactly where a statement makes an object of it
pub step_exactly : (c : Account) (name : List ℕ) → IsGood c → IsSome (step_in c name) ↔ Contains (all_made c.rows) name
step_exactly c name good =
    let same = all_objects c good in (
      λ some.
          subst (λ names. Contains names name) same
          (found_name name (objects_of c) (some_found (found name (objects_of c)) some)),
      λ made.
          found_some (found name (objects_of c))
          (name_found name (objects_of c) (subst (λ names. Contains names name) (sym same) made)),
    )
