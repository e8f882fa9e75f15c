use Rattle.std.proofs.Common.{◌≡◌, ℕ, ◌≤◌, Bool, true, false, not, List, [], ◌∷◌, ◌++◌, length, refl, sym, subst, arith}
use Rattle.std.specs.Prelude.{◌&&◌, nat_le}
use Rattle.std.specs.List.{AllByRecursion, IsDistinct, list_all}
use Rattle.std.proofs.lemmas.Bool.{leb-true}
use Rattle.construction_reader.specs.Words.{◌is◌}
use Rattle.proof_text.specs.Outcome.{AreNames}
use Rattle.proof_text.proofs.NumberLaws.{and_true}
use Rattle.worked_proofs.proofs.names.given_names.Goals as goal

-- ---- facts about names that can be computed

are_short : (names : List (List ℕ)) → list_all (λ name. nat_le (length name) 32) names ≡ true
    → AllByRecursion (λ name. length name ≤ 32) names
are_short [] e = tt
are_short (name ∷ names) e =
    let both = and_true (nat_le (length name) 32) (list_all (λ name. nat_le (length name) 32) names) e in
    (leb-true _ _ both.0, are_short names both.1)

not_true : (b : Bool) → not b ≡ true → b ≡ false
not_true true e = absurd cc
not_true false e = refl

others_differ : (name : List ℕ) (names : List (List ℕ)) → list_all (λ other. not (name is other)) names ≡ true
    → AllByRecursion (λ other. (name is other) ≡ false) names
others_differ name [] e = tt
others_differ name (other ∷ names) e =
    let both = and_true (not (name is other)) (list_all (λ other. not (name is other)) names) e in
    (not_true (name is other) both.0, others_differ name names both.1)

abbrev all_differ : List (List ℕ) → Bool
all_differ [] = true
all_differ (name ∷ names) = list_all (λ other. not (name is other)) names && all_differ names

are_distinct : (names : List (List ℕ)) → all_differ names ≡ true → IsDistinct (λ a b. a is b) names
unfolding IsDistinct
are_distinct [] e = tt
are_distinct (name ∷ names) e =
    let both = and_true (list_all (λ other. not (name is other)) names) (all_differ names) e in
    (others_differ name names both.0, are_distinct names both.1)

-- ---- the names

abbrev points : List (List ℕ)
points = (65 ∷ []) ∷ (66 ∷ []) ∷ (67 ∷ []) ∷ (68 ∷ []) ∷ (69 ∷ []) ∷ (70 ∷ []) ∷ (71 ∷ []) ∷ (72 ∷ []) ∷ []

abbrev parameters : List (List ℕ)
parameters = (116 ∷ []) ∷ (117 ∷ []) ∷ []

are_names : (d : ℕ) (free params : List (List ℕ)) → free ≡ points → params ≡ parameters
    → AreNames d (record { rank = d; free = free; params = params })
are_names d free params is_free is_params =
    subst (λ fs. AreNames d (record { rank = d; free = fs; params = params })) (sym is_free)
    (subst (λ ps. AreNames d (record { rank = d; free = points; params = ps })) (sym is_params) (record {
      rank = refl;
      few_free = omega arith;
      few_params = omega arith;
      runs = refl;
      short = are_short (points ++ parameters) refl;
      different = are_distinct (points ++ parameters) refl;
    }))

pub returns : goal.returns
returns g c =
    are_names g.row.D c.in_ok-letters.field-0 c.in_ok-letters-2.field-0 c.in_ok-letters.ensures
    c.in_ok-letters-2.ensures
