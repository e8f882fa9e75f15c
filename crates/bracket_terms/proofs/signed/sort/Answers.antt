use Rattle.std.proofs.Common.{◌≡◌, ℕ, false, List, length, sym, ◌∙◌, refl, rules, true≢false}
use Rattle.coordinate_model.specs.Sequences.{IsRank, repeats}
use Rattle.coordinate_model.specs.Syzygy.{sorted}
use Rattle.bracket_terms.specs.Signed.{sorted_with_sign}
use Rattle.bracket_terms.specs.declared.signed.Signed.{Signed}
use Rattle.bracket_terms.specs.declared.signed.Signed.TheVariants.{Zero, Plus, Minus}
use Rattle.bracket_terms.proofs.SignLaws.{sorted_by_std, repeats_where, repeats_nowhere, zero_where, value_where}
use Rattle.bracket_terms.proofs.SignLaws.{case_zero, case_odd, case_even}
use Rattle.bracket_terms.proofs.signed.sort.Goals as goal

pub returns-then-not-is_increasing : goal.returns-then-not-is_increasing
returns-then-not-is_increasing g c =
    let ps : List ℕ = c.args.points in
    let qs : List ℕ = c.sort_unstable.new.self in
    let is_sorted : qs ≡ sorted ps =
    sorted_by_std ps qs c.sort_unstable.ensures.permutation c.sort_unstable.ensures.sorted in
    let rank : IsRank (length ps) = search rules in
    let is : ◌≡◌ {A = Signed g.row.D} Zero (sorted_with_sign ps) =
    case_zero ps
    (repeats_where ps qs is_sorted
    (λ increasing. true≢false (sym (c.is_increasing.ensures.1 increasing) ∙ c.if-not-is_increasing.true))) in
    record { zero = zero_where ps _ is; sorted = is; value = value_where ps rank _ is }

pub returns-then-is_odd : goal.returns-then-is_odd
returns-then-is_odd g c =
    let ps : List ℕ = c.args.points in
    let qs : List ℕ = c.sort_unstable.new.self in
    let is_sorted : qs ≡ sorted ps =
    sorted_by_std ps qs c.sort_unstable.ensures.permutation c.sort_unstable.ensures.sorted in
    let rank : IsRank (length ps) = search rules in
    let once : repeats ps ≡ false = repeats_nowhere ps qs is_sorted (c.if-not-is_increasing.ensures.0 refl) in
    let is : ◌≡◌ {A = Signed g.row.D} (Minus c.of.result) (sorted_with_sign ps) =
    case_odd ps _ (c.of.ensures ∙ is_sorted) once (sym c.if-is_odd.ensures) in
    record { zero = zero_where ps _ is; sorted = is; value = value_where ps rank _ is }

pub returns-else-is_odd : goal.returns-else-is_odd
returns-else-is_odd g c =
    let ps : List ℕ = c.args.points in
    let qs : List ℕ = c.sort_unstable.new.self in
    let is_sorted : qs ≡ sorted ps =
    sorted_by_std ps qs c.sort_unstable.ensures.permutation c.sort_unstable.ensures.sorted in
    let rank : IsRank (length ps) = search rules in
    let once : repeats ps ≡ false = repeats_nowhere ps qs is_sorted (c.if-not-is_increasing.ensures.0 refl) in
    let is : ◌≡◌ {A = Signed g.row.D} (Plus c.of-else-is_odd.result) (sorted_with_sign ps) =
    case_even ps _ (c.of-else-is_odd.ensures ∙ is_sorted) once (sym c.if-is_odd.ensures) in
    record { zero = zero_where ps _ is; sorted = is; value = value_where ps rank _ is }
