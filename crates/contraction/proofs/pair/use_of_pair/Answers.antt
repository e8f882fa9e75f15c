use Rattle.std.proofs.Common.{rules, arith, ◌≡◌, ◌≢◌, T, List, ℕ, ℤ, pos, Option, Some, ◌∙◌, ap₂, sym, subst, false}
use Rattle.std.proofs.lemmas.Int.{to_z-of_z}
use Rattle.std.specs.Prelude.{MatchOption, IfSome, IsSorted}
use mir.Syntax.{w128}
use mir.Val.{SFits, to_z, of_z}
use Rattle.bracket_poly.specs.Tracked.{fits}
use Rattle.coordinate_model.specs.Key.{Key, row_cmp}
use Rattle.contraction.specs.declared.points.Lists.{Lists}
use Rattle.contraction.specs.Pairs.{AreListsOf, balance, count_of}
use Rattle.contraction.specs.Passes.{own_rows, are_alike}
use Rattle.contraction.proofs.RowsApart.{sorted_own}
use Rattle.contraction.proofs.UsePairs.{sizes_of, is_formed}
use Rattle.contraction.proofs.pair.use_of_pair.Goals as goal

pub multiplier_of-requires : goal.multiplier_of-requires
multiplier_of-requires g c =
    let t : Key × ℤ = (c.args.first.0.now, c.args.first.1) in
    let s : Key × ℤ = (c.args.second.0.now, c.args.second.1) in
    let rows_are : c.rows-rows.result.now ≡ c.args.first.0.now.rows = first_of (cc, search rules, grind arith) in
    let others_are : c.rows-others.result.now ≡ c.args.second.0.now.rows = first_of (cc, search rules, grind arith) in
    let own_is : c.deref.result.now ≡ own_rows t.0.rows s.0.rows =
    c.deref.ensures.value ∙ c.in_ok-own.ensures ∙ ap₂ own_rows rows_are others_are in
    let other_is : c.deref-2.result.now ≡ own_rows s.0.rows t.0.rows =
    c.deref-2.ensures.value ∙ c.in_ok-other.ensures ∙ ap₂ own_rows others_are rows_are in
    let beta : List ℕ = c.in-Some.lists.beta.items in
    let gamma : List ℕ = c.in-Some.lists.gamma.items in
    let lists : AreListsOf c.deref.result.now c.deref-2.result.now beta gamma =
    subst (λ (o : Option Lists). MatchOption o (are_alike c.deref.result.now c.deref-2.result.now ≡ false)
    (λ found. AreListsOf c.deref.result.now c.deref-2.result.now found.beta.items found.gamma.items))
    c.in-Some.is c.in_ok-lists.ensures in
    let one : SFits w128 c.args.first.1 = search rules in
    let two : SFits w128 c.args.second.1 = search rules in (
      search rules,
      (
        sizes_of g.row.D t s _ _ own_is other_is _ _ lists c.requires.rank c.requires.first,
        (
          subst (λ (z : ℤ). z ≢ pos 0) (sym (to_z-of_z w128 _ one)) c.requires.first.not_zero,
          (
            subst (λ (z : ℤ). T (fits z)) (sym (to_z-of_z w128 _ one)) c.requires.first.small,
            subst (λ (z : ℤ). T (fits z)) (sym (to_z-of_z w128 _ two)) c.requires.second.small,
          ),
        ),
      ),
    )

pub own_rows-requires-3 : goal.own_rows-requires-3
own_rows-requires-3 g c =
    let rows_are : c.rows-rows.result.now ≡ c.args.first.0.now.rows = first_of (cc, search rules, grind arith) in
    let others_are : c.rows-others.result.now ≡ c.args.second.0.now.rows = first_of (cc, search rules, grind arith) in
    let own_is : c.deref-5.result.now ≡ own_rows c.args.first.0.now.rows c.args.second.0.now.rows =
    c.deref-5.ensures.value ∙ c.in_ok-own.ensures ∙ ap₂ own_rows rows_are others_are in (
      search rules,
      (
        subst (λ (w : List (List ℕ)). IsSorted row_cmp w) (sym rows_are) c.requires.first.key.ascending,
        subst (λ (w : List (List ℕ)). IsSorted row_cmp w) (sym own_is)
            (sorted_own c.args.first.0.now.rows c.args.second.0.now.rows c.requires.first.key.ascending),
      ),
    )

pub invariant_of-result : goal.invariant_of-result
invariant_of-result g c =
    let t : Key × ℤ = (c.args.first.0.now, c.args.first.1) in
    let s : Key × ℤ = (c.args.second.0.now, c.args.second.1) in
    let rows_are : c.rows-rows.result.now ≡ c.args.first.0.now.rows = first_of (cc, search rules, grind arith) in
    let others_are : c.rows-others.result.now ≡ c.args.second.0.now.rows = first_of (cc, search rules, grind arith) in
    let own_is : c.deref.result.now ≡ own_rows t.0.rows s.0.rows =
    c.deref.ensures.value ∙ c.in_ok-own.ensures ∙ ap₂ own_rows rows_are others_are in
    let other_is : c.deref-2.result.now ≡ own_rows s.0.rows t.0.rows =
    c.deref-2.ensures.value ∙ c.in_ok-other.ensures ∙ ap₂ own_rows others_are rows_are in
    let beta : List ℕ = c.in-Some.lists.beta.items in
    let gamma : List ℕ = c.in-Some.lists.gamma.items in
    let lists : AreListsOf c.deref.result.now c.deref-2.result.now beta gamma =
    subst (λ (o : Option Lists). MatchOption o (are_alike c.deref.result.now c.deref-2.result.now ≡ false)
    (λ found. AreListsOf c.deref.result.now c.deref-2.result.now found.beta.items found.gamma.items))
    c.in-Some.is c.in_ok-lists.ensures in
    let one : SFits w128 c.args.first.1 = search rules in
    let two : SFits w128 c.args.second.1 = search rules in
    let many : SFits w128 c.in-Some-2.multiplier = search rules in
    let own_same : c.deref.result.now ≡ c.deref-3.result.now = c.deref.ensures.value ∙ sym c.deref-3.ensures.value in
    let other_same : c.deref-2.result.now ≡ c.deref-4.result.now =
    c.deref-2.ensures.value ∙ sym c.deref-4.ensures.value in
    let first_same : c.args.first.1 ≡ to_z w128 (of_z w128 c.args.first.1) = sym (to_z-of_z w128 _ one) in
    let second_same : c.args.second.1 ≡ to_z w128 (of_z w128 c.args.second.1) = sym (to_z-of_z w128 _ two) in
    let m : ℤ = c.in-Some-2.multiplier in
    let found : balance t.1 (count_of beta gamma c.deref.result.now) s.1 (count_of beta gamma c.deref-2.result.now)
    ≡ Some m =
    (λ j.
    balance (first_same j) (count_of beta gamma (own_same j)) (second_same j) (count_of beta gamma (other_same j)))
    ∙ sym c.in_ok-multiplier.ensures.balance ∙ c.in-Some-2.is in
    let within =
    subst (λ (o : Option ℤ). IfSome o (λ m. (m ≢ pos 0) × T (fits m))) c.in-Some-2.is
    c.in_ok-multiplier.ensures.within in
    record {
      formed =
          is_formed g.row.D t s _ _ own_is other_is beta gamma lists c.in-Some-2.multiplier found _
          (record {
            multiplier_is = to_z-of_z w128 _ many;
            exponents_are = first_of (cc, search rules, grind arith);
            rest_is =
                c.of.ensures ∙ c.in_ok-own_rows.ensures
                ∙ ap₂ own_rows rows_are (c.deref-5.ensures.value ∙ sym c.deref.ensures.value);
            no_alpha = c.of-2.ensures ∙ c.new.ensures.items;
            beta_is = c.of-3.ensures;
            gamma_is = c.of-4.ensures;
          })
          c.requires.rank c.requires.first within.0 within.1;
    }
