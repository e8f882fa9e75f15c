use Rattle.std.proofs.Common.{rules, ◌∷◌, [], ◌++◌, List, ℕ, T, ap, sym, subst, ◌≡◌, ◌∙◌}
use mir.Syntax.{w8, w128}
use mir.Val.{SFits}
use Rattle.std.proofs.lemmas.Int.{to_z-of_z}
use Rattle.std.proofs.lemmas.Result.{IfOk-weaker}
use Rattle.std.specs.Cmp.Lexicographic.{nat_list_cmp_total}
use Rattle.std.specs.List.Sorted.{IsSorted}
use Rattle.bracket_poly.specs.Arena.{key_of}
use Rattle.bracket_poly.specs.Tracked.{fits}
use Rattle.bracket_poly.proofs.Additions.{adds_this}
use Rattle.coordinate_model.specs.Key.{Key, row_cmp}
use Rattle.coordinate_model.specs.Sums.{coefficient, is_zero}
use Rattle.coordinate_model.specs.Words.{ordered}
use Rattle.coordinate_model.proofs.SortedRows.{sorted-ordered}
use Rattle.syzygies.proofs.AddLemmas.{passed_product, not_zero_product, added_key, adds_beside}
use Rattle.syzygies.proofs.multiple_in.add_pair_in.Goals as goal

pub add_term-requires : goal.add_term-requires
add_term-requires g c =
    let multiplier : SFits w128 c.args.log_use.now.multiplier = search rules in
    let count : SFits w8 c.args.pair.now.sign_count = search rules in
    let product : SFits w128 c.in-Some.product = search rules in
    let number = passed_product _ _ _ multiplier count product c.in-Some.ensures.0 in
    let all : List (List ℕ) = c.items.result.now ++ c.args.pair.now.low ∷ c.args.pair.now.high ∷ [] in
    let rows : c.deref.result.now ≡ ordered row_cmp all = c.deref.ensures.value ∙ c.in-Ok.ensures in (
      search rules,
      (
        search rules,
        (
          subst (λ (rs : List (List ℕ)). IsSorted row_cmp rs) (sym rows)
              (sorted-ordered nat_list_cmp_total all),
          (
            not_zero_product _ _ _ number c.args.log_use.now.formed.formed.not_zero c.args.pair.now.not_zero,
            subst T (sym (ap fits (to_z-of_z w128 _ product) ∙ c.in-Some.ensures.1)) tt,
          ),
        ),
      ),
    )

pub returns-clause-adds : goal.returns-clause-adds
returns-clause-adds g c =
    let multiplier : SFits w128 c.args.log_use.now.multiplier = search rules in
    let count : SFits w8 c.args.pair.now.sign_count = search rules in
    let product : SFits w128 c.in-Some.product = search rules in
    let number = passed_product _ _ _ multiplier count product c.in-Some.ensures.0 in
    let key = added_key c.args.log_use.now.params c.args.log_use.now.rest c.args.pair.now.low c.args.pair.now.high
    c.deref.result.now
    (c.deref.ensures.value ∙ c.in-Ok.ensures
    ∙ ap (λ rows. ordered row_cmp (rows ++ c.args.pair.now.low ∷ c.args.pair.now.high ∷ [])) c.items.ensures) in
    adds_this _ _ _ _ _ (λ j. (key j, number j))
    (adds_beside g.row.D _ _ _ c.add_term.result c.add_term.ensures.answer c.add_term.ensures.added
    c.add_term.ensures.unchanged)

pub returns-clause-placed : goal.returns-clause-placed
returns-clause-placed g c =
    let key = added_key c.args.log_use.now.params c.args.log_use.now.rest c.args.pair.now.low c.args.pair.now.high
    c.deref.result.now
    (c.deref.ensures.value ∙ c.in-Ok.ensures
    ∙ ap (λ rows. ordered row_cmp (rows ++ c.args.pair.now.low ∷ c.args.pair.now.high ∷ [])) c.items.ensures) in
    IfOk-weaker c.add_term.result _ _
    (λ x h. ap (λ (rows : List (List ℕ)). key_of c.args.log_use.now.params rows) h ∙ key)
    c.add_term.ensures.placed

pub returns-clause-ascending : goal.returns-clause-ascending
returns-clause-ascending g c =
    let all : List (List ℕ) = c.items.result.now ++ c.args.pair.now.low ∷ c.args.pair.now.high ∷ [] in
    let rows : c.deref.result.now ≡ ordered row_cmp all = c.deref.ensures.value ∙ c.in-Ok.ensures in
    IfOk-weaker c.add_term.result _ _
    (λ x h. subst (λ (rs : List (List ℕ)). IsSorted row_cmp rs) (sym (h ∙ rows))
    (sorted-ordered nat_list_cmp_total all))
    c.add_term.ensures.placed

pub returns-clause-fresh : goal.returns-clause-fresh
returns-clause-fresh g c =
    let key = added_key c.args.log_use.now.params c.args.log_use.now.rest c.args.pair.now.low c.args.pair.now.high
    c.deref.result.now
    (c.deref.ensures.value ∙ c.in-Ok.ensures
    ∙ ap (λ rows. ordered row_cmp (rows ++ c.args.pair.now.low ∷ c.args.pair.now.high ∷ [])) c.items.ensures) in
    IfOk-weaker c.add_term.result _ _
    (λ x h. h ∙ ap (λ (k : Key). is_zero (coefficient c.args.poly.now.tracked.sum k)) key)
    c.add_term.ensures.fresh
