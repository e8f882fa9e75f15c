use Rattle.std.proofs.Common.{◌∷◌, [], List, ap, ◌∙◌, drop}
use Rattle.std.proofs.lemmas.List.{drop_all}
use Rattle.bracket_poly.specs.declared.error.PolyError.{PolyError}
use Rattle.bracket_poly.proofs.Additions.{SoFar, next_item, all_items, error_item, handed_on, with_error, adds_listed}
use Rattle.bracket_terms.specs.LogUses.{use_of}
use Rattle.coordinate_model.specs.Sums.{Terms}
use Rattle.coordinate_model.specs.Key.{Key}
use Rattle.coordinate_model.specs.Syzygy.{Use}
use Rattle.syzygies.specs.declared.pair.PairTerm.{PairTerm}
use Rattle.syzygies.specs.Terms.{term_of, terms_of}
use Rattle.syzygies.specs.Additions.{addition}
use Rattle.syzygies.proofs.AddLemmas.{next_pair, all_additions}
use Rattle.syzygies.proofs.multiple_in.add_multiple_in.Goals as goal

pub returns-in_err-add_pair_in : goal.returns-in_err-add_pair_in
returns-in_err-add_pair_in g c =
    let u : Use = use_of c.args.log_use.now in
    let one : PairTerm g.row.D → Terms Key = λ p. addition u (term_of p) ∷ [] in
    let pairs : List (PairTerm g.row.D) = c.deref-pair-items.result.now in
    let error : PolyError = c.in_err-add_pair_in.field-0.0 in
    with_error _ _ _ _ error (handed_on c.from_residual.result error c.from_residual.ensures.1)
    (adds_listed _ _ _ _ _
    (all_additions g.row.D u pairs _ _ _ c.items.ensures c.items-2.ensures c.items-3.ensures
    (ap terms_of c.deref-pair-items.ensures.value ∙ c.in-Ok.ensures.terms))
    (error_item one _ _ _ pairs _ _ _ error c.loop-pair.invariant
    (next_pair pairs c.loop-pair.pair-index c.pair-item.result c.loop-pair-test.true c.pair-item.is)
    c.in_err-add_pair_in.ensures.adds))

pub loop-pair-preserved : goal.loop-pair-preserved
loop-pair-preserved g c =
    let u : Use = use_of c.args.log_use.now in
    let one : PairTerm g.row.D → Terms Key = λ p. addition u (term_of p) ∷ [] in
    let pairs : List (PairTerm g.row.D) = c.deref-pair-items.result.now in
    let so_far : SoFar one c.args.poly.now.tracked c.loop-pair.poly.tracked pairs (drop c.loop-pair.pair-index pairs) =
    c.loop-pair.invariant in
    next_item one _ _ _ pairs _ _ _ c.in_ok-add_pair_in.field-0 so_far
    (next_pair pairs c.loop-pair.pair-index c.pair-item.result c.loop-pair-test.true c.pair-item.is)
    c.in_ok-add_pair_in.ensures.adds

pub returns : goal.returns
returns g c =
    let u : Use = use_of c.args.log_use.now in
    let one : PairTerm g.row.D → Terms Key = λ p. addition u (term_of p) ∷ [] in
    let pairs : List (PairTerm g.row.D) = c.deref-pair-items.result.now in
    let so_far : SoFar one c.args.poly.now.tracked c.loop-pair.poly.tracked pairs (drop c.loop-pair.pair-index pairs) =
    c.loop-pair.invariant in
    adds_listed _ _ _ _ _
    (all_additions g.row.D u pairs _ _ _ c.items.ensures c.items-2.ensures c.items-3.ensures
    (ap terms_of c.deref-pair-items.ensures.value ∙ c.in-Ok.ensures.terms))
    (all_items one _ _ pairs _ tt so_far (drop_all c.loop-pair.pair-index pairs c.loop-pair-test.false))
