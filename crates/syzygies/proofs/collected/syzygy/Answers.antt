use Rattle.std.proofs.Common.{rules, ◌≡◌, ℕ, ◌+◌, ◌<◌, ◌≤◌, List, length, get_or, sym, ap, subst, ◌∙◌, arith}
use Rattle.std.proofs.lemmas.Option.{get_or_from_slice_get}
use Rattle.std.specs.List.{AllByRecursion}
use Rattle.coordinate_model.specs.Sequences.{range, splits}
use Rattle.coordinate_model.specs.Sums.{sum_value}
use Rattle.coordinate_model.specs.Polynomial.{Polynomials}
use Rattle.coordinate_model.specs.Key.{key_value}
use Rattle.coordinate_model.specs.Syzygy.{syz}
use Rattle.coordinate_model.proofs.BracketPolynomialLaws.{value_of_syzygy}
use Rattle.coordinate_model.proofs.Openings.{value-is}
use Rattle.split_tables.specs.Masks.{places_of}
use Rattle.syzygies.specs.Terms.{pair_of, terms_of}
use Rattle.syzygies.specs.SplitTerms.{IsSign}
use Rattle.syzygies.specs.Collected.{IsSmall}
use Rattle.syzygies.proofs.PartialSums.{IsPartialSum, at_first, without_term, with_term, at_last, few, up_to_small}
use Rattle.syzygies.proofs.collected.syzygy.Goals as goal
use Rattle.syzygies.proofs.collected.syzygy.Goals.{in-Some+in_ok-collect, in_default}

pub loop-i-init : goal.loop-i-init
loop-i-init g c =
    subst (λ w. IsPartialSum c.args.alpha.now c.args.beta.now c.args.gamma.now 0 (terms_of w))
    (sym c.new-terms.ensures.items) (at_first c.args.alpha.now c.args.beta.now c.args.gamma.now)

pub collect-requires : goal.collect-requires
collect-requires g c =
    let bound : length (splits (length c.args.alpha.now + 1) (range (length c.args.beta.now))) ≤ 100 =
    few (length c.args.alpha.now + 1) (length c.args.beta.now) (omega (arith, c.requires.rank, c.requires.beta)) in
    let small : AllByRecursion IsSmall (terms_of c.loop-i.terms.items) =
    up_to_small c.loop-i.i (terms_of c.loop-i.terms.items) (omega (arith, bound)) c.loop-i.invariant.small in
    let one : IsSign c.in-Some.term.sign_count = c.in-Some.ensures.term.one in
    search rules

pub loop-i-preserved : goal.loop-i-preserved
loop-i-preserved g c =
    let α : List ℕ = c.args.alpha.now in
    let β : List ℕ = c.args.beta.now in
    let γ : List ℕ = c.args.gamma.now in
    let i : ℕ = c.loop-i.i in
    let t : List ℕ × List ℕ = (places_of c.split.result.chosen, places_of c.split.result.rest) in
    let here : t ≡ get_or (splits (length α + 1) (range (length β))) i t =
    sym (get_or_from_slice_get (splits (length α + 1) (range (length β))) i t t c.split.ensures.split) in
    let within : i < length (splits (length α + 1) (range (length β))) =
    omega (arith, c.loop-i-test.true, c.split_count-i-end.ensures) in
    elim c.match-split_term.branch [
      | in-Some+in_ok-collect w ↦
          with_term α β γ i (terms_of c.loop-i.terms.items) (terms_of c.match-split_term.terms.items) t
          (pair_of w.in-Some.term) w.in-Some.term.sign_count within here w.in-Some.ensures.term.is w.in-Some.ensures.term.one
          (ap (λ v. terms_of v.items) w.terms-is ∙ w.in_ok-collect.ensures)
          c.loop-i.invariant
      | in_default w ↦
          subst (λ v. IsPartialSum α β γ (i + 1) (terms_of v.items)) (sym w.terms-is)
          (without_term α β γ i (terms_of c.loop-i.terms.items) t within here w.in_default.ensures.zero c.loop-i.invariant)
    ]

pub returns-clause-terms : goal.returns-clause-terms
returns-clause-terms g c =
    at_last c.args.alpha.now c.args.beta.now c.args.gamma.now c.loop-i.i (terms_of c.loop-i.terms.items)
    (omega (arith, c.loop-i-test.false, c.split_count-i-end.ensures)) c.loop-i.invariant

pub returns-clause-value : goal.returns-clause-value
returns-clause-value g c =
    ap (sum_value Polynomials key_value)
    (at_last c.args.alpha.now c.args.beta.now c.args.gamma.now c.loop-i.i (terms_of c.loop-i.terms.items)
    (omega (arith, c.loop-i-test.false, c.split_count-i-end.ensures)) c.loop-i.invariant)
    ∙ sym (value-is (syz c.args.alpha.now c.args.beta.now c.args.gamma.now))
    ∙ value_of_syzygy g.row.D c.args.alpha.now c.args.beta.now c.args.gamma.now c.requires
