use Rattle.std.proofs.Common.{rules, List, sym, ap, ◌∙◌, is_eq}
use Rattle.std.proofs.Math.ListN.{drop_of_length-le}
use mir.Syntax.{w8}
use mir.Val.{SFits}
use Rattle.std.proofs.lemmas.Int.{to_z-of_z}
use Rattle.coordinate_model.specs.Key.{key_cmp, rows_key}
use Rattle.coordinate_model.specs.Sums.{count_at}
use Rattle.syzygies.specs.declared.pair.PairTerm.{PairTerm}
use Rattle.syzygies.specs.Terms.{terms_of}
use Rattle.syzygies.proofs.AddLemmas.{next_pair}
use Rattle.contraction.proofs.PairCounts.{sorted_rest, count_hit, count_miss}
use Rattle.contraction.proofs.multiplier.count_in.Goals as goal

pub returns-then-is_eq : goal.returns-then-is_eq
returns-then-is_eq g c =
    let fits : SFits w8 c.pair-item.result.sign_count = search rules in
    to_z-of_z w8 _ fits
    ∙ count_hit c.args.rows.now c.pair-item.result _ _
    (next_pair c.args.pairs.now c.loop-pair.pair-index c.pair-item.result c.loop-pair-test.true c.pair-item.is)
    c.loop-pair.invariant.1 (sym (c.is_eq.ensures ∙ ap is_eq c.cmp.ensures) ∙ c.if-is_eq.true)
    ∙ c.loop-pair.invariant.0

pub loop-pair-preserved : goal.loop-pair-preserved
loop-pair-preserved g c =
    let split =
    next_pair c.args.pairs.now c.loop-pair.pair-index c.pair-item.result c.loop-pair-test.true c.pair-item.is in (
      count_miss c.args.rows.now c.pair-item.result _ _ split
          (sym (c.is_eq.ensures ∙ ap is_eq c.cmp.ensures) ∙ c.if-is_eq.false)
          ∙ c.loop-pair.invariant.0,
      sorted_rest c.args.rows.now c.pair-item.result _ _ split c.loop-pair.invariant.1,
    )

pub returns : goal.returns
returns g c =
    sym (ap (λ (w : List (PairTerm g.row.D)). count_at key_cmp (rows_key c.args.rows.now) (terms_of w))
    (drop_of_length-le c.args.pairs.now c.loop-pair-test.false))
    ∙ c.loop-pair.invariant.0
