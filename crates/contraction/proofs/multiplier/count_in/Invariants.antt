use Rattle.std.proofs.Common.{◌≡◌, T, drop}
use Rattle.std.specs.FinMap.{is_sorted}
use Rattle.coordinate_model.specs.Key.{key_cmp, rows_key}
use Rattle.coordinate_model.specs.Sums.{count_at}
use Rattle.syzygies.specs.Terms.{terms_of}
use Rattle.contraction.proofs.multiplier.count_in.Given as goal

abbrev pub invariant-loop-pair : goal.invariant-loop-pair
invariant-loop-pair g l =
    (count_at key_cmp (rows_key l.rows) (terms_of (drop l.pair-index l.pairs))
    ≡ count_at key_cmp (rows_key l.rows) (terms_of l.pairs))
    × T (is_sorted key_cmp (terms_of (drop l.pair-index l.pairs)))
