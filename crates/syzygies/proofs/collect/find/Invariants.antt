use Rattle.std.proofs.Common.{◌≡◌, take, Greater}
use Rattle.std.specs.List.{AllByRecursion}
use Rattle.coordinate_model.specs.Key.{key_cmp}
use Rattle.syzygies.specs.Terms.{pair_of, terms_of}
use Rattle.syzygies.proofs.collect.find.Given as goal

abbrev pub invariant-loop-place : goal.invariant-loop-place
invariant-loop-place g l =
    AllByRecursion (λ t. key_cmp (pair_of l.term) t.0 ≡ Greater) (take l.place (terms_of l.terms))
